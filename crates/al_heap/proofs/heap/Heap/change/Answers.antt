use Rattle.std.proofs.Common.{◌≡◌, ℕ, ◌<◌, length, refl, sym, ◌∙◌, subst, List, Some, IfSome, slice_get, slice_set}
use Rattle.al_heap.specs.declared.version.Stored.{Stored}
use Rattle.al_heap.specs.Versions.{standing, is_standing}
use Rattle.al_heap.specs.Changes.{removed}
use Rattle.al_heap.proofs.Places.{place-within}
use Rattle.al_heap.proofs.Seen.{changed-at, changes-said, own-change}
use Rattle.al_heap.proofs.heap.Heap.change.Goals as goal

pub returns-clause-ok : goal.returns-clause-ok
returns-clause-ok c =
    let found : standing c.args.xacts.now.transactions c.args.self.now c.args.row ≡ Some c.in-Some.place = sym c.standing.ensures ∙ c.in-Some.is in
    changes-said c.args.xacts.now.transactions c.args.self.now c.remove_at.new.self c.args.row c.args.number c.args.x c.in-Some.place c.args.values found
    (changed-at c.args.self.now c.remove_at.new.self c.args.row c.args.number c.args.x c.in-Some.place c.args.values (place-within (is_standing c.args.xacts.now.transactions c.args.row) c.args.self.now c.in-Some.place found)
    (subst (λ (vs : List Stored). IfSome (slice_get vs c.in-Some.place) (λ version. c.remove_at.new.self ≡ slice_set vs c.in-Some.place (removed c.args.x c.args.number version))) c.in_ok-follow.ensures.ok c.remove_at.ensures))
