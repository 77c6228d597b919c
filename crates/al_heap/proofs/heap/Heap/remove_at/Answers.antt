use Rattle.std.proofs.Common.{◌≡◌, ℕ, ◌<◌, length, arith, refl, sym, subst, List, Some, IfSome, slice_get, slice_set}
use Rattle.std.proofs.lemmas.Option.{slice_get_read}
use Rattle.al_heap.specs.declared.version.Stored.{Stored}
use Rattle.al_heap.specs.Changes.{removed}
use Rattle.al_heap.proofs.Places.{kept-set}
use Rattle.al_heap.proofs.heap.Heap.remove_at.Goals as goal

pub invariant_of-self : goal.invariant_of-self
invariant_of-self c =
    let i = c.self.inside in
    let v : Stored = c.index_mut-version.result.now in
    let below : c.args.place < length i.versions.items = rw (← c.self.view_is) at c.requires in
    rw c.note_removal.ensures (kept-set i.versions.items i.earlier.items i.rows.entries c.args.place v (removed c.args.x c.args.number v) (slice_get_read i.versions.items _ c.args.place v refl below c.index_mut-version.ensures.value) refl c.self.invariant)

pub returns : goal.returns
returns c =
    let i = c.self.inside in
    let v : Stored = c.index_mut-version.result.now in
    let below : c.args.place < length i.versions.items = rw (← c.self.view_is) at c.requires in
    rw (← c.self.view_is) (rw (slice_get_read i.versions.items _ c.args.place v refl below c.index_mut-version.ensures.value, c.note_removal.ensures) refl)
