use Rattle.std.proofs.Common.{◌≡◌, ℕ, ◌+◌, length, arith, refl, ap, ◌∙◌, nat_eq, cond, Some}
use Rattle.std.proofs.lemmas.Grind.{common_steps}
use Rattle.std.specs.Map.{lookup}
use Rattle.al_heap.proofs.Places.{kept-pushed}
use Rattle.al_heap.proofs.heap.Heap.add.Goals as goal

pub invariant_of-self-2 : goal.invariant_of-self-2
invariant_of-self-2 c =
    let i = c.self.inside in
    let place : c.in_ok-place.place ≡ length i.versions.items = grind (arith, common_steps) in
    kept-pushed i.versions.items _ i.earlier.items _ i.rows.entries _ c.args.version c.in_ok-before.before c.self.invariant (λ e. c.if-place.false (omega arith))
    (grind (arith, common_steps)) (c.in_ok-before.ensures.old ∙ c.self.invariant.found c.args.version.row) (grind (arith, common_steps))
    (λ row. c.in_ok-before.ensures.updates.0 row ∙ ap (λ (n : ℕ). cond (nat_eq c.args.version.row row) (Some n) (lookup (nat_eq row) i.rows.entries)) place)
