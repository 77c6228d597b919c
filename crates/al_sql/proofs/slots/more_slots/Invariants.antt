use Rattle.std.proofs.Common.{◌≡◌, ◌≤◌, ◌∷◌, [], length}
use Rattle.al_sql.specs.Rows.{slots_from}
use Rattle.al_sql.proofs.slots.more_slots.Given as goal

abbrev pub invariant-slots : goal.invariant-slots
invariant-slots l = record {
  read : slots_from l.fn.depth (l.fn.first ∷ []) l.fn.tokens ≡ slots_from l.fn.depth l.all l.rest;
  shorter : length l.rest ≤ length l.fn.tokens;
}

abbrev pub decreases-slots : goal.decreases-slots
decreases-slots l = length l.rest
