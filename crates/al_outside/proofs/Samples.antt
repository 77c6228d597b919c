-- The definitions at small values: what holds, and what they refuse.
use Rattle.std.proofs.Common.{ℕ, [], ◌∷◌, ◌≡◌, ◌-◌, ◌^◌, Err, refl, lit≤, arith}
use Rattle.al_outside.specs.Faults.{Rose}
use Rattle.al_outside.specs.Holding.{Bytes, Unknown, Silent, Grows, GrowsByFront, WriteGrows}
use Rattle.al_outside.specs.Memory.{counted}

pub one_more_rose : Rose 3 4
one_more_rose = lit≤ tt

pub the_last_value_rose : Rose (2 ^ 64 - 1) (2 ^ 64 - 1)
the_last_value_rose = lit≤ tt

pub the_same_did_not_rise : ¬ Rose 3 3
the_same_did_not_rise h = omega arith

pub told_bytes_grow : Grows (Bytes (1 ∷ [])) (Bytes (1 ∷ 2 ∷ [])) (2 ∷ [])
told_bytes_grow = refl

pub no_byte_is_lost : ¬ Grows (Bytes (1 ∷ [])) (Bytes (2 ∷ [])) (2 ∷ [])
no_byte_is_lost h = cc

pub a_sink_may_fall_silent : Grows (Bytes (1 ∷ [])) Silent (2 ∷ [])
a_sink_may_fall_silent = tt

pub and_stays_silent : ¬ Grows Silent (Bytes (1 ∷ 2 ∷ [])) (2 ∷ [])
and_stays_silent h = h

pub told_bytes_are_not_forgotten : ¬ Grows (Bytes (1 ∷ [])) Unknown (2 ∷ [])
told_bytes_are_not_forgotten h = h

pub a_front_is_enough : GrowsByFront (Bytes []) (Bytes (7 ∷ [])) (7 ∷ 8 ∷ [])
a_front_is_enough = (1, refl)

pub a_failed_write_adds_nothing : ¬ WriteGrows {E = ℕ} (Bytes []) (Bytes (7 ∷ [])) (Err 0) (7 ∷ [])
a_failed_write_adds_nothing h = cc

pub counts_stand_still : counted (2 ^ 64 - 1) ≡ 2 ^ 64 - 1
counts_stand_still = refl
