-- What became of a statement in a turn.
use Rattle.std.specs.Prelude.{Bool, true, false}
use Rattle.al_engine.specs.declared.told.Outcome.{Outcome}
use Rattle.al_engine.specs.declared.told.Outcome.TheVariants as outcomes

-- whether a statement was refused
abbrev pub is_refused : Outcome → Bool
is_refused outcomes.WentOn = false
is_refused outcomes.Refused = true
