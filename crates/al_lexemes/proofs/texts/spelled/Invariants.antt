use Rattle.std.proofs.Common.{◌≡◌, take}
use Rattle.al_values.specs.Reading.{digits_value}
use Rattle.al_lexemes.proofs.Numbers.{capped}
use Rattle.al_lexemes.proofs.texts.spelled.Given as goal

abbrev pub invariant-loop-digit : goal.invariant-loop-digit
invariant-loop-digit l = l.number ≡ capped (digits_value (take l.digit-index l.digits))
