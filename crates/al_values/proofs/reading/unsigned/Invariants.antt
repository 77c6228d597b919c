use Rattle.std.proofs.Common.{◌≡◌, true, take}
use Rattle.std.specs.List.{list_all}
use Rattle.al_values.specs.Reading.{digits_value, is_digit}
use Rattle.al_values.proofs.Digits.{capped}
use Rattle.al_values.proofs.reading.unsigned.Given as goal

abbrev pub invariant-loop-byte : goal.invariant-loop-byte
invariant-loop-byte l =
    (list_all is_digit (take l.byte-index l.digits) ≡ true)
    × (l.number ≡ capped (digits_value (take l.byte-index l.digits)))
