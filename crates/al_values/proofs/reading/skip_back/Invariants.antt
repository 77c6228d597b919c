use Rattle.std.proofs.Common.{◌≡◌, length, reverse}
use Rattle.al_values.specs.Reading.{skip_blanks}
use Rattle.al_values.proofs.reading.skip_back.Given as goal

abbrev pub invariant-loop-rest : goal.invariant-loop-rest
invariant-loop-rest l = skip_blanks (reverse l.rest) ≡ skip_blanks (reverse l.text)

abbrev pub decreases-loop-rest : goal.decreases-loop-rest
decreases-loop-rest l = length l.rest
