use Rattle.std.proofs.Common.{◌≡◌, ◌+◌, drop}
use Rattle.al_history.specs.Weight.{text_bytes}
use Rattle.al_engine.proofs.weights.text_bytes.Given as goal

abbrev pub invariant-loop-value : goal.invariant-loop-value
invariant-loop-value l = l.bytes + text_bytes (drop l.value-index l.row) ≡ text_bytes l.row
