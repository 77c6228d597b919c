use Rattle.std.proofs.Common.{◌≡◌, ◌+◌, take, ◌≤◌}
use Rattle.al_spec.specs.Notes.{semicolons}
use Rattle.al_spec.proofs.notes.work_of_text.Given as goal

abbrev pub invariant-loop-byte : goal.invariant-loop-byte
invariant-loop-byte l = record { work : l.work ≡ 1 + semicolons (take l.byte-index l.text); bound : l.work ≤ 1 + l.byte-index }
