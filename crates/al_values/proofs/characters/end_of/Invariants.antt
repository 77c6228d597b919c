use Rattle.std.proofs.Common.{◌≡◌, ◌+◌, drop}
use Rattle.al_values.specs.Characters.{bytes_of}
use Rattle.al_values.proofs.characters.end_of.Given as goal

abbrev pub invariant-loop-place : goal.invariant-loop-place
invariant-loop-place l = bytes_of l.most l.bytes ≡ l.place + bytes_of l.left (drop l.place l.bytes)
