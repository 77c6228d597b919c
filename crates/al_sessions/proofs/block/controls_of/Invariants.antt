use Rattle.std.proofs.Common.{◌≡◌, map, take}
use Rattle.al_sessions.specs.Blocks.{control_of}
use Rattle.al_sessions.proofs.block.controls_of.Given as goal

abbrev pub invariant-loop-statement : goal.invariant-loop-statement
invariant-loop-statement l = l.controls.items ≡ map control_of (take l.statement-index l.script)
