use Rattle.std.proofs.Common.{take}
use Rattle.al_app.specs.Scripts.{IsScriptOf, EachWith}
use Rattle.al_app.proofs.scripts.all_scripts.Given as goal

abbrev pub invariant-loop-block : goal.invariant-loop-block
invariant-loop-block l = EachWith IsScriptOf (take l.block-index l.blocks) l.scripts
