use Rattle.std.proofs.Common.{refl}
use Rattle.std.proofs.lemmas.Option.{slice_get_read}
use Rattle.al_app.specs.Scripts.{IsScriptOf}
use Rattle.al_app.proofs.SpecLemmas.{each_more, take_with}
use Rattle.al_app.proofs.scripts.all_scripts.Goals as goal

pub loop-block-preserved : goal.loop-block-preserved
loop-block-preserved c = rw (c.in_ok-push.ensures.ok, take_with c.args.blocks.now c.loop-block.block-index c.block-item.result (slice_get_read c.args.blocks.now _ c.loop-block.block-index c.block-item.result refl c.loop-block-test.true c.block-item.is)) (each_more IsScriptOf _ _ c.block-item.result _ c.loop-block.invariant c.in_ok-script_of.ensures)
