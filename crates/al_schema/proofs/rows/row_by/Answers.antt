use Rattle.al_schema.proofs.Lists.{row-more}
use Rattle.al_schema.proofs.rows.row_by.Goals as goal

pub loop-at-preserved : goal.loop-at-preserved
loop-at-preserved c =
    row-more c.args.slots.now c.args.stored.now c.loop-at.at c.index-slots-at.result c.loop-at.row c.push_value.new.row _ c.loop-at-test.true c.index-slots-at.is c.loop-at.invariant c.in_ok-push_value.ensures
