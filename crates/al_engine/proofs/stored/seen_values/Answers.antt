use Rattle.std.proofs.Common.{sym, ◌∙◌}
use Rattle.al_engine.proofs.StoredLemmas.{value_seen, value_unseen}
use Rattle.al_engine.proofs.stored.seen_values.Goals as goal
use Rattle.al_engine.proofs.stored.seen_values.Goals.{then-sees+in_ok-copied+in_ok-push, else-sees}

pub loop-at-preserved : goal.loop-at-preserved
loop-at-preserved c = elim c.if-sees.branch [
  | then-sees+in_ok-copied+in_ok-push w ↦ rw (w.values-is, w.in_ok-push.ensures.ok) (value_seen _ c.args.columns.now c.args.row.now c.loop-at.values _ c.loop-at.at c.index-columns-at.result w.in_ok-copied.field-0 c.loop-at-test.true c.index-columns-at.is (sym w.if-sees.ensures) (w.in_ok-copied.ensures ∙ w.value_at.ensures) c.loop-at.invariant)
  | else-sees w ↦ rw w.values-is (value_unseen _ c.args.columns.now c.args.row.now c.loop-at.values _ c.loop-at.at c.index-columns-at.result c.loop-at-test.true c.index-columns-at.is (sym w.if-sees.ensures) c.loop-at.invariant)
]
