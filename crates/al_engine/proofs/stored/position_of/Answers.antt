use Rattle.std.proofs.Common.{sym}
use Rattle.al_engine.proofs.StoredLemmas.{named_at, seen_at}
use Rattle.al_engine.proofs.stored.position_of.Goals as goal

pub returns-then-eq-clause-found : goal.returns-then-eq-clause-found
returns-then-eq-clause-found c = named_at _ _ c.loop-at.at c.index-tables-at.result _ c.loop-at-test.true c.index-tables-at.is (sym c.if-sees.ensures) (sym c.if-eq.ensures) c.loop-at.invariant

pub returns-then-eq-clause-seen : goal.returns-then-eq-clause-seen
returns-then-eq-clause-seen c = seen_at _ _ c.loop-at.at c.index-tables-at.result c.loop-at-test.true c.index-tables-at.is (sym c.if-sees.ensures)
