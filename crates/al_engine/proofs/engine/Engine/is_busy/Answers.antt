use Rattle.std.proofs.Common.{ap, sym, ◌∙◌}
use Rattle.std.specs.Prelude.{is_some}
use Rattle.al_engine.proofs.EngineLemmas.{hand_is}
use Rattle.al_engine.proofs.engine.Engine.is_busy.Goals as goal

pub returns : goal.returns
returns c =
    let there = c.get.ensures in
    rw (← c.self.view_is) (c.is_some.ensures ∙ sym (ap is_some (hand_is _ _ c.self.invariant _ _ there)))
