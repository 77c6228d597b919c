use Rattle.std.proofs.lemmas.Result.{err_from_is_err_and}
use Rattle.std.proofs.Common.{◌∙◌, sym}
use Rattle.al_engine.proofs.EngineLemmas.{hand_is, is_idle, none_of, same_keeps, give_keeps}
use Rattle.al_engine.proofs.engine.Engine.give.Goals as goal

pub returns-then-is_some-clause-busy : goal.returns-then-is_some-clause-busy
returns-then-is_some-clause-busy c =
    let there = c.get-state.ensures in
    rw (← c.self.view_is, hand_is _ _ c.self.invariant _ _ there) (sym (c.if-is_some.ensures))

pub take_up-requires-clause-idle : goal.take_up-requires-clause-idle
take_up-requires-clause-idle c = rw c.get-state.ensures (none_of _ (sym c.is_some.ensures ∙ c.if-is_some.false))

pub returns-in_err-take_up-clause-busy : goal.returns-in_err-take_up-clause-busy
returns-in_err-take_up-clause-busy c =
    let lack = err_from_is_err_and c.from_residual.result c.from_residual.ensures.1 in
    rw (lack.1, lack.2, ← c.self.view_is) (is_idle _ _ c.self.invariant _ _ c.get-state.ensures (sym c.is_some.ensures ∙ c.if-is_some.false))

pub invariant_of-self : goal.invariant_of-self
invariant_of-self c = same_keeps _ _ _ c.in_err-take_up.ensures.err c.self.invariant

pub invariant_of-self-2 : goal.invariant_of-self-2
invariant_of-self-2 c = give_keeps _ _ _ _ _ _ c.self.invariant c.get-state.ensures (none_of _ (sym c.is_some.ensures ∙ c.if-is_some.false)) c.in_ok-take_up.ensures.ok (rw (← c.self.view_is) at c.requires.known) (rw (← c.self.view_is) at c.requires.of_session) (rw (← c.self.view_is) at c.requires.not_closed)

pub returns-clause-idle : goal.returns-clause-idle
returns-clause-idle c = rw (← c.self.view_is) (is_idle _ _ c.self.invariant _ _ c.get-state.ensures (sym c.is_some.ensures ∙ c.if-is_some.false))

pub returns-clause-legal : goal.returns-clause-legal
returns-clause-legal c = (invariant_of-self-2 c).sound.legal
