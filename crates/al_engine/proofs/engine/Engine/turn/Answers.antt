use Rattle.std.proofs.lemmas.Result.{err_from_is_err_and}
use Rattle.std.proofs.Common.{sym, refl, arith}
use Rattle.al_engine.proofs.EngineLemmas.{statement_there, is_idle, goes, waits_by, same_keeps, turn_went}
use Rattle.al_engine.proofs.engine.Engine.turn.Goals as goal

pub returns-then-is_none-clause-ok : goal.returns-then-is_none-clause-ok
returns-then-is_none-clause-ok g c =
    let there = c.get-state.ensures in
    record { same = refl; none = rw (← c.self.view_is) (is_idle _ _ c.self.invariant _ _ there c.if-is_none.ensures) }

pub returns-then-is_held_up-clause-ok : goal.returns-then-is_held_up-clause-ok
returns-then-is_held_up-clause-ok g c =
    let there = c.get-state.ensures in
    rw (← c.self.view_is) (waits_by _ _ c.self.invariant _ _ there c.if-is_none.ensures (sym c.if-is_held_up.ensures))

pub go_on-requires-clause-state : goal.go_on-requires-clause-state
go_on-requires-clause-state g c = c.get-state.ensures

pub go_on-requires-clause-goes : goal.go_on-requires-clause-goes
go_on-requires-clause-goes g c =
    let there = c.get-state.ensures in
    goes _ _ c.self.invariant _ _ there c.if-is_none.ensures (sym c.if-is_held_up.ensures)

pub invariant_of-self : goal.invariant_of-self
invariant_of-self g c = same_keeps _ _ _ c.in_err-outcome.ensures.err c.self.invariant

pub returns-clause-ok : goal.returns-clause-ok
returns-clause-ok g c =
    let there = c.get-state.ensures in
    rw (← c.self.view_is, c.len-from.ensures.past, c.len-to.ensures.past) (turn_went _ _ _ _ _ _ c.self.invariant there c.if-is_none.ensures (sym c.if-is_held_up.ensures) c.in_ok-outcome.ensures.went (omega (arith, c.len-from.ensures.few, c.len-from.ensures.past)))

pub returns-in_err-outcome-clause-light : goal.returns-in_err-outcome-clause-light
returns-in_err-outcome-clause-light g c =
    let there = c.get-state.ensures in
    let lack = err_from_is_err_and c.from_residual.result c.from_residual.ensures.1 in
    rw (lack.1, ← c.self.view_is, statement_there _ _ c.self.invariant _ _ there c.if-is_none.ensures) c.in_err-outcome.ensures.light
