use Rattle.std.proofs.Common.{rules, sym, refl}
use Rattle.al_engine.proofs.EngineLemmas.{is_busy, is_idle, cancel_may, cancel_amid, cancel_refused, cancel_went}
use Rattle.al_engine.proofs.engine.Engine.cancel.Goals as goal

pub note-requires : goal.note-requires
note-requires c =
    let there = c.get-state.ensures in
    let busy = is_busy _ _ c.self.invariant _ _ there (sym c.if-is_some.ensures) in
    cancel_may _ _ _ _ _ c.self.invariant there busy.1

pub refuse-requires-clause-amid : goal.refuse-requires-clause-amid
refuse-requires-clause-amid c =
    let there = c.get-state.ensures in
    let busy = is_busy _ _ c.self.invariant _ _ there (sym c.if-is_some.ensures) in
    cancel_amid _ _ _ _ _ c.self.invariant there busy.1 c.note.new.self c.note.ensures.past c.note.ensures.room

pub refuse-requires-clause-state : goal.refuse-requires-clause-state
refuse-requires-clause-state c = c.get-state.ensures

pub refuse-requires-clause-refused : goal.refuse-requires-clause-refused
refuse-requires-clause-refused c =
    let there = c.get-state.ensures in
    let busy = is_busy _ _ c.self.invariant _ _ there (sym c.if-is_some.ensures) in
    rw c.len-entry.ensures.past (cancel_refused _ _ _ _ _ c.self.invariant there busy.1 c.note.new.self c.note.ensures.past)

pub returns-then-is_some-clause-cancels : goal.returns-then-is_some-clause-cancels
returns-then-is_some-clause-cancels c =
    let there = c.get-state.ensures in
    let busy = is_busy _ _ c.self.invariant _ _ there (sym c.if-is_some.ensures) in
    rw (← c.self.view_is, busy.2) (cancel_went _ _ _ _ _ c.self.invariant there busy.1 c.note.new.self c.note.ensures.past _ (rw c.len-entry.ensures.past at c.refuse.ensures.exact) c.refuse.ensures.went)

pub returns-else-is_some-clause-cancels : goal.returns-else-is_some-clause-cancels
returns-else-is_some-clause-cancels c =
    let there = c.get-state.ensures in
    let idle = is_idle _ _ c.self.invariant _ _ there (search rules) in
    rw (← c.self.view_is, idle) refl
