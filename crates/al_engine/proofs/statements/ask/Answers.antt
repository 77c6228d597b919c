use Rattle.std.proofs.Common.{ℕ, ◌+◌, ap, Some, slice_set, sym, ◌∙◌, arith}
use Rattle.al_history.specs.declared.entry.Want.TheVariants as wants
use Rattle.al_engine.specs.Listed.{Listed}
use Rattle.al_engine.specs.Kept.{Parts, parts_of}
use Rattle.al_engine.proofs.Amid.{amid_begins}
use Rattle.al_engine.proofs.AskLemmas.{over_uncut, asks_refused, AskedSo, none_asked, got_kept, got_went, queued_kept, queued_went, pushed, granted_so, queued_so}
use Rattle.al_engine.proofs.Ties.{no_request}
use Rattle.al_engine.proofs.statements.ask.Goals as goal

pub ask-requires-clause-free : goal.ask-requires-clause-free
ask-requires-clause-free c = no_request _ _ _ c.requires.lacks.kept.sound.tied (none_asked _ _ _ _ _ _ c.requires.lacks)

pub refuse-requires-clause-amid : goal.refuse-requires-clause-amid
refuse-requires-clause-amid c = rw (over_uncut _ _ _ _ (sym c.in-Some.is ∙ c.in_ok-cause.ensures)) (amid_begins _ _ _ c.requires.lacks.kept)

pub refuse-requires-clause-refused : goal.refuse-requires-clause-refused
refuse-requires-clause-refused c = asks_refused _ _ _ _ _ _ c.requires.lacks c.in-Some.cause _ (sym c.in-Some.is ∙ c.in_ok-cause.ensures) c.request_weight-weight.ensures

pub returns-in-Granted-clause-kept : goal.returns-in-Granted-clause-kept
returns-in-Granted-clause-kept c =
    let q : Parts = parts_of c.note_heavy.new.machine in
    let a : AskedSo _ _ _ _ _ _ c.requires.lacks q = record { tables = c.note_heavy.ensures.tables; committed = c.note_heavy.ensures.committed; room = omega (arith, c.note_heavy.ensures.room, c.in_ok-reserve.ensures.ok); locks = c.note_heavy.ensures.locks ∙ c.in_ok-ask.ensures.ok; settled = λ was. rw c.note_heavy.ensures.locks (c.ask.ensures.settled was); weighs = c.note_heavy.ensures.weight ∙ ap (λ (n : ℕ). c.args.machine.now.weight + n) c.request_weight-weight.ensures; fits = sym (rw c.request_weight-weight.ensures at c.in_ok-cause.ensures) ∙ c.in_default.is } in
    got_kept _ _ _ _ _ _ c.requires.lacks q a c.note_heavy.ensures.sessions (pushed _ _ c.reserve.new.self c.args.machine.now.journal c.note_heavy.ensures.past c.in_ok-reserve.ensures.entries) (granted_so _ _ (sym c.in-Granted.is ∙ c.in_ok-ask.ensures.answer))

pub returns-in-Granted-clause-went : goal.returns-in-Granted-clause-went
returns-in-Granted-clause-went c =
    let q : Parts = parts_of c.note_heavy.new.machine in
    let a : AskedSo _ _ _ _ _ _ c.requires.lacks q = record { tables = c.note_heavy.ensures.tables; committed = c.note_heavy.ensures.committed; room = omega (arith, c.note_heavy.ensures.room, c.in_ok-reserve.ensures.ok); locks = c.note_heavy.ensures.locks ∙ c.in_ok-ask.ensures.ok; settled = λ was. rw c.note_heavy.ensures.locks (c.ask.ensures.settled was); weighs = c.note_heavy.ensures.weight ∙ ap (λ (n : ℕ). c.args.machine.now.weight + n) c.request_weight-weight.ensures; fits = sym (rw c.request_weight-weight.ensures at c.in_ok-cause.ensures) ∙ c.in_default.is } in
    got_went _ _ _ _ _ _ c.requires.lacks q a c.note_heavy.ensures.sessions (pushed _ _ c.reserve.new.self c.args.machine.now.journal c.note_heavy.ensures.past c.in_ok-reserve.ensures.entries) (granted_so _ _ (sym c.in-Granted.is ∙ c.in_ok-ask.ensures.answer))

pub returns-in-Queued-clause-kept : goal.returns-in-Queued-clause-kept
returns-in-Queued-clause-kept c =
    let q : Parts = record (parts_of c.note_heavy-in-Queued.new.machine) { sessions = c.keep.new.self.list; controls = c.keep.new.self.controls } in
    let a : AskedSo _ _ _ _ _ _ c.requires.lacks q = record { tables = c.note_heavy-in-Queued.ensures.tables; committed = c.note_heavy-in-Queued.ensures.committed; room = omega (arith, c.note_heavy-in-Queued.ensures.room, c.in_ok-reserve.ensures.ok); locks = c.note_heavy-in-Queued.ensures.locks ∙ c.in_ok-ask.ensures.ok; settled = λ was. rw c.note_heavy-in-Queued.ensures.locks (c.ask.ensures.settled was); weighs = c.note_heavy-in-Queued.ensures.weight ∙ ap (λ (n : ℕ). c.args.machine.now.weight + n) c.request_weight-weight.ensures; fits = sym (rw c.request_weight-weight.ensures at c.in_ok-cause.ensures) ∙ c.in_default.is } in
    queued_kept _ _ _ _ _ _ c.requires.lacks q a (c.keep.ensures.list ∙ ap (λ (l : Listed). slice_set l.list c.args.session (record c.args.state { wants = Some (wants.Table c.args.table c.args.mode) })) c.note_heavy-in-Queued.ensures.sessions) (rw c.note_heavy-in-Queued.ensures.sessions at c.keep.ensures.controls) (pushed _ _ c.reserve.new.self c.args.machine.now.journal c.note_heavy-in-Queued.ensures.past c.in_ok-reserve.ensures.entries) (queued_so _ _ c.in-Queued.place (sym c.in-Queued.is ∙ c.in_ok-ask.ensures.answer))

pub returns-in-Queued-clause-went : goal.returns-in-Queued-clause-went
returns-in-Queued-clause-went c =
    let q : Parts = record (parts_of c.note_heavy-in-Queued.new.machine) { sessions = c.keep.new.self.list; controls = c.keep.new.self.controls } in
    let a : AskedSo _ _ _ _ _ _ c.requires.lacks q = record { tables = c.note_heavy-in-Queued.ensures.tables; committed = c.note_heavy-in-Queued.ensures.committed; room = omega (arith, c.note_heavy-in-Queued.ensures.room, c.in_ok-reserve.ensures.ok); locks = c.note_heavy-in-Queued.ensures.locks ∙ c.in_ok-ask.ensures.ok; settled = λ was. rw c.note_heavy-in-Queued.ensures.locks (c.ask.ensures.settled was); weighs = c.note_heavy-in-Queued.ensures.weight ∙ ap (λ (n : ℕ). c.args.machine.now.weight + n) c.request_weight-weight.ensures; fits = sym (rw c.request_weight-weight.ensures at c.in_ok-cause.ensures) ∙ c.in_default.is } in
    queued_went _ _ _ _ _ _ c.requires.lacks q a (c.keep.ensures.list ∙ ap (λ (l : Listed). slice_set l.list c.args.session (record c.args.state { wants = Some (wants.Table c.args.table c.args.mode) })) c.note_heavy-in-Queued.ensures.sessions) (rw c.note_heavy-in-Queued.ensures.sessions at c.keep.ensures.controls) (pushed _ _ c.reserve.new.self c.args.machine.now.journal c.note_heavy-in-Queued.ensures.past c.in_ok-reserve.ensures.entries) (queued_so _ _ c.in-Queued.place (sym c.in-Queued.is ∙ c.in_ok-ask.ensures.answer))
