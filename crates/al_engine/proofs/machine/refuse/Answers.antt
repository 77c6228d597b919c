use Rattle.std.proofs.Common.{arith, ap, sym, subst, ◌∙◌, ℕ, Some, None}
use Rattle.al_history.specs.Hand.{failed_at}
use Rattle.al_history.specs.Past.{past_of}
use Rattle.al_queue.specs.Locks.{Kept}
use Rattle.al_engine.specs.declared.machine.Machine.{Machine}
use Rattle.al_engine.specs.Sessions.{state_of}
use Rattle.al_engine.specs.Kept.{parts_of}
use Rattle.al_engine.proofs.AfterLemmas.{after_refused}
use Rattle.al_engine.proofs.DoneLemmas.{IsBusy, busy_by, spare}
use Rattle.al_engine.proofs.RefuseLemmas.{IsRefusing, used_few, refusing_free, refusing_open, refusing_room, refused_kept, refused_exact, refused_went}
use Rattle.al_engine.proofs.machine.refuse.Goals.{in-Some, in_default}
use Rattle.al_engine.proofs.machine.refuse.Goals as goal

pub note-requires : goal.note-requires
note-requires c = omega (arith, spare _ (parts_of c.args.machine.now) _ _ _ c.requires.amid.sound c.requires.state c.requires.refused.in_step, used_few c.args.cause)

pub abort-requires-clause-room : goal.abort-requires-clause-room
abort-requires-clause-room c = omega (arith, spare _ (parts_of c.args.machine.now) _ _ _ c.requires.amid.sound c.requires.state c.requires.refused.in_step, used_few c.args.cause, c.note.ensures.room)

refusing : (c : goal.After-end_step) → IsRefusing c.args._terms.now (past_of c.args.machine.now.journal) (parts_of c.match-state.machine) c.args.session c.args.state c.args.cause
refusing c =
    let b : IsBusy c.args.state = busy_by c.args.state c.requires.refused.in_step in
    elim c.match-state.branch [
      | in-Some w ↦ subst (λ (m : Machine). IsRefusing c.args._terms.now (past_of c.args.machine.now.journal) (parts_of m) c.args.session c.args.state c.args.cause) (sym w.machine-is) (refusing_open c.args._terms.now (parts_of c.args.machine.now) c.note.new.self c.args.session b.block c.args.state c.args.cause c.requires.amid c.requires.state c.requires.refused b.is c.note.ensures.past c.note.ensures.room w.in-Some.xact w.in-Some.is (parts_of w.abort.new.machine) w.abort.ensures.past w.abort.ensures.room w.abort.ensures.sessions w.abort.ensures.tables (ap (λ (kept : Kept). kept.sessions) w.abort.ensures.locks) w.abort.ensures.committed w.abort.ensures.settled w.abort.ensures.hands_on w.abort.ensures.weight w.abort.ensures.controls)
      | in_default w ↦ subst (λ (m : Machine). IsRefusing c.args._terms.now (past_of c.args.machine.now.journal) (parts_of m) c.args.session c.args.state c.args.cause) (sym w.machine-is) (refusing_free c.args._terms.now (parts_of c.args.machine.now) c.note.new.self c.args.session b.block c.args.state c.args.cause c.requires.amid c.requires.state c.requires.refused b.is c.note.ensures.past c.note.ensures.room w.in_default.is)
    ]

refusing_so_far : (c : goal.After-end_step-arg-1) → IsRefusing c.args._terms.now (past_of c.args.machine.now.journal) (parts_of c.match-state.machine) c.args.session c.args.state c.args.cause
refusing_so_far c =
    let b : IsBusy c.args.state = busy_by c.args.state c.requires.refused.in_step in
    elim c.match-state.branch [
      | in-Some w ↦ subst (λ (m : Machine). IsRefusing c.args._terms.now (past_of c.args.machine.now.journal) (parts_of m) c.args.session c.args.state c.args.cause) (sym w.machine-is) (refusing_open c.args._terms.now (parts_of c.args.machine.now) c.note.new.self c.args.session b.block c.args.state c.args.cause c.requires.amid c.requires.state c.requires.refused b.is c.note.ensures.past c.note.ensures.room w.in-Some.xact w.in-Some.is (parts_of w.abort.new.machine) w.abort.ensures.past w.abort.ensures.room w.abort.ensures.sessions w.abort.ensures.tables (ap (λ (kept : Kept). kept.sessions) w.abort.ensures.locks) w.abort.ensures.committed w.abort.ensures.settled w.abort.ensures.hands_on w.abort.ensures.weight w.abort.ensures.controls)
      | in_default w ↦ subst (λ (m : Machine). IsRefusing c.args._terms.now (past_of c.args.machine.now.journal) (parts_of m) c.args.session c.args.state c.args.cause) (sym w.machine-is) (refusing_free c.args._terms.now (parts_of c.args.machine.now) c.note.new.self c.args.session b.block c.args.state c.args.cause c.requires.amid c.requires.state c.requires.refused b.is c.note.ensures.past c.note.ensures.room w.in_default.is)
    ]

pub end_step-requires-clause-known : goal.end_step-requires-clause-known
end_step-requires-clause-known c = rw (refusing_so_far c).amid.sound.count c.requires.known

pub end_step-requires-clause-room : goal.end_step-requires-clause-room
end_step-requires-clause-room c = refusing_room _ _ (parts_of c.match-state.machine) _ _ _ (refusing_so_far c)

pub end_step-requires-clause-is_after : goal.end_step-requires-clause-is_after
end_step-requires-clause-is_after c =
    let r = refusing_so_far c in
    after_refused c.match-state.machine.sessions c.args.session c.len-place.result c.args.state _ None c.failed.result (r.there ∙ ap Some r.like) c.requires.refused.in_step c.failed.ensures

pub returns-clause-kept : goal.returns-clause-kept
returns-clause-kept c = let b : IsBusy c.args.state = busy_by c.args.state c.requires.refused.in_step in refused_kept c.args._terms.now (past_of c.args.machine.now.journal) (parts_of c.match-state.machine) (parts_of c.end_step.new.machine) c.args.session b.block c.args.state c.args.cause c.failed.result (refusing c) c.requires.refused b.is (c.failed.ensures ∙ ap (λ (place : ℕ). failed_at place (state_of c.args.state.block)) c.len-place.ensures.past) c.end_step.ensures.past c.end_step.ensures.room c.end_step.ensures.sessions c.end_step.ensures.tables c.end_step.ensures.locks c.end_step.ensures.committed c.end_step.ensures.weight c.end_step.ensures.controls

pub returns-clause-exact : goal.returns-clause-exact
returns-clause-exact c = let b : IsBusy c.args.state = busy_by c.args.state c.requires.refused.in_step in refused_exact c.args._terms.now (past_of c.args.machine.now.journal) (parts_of c.match-state.machine) (parts_of c.end_step.new.machine) c.args.session b.block c.args.state c.args.cause c.failed.result (refusing c) c.requires.refused b.is (c.failed.ensures ∙ ap (λ (place : ℕ). failed_at place (state_of c.args.state.block)) c.len-place.ensures.past) c.end_step.ensures.past c.end_step.ensures.room c.end_step.ensures.sessions c.end_step.ensures.tables c.end_step.ensures.locks c.end_step.ensures.committed c.end_step.ensures.weight c.end_step.ensures.controls

pub returns-clause-went : goal.returns-clause-went
returns-clause-went c = let b : IsBusy c.args.state = busy_by c.args.state c.requires.refused.in_step in refused_went c.args._terms.now (past_of c.args.machine.now.journal) (parts_of c.match-state.machine) (parts_of c.end_step.new.machine) c.args.session b.block c.args.state c.args.cause c.failed.result (refusing c) c.requires.refused b.is (c.failed.ensures ∙ ap (λ (place : ℕ). failed_at place (state_of c.args.state.block)) c.len-place.ensures.past) c.end_step.ensures.past c.end_step.ensures.room c.end_step.ensures.sessions c.end_step.ensures.tables c.end_step.ensures.locks c.end_step.ensures.committed c.end_step.ensures.weight c.end_step.ensures.controls
