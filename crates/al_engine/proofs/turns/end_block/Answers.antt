use Rattle.std.proofs.Common.{◌≡◌, ◌∙◌, ap, cond, Some, None, arith, refl}
use Rattle.al_history.specs.Hand.{statement_of}
use Rattle.al_history.specs.declared.statement.Statement.TheVariants as statements
use Rattle.al_sessions.specs.declared.block.Control.TheVariants.{EndsBlock}
use Rattle.al_engine.specs.declared.sessions.Block.TheVariants as blocks
use Rattle.al_engine.specs.Kept.{parts_of}
use Rattle.al_engine.proofs.AfterLemmas.{after_done, control_there, ends_control}
use Rattle.al_engine.proofs.BlockLemmas.{end_closes}
use Rattle.al_engine.proofs.OverLemmas.{over_room, passed_kept, passed_went}
use Rattle.al_engine.proofs.turns.end_block.Goals as goal

pub note-requires : goal.note-requires
note-requires c = omega (arith, over_room _ _ _ _ _ _ _ _ _ c.end_xact.ensures.over)

pub pass-requires-clause-room : goal.pass-requires-clause-room
pass-requires-clause-room c = omega (arith, over_room _ _ _ _ _ _ _ _ _ c.end_xact.ensures.over, c.note.ensures.room)

pub pass-requires-clause-few : goal.pass-requires-clause-few
pass-requires-clause-few c = rw c.out_of_block.ensures c.end_xact.ensures.over.is_last.counted.few

pub pass-requires-clause-is_after : goal.pass-requires-clause-is_after
pass-requires-clause-is_after c =
    let over = c.end_xact.ensures.over in
    let its : statement_of c.args._terms.now (Some over.is_last.block) c.args.state.done ≡ Some (cond c.args.commits statements.Commit statements.Rollback) = rw over.is_last.hand_is at c.requires.statement in
    rw c.out_of_block.ensures (after_done c.args._terms.now c.end_xact.new.machine.sessions c.args.session over.is_last.block c.args.state _ None blocks.Outside (Some EndsBlock) over.amid.sound.controlled (over.there ∙ ap Some over.like) over.is_last.hand_is (control_there c.args._terms.now over.is_last.block c.args.state _ over.is_last.counted its ∙ ap Some (ends_control c.args.commits)) refl)

pub returns-clause-kept : goal.returns-clause-kept
returns-clause-kept c =
    let m = c.end_xact.new.machine in
    passed_kept _ _ _ _ _ _ _ _ _ c.end_xact.ensures.over (parts_of (record { journal = c.note.new.self; sessions = m.sessions; tables = m.tables; locks = m.locks; committed = m.committed; weight = m.weight })) _ _ blocks.Outside (end_closes c.args.state c.args.commits) c.out_of_block.ensures (rw c.end_tag-tag.ensures at c.note.ensures.past) c.note.ensures.room refl refl refl refl refl (λ t held. held) c.pass.ensures.past c.pass.ensures.room c.pass.ensures.sessions c.pass.ensures.tables c.pass.ensures.locks c.pass.ensures.committed c.pass.ensures.weight c.pass.ensures.controls

pub returns-clause-went : goal.returns-clause-went
returns-clause-went c = passed_went _ _ _ _ _ _ _ _ _ c.end_xact.ensures.over _ (rw (c.note.ensures.past, c.end_tag-tag.ensures, c.out_of_block.ensures) at c.pass.ensures.past)
