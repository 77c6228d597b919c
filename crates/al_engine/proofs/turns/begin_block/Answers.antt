use Rattle.std.proofs.Common.{arith, refl}
use Rattle.al_history.specs.declared.statement.Statement.TheVariants as statements
use Rattle.al_engine.specs.Kept.{parts_of}
use Rattle.al_engine.proofs.AfterLemmas.{after_done, control_there, moved_begin}
use Rattle.al_engine.proofs.BlockLemmas.{begin_over}
use Rattle.al_engine.proofs.OverLemmas.{over_room, passed_kept, passed_went}
use Rattle.al_engine.proofs.turns.begin_block.Goals as goal

pub note-requires : goal.note-requires
note-requires c =
    let over = begin_over _ (parts_of c.args.machine.now) _ _ c.requires.kept c.requires.state c.requires.goes c.requires.in_xact c.requires.statement in
    omega (arith, over_room _ _ _ _ _ _ _ _ _ over)

pub pass-requires-clause-room : goal.pass-requires-clause-room
pass-requires-clause-room c =
    let over = begin_over _ (parts_of c.args.machine.now) _ _ c.requires.kept c.requires.state c.requires.goes c.requires.in_xact c.requires.statement in
    omega (arith, over_room _ _ _ _ _ _ _ _ _ over, c.note.ensures.room)

pub pass-requires-clause-few : goal.pass-requires-clause-few
pass-requires-clause-few c =
    let over = begin_over _ (parts_of c.args.machine.now) _ _ c.requires.kept c.requires.state c.requires.goes c.requires.in_xact c.requires.statement in
    over.is_last.counted.few

pub pass-requires-clause-is_after : goal.pass-requires-clause-is_after
pass-requires-clause-is_after c =
    let over = begin_over _ (parts_of c.args.machine.now) _ _ c.requires.kept c.requires.state c.requires.goes c.requires.in_xact c.requires.statement in
    let in_hand = rw over.is_last.hand_is at c.requires.statement in
    after_done c.args._terms.now c.args.machine.now.sessions c.args.session over.is_last.block c.args.state _ c.args.state.xact c.opened-block.result _ c.requires.kept.sound.controlled c.requires.state over.is_last.hand_is (control_there c.args._terms.now over.is_last.block c.args.state statements.Begin over.is_last.counted in_hand) (moved_begin c.opened-block.result c.args.state.block c.opened-block.ensures)

pub returns-clause-kept : goal.returns-clause-kept
returns-clause-kept c =
    let over = begin_over _ (parts_of c.args.machine.now) _ _ c.requires.kept c.requires.state c.requires.goes c.requires.in_xact c.requires.statement in
    passed_kept _ _ _ _ _ _ _ _ _ over (parts_of (record { journal = c.note.new.self; sessions = c.args.machine.now.sessions; tables = c.args.machine.now.tables; locks = c.args.machine.now.locks; committed = c.args.machine.now.committed; weight = c.args.machine.now.weight })) _ _ c.opened-block.result c.opened-block.ensures refl c.note.ensures.past c.note.ensures.room refl refl refl refl refl (λ t held. held) c.pass.ensures.past c.pass.ensures.room c.pass.ensures.sessions c.pass.ensures.tables c.pass.ensures.locks c.pass.ensures.committed c.pass.ensures.weight c.pass.ensures.controls

pub returns-clause-went : goal.returns-clause-went
returns-clause-went c =
    let over = begin_over _ (parts_of c.args.machine.now) _ _ c.requires.kept c.requires.state c.requires.goes c.requires.in_xact c.requires.statement in
    passed_went _ _ _ _ _ _ _ _ _ over _ (rw c.note.ensures.past at c.pass.ensures.past)
