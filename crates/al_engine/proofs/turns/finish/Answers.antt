use Rattle.al_engine.specs.Kept.{parts_of}
use Rattle.al_engine.proofs.FinishLemmas.{finish_after, finish_room, finish_kept, finish_went}
use Rattle.al_engine.proofs.turns.finish.Goals as goal

pub end_step-requires-clause-room : goal.end_step-requires-clause-room
end_step-requires-clause-room c = finish_room _ (parts_of c.args.machine.now) _ _ c.requires.kept c.requires.state c.requires.goes c.requires.is_script c.requires.none_left

pub end_step-requires-clause-is_after : goal.end_step-requires-clause-is_after
end_step-requires-clause-is_after c = finish_after _ (parts_of c.args.machine.now) _ _ c.requires.kept c.requires.state c.requires.goes c.requires.is_script c.requires.none_left

pub returns-clause-kept : goal.returns-clause-kept
returns-clause-kept c = finish_kept _ (parts_of c.args.machine.now) _ _ c.requires.kept c.requires.state c.requires.goes c.requires.is_script c.requires.none_left (parts_of c.end_step.new.machine) c.end_step.ensures.past c.end_step.ensures.room c.end_step.ensures.sessions c.end_step.ensures.tables c.end_step.ensures.locks c.end_step.ensures.committed c.end_step.ensures.weight c.end_step.ensures.controls

pub returns-clause-went : goal.returns-clause-went
returns-clause-went c = finish_went _ (parts_of c.args.machine.now) _ _ c.requires.kept c.requires.state c.requires.goes c.requires.is_script c.requires.none_left _ c.end_step.ensures.past
