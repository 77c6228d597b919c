use Rattle.std.proofs.Common.{rules, refl}
use Rattle.al_engine.specs.Kept.{parts_of}
use Rattle.al_engine.proofs.TurnLemmas.{begins_room, begins_went, begins_kept}
use Rattle.al_engine.proofs.turns.begin.Goals as goal

pub note-requires : goal.note-requires
note-requires c = begins_room _ (parts_of c.args.machine.now) _ c.len-xact.result _ c.requires.kept c.requires.state c.requires.goes c.requires.statement c.requires.none_open

pub returns-clause-kept : goal.returns-clause-kept
returns-clause-kept c = begins_kept _ (parts_of c.args.machine.now) _ c.len-xact.result _ c.requires.kept c.requires.state c.requires.goes c.requires.statement c.requires.none_open (record (parts_of c.args.machine.now) { journal = c.note.new.self; sessions = c.keep.new.self.list; controls = c.keep.new.self.controls; committed = c.reach.new.marks.items }) c.note.ensures.past c.len-xact.ensures.past c.note.ensures.room c.keep.ensures.list refl refl (search rules) refl c.keep.ensures.controls

pub returns-clause-went : goal.returns-clause-went
returns-clause-went c = begins_went _ (parts_of c.args.machine.now) _ c.len-xact.result _ c.requires.kept c.requires.state c.requires.goes c.requires.statement c.requires.none_open _ c.note.ensures.past
