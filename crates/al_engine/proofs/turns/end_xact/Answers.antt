use Rattle.std.proofs.Common.{ap}
use Rattle.al_queue.specs.Locks.{Kept}
use Rattle.al_engine.specs.Kept.{parts_of}
use Rattle.al_engine.proofs.BlockLemmas.{none_ended, end_room, commit_ended, abort_ended}
use Rattle.al_engine.proofs.turns.end_xact.Goals as goal

pub commit-requires-clause-room : goal.commit-requires-clause-room
commit-requires-clause-room c = end_room _ (parts_of c.args.machine.now) (parts_of c.args.machine.now) _ _ _ _ c.requires.kept c.requires.state c.requires.goes c.requires.statement c.in-Some.is

pub abort-requires-clause-room : goal.abort-requires-clause-room
abort-requires-clause-room c = end_room _ (parts_of c.args.machine.now) (parts_of c.args.machine.now) _ _ _ _ c.requires.kept c.requires.state c.requires.goes c.requires.statement c.in-Some-2.is

pub returns-in-None : goal.returns-in-None
returns-in-None c = none_ended _ (parts_of c.args.machine.now) _ _ _ c.requires.kept c.requires.state c.requires.goes c.requires.statement c.in-None.is

pub returns-in-Some : goal.returns-in-Some
returns-in-Some c = commit_ended _ (parts_of c.args.machine.now) (parts_of c.commit.new.machine) _ _ _ _ c.requires.kept c.requires.state c.requires.goes c.requires.statement c.in-Some.is c.commit.ensures.hands_on c.commit.ensures.room c.commit.ensures.sessions c.commit.ensures.tables (ap (λ (k : Kept). k.sessions) c.commit.ensures.locks) c.commit.ensures.settled c.commit.ensures.weight c.commit.ensures.controls c.if-commits.true c.commit.ensures.past c.commit.ensures.committed

pub returns-in-Some-2 : goal.returns-in-Some-2
returns-in-Some-2 c = abort_ended _ (parts_of c.args.machine.now) (parts_of c.abort.new.machine) _ _ _ _ c.requires.kept c.requires.state c.requires.goes c.requires.statement c.in-Some-2.is c.abort.ensures.hands_on c.abort.ensures.room c.abort.ensures.sessions c.abort.ensures.tables (ap (λ (k : Kept). k.sessions) c.abort.ensures.locks) c.abort.ensures.settled c.abort.ensures.weight c.abort.ensures.controls c.if-commits.false c.abort.ensures.past c.abort.ensures.committed
