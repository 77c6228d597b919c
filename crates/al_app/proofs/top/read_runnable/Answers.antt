use Rattle.std.proofs.Common.{rules}
use Rattle.al_app.proofs.TopLemmas.{refused_faulty, without_permutation}
use Rattle.al_app.proofs.top.read_runnable.Goals as goal

pub returns-in-Err-clause-fault : goal.returns-in-Err-clause-fault
returns-in-Err-clause-fault c = refused_faulty _ c.in-Err.cause c.requires c.in-Err.ensures.fault c.in-Err.ensures.only c.in-Err.ensures.only_fault

pub returns-then-is_empty-clause-fault : goal.returns-then-is_empty-clause-fault
returns-then-is_empty-clause-fault c = without_permutation _ _ c.requires c.in-Ok.ensures.found (search rules) c.in-Ok.ensures.only c.in-Ok.ensures.only_fault
