use Rattle.std.proofs.Common.{◌∙◌, rules}
use Rattle.al_heap.proofs.Seen.{aborted-hides, not-hidden}
use Rattle.al_heap.proofs.walk.is_visible.Goals as goal

pub returns-clause-as_taken : goal.returns-clause-as_taken
returns-clause-as_taken c = λ before e on. rw (← c.sees-seen.ensures.as_taken before e on, ← c.is_removed-removed.ensures.as_taken before e on) c.is_there.ensures

pub returns-clause-there_again : goal.returns-clause-there_again
returns-clause-there_again c = λ remover e differ aborted.
    rw (← c.sees-seen.ensures.value) (not-hidden _ _ _ c.is_there.ensures (c.is_removed-removed.ensures.value ∙ aborted-hides c.args.snapshot.now c.args.xacts.now.transactions c.args.version.now.remover remover e differ aborted))
