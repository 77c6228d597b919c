use Rattle.std.proofs.Common.{subst}
use Rattle.al_app.specs.Answers.{IsFaulty}
use Rattle.al_app.proofs.TopLemmas.{told_faulty}
use Rattle.al_app.proofs.top.perform.Goals as goal

pub returns-in-Err-Why-clause-stop : goal.returns-in-Err-Why-clause-stop
returns-in-Err-Why-clause-stop g c =
    (told_faulty _ _ _ c.in-Ok.ensures.all (subst (λ b. IsFaulty b c.in-Err-Why.fault) c.deref.ensures.value (rw c.in-Err-Why.field-0-is at c.in-Err-Why.ensures.fault)), c.in-Ok.ensures.end)
