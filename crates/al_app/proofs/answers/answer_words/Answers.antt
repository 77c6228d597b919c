use Rattle.std.proofs.Common.{rules, refl, []}
use Rattle.al_app.specs.declared.status.Status.TheVariants as statuses
use Rattle.al_app.proofs.AnswerLemmas.{concluded, runs_answer, fault_answer}
use Rattle.al_app.proofs.answers.answer_words.Goals as goal

pub returns-in-Some-clause-answer : goal.returns-in-Some-clause-answer
returns-in-Some-clause-answer g c = rw c.without_runs.ensures (concluded _ _ _ _ _ _ _ [] _ (statuses.Usage c.in-Some.word) _ tt refl (search rules) c.conclude-status.ensures)

pub returns-in-Ok-clause-answer : goal.returns-in-Ok-clause-answer
returns-in-Ok-clause-answer g c = rw c.report_runs.ensures.runs (runs_answer _ _ _ _ _ _ _ _ _ _ (search rules) (search rules) c.in-Ok.ensures.end c.report_runs.ensures.status)

pub returns-in-Err-Spec-clause-answer : goal.returns-in-Err-Spec-clause-answer
returns-in-Err-Spec-clause-answer g c =
    let stop = rw c.in-Err-Spec.field-0-is at c.in-Err-Spec.ensures.stop in
    rw c.report_fault.ensures.runs (fault_answer _ _ _ _ _ _ _ c.in-Err-Spec.fault _ (search rules) stop.0 stop.1 c.report_fault.ensures.status)

pub returns-in-Err-TooLong-clause-answer : goal.returns-in-Err-TooLong-clause-answer
returns-in-Err-TooLong-clause-answer g c =
    let stop = rw c.in-Err-TooLong.field-0-is at c.in-Err-TooLong.ensures.stop in
    rw c.without_runs-in-Err-TooLong.ensures (concluded _ _ _ _ _ _ _ [] _ statuses.TooLong _ tt stop (search rules) c.conclude-status-in-Err-TooLong.ensures)
