use Rattle.std.proofs.Common.{codes}
use Rattle.al_app.specs.Report.{step_text, replies_text}
use Rattle.al_app.proofs.ReportLemmas.{appended_three}
use Rattle.al_app.proofs.report.blocks.push_completed.Goals as goal

pub returns-in_ok-push_replies : goal.returns-in_ok-push_replies
returns-in_ok-push_replies c =
    rw (← c.waits.ensures, c.if-waits.true) (record {
      ok = appended_three _ _ _ _ (step_text c.args.block.now) (codes ": <... completed>\n") (replies_text c.args.journal.now c.args.session c.args.later.now)
          c.in_ok-push_step.ensures.ok c.in_ok-push_str.ensures.bytes c.in_ok-push_replies.ensures.ok;
    })
