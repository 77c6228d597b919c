use Rattle.std.proofs.Common.{◌++◌, codes}
use Rattle.al_app.specs.Report.{step_text, session_name, blocked_text}
use Rattle.al_app.proofs.ReportLemmas.{appended_two, appended_three}
use Rattle.al_app.proofs.report.push_blocked.Goals as goal

pub returns : goal.returns
unfolding blocked_text
returns c =
    let block = c.args.block.now in
    let session = session_name c.args.sessions.now block.session in
    record {
      ok = appended_three _ _ _ _ (step_text block) (codes ": not given, session ") (session ++ codes " is blocked\n")
          c.in_ok-push_step.ensures.ok c.in_ok-push_str.ensures.bytes
          (appended_two _ _ _ session (codes " is blocked\n") c.in_ok-push_session_name.ensures.ok c.in_ok-push_str-2.ensures.bytes);
    }
