use Rattle.al_app.specs.Report.{run_text, title_text, journal_text, setup_text}
use Rattle.al_app.proofs.ReportLemmas.{appended_three}
use Rattle.al_app.proofs.report.push_run.Goals as goal

pub returns : goal.returns
unfolding run_text
returns c =
    let spec = c.args.spec.now in
    let run = c.args.run.now in
    let journal = rw c.entries.ensures.entries at c.in_ok-push_journal.ensures.ok in
    record {
      ok = appended_three _ _ _ _ (title_text spec run.permutation) (journal_text spec run.permutation run.setup run.history.entries) (setup_text run.setup)
          c.in_ok-push_title.ensures.ok journal c.in_ok-push_setup.ensures.ok;
    }
