use Rattle.std.proofs.Common.{length}
use Rattle.al_app.specs.Report.{entries_text, not_given_text, giving_end}
use Rattle.al_app.proofs.ReportLemmas.{appended_three}
use Rattle.al_app.proofs.report.push_journal.Goals as goal

pub returns : goal.returns
returns c =
    let spec = c.args.spec.now in
    let journal = c.args.journal.now in
    let first = rw c.giving_end-end.ensures.end at c.in_ok-push_entries.ensures.ok in
    let last = rw c.giving_end-end.ensures.end at c.in_ok-push_entries-2.ensures.ok in
    record {
      ok = appended_three _ _ _ _ (entries_text spec journal 0 (giving_end journal)) (not_given_text spec c.args.number c.args.setup journal) (entries_text spec journal (giving_end journal) (length journal))
          first c.in_ok-push_not_given.ensures.ok last;
    }
