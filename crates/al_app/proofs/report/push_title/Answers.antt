use Rattle.std.proofs.Common.{codes}
use Rattle.al_app.specs.Report.{permutation_text}
use Rattle.al_app.proofs.ReportLemmas.{appended_three}
use Rattle.al_app.proofs.report.push_title.Goals as goal

pub returns : goal.returns
returns c = record {
  ok = appended_three _ _ _ _ (codes "\nstarting permutation: ") (permutation_text c.args.spec.now c.args.number) (codes "\n")
      c.in_ok-push_str.ensures.bytes c.in_ok-push_permutation.ensures.ok c.in_ok-push_str-2.ensures.bytes;
}
