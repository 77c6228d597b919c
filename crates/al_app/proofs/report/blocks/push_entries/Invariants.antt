use Rattle.std.proofs.Common.{◌≡◌, ◌++◌, string_bytes}
use Rattle.al_app.specs.Report.{entries_text}
use Rattle.al_app.proofs.report.blocks.push_entries.Given as goal

abbrev pub invariant-loop-place : goal.invariant-loop-place
invariant-loop-place l = string_bytes l.text ≡ string_bytes l.initial.text ++ entries_text l.spec l.journal l.from l.place
