use Rattle.std.proofs.Common.{◌≡◌, ◌++◌, string_bytes, take, flat_map}
use Rattle.al_app.specs.Report.{run_text}
use Rattle.al_app.proofs.report.push_runs.Given as goal

abbrev pub invariant-loop-run : goal.invariant-loop-run
invariant-loop-run l = string_bytes l.text ≡ string_bytes l.initial.text ++ flat_map (run_text l.spec) (take l.run-index l.runs)
