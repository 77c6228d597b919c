use Rattle.std.proofs.Common.{◌≡◌, ◌++◌, string_bytes, take, flat_map, codes}
use Rattle.al_app.specs.Report.{step_name}
use Rattle.al_app.proofs.report.push_step_names.Given as goal

abbrev pub invariant-loop-step : goal.invariant-loop-step
invariant-loop-step l = string_bytes l.text ≡ string_bytes l.initial.text ++ flat_map (λ step. codes " " ++ step_name l.blocks step) (take l.step-index l.others)
