use Rattle.std.proofs.Common.{◌≡◌, ◌++◌, string_bytes, take, flat_map, codes}
use Rattle.al_values.specs.Printed.{printed}
use Rattle.al_app.proofs.report.replies.push_row.Given as goal

abbrev pub invariant-loop-value : goal.invariant-loop-value
invariant-loop-value l = string_bytes l.text ≡ string_bytes l.initial.text ++ flat_map (λ value. codes "|" ++ printed value) (take l.value-index l.others)
