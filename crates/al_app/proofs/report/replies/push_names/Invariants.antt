use Rattle.std.proofs.Common.{◌≡◌, ◌++◌, string_bytes, take, codes, ℕ, List, flat_map}
use Rattle.al_app.proofs.report.replies.push_names.Given as goal

-- what stands is the text before the loop, and each name so far behind its bar
abbrev pub invariant-loop-name : goal.invariant-loop-name
invariant-loop-name l = string_bytes l.text ≡ string_bytes l.initial.text ++ flat_map (λ (name : List ℕ). codes "|" ++ name) (take l.name-index l.others)
