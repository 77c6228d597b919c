use Rattle.std.proofs.Common.{◌≡◌, ◌++◌, string_bytes, drop}
use Rattle.al_app.specs.Report.{replies_text}
use Rattle.al_app.proofs.report.blocks.push_replies.Given as goal

-- the replies that stand, and those that are still to come
abbrev pub invariant-loop-entry : goal.invariant-loop-entry
invariant-loop-entry l = string_bytes l.text ++ replies_text l.journal l.session (drop l.entry-index l.later) ≡ string_bytes l.initial.text ++ replies_text l.journal l.session l.later
