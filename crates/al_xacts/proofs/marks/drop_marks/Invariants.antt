use Rattle.std.proofs.Common.{ℕ, ◌≡◌, take, nat_eq, if◌then◌else◌}
use Rattle.std.specs.List.{list_any}
use Rattle.al_xacts.specs.Marks.{marks_in, without_marks}
use Rattle.al_xacts.proofs.marks.drop_marks.Given as goal

abbrev pub invariant-loop-row : goal.invariant-loop-row
invariant-loop-row l =
    (other : ℕ) → marks_in l.marks.entries other ≡ (if list_any (nat_eq other) (take l.row-index l.rows) then without_marks l.x (marks_in l.initial.marks.entries other) else marks_in l.initial.marks.entries other)
