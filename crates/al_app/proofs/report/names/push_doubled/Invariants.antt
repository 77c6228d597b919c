use Rattle.std.proofs.Common.{◌≡◌, ◌≤◌, ◌++◌, string_bytes, take, flat_map}
use Rattle.std.specs.List.{slice_range}
use Rattle.std.specs.Str.{IsCharBoundary}
use Rattle.al_app.specs.Report.{doubled}
use Rattle.al_app.proofs.report.names.push_doubled.Given as goal

-- what stands, and what is read but not put yet, which has no quote in it
abbrev pub invariant-loop-place : goal.invariant-loop-place
invariant-loop-place l = record {
  within : l.from ≤ l.place;
  boundary : IsCharBoundary l.name l.from;
  text : string_bytes l.text ++ slice_range l.name l.from l.place ≡ string_bytes l.initial.text ++ flat_map doubled (take l.place l.name);
}
