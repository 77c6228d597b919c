use Rattle.std.proofs.Common.{◌≡◌, drop}
use Rattle.al_expr.specs.Binding.{place_from}
use Rattle.al_expr.proofs.binding.place_in.Given as goal

abbrev pub invariant-loop-place : goal.invariant-loop-place
invariant-loop-place l = place_from 0 l.columns l.name ≡ place_from l.place (drop l.place l.columns) l.name
