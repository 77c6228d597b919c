use Rattle.std.proofs.Common.{◌≡◌, ◌∷◌, ◌++◌, drop}
use Rattle.al_tree.specs.Ascending.{without}
use Rattle.al_tree.proofs.search.listed.Given as goal

abbrev pub invariant-loop-other : goal.invariant-loop-other
invariant-loop-other l = l.family ++ without l.table (drop l.other-index l.met) ≡ l.table ∷ without l.table l.met
