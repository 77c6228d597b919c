use Rattle.std.proofs.Common.{[], ◌≡◌, drop}
use Rattle.al_app.specs.Built.{all_from, built}
use Rattle.al_app.proofs.built.all_built.Given as goal

abbrev pub invariant-loop-tree : goal.invariant-loop-tree
invariant-loop-tree l = all_from built [] l.trees ≡ all_from built l.script (drop l.tree-index l.trees)
