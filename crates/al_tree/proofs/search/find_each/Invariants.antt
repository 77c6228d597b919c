use Rattle.std.proofs.Common.{◌≡◌, fold, take}
use Rattle.al_tree.specs.Ascending.{Ascends}
use Rattle.al_tree.specs.Met.{found}
use Rattle.al_tree.proofs.search.find_each.Given as goal

abbrev pub invariant-loop-table : goal.invariant-loop-table
invariant-loop-table l = record {
  found : fold found (record { met = l.initial.met.items; todo = l.initial.todo.items }) (take l.table-index l.tables) ≡ record { met = l.met.items; todo = l.todo.items };
  ascends : Ascends l.met.items;
}
