use Rattle.std.proofs.Common.{[], ◌≡◌, drop}
use Rattle.al_app.specs.Built.{all_from, column_name}
use Rattle.al_app.proofs.built.column_names.Given as goal

abbrev pub invariant-loop-element : goal.invariant-loop-element
invariant-loop-element l = all_from column_name [] l.elements ≡ all_from column_name l.names (drop l.element-index l.elements)
