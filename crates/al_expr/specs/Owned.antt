-- What is held.
use Rattle.al_values.specs.declared.scalar.Value.{Value}
use Rattle.al_expr.specs.declared.held.Owner.{Owner}
use Rattle.al_expr.specs.declared.held.Owner.TheVariants as owners

abbrev pub owned : Owner → Value
owned (owners.Lent value) = value.now
owned (owners.Own value) = value
