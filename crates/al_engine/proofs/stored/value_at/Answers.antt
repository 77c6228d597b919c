use Rattle.std.proofs.lemmas.Option.{unwrap_or-slice_get}
use Rattle.al_values.specs.declared.scalar.Value.{Value}
use Rattle.al_engine.proofs.stored.value_at.Goals as goal

pub returns-in-None : goal.returns-in-None
returns-in-None c = rw (← c.in-None.ensures.value) at (unwrap_or-slice_get {X = Value} c.args.row.now c.args.at c.args.column.now.column.default)
