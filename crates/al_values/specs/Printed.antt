-- A value as a report prints it.
use Rattle.std.specs.Prelude.{ℕ, List, [], if◌then◌else◌, codes}
use Rattle.std.specs.Fmt.{signed_decimal}
use Rattle.al_values.specs.declared.scalar.Value.{Value}
use Rattle.al_values.specs.declared.scalar.Value.TheVariants as values
use Rattle.al_values.specs.Days.{day_text}

-- an integer in decimal, `t` or `f`, a text as it is, a day as YYYY-MM-DD, Null as nothing
abbrev pub printed : Value → List ℕ
printed values.Null = []
printed (values.Bool truth) = if truth then codes "t" else codes "f"
printed (values.Int number) = signed_decimal number
printed (values.Text text) = text
printed (values.Day day) = day_text day
