-- The order of values (manual, 9.2, Comparison Functions and Operators).
use Rattle.std.specs.Prelude.{Option, Some, None}
use Rattle.std.specs.declared.cmp.Ordering.{Ordering}
use Rattle.std.specs.Ordering.{nat_cmp, int_cmp, bool_cmp}
use Rattle.std.specs.Cmp.Lexicographic.{slice_cmp}
use Rattle.al_values.specs.declared.scalar.Value.{Value}
use Rattle.al_values.specs.declared.scalar.Value.TheVariants as values

-- integers go by number, false before true, texts byte by byte, and an earlier day before a later one; a null, or two
-- values of which one is of another sort, have no order
abbrev pub compared : Value → Value → Option Ordering
compared (values.Bool a) (values.Bool b) = Some (bool_cmp a b)
compared (values.Int a) (values.Int b) = Some (int_cmp a b)
compared (values.Text a) (values.Text b) = Some (slice_cmp nat_cmp a b)
compared (values.Day a) (values.Day b) = Some (int_cmp a b)
compared _ _ = None
