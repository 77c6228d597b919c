-- The columns that an expression may name.
use Rattle.std.specs.Prelude.{ℕ, if◌then◌else◌, List, [], ◌∷◌, Option, Some, None, Bool, nat_eq}
use Rattle.std.specs.Cmp.Lexicographic.{pointwise}
use Rattle.al_values.specs.declared.kinds.Kind.{Kind}
use Rattle.al_values.specs.declared.scalar.Value.{Value}
use Rattle.al_values.specs.declared.scalar.Value.TheVariants as values
use Rattle.al_expr.specs.declared.column.Column.{Column}

-- byte by byte
abbrev pub same_name : List ℕ → List ℕ → Bool
same_name = pointwise nat_eq

-- the kind of the first column of the name
abbrev pub column_kind : List Column → List ℕ → Option Kind
column_kind [] name = None
column_kind (column ∷ columns) name =
    if same_name column.name name then Some column.kind else column_kind columns name

-- the first value of a row, or Null, and the values after it
abbrev pub first_value : List Value → Value
first_value [] = values.Null
first_value (value ∷ row) = value

abbrev pub later_values : List Value → List Value
later_values [] = []
later_values (value ∷ row) = row

-- the value of the first column of the name, in a row of these columns
abbrev pub column_value : List Column → List Value → List ℕ → Value
column_value [] row name = values.Null
column_value (column ∷ columns) row name =
    if same_name column.name name then first_value row else column_value columns (later_values row) name
