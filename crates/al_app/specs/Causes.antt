-- The text of each cause of a refusal: its SQLSTATE (Appendix A), and what is missing, doubled or in the way.
use Rattle.std.specs.Prelude.{ℕ, List, [], ◌∷◌, ◌++◌, codes, decimal}
use Rattle.std.specs.List.{concat}
use Rattle.al_values.specs.declared.kinds.CastFault.{CastFault}
use Rattle.al_values.specs.declared.kinds.CastFault.TheVariants as casts
use Rattle.al_expr.specs.declared.fault.EvalFault.{EvalFault}
use Rattle.al_expr.specs.declared.fault.EvalFault.TheVariants as faults
use Rattle.al_statements.specs.declared.cause.Cause.{Cause}
use Rattle.al_statements.specs.declared.cause.Cause.TheVariants as causes
use Rattle.al_statements.specs.declared.cause.RunLimit.{RunLimit}
use Rattle.al_statements.specs.declared.cause.RunLimit.TheVariants as limits

-- a block that is no script
abbrev pub syntax_text : ℕ → List ℕ
syntax_text at = concat (codes "42601: syntax error at byte " ∷ decimal at ∷ [])

abbrev pub left_out_text : ℕ → List ℕ
left_out_text at = concat (codes "0A000: not supported at byte " ∷ decimal at ∷ [])

-- a tuple of an INSERT with another number of values than it needs
abbrev pub count_text : ℕ → ℕ → List ℕ
count_text want got =
    concat (codes "42601: INSERT has " ∷ decimal got ∷ codes " values for " ∷ decimal want ∷ codes " columns" ∷ [])

-- an expression of another kind than it needs
abbrev pub kind_text : ℕ → List ℕ
kind_text place = concat (codes "42804: wrong type at byte " ∷ decimal place ∷ [])

-- what a row breaks
abbrev pub null_text : List ℕ → List ℕ → List ℕ
null_text table column = concat (codes "23502: null in column \"" ∷ column ∷ codes "\" of table \"" ∷ table ∷ codes "\"" ∷ [])

abbrev pub check_text : List ℕ → List ℕ → List ℕ
check_text table name = concat (codes "23514: row of table \"" ∷ table ∷ codes "\" breaks check \"" ∷ name ∷ codes "\"" ∷ [])

abbrev pub key_text : List ℕ → List ℕ → List ℕ
key_text table name = concat (codes "23505: two rows of table \"" ∷ table ∷ codes "\" under key \"" ∷ name ∷ codes "\"" ∷ [])

abbrev pub foreign_text : List ℕ → List ℕ → List ℕ
foreign_text table name = concat (codes "23503: table \"" ∷ table ∷ codes "\" breaks foreign key \"" ∷ name ∷ codes "\"" ∷ [])

-- a lock that can't be had at once
abbrev pub locked_text : List ℕ → List ℕ
locked_text table = concat (codes "55P03: lock not available on table \"" ∷ table ∷ codes "\"" ∷ [])

-- what a run has a limit of
abbrev pub limit_name : RunLimit → List ℕ
limit_name limits.Tables = codes "tables"
limit_name limits.Columns = codes "columns"
limit_name limits.Constraints = codes "constraints"
limit_name limits.Parents = codes "parents"
limit_name limits.Text = codes "text"
limit_name limits.Journal = codes "journal"

abbrev pub limit_text : RunLimit → List ℕ
limit_text what = concat (codes "54000: limit of " ∷ limit_name what ∷ codes " passed" ∷ [])

-- why an expression has no value. That there is no such conversion is told by the kinds alone, and a text over its limit
-- is a limit passed.
abbrev pub cast_text : CastFault → List ℕ
cast_text casts.OutOfRange = codes "22003: number out of range"
cast_text casts.BadText = codes "22P02: bad text"
cast_text casts.BadDate = codes "22007: bad date"
cast_text casts.TooLong = codes "22001: text too long"
cast_text casts.NoCast = codes "42804: wrong type"

abbrev pub fault_text : EvalFault → List ℕ
fault_text faults.DivZero = codes "22012: division by zero"
fault_text faults.Range = codes "22003: number out of range"
fault_text (faults.Cast fault) = cast_text fault
fault_text (faults.TooLong bytes) = codes "54000: limit of text passed"

-- a name that is missing, doubled or in the way
abbrev pub name_text : Cause → List ℕ
name_text (causes.NotHere name) = concat (codes "0A000: column \"" ∷ name ∷ codes "\" cannot be altered here" ∷ [])
name_text (causes.NoTable name) = concat (codes "42P01: table \"" ∷ name ∷ codes "\" does not exist" ∷ [])
name_text (causes.NoColumn name) = concat (codes "42703: column \"" ∷ name ∷ codes "\" does not exist" ∷ [])
name_text (causes.NoConstraint name) = concat (codes "42704: constraint \"" ∷ name ∷ codes "\" does not exist" ∷ [])
name_text (causes.TwiceTable name) = concat (codes "42P07: table \"" ∷ name ∷ codes "\" already exists" ∷ [])
name_text (causes.TwiceColumn name) = concat (codes "42701: column \"" ∷ name ∷ codes "\" already exists" ∷ [])
name_text (causes.TwiceConstraint name) = concat (codes "42710: constraint \"" ∷ name ∷ codes "\" already exists" ∷ [])
name_text cause = []

-- a definition that can't be
abbrev pub shape_text : Cause → List ℕ
shape_text (causes.BadParent name) = concat (codes "42P07: table \"" ∷ name ∷ codes "\" cannot be a parent here" ∷ [])
shape_text (causes.WrongKind place) = kind_text place
shape_text (causes.OtherKind name) = concat (codes "42804: column \"" ∷ name ∷ codes "\" has another type" ∷ [])
shape_text (causes.NotAllowed name) = concat (codes "42P16: definition of \"" ∷ name ∷ codes "\" not allowed" ∷ [])
shape_text (causes.NoKey name) = concat (codes "42830: no key for foreign key \"" ∷ name ∷ codes "\"" ∷ [])
shape_text (causes.Depends name) = concat (codes "2BP01: \"" ∷ name ∷ codes "\" is still used" ∷ [])
shape_text cause = name_text cause

-- a row that can't be
abbrev pub row_text : Cause → List ℕ
row_text (causes.Null row table column) = null_text table column
row_text (causes.Check row table name) = check_text table name
row_text (causes.Twice row table name) = key_text table name
row_text (causes.Foreign row table name) = foreign_text table name
row_text (causes.Fault row fault) = fault_text fault
row_text (causes.Changed row seen newest) = codes "40001: row changed since the snapshot"
row_text cause = shape_text cause

-- why a statement is refused
abbrev pub cause_text : Cause → List ℕ
cause_text (causes.Syntax at) = syntax_text at
cause_text (causes.NotInProfile at) = left_out_text at
cause_text (causes.Count want got) = count_text want got
cause_text (causes.Cycle edges) = codes "40P01: deadlock detected"
cause_text (causes.NoWait table by) = locked_text table
cause_text causes.NoBlock = codes "25P01: LOCK TABLE needs a transaction block"
cause_text (causes.BlockFailed refuse) = codes "25P02: transaction block has failed"
cause_text (causes.Limit what count) = limit_text what
cause_text (causes.Cancelled entry) = codes "57014: cancelled"
cause_text cause = row_text cause
