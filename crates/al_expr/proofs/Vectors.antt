-- Worked expressions, by computation: values, faults and kinds.
use Rattle.std.proofs.Common.{◌≡◌, ℕ, pos, neg_ℤ, true, false, [], ◌∷◌, Ok, Err}
use Rattle.std.specs.Prelude.{codes}
use Rattle.al_values.specs.declared.kinds.Kind.TheVariants as kinds
use Rattle.al_values.specs.declared.kinds.CastFault.TheVariants as cast_faults
use Rattle.al_values.specs.declared.scalar.Value.TheVariants as values
use Rattle.al_values.specs.Reading.{trimmed, skip_blanks, unsigned_of}
use Rattle.al_expr.specs.declared.kinds.Typed.TheVariants as types
use Rattle.al_expr.specs.declared.kinds.TypeFault.TheVariants as type_faults
use Rattle.al_expr.specs.declared.fault.EvalFault.TheVariants as faults
use Rattle.al_expr.specs.declared.tree.Operator.TheVariants as operators
use Rattle.al_expr.specs.declared.tree.Comparison.TheVariants as comparisons
use Rattle.al_expr.specs.declared.tree.Arithmetic.TheVariants as arithmetics
use Rattle.al_expr.specs.declared.tree.Prefix.TheVariants as prefixes
use Rattle.al_expr.specs.declared.tree.Expr.{Expr}
use Rattle.al_expr.specs.declared.tree.Expr.TheVariants as e
use Rattle.al_expr.specs.Nominal.{links_nominal, items_nominal}
use Rattle.al_expr.specs.Typing.{kind_is, links_kinds, items_kinds}
use Rattle.al_expr.specs.Evaluation.{value_of, links_sides, items_sides}
use Rattle.al_expr.proofs.KindNodes.{kind_nodes}
use Rattle.al_expr.proofs.NominalNodes.{nominal_nodes}
use Rattle.al_expr.proofs.ValueNodes.{value_nodes}

abbrev int : ℕ → Expr
int number = e.Literal 0 (values.Int (pos number))

abbrev no_value : Expr
no_value = e.Literal 0 values.Null

-- `1 IN (1, NULL)` is true, `2 IN (1, NULL)` is null
listed : value_of (e.In 0 false (int 1) (int 1 ∷ no_value ∷ [])) [] [] ≡ Ok (values.Bool true)
unfolding links_sides items_sides links_nominal items_nominal
listed = simp (value_nodes, nominal_nodes)

not_listed : value_of (e.In 0 false (int 2) (int 1 ∷ no_value ∷ [])) [] [] ≡ Ok values.Null
unfolding links_sides items_sides links_nominal items_nominal
not_listed = simp (value_nodes, nominal_nodes)

-- `5 BETWEEN 7 AND NULL` is false
below : value_of (e.Between 0 false (int 5) (int 7) no_value) [] [] ≡ Ok (values.Bool false)
unfolding links_sides items_sides links_nominal items_nominal
below = simp (value_nodes, nominal_nodes)

-- `1 / 0` is a fault, `NULL / 0` isn't
by_zero : value_of (e.Chain (int 1) ((0, operators.Calculate arithmetics.Divide, int 0) ∷ [])) [] [] ≡ Err faults.DivZero
unfolding links_sides items_sides links_nominal items_nominal
by_zero = simp (value_nodes, nominal_nodes)

null_by_zero : value_of (e.Chain no_value ((0, operators.Calculate arithmetics.Divide, int 0) ∷ [])) [] [] ≡ Ok values.Null
unfolding links_sides items_sides links_nominal items_nominal
null_by_zero = simp (value_nodes, nominal_nodes)

-- `FALSE AND 1 / 0 = 1` stops at false
stops : value_of (e.Chain (e.Literal 0 (values.Bool false)) ((
  0,
  operators.And,
  e.Chain (int 1)
      ((0, operators.Calculate arithmetics.Divide, int 0) ∷ (0, operators.Compare comparisons.Equal, int 1) ∷ []),
) ∷ [])) [] []
    ≡ Ok (values.Bool false)
unfolding links_sides items_sides links_nominal items_nominal
stops = simp (value_nodes, nominal_nodes)

-- `2147483647 + 1` is out of range, `2147483648 + 1` isn't
ranged : value_of (e.Chain (int 2_147_483_647) ((0, operators.Calculate arithmetics.Add, int 1) ∷ [])) [] [] ≡ Err faults.Range
unfolding links_sides items_sides links_nominal items_nominal
ranged = simp (value_nodes, nominal_nodes)

wide : value_of (e.Chain (int 2_147_483_648) ((0, operators.Calculate arithmetics.Add, int 1) ∷ [])) [] [] ≡ Ok (values.Int (pos 2_147_483_649))
unfolding links_sides items_sides links_nominal items_nominal
wide = simp (value_nodes, nominal_nodes)

-- `7 / -2` is -3, `-7 % 3` is -1
toward_zero : value_of (e.Chain (int 7) ((0, operators.Calculate arithmetics.Divide, e.Prefixed (int 2) ((0, prefixes.Minus) ∷ [])) ∷ [])) [] []
    ≡ Ok (values.Int (neg_ℤ (pos 3)))
unfolding links_sides items_sides links_nominal items_nominal
toward_zero = simp (value_nodes, nominal_nodes)

sign_of_dividend : value_of (e.Chain (e.Prefixed (int 7) ((0, prefixes.Minus) ∷ [])) ((0, operators.Calculate arithmetics.Remainder, int 3) ∷ [])) [] []
    ≡ Ok (values.Int (neg_ℤ (pos 1)))
unfolding links_sides items_sides links_nominal items_nominal
sign_of_dividend = simp (value_nodes, nominal_nodes)

-- `'x' + 1 / 0`: the string is read first
read_first : value_of (e.Chain (e.Literal 0 (values.Text (codes "x"))) ((
  0,
  operators.Calculate arithmetics.Add,
  e.Chain (int 1)
      ((0, operators.Calculate arithmetics.Divide, int 0) ∷ []),
) ∷ [])) [] []
    ≡ Err (faults.Cast cast_faults.BadText)
unfolding links_sides links_nominal trimmed skip_blanks unsigned_of
read_first = simp (value_nodes, nominal_nodes)

-- kinds: a sum of integers, `NULL + NULL`, and the first of two faults
sum_kind : kind_is (e.Chain (int 1) ((5, operators.Calculate arithmetics.Add, int 2_147_483_648) ∷ [])) [] ≡ Ok (types.Known kinds.Bigint)
unfolding links_kinds items_kinds
sum_kind = simp kind_nodes

no_kind : kind_is (e.Chain no_value ((5, operators.Calculate arithmetics.Add, no_value) ∷ [])) [] ≡ Err (type_faults.WrongKind 5)
unfolding links_kinds items_kinds
no_kind = simp kind_nodes

first_fault : kind_is (e.Chain (int 1) ((5, operators.Concat, int 2) ∷ (9, operators.And, e.Column 12 (codes "zz")) ∷ [])) [] ≡ Err (type_faults.WrongKind 5)
unfolding links_kinds items_kinds
first_fault = simp kind_nodes

missing_first : kind_is (e.Chain (e.Column 3 (codes "zz")) ((5, operators.Concat, int 2) ∷ [])) [] ≡ Err (type_faults.NoColumn 3)
unfolding links_kinds items_kinds
missing_first = simp kind_nodes
