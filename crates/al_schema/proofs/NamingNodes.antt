-- `names`, one equation for each variant.
use Rattle.std.proofs.Common.{◌≡◌, ℕ, Bool, List, sym, ap, ◌∙◌}
use Rattle.al_values.specs.declared.kinds.Kind.{Kind}
use Rattle.al_values.specs.declared.scalar.Value.{Value}
use Rattle.al_expr.specs.declared.tree.Operator.{Operator}
use Rattle.al_expr.specs.declared.tree.Prefix.{Prefix}
use Rattle.al_expr.specs.declared.tree.Expr.{Expr}
use Rattle.al_expr.specs.declared.tree.Expr.TheOpen.{Expr-F}
use Rattle.al_expr.specs.declared.tree.Expr.TheFolds.{fold-roll-Expr}
use Rattle.al_expr.specs.declared.tree.Expr.TheVariants as e
use Rattle.al_schema.specs.Naming.{names_step, names, links_naming, items_naming}

pub naming_literal : (name : List ℕ) (place : ℕ) (value : Value) →
    names (e.Literal place value) name ≡ names_step name (Expr-F.Literal place value)
unfolding names
naming_literal name place value = ap (λ x. names x name) (sym (e.rolls-Literal place value)) ∙ fold-roll-Expr Bool (names_step name) (Expr-F.Literal place value)

pub naming_date : (name : List ℕ) (place : ℕ) (text : List ℕ) →
    names (e.Date place text) name ≡ names_step name (Expr-F.Date place text)
unfolding names
naming_date name place text = ap (λ x. names x name) (sym (e.rolls-Date place text)) ∙ fold-roll-Expr Bool (names_step name) (Expr-F.Date place text)

pub naming_column : (name : List ℕ) (place : ℕ) (column : List ℕ) →
    names (e.Column place column) name ≡ names_step name (Expr-F.Column place column)
unfolding names
naming_column name place column = ap (λ x. names x name) (sym (e.rolls-Column place column)) ∙ fold-roll-Expr Bool (names_step name) (Expr-F.Column place column)

pub naming_chain : (name : List ℕ) (first : Expr) (links : List (ℕ × Operator × Expr)) →
    names (e.Chain first links) name ≡ names_step name (Expr-F.Chain (names first name) (links_naming name links))
unfolding names links_naming
naming_chain name first links = ap (λ x. names x name) (sym (e.rolls-Chain first links)) ∙ fold-roll-Expr Bool (names_step name) (Expr-F.Chain first links)

pub naming_prefixed : (name : List ℕ) (operand : Expr) (prefixes : List (ℕ × Prefix)) →
    names (e.Prefixed operand prefixes) name ≡ names_step name (Expr-F.Prefixed (names operand name) prefixes)
unfolding names
naming_prefixed name operand prefixes = ap (λ x. names x name) (sym (e.rolls-Prefixed operand prefixes)) ∙ fold-roll-Expr Bool (names_step name) (Expr-F.Prefixed operand prefixes)

pub naming_casts : (name : List ℕ) (operand : Expr) (casts : List (ℕ × Kind)) →
    names (e.Casts operand casts) name ≡ names_step name (Expr-F.Casts (names operand name) casts)
unfolding names
naming_casts name operand casts = ap (λ x. names x name) (sym (e.rolls-Casts operand casts)) ∙ fold-roll-Expr Bool (names_step name) (Expr-F.Casts operand casts)

pub naming_is_null : (name : List ℕ) (operand : Expr) (tests : List (ℕ × Bool)) →
    names (e.IsNull operand tests) name ≡ names_step name (Expr-F.IsNull (names operand name) tests)
unfolding names
naming_is_null name operand tests = ap (λ x. names x name) (sym (e.rolls-IsNull operand tests)) ∙ fold-roll-Expr Bool (names_step name) (Expr-F.IsNull operand tests)

pub naming_between : (name : List ℕ) (place : ℕ) (negated : Bool) (value : Expr) (low : Expr) (high : Expr) →
    names (e.Between place negated value low high) name ≡ names_step name (Expr-F.Between place negated (names value name) (names low name) (names high name))
unfolding names
naming_between name place negated value low high = ap (λ x. names x name) (sym (e.rolls-Between place negated value low high)) ∙ fold-roll-Expr Bool (names_step name) (Expr-F.Between place negated value low high)

pub naming_in : (name : List ℕ) (place : ℕ) (negated : Bool) (value : Expr) (items : List Expr) →
    names (e.In place negated value items) name ≡ names_step name (Expr-F.In place negated (names value name) (items_naming name items))
unfolding names items_naming
naming_in name place negated value items = ap (λ x. names x name) (sym (e.rolls-In place negated value items)) ∙ fold-roll-Expr Bool (names_step name) (Expr-F.In place negated value items)

pub naming_coalesce : (name : List ℕ) (place : ℕ) (items : List Expr) →
    names (e.Coalesce place items) name ≡ names_step name (Expr-F.Coalesce place (items_naming name items))
unfolding names items_naming
naming_coalesce name place items = ap (λ x. names x name) (sym (e.rolls-Coalesce place items)) ∙ fold-roll-Expr Bool (names_step name) (Expr-F.Coalesce place items)

pub naming_abs : (name : List ℕ) (place : ℕ) (operand : Expr) →
    names (e.Abs place operand) name ≡ names_step name (Expr-F.Abs place (names operand name))
unfolding names
naming_abs name place operand = ap (λ x. names x name) (sym (e.rolls-Abs place operand)) ∙ fold-roll-Expr Bool (names_step name) (Expr-F.Abs place operand)

pub naming_length : (name : List ℕ) (place : ℕ) (operand : Expr) →
    names (e.Length place operand) name ≡ names_step name (Expr-F.Length place (names operand name))
unfolding names
naming_length name place operand = ap (λ x. names x name) (sym (e.rolls-Length place operand)) ∙ fold-roll-Expr Bool (names_step name) (Expr-F.Length place operand)

pub ruleset naming_nodes = (naming_literal, naming_date, naming_column, naming_chain, naming_prefixed, naming_casts, naming_is_null, naming_between, naming_in, naming_coalesce, naming_abs, naming_length)
