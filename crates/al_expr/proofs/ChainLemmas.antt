-- One operator of a row, with the rest of the row after it.
use Rattle.std.proofs.Common.{◌≡◌, ℕ, ◌+◌, ◌<◌, List, ◌∷◌, length, get_or, drop, Result, Ok, Err, sym, subst, ap, ◌∙◌}
use Rattle.std.proofs.lemmas.List.{at_drop_more}
use Rattle.al_values.specs.Gives.{GivesUnlessNoMemory}
use Rattle.al_values.specs.declared.cant.Cant.{Cant}
use Rattle.al_values.specs.declared.cant.Cant.TheVariants as cants
use Rattle.al_values.specs.declared.scalar.Value.{Value}
use Rattle.al_expr.specs.declared.column.Column.{Column}
use Rattle.al_expr.specs.declared.kinds.Typed.{Typed}
use Rattle.al_expr.specs.declared.fault.EvalFault.{EvalFault}
use Rattle.al_expr.specs.declared.tree.Operator.{Operator}
use Rattle.al_expr.specs.declared.tree.Expr.{Expr}
use Rattle.al_expr.specs.Then.{◌>>=◌}
use Rattle.al_expr.specs.Values.{Outcome}
use Rattle.al_expr.specs.Nominal.{nominal, operator_gives, chain_gives, links_nominal}
use Rattle.al_expr.specs.Evaluation.{value_of, known, operator_value, chain_value, links_sides}

abbrev Link : Type 0
Link = ℕ × Operator × Expr

-- a row from here on, with its kind
abbrev pub chain_known : List Column → List Value → Typed → Value → List Link → Result (Typed × Value) EvalFault
chain_known columns row typed left links =
    known (chain_gives typed (links_nominal columns links)) (chain_value typed left (links_sides columns row links))

abbrev found : Typed × Value → Result (Typed × Value) EvalFault
found it = Ok it

taken : (a b : Typed × Value) → found a ≡ found b → a ≡ b
taken a b is = cc

-- a value and its kind, apart
pub known_kind : (typed kind : Typed) (outcome : Outcome) (value : Value) → known typed outcome ≡ Ok (kind, value) → typed ≡ kind
known_kind typed kind (Ok here) value is = ap (λ (it : Typed × Value). it.0) (taken (typed, here) (kind, value) is)
known_kind typed kind (Err fault) value is = cc

pub known_value : (typed kind : Typed) (outcome : Outcome) (value : Value) → known typed outcome ≡ Ok (kind, value) → outcome ≡ Ok value
known_value typed kind (Ok here) value is = ap (λ (it : Typed × Value). Ok it.1) (taken (typed, here) (kind, value) is)
known_value typed kind (Err fault) value is = cc

pub known_fault : (typed : Typed) (outcome : Outcome) (fault : EvalFault) → known typed outcome ≡ Err fault → outcome ≡ Err fault
known_fault typed (Ok here) fault is = cc
known_fault typed (Err other) fault is = cc

goes_on : (typed next_type : Typed) (outcome : Outcome) (next : Value) (gives : Typed → Typed) (rest : Typed → Value → Outcome) →
    known typed outcome ≡ Ok (next_type, next) →
    known (gives typed) (outcome >>= (λ value. rest typed value)) ≡ known (gives next_type) (rest next_type next)
goes_on typed next_type outcome next gives rest is =
    ap (λ x. known (gives typed) (x >>= (λ value. rest typed value))) (known_value typed next_type outcome next is)
    ∙ ap (λ x. known (gives x) (rest x next)) (known_kind typed next_type outcome next is)

stops : (typed : Typed) (outcome : Outcome) (fault : EvalFault) (gives : Typed) (rest : Value → Outcome) →
    known typed outcome ≡ Err fault →
    known gives (outcome >>= rest) ≡ Err fault
stops typed outcome fault gives rest is = ap (λ x. known gives (x >>= rest)) (known_fault typed outcome fault is)

-- the operator of this link
abbrev pub link_known : List Column → List Value → Typed → Value → Link → Result (Typed × Value) EvalFault
link_known columns row typed left link =
    known (operator_gives link.1 typed (nominal link.2 columns))
    (operator_value link.1 typed left (nominal link.2 columns, value_of link.2 columns row))

pub chain_goes_on : (columns : List Column) (row : List Value) (links : List Link) (at : ℕ) (link : Link)
    (typed next_type : Typed) (left next : Value) → at < length links → link ≡ get_or links at link →
    link_known columns row typed left link ≡ Ok (next_type, next) →
    chain_known columns row typed left (drop at links) ≡ chain_known columns row next_type next (drop (at + 1) links)
unfolding links_nominal links_sides
chain_goes_on columns row links at link typed next_type left next within is gave =
    at_drop_more (chain_known columns row typed left) links at link within
    ∙ ap (λ here. chain_known columns row typed left (here ∷ drop (at + 1) links)) (sym is)
    ∙ goes_on _ next_type _ next (λ gives. chain_gives gives (links_nominal columns (drop (at + 1) links)))
    (λ gives value. chain_value gives value (links_sides columns row (drop (at + 1) links))) gave

pub chain_stops : (columns : List Column) (row : List Value) (links : List Link) (at : ℕ) (link : Link)
    (typed : Typed) (left : Value) (fault : EvalFault) → at < length links → link ≡ get_or links at link →
    link_known columns row typed left link ≡ Err fault →
    chain_known columns row typed left (drop at links) ≡ Err fault
unfolding links_nominal links_sides
chain_stops columns row links at link typed left fault within is gave =
    at_drop_more (chain_known columns row typed left) links at link within
    ∙ ap (λ here. chain_known columns row typed left (here ∷ drop (at + 1) links)) (sym is)
    ∙ stops _ _ fault _ _ gave

-- a fault is handed on
pub passes_on : {T U : Type 0} (cause : Cant EvalFault) (result : Result U (Cant EvalFault)) (here : Result T EvalFault) (next : Result U EvalFault) →
    result ≡ Err cause → GivesUnlessNoMemory {T = T} (Err cause) here → ((fault : EvalFault) → here ≡ Err fault → next ≡ Err fault) →
    GivesUnlessNoMemory result next
passes_on (cants.Why fault) result here next is gives more =
    subst (λ r. GivesUnlessNoMemory r next) (sym is) (more fault gives)
passes_on cants.NoMemory result here next is gives more =
    subst (λ r. GivesUnlessNoMemory r next) (sym is) tt
