-- The values of operands are values of the kind that the operands share.
use Rattle.std.proofs.Common.{◌≡◌, ℕ, true, List, [], ◌∷◌, Option, Some, None, option_map, Ok, refl, sym, ap, ◌∙◌, arith}
use Rattle.std.proofs.lemmas.Int.{ints}
use Rattle.al_values.specs.declared.kinds.Kind.{Kind}
use Rattle.al_values.specs.declared.kinds.Kind.TheVariants as kinds
use Rattle.al_values.specs.declared.scalar.Value.{Value}
use Rattle.al_values.specs.declared.scalar.Value.TheVariants as values
use Rattle.al_expr.specs.declared.kinds.Typed.{Typed}
use Rattle.al_expr.specs.declared.kinds.Typed.TheVariants as types
use Rattle.al_expr.specs.Kinds.{shared, common, common_with, settled}
use Rattle.al_expr.specs.Rows.{is_of}
use Rattle.al_expr.specs.Typing.{Answer, shared_kind}
use Rattle.al_expr.proofs.Openings.{opened}

abbrev pub Wider : Kind → Kind → Type 0
Wider from to = (value : Value) → is_of from value ≡ true → is_of to value ≡ true

small_int : Wider kinds.Smallint kinds.Integer
small_int values.Null is = refl
small_int (values.Int number) is = grind (arith, ints)
small_int (values.Bool truth) is = absurd cc
small_int (values.Text text) is = absurd cc
small_int (values.Day day) is = absurd cc

int_big : Wider kinds.Integer kinds.Bigint
int_big values.Null is = refl
int_big (values.Int number) is = grind (arith, ints)
int_big (values.Bool truth) is = absurd cc
int_big (values.Text text) is = absurd cc
int_big (values.Day day) is = absurd cc

small_big : Wider kinds.Smallint kinds.Bigint
small_big value is = int_big value (small_int value is)

longer : (most : ℕ) → Wider (kinds.Varchar most) kinds.Text
longer most values.Null is = refl
longer most (values.Int number) is = absurd cc
longer most (values.Bool truth) is = absurd cc
longer most (values.Text text) is = refl
longer most (values.Day day) is = absurd cc

same : (kind : Kind) → Wider kind kind
same kind value is = is

-- the kind is this one
to_kind : (from kind to : Kind) → Wider from kind → Some kind ≡ Some to → Wider from to
to_kind from kind to wide is value here = let e : kind ≡ to = cc in rw (← e) (wide value here)

shared_left : (a b to : Kind) → shared a b ≡ Some to → Wider a to
shared_left kinds.Smallint kinds.Smallint to is = to_kind kinds.Smallint kinds.Smallint to (same kinds.Smallint) is
shared_left kinds.Smallint kinds.Integer to is = to_kind kinds.Smallint kinds.Integer to small_int is
shared_left kinds.Smallint kinds.Bigint to is = to_kind kinds.Smallint kinds.Bigint to small_big is
shared_left kinds.Integer kinds.Smallint to is = to_kind kinds.Integer kinds.Integer to (same kinds.Integer) is
shared_left kinds.Integer kinds.Integer to is = to_kind kinds.Integer kinds.Integer to (same kinds.Integer) is
shared_left kinds.Integer kinds.Bigint to is = to_kind kinds.Integer kinds.Bigint to int_big is
shared_left kinds.Bigint kinds.Smallint to is = to_kind kinds.Bigint kinds.Bigint to (same kinds.Bigint) is
shared_left kinds.Bigint kinds.Integer to is = to_kind kinds.Bigint kinds.Bigint to (same kinds.Bigint) is
shared_left kinds.Bigint kinds.Bigint to is = to_kind kinds.Bigint kinds.Bigint to (same kinds.Bigint) is
shared_left kinds.Boolean kinds.Boolean to is = to_kind kinds.Boolean kinds.Boolean to (same kinds.Boolean) is
shared_left kinds.Text kinds.Text to is = to_kind kinds.Text kinds.Text to (same kinds.Text) is
shared_left kinds.Text (kinds.Varchar most) to is = to_kind kinds.Text kinds.Text to (same kinds.Text) is
shared_left (kinds.Varchar most) kinds.Text to is = to_kind (kinds.Varchar most) kinds.Text to (longer most) is
shared_left (kinds.Varchar most) (kinds.Varchar other) to is = to_kind (kinds.Varchar most) kinds.Text to (longer most) is
shared_left kinds.Date kinds.Date to is = to_kind kinds.Date kinds.Date to (same kinds.Date) is
shared_left a b to is = absurd cc

shared_right : (a b to : Kind) → shared a b ≡ Some to → Wider b to
shared_right kinds.Smallint kinds.Smallint to is = to_kind kinds.Smallint kinds.Smallint to (same kinds.Smallint) is
shared_right kinds.Integer kinds.Smallint to is = to_kind kinds.Smallint kinds.Integer to small_int is
shared_right kinds.Bigint kinds.Smallint to is = to_kind kinds.Smallint kinds.Bigint to small_big is
shared_right kinds.Smallint kinds.Integer to is = to_kind kinds.Integer kinds.Integer to (same kinds.Integer) is
shared_right kinds.Integer kinds.Integer to is = to_kind kinds.Integer kinds.Integer to (same kinds.Integer) is
shared_right kinds.Bigint kinds.Integer to is = to_kind kinds.Integer kinds.Bigint to int_big is
shared_right kinds.Smallint kinds.Bigint to is = to_kind kinds.Bigint kinds.Bigint to (same kinds.Bigint) is
shared_right kinds.Integer kinds.Bigint to is = to_kind kinds.Bigint kinds.Bigint to (same kinds.Bigint) is
shared_right kinds.Bigint kinds.Bigint to is = to_kind kinds.Bigint kinds.Bigint to (same kinds.Bigint) is
shared_right kinds.Boolean kinds.Boolean to is = to_kind kinds.Boolean kinds.Boolean to (same kinds.Boolean) is
shared_right kinds.Text kinds.Text to is = to_kind kinds.Text kinds.Text to (same kinds.Text) is
shared_right (kinds.Varchar most) kinds.Text to is = to_kind kinds.Text kinds.Text to (same kinds.Text) is
shared_right kinds.Text (kinds.Varchar most) to is = to_kind (kinds.Varchar most) kinds.Text to (longer most) is
shared_right (kinds.Varchar other) (kinds.Varchar most) to is = to_kind (kinds.Varchar most) kinds.Text to (longer most) is
shared_right kinds.Date kinds.Date to is = to_kind kinds.Date kinds.Date to (same kinds.Date) is
shared_right a b to is = absurd cc

-- ---- kinds that operands share

known_of : (found : Option Kind) (c : Typed) → option_map types.Known found ≡ Some c → (to : Kind) × (found ≡ Some to) × (c ≡ types.Known to)
known_of (Some to) c is = (to, refl, cc)
known_of None c is = absurd cc

record Shares (own : Kind) (c : Typed) : Type 0 where
  to : Kind
  is : c ≡ types.Known to
  wide : Wider own to

common_left : (own : Kind) (b c : Typed) → common (types.Known own) b ≡ Some c → Shares own c
common_left own (types.Known b) c is =
    let found = known_of (shared own b) c is in record { to = found.0; is = found.2; wide = shared_left own b found.0 found.1 }
common_left own types.Untyped c is =
    let found = known_of (shared own own) c is in record { to = found.0; is = found.2; wide = shared_left own own found.0 found.1 }

common_right : (a : Typed) (own : Kind) (c : Typed) → common a (types.Known own) ≡ Some c → Shares own c
common_right (types.Known a) own c is =
    let found = known_of (shared a own) c is in record { to = found.0; is = found.2; wide = shared_right a own found.0 found.1 }
common_right types.Untyped own c is =
    let found = known_of (shared own own) c is in record { to = found.0; is = found.2; wide = shared_left own own found.0 found.1 }

-- operands that share nothing go on sharing nothing
pub nothing : (answers : List Answer) (t : Typed) → shared_kind None answers ≡ Ok (Some t) → ⊥
nothing [] t is = absurd cc
nothing (answer ∷ answers) t is =
    let step = opened answer (λ typed. shared_kind (common_with None typed) answers) (Some t) is in
    nothing answers t step.2

shares_on : (before : Option Typed) (answers : List Answer) (t : Typed) → shared_kind before answers ≡ Ok (Some t) →
    (c : Typed) × (before ≡ Some c)
shares_on (Some c) answers t is = (c, refl)
shares_on None answers t is = absurd (nothing answers t is)

-- from one operand on
grows : (own : Kind) (answers : List Answer) (t : Typed) → shared_kind (Some (types.Known own)) answers ≡ Ok (Some t) → Wider own (settled t)
grows own [] t is = let e : types.Known own ≡ t = cc in rw (← e) (same own)
grows own (answer ∷ answers) t is =
    let step = opened answer (λ typed. shared_kind (common (types.Known own) typed) answers) (Some t) is in
    let next = shares_on (common (types.Known own) step.0) answers t step.2 in
    let share = common_left own step.0 next.0 next.1 in
    let rest : shared_kind (Some (types.Known share.to)) answers ≡ Ok (Some t) =
    ap (λ x. shared_kind (Some x) answers) (sym share.is) ∙ ap (λ x. shared_kind x answers) (sym next.1) ∙ step.2 in
    λ value here. grows share.to answers t rest value (share.wide value here)

-- an operand, and the operands after it
pub joins : (before : Typed) (own : Kind) (answers : List Answer) (t : Typed) → shared_kind (common before (types.Known own)) answers ≡ Ok (Some t) → Wider own (settled t)
joins before own answers t is =
    let next = shares_on (common before (types.Known own)) answers t is in
    let share = common_right before own next.0 next.1 in
    let rest : shared_kind (Some (types.Known share.to)) answers ≡ Ok (Some t) =
    ap (λ x. shared_kind (Some x) answers) (sym share.is) ∙ ap (λ x. shared_kind x answers) (sym next.1) ∙ is in
    λ value here. grows share.to answers t rest value (share.wide value here)
