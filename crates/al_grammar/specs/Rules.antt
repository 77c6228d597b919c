-- Rules of a grammar that is read from left to right by one token ahead: which tokens mean which value, and a reader.
use Rattle.std.specs.Prelude.{◌≡◌, ℕ, zero, suc, ◌⊎◌, Bool, true, false, ◌&&◌, if◌then◌else◌, List, [], ◌∷◌, ◌++◌, length, Option, Some, None}
use Rattle.al_grammar.specs.Kinds.{among, starts}

-- What shows of a rule before any token is read: whether no token will do, the kinds of token that a text begins with,
-- and those that may go on after a whole text.
pub record Shape : Type 0 where
  pub empty : Bool
  pub first : List ℕ
  pub after : List ℕ

-- What a reader makes of tokens: a value, and the tokens that are left; or how many tokens are left from the faulty one
-- on, none where the tokens end too early.
pub data Step (T A : Type 0) : Type 0 where
  read : A → List T → Step T A
  fault : ℕ → Step T A

-- A rule: `Is` says which tokens mean which value, and never mentions the reader.
pub record Rule (T : Type 0) (shape : Shape) (A : Type 0) : Type 1 where
  pub Is : List T → A → Type 0
  pub reads : List T → Step T A

-- a reader goes on with what is left
abbrev pub and_then : {T A B : Type 0} → Step T A → (A → List T → Step T B) → Step T B
and_then (read v rest) next = next v rest
and_then (fault n) next = fault n

-- ---- one token

abbrev pub taken : {T A : Type 0} → Bool → Option A → T → List T → Step T A
taken true (Some v) t ts = read v ts
taken other v t ts = fault (length (t ∷ ts))

abbrev pub leaf_reads : {T A : Type 0} → (T → ℕ) → List ℕ → (T → Option A) → List T → Step T A
leaf_reads kind kinds of [] = fault 0
leaf_reads kind kinds of (t ∷ ts) = taken (among (kind t) kinds) (of t) t ts

-- A token of these kinds that has a value.
pub record IsLeaf {T A : Type 0} (kind : T → ℕ) (kinds : List ℕ) (of : T → Option A) (text : List T) (v : A) : Type 0 where
  pub token : T
  pub alone : text ≡ token ∷ []
  pub kind_is : among (kind token) kinds ≡ true
  pub value_is : of token ≡ Some v

abbrev pub leaf_shape : List ℕ → Shape
leaf_shape kinds = record { empty = false; first = kinds; after = [] }

abbrev pub leaf : {T A : Type 0} → (kind : T → ℕ) → (kinds : List ℕ) → (T → Option A) → Rule T (leaf_shape kinds) A
leaf kind kinds of = record {
  Is = IsLeaf kind kinds of;
  reads = leaf_reads kind kinds of;
}

-- ---- one rule and then another

abbrev pub both : Shape → Shape → Shape
both s u = record {
  empty = s.empty && u.empty;
  first = if s.empty then s.first ++ u.first else s.first;
  after = if u.empty then s.after ++ u.after else u.after;
}

-- Tokens of the one, and after them tokens of the other, which may depend on the first's value.
pub record IsThen {T A B C : Type 0} (Is : List T → A → Type 0) (IsNext : A → List T → B → Type 0) (join : A → B → C) (text : List T) (v : C) : Type 0 where
  pub front : List T
  pub back : List T
  pub first : A
  pub second : B
  pub split : text ≡ front ++ back
  pub first_is : Is front first
  pub second_is : IsNext first back second
  pub value_is : v ≡ join first second

abbrev pub then_reads : {T A B C : Type 0} → (A → B → C) → (List T → Step T A) → (A → List T → Step T B) → List T → Step T C
then_reads join first next ts = and_then (first ts) (λ x mid. and_then (next x mid) (λ y rest. read (join x y) rest))

abbrev pub then_rule : {T A B C : Type 0} {s u : Shape} → (A → B → C) → Rule T s A → (A → Rule T u B) → Rule T (both s u) C
then_rule join p q = record {
  Is = IsThen p.Is (λ x. (q x).Is) join;
  reads = then_reads join p.reads (λ x. (q x).reads);
}

-- The same where the other doesn't depend on it.
abbrev pub IsBoth : {T A B C : Type 0} → (List T → A → Type 0) → (List T → B → Type 0) → (A → B → C) → List T → C → Type 0
IsBoth Is IsNext join = IsThen Is (λ x. IsNext) join

abbrev pub pair_reads : {T A B C : Type 0} → (A → B → C) → (List T → Step T A) → (List T → Step T B) → List T → Step T C
pair_reads join first next ts = then_reads join first (λ x. next) ts

abbrev pub pair : {T A B C : Type 0} {s u : Shape} → (A → B → C) → Rule T s A → Rule T u B → Rule T (both s u) C
pair join p q = record {
  Is = IsBoth p.Is q.Is join;
  reads = pair_reads join p.reads q.reads;
}

-- ---- another value

pub record IsMapped {T A B : Type 0} (Is : List T → A → Type 0) (f : A → B) (text : List T) (v : B) : Type 0 where
  pub was : A
  pub was_is : Is text was
  pub value_is : v ≡ f was

abbrev pub mapped : {T A B : Type 0} {s : Shape} → (A → B) → Rule T s A → Rule T s B
mapped f p = record {
  Is = IsMapped p.Is f;
  reads = λ ts. and_then (p.reads ts) (λ v rest. read (f v) rest);
}

-- ---- one rule or another, by the first token

abbrev pub either : Shape → Shape → Shape
either s u = record { empty = false; first = s.first ++ u.first; after = s.after ++ u.after }

abbrev pub or : {T A : Type 0} {s u : Shape} → (T → ℕ) → Rule T s A → Rule T u A → Rule T (either s u) A
or {s = s} kind p q = record {
  Is = λ text v. p.Is text v ⊎ q.Is text v;
  reads = λ ts. if starts kind false s.first ts then p.reads ts else q.reads ts;
}

-- ---- a rule, or nothing

pub data IsOptional {T A : Type 0} (Is : List T → A → Type 0) : List T → Option A → Type 0 where
  left_out : IsOptional Is [] None
  there : (text : List T) (v : A) → Is text v → IsOptional Is text (Some v)

abbrev pub at_most_once : Shape → Shape
at_most_once s = record { empty = true; first = s.first; after = s.first ++ s.after }

abbrev pub optional : {T A : Type 0} {s : Shape} → (T → ℕ) → Rule T s A → Rule T (at_most_once s) (Option A)
optional {s = s} kind p = record {
  Is = IsOptional p.Is;
  reads = λ ts. if starts kind false s.first ts then and_then (p.reads ts) (λ v rest. read (Some v) rest) else read None ts;
}

-- ---- a rule any number of times

pub data IsMany {T A : Type 0} (Is : List T → A → Type 0) : List T → List A → Type 0 where
  none : IsMany Is [] []
  one_more : (text front back : List T) (v : A) (vs : List A) → text ≡ front ++ back → Is front v → IsMany Is back vs → IsMany Is text (v ∷ vs)

-- Reading goes on as long as the next token begins one; as many times as there are tokens will always do.
abbrev pub many_reads : {T A : Type 0} → (T → ℕ) → List ℕ → (List T → Step T A) → ℕ → List T → Step T (List A)
many_reads kind first reads zero ts = read [] ts
many_reads kind first reads (suc n) ts =
    if starts kind false first ts
    then and_then (reads ts) (λ v rest. and_then (many_reads kind first reads n rest) (λ vs last. read (v ∷ vs) last))
    else read [] ts

abbrev pub many : {T A : Type 0} {s : Shape} → (T → ℕ) → Rule T s A → Rule T (at_most_once s) (List A)
many {s = s} kind p = record {
  Is = IsMany p.Is;
  reads = λ ts. many_reads kind s.first p.reads (length ts) ts;
}

-- ---- a left fold: a rule, and any number of times an operator and the rule again

abbrev pub folded : {A O : Type 0} → (A → O → A → A) → A → List (O × A) → A
folded f x [] = x
folded f x (y ∷ ys) = folded f (f x y.0 y.1) ys

abbrev pub chain_shape : Shape → Shape → Shape
chain_shape s u = both s (at_most_once (both u s))

abbrev pub chain : {T A O : Type 0} {s u : Shape} → (T → ℕ) → (A → O → A → A) → Rule T s A → Rule T u O → Rule T (chain_shape s u) A
chain kind f p q = pair (folded f) p (many kind (pair (λ o x. (o, x)) q p))

-- ---- the same texts, under a shape that says less

abbrev pub widen : {T A : Type 0} {s : Shape} → (w : Shape) → Rule T s A → Rule T w A
widen w p = record { Is = p.Is; reads = p.reads }

-- ---- a list: a rule, and any number of times a separator and the rule again

abbrev pub next_shape : Shape → Shape → Shape
next_shape c s = both c s

abbrev pub next_item : {T A O : Type 0} {c s : Shape} → Rule T c O → Rule T s A → Rule T (next_shape c s) A
next_item comma p = pair (λ o x. x) comma p

abbrev pub list_shape : Shape → Shape → Shape
list_shape c s = both s (at_most_once (next_shape c s))

abbrev pub listed : {T A O : Type 0} {c s : Shape} → (T → ℕ) → Rule T c O → Rule T s A → Rule T (list_shape c s) (List A)
listed kind comma p = pair (λ x xs. x ∷ xs) p (many kind (next_item comma p))
