-- What the readers of combined rules leave.
use Rattle.std.proofs.Common.{◌≡◌, ℕ, ◌<◌, Bool, true, false, List, [], ◌∷◌, length, Option, Some, Ok, Err, refl, ap, ◌∙◌}
use Rattle.std.specs.Prelude.{if◌then◌else◌}
use Rattle.al_grammar.specs.Kinds.{among, starts}
use Rattle.al_grammar.specs.Rules.{Shape, Step, read, fault, Rule, and_then, taken, leaf_reads, pair_reads, optional, many}
use Rattle.al_grammar.specs.Laws.{Lawful}
use Rattle.al_grammar.specs.Skim.{skim, skim_token}
use Rattle.al_grammar.proofs.Many.{many_unfolds, shorter}

-- ---- one rule and then another

module _ (T A B C : Type 0) (join : A → B → C) (p : List T → Step T A) (q : List T → Step T B) where
  on_second : (x : A) (step : Step T B) → skim (and_then step (λ y rest. read (join x y) rest)) ≡ skim step
  on_second x (read y rest) = refl
  on_second x (fault n) = refl

  on_first : (mid : List T) (step : Step T A) → skim step ≡ Ok mid → skim (and_then step (λ x m. and_then (q m) (λ y rest. read (join x y) rest))) ≡ skim (q mid)
  on_first mid (read x m) e = let same : m ≡ mid = cc in on_second x (q m) ∙ ap (λ (l : List T). skim (q l)) same
  on_first mid (fault n) e = absurd cc

  pub skim_on : (ts mid : List T) → skim (p ts) ≡ Ok mid → skim (pair_reads join p q ts) ≡ skim (q mid)
  skim_on ts mid e = on_first mid (p ts) e

  off_first : (n : ℕ) (step : Step T A) → skim step ≡ Err n → skim (and_then step (λ x m. and_then (q m) (λ y rest. read (join x y) rest))) ≡ Err n
  off_first n (read x m) e = absurd cc
  off_first n (fault m) e = e

  pub skim_off : (ts : List T) (n : ℕ) → skim (p ts) ≡ Err n → skim (pair_reads join p q ts) ≡ Err n
  skim_off ts n e = off_first n (p ts) e

-- ---- another value

pub skim_mapped : (T A B : Type 0) (f : A → B) (step : Step T A) → skim (and_then step (λ v rest. read (f v) rest)) ≡ skim step
skim_mapped T A B f (read v rest) = refl
skim_mapped T A B f (fault n) = refl

-- ---- a rule, or nothing

module _ (T A : Type 0) (s : Shape) (kind : T → ℕ) (p : Rule T s A) where
  pub skim_there : (ts : List T) → starts kind false s.first ts ≡ true → skim ((optional kind p).reads ts) ≡ skim (p.reads ts)
  skim_there ts e = rw e (skim_mapped T A (Option A) (λ v. Some v) (p.reads ts))

  pub skim_left_out : (ts : List T) → starts kind false s.first ts ≡ false → skim ((optional kind p).reads ts) ≡ Ok ts
  skim_left_out ts e = rw e refl

-- ---- a rule any number of times

module _ (T A : Type 0) (s : Shape) (kind : T → ℕ) (p : Rule T s A) (pl : Lawful kind p) (one : s.empty ≡ false) where
  abbrev all : List T → Step T (List A)
  all ts = (many kind p).reads ts

  abbrev go_on : Step T A → Step T (List A)
  go_on step = and_then step (λ v rest. and_then (all rest) (λ vs last. read (v ∷ vs) last))

  unfolded : (ts : List T) (b : Bool) → starts kind false s.first ts ≡ b → all ts ≡ (if b then go_on (p.reads ts) else read [] ts)
  unfolded ts b e = many_unfolds T A s kind p pl one ts ∙ ap (λ (c : Bool). if c then go_on (p.reads ts) else read [] ts) e

  after_one : (mid : List T) (step : Step T A) → skim step ≡ Ok mid → skim (go_on step) ≡ skim (all mid)
  after_one mid (read v rest) e = let same : rest ≡ mid = cc in skim_mapped T (List A) (List A) (λ vs. v ∷ vs) (all rest) ∙ ap (λ (l : List T). skim (all l)) same
  after_one mid (fault n) e = absurd cc

  after_fault : (n : ℕ) (step : Step T A) → skim step ≡ Err n → skim (go_on step) ≡ Err n
  after_fault n (read v rest) e = absurd cc
  after_fault n (fault m) e = e

  pub skim_more : (ts mid : List T) → starts kind false s.first ts ≡ true → skim (p.reads ts) ≡ Ok mid → skim (all ts) ≡ skim (all mid)
  skim_more ts mid b e = ap skim (unfolded ts true b) ∙ after_one mid (p.reads ts) e

  pub skim_fault : (ts : List T) (n : ℕ) → starts kind false s.first ts ≡ true → skim (p.reads ts) ≡ Err n → skim (all ts) ≡ Err n
  skim_fault ts n b e = ap skim (unfolded ts true b) ∙ after_fault n (p.reads ts) e

  pub skim_none : (ts : List T) → starts kind false s.first ts ≡ false → skim (all ts) ≡ Ok ts
  skim_none ts b = ap skim (unfolded ts false b)

-- ---- something is always read

module _ (T A : Type 0) (s : Shape) (kind : T → ℕ) (p : Rule T s A) (pl : Lawful kind p) (one : s.empty ≡ false) where
  less_left : (ts mid : List T) (step : Step T A) → p.reads ts ≡ step → skim step ≡ Ok mid → length mid < length ts
  less_left ts mid (read v rest) h e =
      let same : rest ≡ mid = cc in
      shorter T A s kind p pl one ts mid v (h ∙ ap (λ (l : List T). read v l) same)
  less_left ts mid (fault n) h e = absurd cc

  pub skim_shorter : (ts mid : List T) → skim (p.reads ts) ≡ Ok mid → length mid < length ts
  skim_shorter ts mid e = less_left ts mid (p.reads ts) refl e

-- ---- one token of a kind that always has a value

module _ (T A : Type 0) (kind : T → ℕ) (k : ℕ) (of : T → Option A) (value : (t : T) → among (kind t) (k ∷ []) ≡ true → (v : A) × (of t ≡ Some v)) where
  taken_alike : (t : T) (ts : List T) (b : Bool) → among (kind t) (k ∷ []) ≡ b → skim (taken b (of t) t ts) ≡ (if b then Ok ts else Err (length (t ∷ ts)))
  taken_alike t ts true e = rw (value t e).1 refl
  taken_alike t ts false e = refl

  pub skim_leaf : (ts : List T) → skim (leaf_reads kind (k ∷ []) of ts) ≡ skim_token kind k ts
  skim_leaf [] = refl
  skim_leaf (t ∷ ts) = taken_alike t ts (among (kind t) (k ∷ [])) refl
