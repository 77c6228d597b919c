-- A repetition that code reads by a loop: one more, a fault, and the end.
use Rattle.std.proofs.Common.{◌≡◌, ℕ, true, false, List, [], ◌∷◌, ◌++◌, refl, sym, ap, append_assoc, append-nil}
use Rattle.al_grammar.specs.Kinds.{apart, starts}
use Rattle.al_grammar.specs.Rules.{Shape, Step, read, fault, Rule, and_then, many, both, next_item, listed}
use Rattle.al_grammar.specs.Gives.{fold_from, many_from}
use Rattle.al_grammar.specs.Laws.{Lawful}
use Rattle.al_grammar.proofs.Pair.{lawful_pair}
use Rattle.al_grammar.proofs.Many.{many_unfolds, lawful_many}

module _ (T A B : Type 0) (s : Shape) (kind : T → ℕ) (q : Rule T s A) (ql : Lawful kind q) (one : s.empty ≡ false)
    (f : B → List A → B) (more : B → A → B) (nil : (x : B) → f x [] ≡ x) (cons : (x : B) (v : A) (vs : List A) → f x (v ∷ vs) ≡ f (more x v) vs) where
  abbrev folds : B → Step T (List A) → Step T B
  folds x step = and_then step (λ vs last. read (f x vs) last)

  one_folded : (x : B) (v : A) (step : Step T (List A)) → folds x (and_then step (λ vs last. read (v ∷ vs) last)) ≡ folds (more x v) step
  one_folded x v (read vs last) = ap (λ (w : B). read w last) (cons x v vs)
  one_folded x v (fault n) = refl

  pub fold_on : (x : B) (v : A) (ts mid : List T) → starts kind false s.first ts ≡ true → q.reads ts ≡ read v mid → fold_from kind f q x ts ≡ fold_from kind f q (more x v) mid
  fold_on x v ts mid h e =
      let whole = many_unfolds T A s kind q ql one ts in
      rw (whole, h, e) (one_folded x v ((many kind q).reads mid))

  pub fold_off : (x : B) (ts : List T) (n : ℕ) → starts kind false s.first ts ≡ true → q.reads ts ≡ fault n → fold_from kind f q x ts ≡ fault n
  fold_off x ts n h e =
      let whole = many_unfolds T A s kind q ql one ts in
      rw (whole, h, e) refl

  pub fold_stop : (x : B) (ts : List T) → starts kind false s.first ts ≡ false → fold_from kind f q x ts ≡ read x ts
  fold_stop x ts h =
      let whole = many_unfolds T A s kind q ql one ts in
      rw (whole, h) (ap (λ (w : B). read w ts) (nil x))

-- the same for a list
module _ (T A : Type 0) (s : Shape) (kind : T → ℕ) (q : Rule T s A) (ql : Lawful kind q) (one : s.empty ≡ false) where
  abbrev behind : List A → List A → List A
  behind xs vs = xs ++ vs

  abbrev with_last : List A → A → List A
  with_last xs v = xs ++ v ∷ []

  one_behind : (xs : List A) (v : A) (vs : List A) → xs ++ v ∷ vs ≡ (xs ++ v ∷ []) ++ vs
  one_behind xs v vs = sym (append_assoc xs (v ∷ []) vs)

  pub many_on : (xs : List A) (v : A) (ts mid : List T) → starts kind false s.first ts ≡ true → q.reads ts ≡ read v mid → many_from kind q xs ts ≡ many_from kind q (xs ++ v ∷ []) mid
  many_on = fold_on T A (List A) s kind q ql one behind with_last append-nil one_behind

  pub many_off : (xs : List A) (ts : List T) (n : ℕ) → starts kind false s.first ts ≡ true → q.reads ts ≡ fault n → many_from kind q xs ts ≡ fault n
  many_off = fold_off T A (List A) s kind q ql one behind with_last append-nil one_behind

  pub many_stop : (xs : List A) (ts : List T) → starts kind false s.first ts ≡ false → many_from kind q xs ts ≡ read xs ts
  many_stop = fold_stop T A (List A) s kind q ql one behind with_last append-nil one_behind

-- lists are lawful
module _ (T A O : Type 0) (c s : Shape) (kind : T → ℕ) (comma : Rule T c O) (p : Rule T s A) (cl : Lawful kind comma) (pl : Lawful kind p)
    (one : (both c s).empty ≡ false) (ok : apart c.after s.first ≡ true) (again : apart (both c s).after (both c s).first ≡ true) (onto : apart s.after (both c s).first ≡ true) where
  pub lawful_next : Lawful kind (next_item comma p)
  lawful_next = lawful_pair T O A A c s kind comma p (λ o x. x) cl pl ok

  pub lawful_listed : Lawful kind (listed kind comma p)
  lawful_listed = lawful_pair T A (List A) (List A) s _ kind p (many kind (next_item comma p)) (λ x xs. x ∷ xs) pl (lawful_many T A (both c s) kind (next_item comma p) lawful_next one again) onto
