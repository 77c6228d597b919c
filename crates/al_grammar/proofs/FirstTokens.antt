-- Lists of kinds.
use Rattle.std.proofs.Common.{◌≡◌, ℕ, Bool, true, false, List, [], ◌∷◌, ◌++◌, refl, sym, subst}
use Rattle.std.specs.Prelude.{◌||◌, ◌&&◌, not, ◌==◌}
use Rattle.std.proofs.lemmas.Bool.{eqb-true}
use Rattle.al_grammar.specs.Kinds.{among, apart, within, starts}

pub clash : {b : Bool} → b ≡ true → b ≡ false → ⊥
clash t f = cc

-- what two tests give
pub and_left : (a b : Bool) → (a && b) ≡ true → a ≡ true
and_left true b e = refl
and_left false b e = e

pub and_right : (a b : Bool) → (a && b) ≡ true → b ≡ true
and_right true b e = e
and_right false b e = absurd (clash e refl)

pub or_cases : (a b : Bool) (C : Type 0) → (a || b) ≡ true → (a ≡ true → C) → (b ≡ true → C) → C
or_cases true b C e l r = l refl
or_cases false b C e l r = r e

pub or_left_false : (a b : Bool) → (a || b) ≡ false → a ≡ false
or_left_false true b e = e
or_left_false false b e = refl

pub or_right_false : (a b : Bool) → (a || b) ≡ false → b ≡ false
or_right_false true b e = absurd (clash refl e)
or_right_false false b e = e

not_true : (a : Bool) → not a ≡ true → a ≡ false
not_true true e = absurd (clash e refl)
not_true false e = refl

pub not_in_both : (n : ℕ) (ns ms : List ℕ) → apart ns ms ≡ true → among n ns ≡ true → among n ms ≡ false
not_in_both n [] ms a e = absurd (clash e refl)
not_in_both n (m ∷ ns) ms a e =
    or_cases (n == m) (among n ns) _ e
    (λ h. let same : n ≡ m = eqb-true n m h in subst (λ (k : ℕ). among k ms ≡ false) (sym same) (not_true _ (and_left _ _ a)))
    (λ h. not_in_both n ns ms (and_right _ _ a) h)

pub not_in_first : (n : ℕ) (ns ms : List ℕ) → apart ns ms ≡ true → among n ms ≡ true → among n ns ≡ false
not_in_first n ns ms a e = by_test (among n ns) refl
  where
    by_test : (b : Bool) → among n ns ≡ b → among n ns ≡ false
    by_test true h = absurd (clash e (not_in_both n ns ms a h))
    by_test false h = h

-- a kind of a list that stands within another
pub in_within : (n : ℕ) (ns ms : List ℕ) → within ns ms ≡ true → among n ns ≡ true → among n ms ≡ true
in_within n [] ms w e = absurd (clash e refl)
in_within n (m ∷ ns) ms w e =
    or_cases (n == m) (among n ns) _ e
    (λ h. let same : n ≡ m = eqb-true n m h in subst (λ (k : ℕ). among k ms ≡ true) (sym same) (and_left _ _ w))
    (λ h. in_within n ns ms (and_right _ _ w) h)

pub not_within : (n : ℕ) (ns ms : List ℕ) → within ns ms ≡ true → among n ms ≡ false → among n ns ≡ false
not_within n ns ms w e = by_test (among n ns) refl
  where
    by_test : (b : Bool) → among n ns ≡ b → among n ns ≡ false
    by_test true h = absurd (clash (in_within n ns ms w h) e)
    by_test false h = h

-- a kind in neither of two lists
pub in_neither : (n : ℕ) (ns ms : List ℕ) → among n (ns ++ ms) ≡ false → (among n ns ≡ false) × (among n ms ≡ false)
in_neither n [] ms e = (refl, e)
in_neither n (m ∷ ns) ms e =
    let l = or_left_false (n == m) _ e in
    let r = in_neither n ns ms (or_right_false (n == m) _ e) in
    (rw l r.0, r.1)

pub in_first : (n : ℕ) (ns ms : List ℕ) → among n ns ≡ true → among n (ns ++ ms) ≡ true
in_first n [] ms e = absurd (clash e refl)
in_first n (m ∷ ns) ms e = or_cases (n == m) (among n ns) _ e (λ h. rw h refl) (λ h. by_rest (n == m) _ (in_first n ns ms h))
  where
    by_rest : (a b : Bool) → b ≡ true → (a || b) ≡ true
    by_rest true b e = refl
    by_rest false b e = e

pub in_second : (n : ℕ) (ns ms : List ℕ) → among n ms ≡ true → among n (ns ++ ms) ≡ true
in_second n [] ms e = e
in_second n (m ∷ ns) ms e = by_rest (n == m) _ (in_second n ns ms e)
  where
    by_rest : (a b : Bool) → b ≡ true → (a || b) ≡ true
    by_rest true b e = refl
    by_rest false b e = e

-- ---- the first token

module _ (T : Type 0) (kind : T → ℕ) where
  -- what begins with one list begins with no list apart from it
  pub starts_apart : (ns ms : List ℕ) (ts : List T) → apart ns ms ≡ true → starts kind false ns ts ≡ true → starts kind false ms ts ≡ false
  starts_apart ns ms [] a e = refl
  starts_apart ns ms (t ∷ ts) a e = not_in_both (kind t) ns ms a e

  pub starts_neither : (ns ms : List ℕ) (ts : List T) → starts kind false (ns ++ ms) ts ≡ false → (starts kind false ns ts ≡ false) × (starts kind false ms ts ≡ false)
  starts_neither ns ms [] e = (refl, refl)
  starts_neither ns ms (t ∷ ts) e = in_neither (kind t) ns ms e

  pub starts_first : (ns ms : List ℕ) (ts : List T) → starts kind false ns ts ≡ true → starts kind false (ns ++ ms) ts ≡ true
  starts_first ns ms [] e = e
  starts_first ns ms (t ∷ ts) e = in_first (kind t) ns ms e

  pub starts_second : (ns ms : List ℕ) (ts : List T) → starts kind false ms ts ≡ true → starts kind false (ns ++ ms) ts ≡ true
  starts_second ns ms [] e = e
  starts_second ns ms (t ∷ ts) e = in_second (kind t) ns ms e

  -- the first token decides, whatever follows
  pub starts_alike : (ns : List ℕ) (used : List T) (x : T) (r s : List T) → starts kind false ns (used ++ x ∷ r) ≡ starts kind false ns (used ++ x ∷ s)
  starts_alike ns [] x r s = refl
  starts_alike ns (t ∷ used) x r s = refl

  -- what begins a text that isn't empty begins it and more
  pub starts_more : (ns : List ℕ) (text rest : List T) → starts kind false ns text ≡ true → starts kind false ns (text ++ rest) ≡ true
  starts_more ns [] rest e = absurd (clash e refl)
  starts_more ns (t ∷ ts) rest e = e
