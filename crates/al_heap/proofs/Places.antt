-- Where the last version stands that passes a test.
use Rattle.std.proofs.Common.{◌≡◌, ℕ, ◌+◌, ◌<◌, ◌≤◌, ◌^◌, Bool, true, false, cond, not, ◌&&◌, List, [], ◌∷◌, ◌++◌, length, refl, sym, ap, ◌∙◌, subst, arith, nat_eq, slice_get, slice_set, Option, Some, None, zero, suc, length-append, eq-eqb, ◌⊎◌, ⊎_elim, get_or}
use Rattle.std.proofs.Math.ListN.{length-set}
use Rattle.std.specs.Map.{lookup}
use Rattle.std.proofs.lemmas.Bool.{and_parts, both_ways, eqb-true, cases_eq, cases_lt}
use Rattle.std.proofs.lemmas.Option.{none-some, same_Some, slice_get_within, get_or_from_slice_get}
use Rattle.al_xacts.specs.declared.xact.Started.{Started}
use Rattle.al_xacts.specs.Fates.{fate_at, is_aborted}
use Rattle.al_heap.specs.declared.version.Stored.{Stored}
use Rattle.al_heap.specs.Versions.{passes, last_below, is_of, is_standing, newest, standing}
use Rattle.al_heap.specs.Kept.{IsLinked, IsKept}

-- ---- items of lists

get-set_same : {X : Type 0} (xs : List X) (k : ℕ) (x y : X) → slice_get xs k ≡ Some x → slice_get (slice_set xs k y) k ≡ Some y
get-set_same [] k x y e = absurd (none-some x e)
get-set_same (z ∷ xs) zero x y e = refl
get-set_same (z ∷ xs) (suc k) x y e = get-set_same xs k x y e

get-set_other : {X : Type 0} (xs : List X) (k j : ℕ) (y : X) → (j ≡ k → ⊥) → slice_get (slice_set xs k y) j ≡ slice_get xs j
get-set_other [] k j y differ = refl
get-set_other (z ∷ xs) zero zero y differ = absurd (differ refl)
get-set_other (z ∷ xs) zero (suc j) y differ = refl
get-set_other (z ∷ xs) (suc k) zero y differ = refl
get-set_other (z ∷ xs) (suc k) (suc j) y differ = get-set_other xs k j y (λ e. differ (ap suc e))

get-push : {X : Type 0} (xs : List X) (y : X) (k : ℕ) → k < length xs → slice_get (xs ++ y ∷ []) k ≡ slice_get xs k
get-push [] y k h = absurd (omega arith)
get-push (z ∷ xs) y zero h = refl
get-push (z ∷ xs) y (suc k) h = get-push xs y k (omega arith)

pub get-pushed : {X : Type 0} (xs : List X) (y : X) → slice_get (xs ++ y ∷ []) (length xs) ≡ Some y
get-pushed [] y = refl
get-pushed (z ∷ xs) y = get-pushed xs y

get-past : {X : Type 0} (xs : List X) (y : X) (k : ℕ) → length xs < k → slice_get (xs ++ y ∷ []) k ≡ None
get-past [] y zero h = absurd (omega arith)
get-past [] y (suc k) h = refl
get-past (z ∷ xs) y zero h = absurd (omega arith)
get-past (z ∷ xs) y (suc k) h = get-past xs y k (omega arith)

-- ---- the last place

pub place-below : (test : Stored → Bool) (vs : List Stored) (k p : ℕ) → last_below test vs k ≡ Some p → p < k
place-below test vs zero p e = absurd (none-some p e)
place-below test vs (suc k) p e = by_test (passes test (slice_get vs k)) (place-below test vs k p) e where
  by_test : (b : Bool) → (last_below test vs k ≡ Some p → p < k) → cond b (Some k) (last_below test vs k) ≡ Some p → p < suc k
  by_test true more h = let same : k ≡ p = same_Some k p h in omega arith
  by_test false more h = omega (arith, more h)

-- fewer versions pass: none, or none behind the last place of the others
none-few : (few all : Stored → Bool) → ((v : Stored) → few v ≡ true → all v ≡ true) → (vs : List Stored) (k : ℕ) → last_below all vs k ≡ None → last_below few vs k ≡ None
none-few few all sub vs zero e = refl
none-few few all sub vs (suc k) e = by_found (slice_get vs k) (none-few few all sub vs k) e where
  by_pass : (v : Stored) (a b : Bool) → all v ≡ a → few v ≡ b → (last_below all vs k ≡ None → last_below few vs k ≡ None)
      → cond a (Some k) (last_below all vs k) ≡ None → cond b (Some k) (last_below few vs k) ≡ None
  by_pass v true b e f more h = absurd (none-some k (sym h))
  by_pass v false true e f more h = absurd (both_ways (all v) e (sub v f))
  by_pass v false false e f more h = more h

  by_found : (o : Option Stored) → (last_below all vs k ≡ None → last_below few vs k ≡ None) → cond (passes all o) (Some k) (last_below all vs k) ≡ None → cond (passes few o) (Some k) (last_below few vs k) ≡ None
  by_found None more h = more h
  by_found (Some v) more h = by_pass v (all v) (few v) refl refl more h

skip-few : (few all : Stored → Bool) → ((v : Stored) → few v ≡ true → all v ≡ true) → (vs : List Stored) (k p : ℕ) → last_below all vs k ≡ Some p → last_below few vs k ≡ last_below few vs (suc p)
skip-few few all sub vs zero p e = absurd (none-some p e)
skip-few few all sub vs (suc k) p e = by_found (slice_get vs k) refl (skip-few few all sub vs k p) e where
  by_pass : (v : Stored) (a b : Bool) → slice_get vs k ≡ Some v → all v ≡ a → few v ≡ b → (last_below all vs k ≡ Some p → last_below few vs k ≡ last_below few vs (suc p))
      → cond a (Some k) (last_below all vs k) ≡ Some p → cond b (Some k) (last_below few vs k) ≡ last_below few vs (suc p)
  by_pass v true b g e f more h = subst (λ (n : ℕ). cond b (Some k) (last_below few vs k) ≡ last_below few vs (suc n)) (same_Some k p h) (sym (rw (g, f) refl))
  by_pass v false true g e f more h = absurd (both_ways (all v) e (sub v f))
  by_pass v false false g e f more h = more h

  by_found : (o : Option Stored) → slice_get vs k ≡ o → (last_below all vs k ≡ Some p → last_below few vs k ≡ last_below few vs (suc p))
      → cond (passes all o) (Some k) (last_below all vs k) ≡ Some p → cond (passes few o) (Some k) (last_below few vs k) ≡ last_below few vs (suc p)
  by_found None g more h = more h
  by_found (Some v) g more h = by_pass v (all v) (few v) g refl refl more h

standing-of : (ts : List Started) (row : ℕ) (v : Stored) → is_standing ts row v ≡ true → is_of row v ≡ true
standing-of ts row v e = (and_parts (is_of row v) _ e).0

pub standing-none : (ts : List Started) (row : ℕ) (vs : List Stored) (k : ℕ) → last_below (is_of row) vs k ≡ None → last_below (is_standing ts row) vs k ≡ None
standing-none ts row vs k e = none-few (is_standing ts row) (is_of row) (standing-of ts row) vs k e

pub standing-skip : (ts : List Started) (row : ℕ) (vs : List Stored) (k p : ℕ) → last_below (is_of row) vs k ≡ Some p → last_below (is_standing ts row) vs k ≡ last_below (is_standing ts row) vs (suc p)
standing-skip ts row vs k p e = skip-few (is_standing ts row) (is_of row) (standing-of ts row) vs k p e

-- what stands at the last place passes
pub place-passes : (test : Stored → Bool) (vs : List Stored) (k p : ℕ) → last_below test vs k ≡ Some p → passes test (slice_get vs p) ≡ true
place-passes test vs zero p e = absurd (none-some p e)
place-passes test vs (suc k) p e = by_test (passes test (slice_get vs k)) refl (place-passes test vs k p) e where
  by_test : (b : Bool) → passes test (slice_get vs k) ≡ b → (last_below test vs k ≡ Some p → passes test (slice_get vs p) ≡ true) → cond b (Some k) (last_below test vs k) ≡ Some p → passes test (slice_get vs p) ≡ true
  by_test true f more h = subst (λ (n : ℕ). passes test (slice_get vs n) ≡ true) (same_Some k p h) f
  by_test false f more h = more h

-- a version more at the end
pub last-push : (test : Stored → Bool) (vs : List Stored) (v : Stored) (k : ℕ) → k ≤ length vs → last_below test (vs ++ v ∷ []) k ≡ last_below test vs k
last-push test vs v zero h = refl
last-push test vs v (suc k) h = rw (get-push vs v k (omega arith), last-push test vs v k (omega arith)) refl

-- a version that passes the tests as before
last-set : (test : Stored → Bool) (vs : List Stored) (p : ℕ) (v w : Stored) → slice_get vs p ≡ Some v → test w ≡ test v → (k : ℕ) → last_below test (slice_set vs p w) k ≡ last_below test vs k
last-set test vs p v w got same zero = refl
last-set test vs p v w got same (suc k) = rw (last-set test vs p v w got same k) (ap (λ (b : Bool). cond b (Some k) (last_below test vs k)) (by_place (cases_eq k p))) where
  by_place : (k ≡ p) ⊎ (k ≡ p → ⊥) → passes test (slice_get (slice_set vs p w) k) ≡ passes test (slice_get vs k)
  by_place h = ⊎_elim (λ e. subst (λ (n : ℕ). passes test (slice_get (slice_set vs p w) n) ≡ passes test (slice_get vs n)) (sym e) (rw (get-set_same vs p v w got, got) same)) (λ differ. rw (get-set_other vs p k w differ) refl) h

-- ---- what is kept beside the versions

pub kept-pushed : (vs more : List Stored) (es links : List (Option ℕ)) (rs after : List (ℕ × ℕ)) (v : Stored) (before : Option ℕ) → IsKept vs es rs → (length vs + 1 ≡ 2 ^ 32 → ⊥)
    → more ≡ vs ++ v ∷ [] → before ≡ newest vs v.row → links ≡ es ++ before ∷ [] → ((row : ℕ) → lookup (nat_eq row) after ≡ cond (nat_eq v.row row) (Some (length vs)) (lookup (nat_eq row) rs))
    → IsKept more links after
kept-pushed vs more es links rs after v before kept room p q r found = rw (p, r) (record {
  few = omega (arith, length-append vs (v ∷ []), kept.few);
  each = omega (arith, length-append es (before ∷ []), length-append vs (v ∷ []), kept.each);
  linked = λ place w got. by_place place w got (cases_lt place (length vs));
  found = λ row. found row ∙ newest_row row;
}) where
  newest_row : (row : ℕ) → cond (nat_eq v.row row) (Some (length vs)) (lookup (nat_eq row) rs) ≡ newest (vs ++ v ∷ []) row
  newest_row row = rw (length-push, get-pushed vs v, last-push (is_of row) vs v (length vs) (omega arith), kept.found row) refl where
    length-push : length (vs ++ v ∷ []) ≡ suc (length vs)
    length-push = length-append vs (v ∷ []) ∙ (omega arith)

  by_place : (place : ℕ) (w : Stored) → slice_get (vs ++ v ∷ []) place ≡ Some w → (place < length vs) ⊎ (length vs ≤ place) → slice_get (es ++ before ∷ []) place ≡ Some (last_below (is_of w.row) (vs ++ v ∷ []) place)
  by_place place w got h = ⊎_elim
      (λ below. rw (get-push es before place (omega (arith, kept.each)), last-push (is_of w.row) vs v place (omega arith)) (kept.linked place w (sym (get-push vs v place below) ∙ got)))
      (λ above. ⊎_elim (λ e. at_end place w e got) (λ differ. absurd (none-some w (sym (get-past vs v place (omega arith)) ∙ got))) (cases_eq place (length vs))) h where
        at_end : (place : ℕ) (w : Stored) → place ≡ length vs → slice_get (vs ++ v ∷ []) place ≡ Some w → slice_get (es ++ before ∷ []) place ≡ Some (last_below (is_of w.row) (vs ++ v ∷ []) place)
        at_end place w e got = rw (e, last-push (is_of w.row) vs v (length vs) (omega arith)) (rw (← kept.each) (get-pushed es before) ∙ ap Some (q ∙ ap (λ (u : Stored). newest vs u.row) same)) where
          same : v ≡ w
          same = same_Some v w (sym (get-pushed vs v) ∙ subst (λ (n : ℕ). slice_get (vs ++ v ∷ []) n ≡ Some w) e got)

pub kept-set : (vs : List Stored) (es : List (Option ℕ)) (rs : List (ℕ × ℕ)) (p : ℕ) (v w : Stored) → slice_get vs p ≡ Some v → w.row ≡ v.row → IsKept vs es rs → IsKept (slice_set vs p w) es rs
kept-set vs es rs p v w got same kept = record {
  few = omega (arith, length-set vs p w, kept.few);
  each = kept.each ∙ sym (length-set vs p w);
  linked = λ place u at. by_place place u at (cases_eq place p);
  found = λ row. kept.found row ∙ ap (λ (n : ℕ). last_below (is_of row) vs n) (sym (length-set vs p w)) ∙ sym (last row (length (slice_set vs p w)));
} where
  last : (row k : ℕ) → last_below (is_of row) (slice_set vs p w) k ≡ last_below (is_of row) vs k
  last row k = last-set (is_of row) vs p v w got (ap (λ (n : ℕ). nat_eq n row) same) k

  by_place : (place : ℕ) (u : Stored) → slice_get (slice_set vs p w) place ≡ Some u → (place ≡ p) ⊎ (place ≡ p → ⊥) → slice_get es place ≡ Some (last_below (is_of u.row) (slice_set vs p w) place)
  by_place place u at h = ⊎_elim
      (λ e. rw (last u.row place) (kept.linked place v (ap (slice_get vs) e ∙ got) ∙ ap (λ (n : ℕ). Some (last_below (is_of n) vs place)) (sym same ∙ ap (λ (s : Stored). s.row) (same_Some w u (sym (get-set_same vs p v w got) ∙ subst (λ (n : ℕ). slice_get (slice_set vs p w) n ≡ Some u) e at)))))
      (λ differ. rw (last u.row place) (kept.linked place u (sym (get-set_other vs p place w differ) ∙ at))) h

-- ---- from a row's newest version back

-- what is left to go through: the versions below a place, of which this is the row's last
pub record Sought (ts : List Started) (vs : List Stored) (row : ℕ) (at : Option ℕ) : Type 0 where
  pub end : ℕ
  pub within : end ≤ length vs
  pub last : at ≡ last_below (is_of row) vs end
  pub rest : standing ts vs row ≡ last_below (is_standing ts row) vs end

pub sought-first : (ts : List Started) (vs : List Stored) (row : ℕ) (at : Option ℕ) → at ≡ newest vs row → Sought ts vs row at
sought-first ts vs row at e = record { end = length vs; within = omega arith; last = e; rest = refl }

pub sought-within : (ts : List Started) (vs : List Stored) (row : ℕ) (at : Option ℕ) (p : ℕ) → Sought ts vs row at → at ≡ Some p → p < length vs
sought-within ts vs row at p h e = omega (arith, place-below (is_of row) vs h.end p (sym h.last ∙ e), h.within)

sought-row : (ts : List Started) (vs : List Stored) (row : ℕ) (at : Option ℕ) (p : ℕ) (v : Stored) → Sought ts vs row at → at ≡ Some p → slice_get vs p ≡ Some v → is_of row v ≡ true
sought-row ts vs row at p v h e got = ap (passes (is_of row)) (sym got) ∙ place-passes (is_of row) vs h.end p (sym h.last ∙ e)

pub sought-found : (ts : List Started) (vs : List Stored) (row : ℕ) (at : Option ℕ) (p : ℕ) (v : Stored) → Sought ts vs row at → at ≡ Some p → slice_get vs p ≡ Some v → is_aborted (fate_at ts v.maker) ≡ false
    → Some p ≡ standing ts vs row
sought-found ts vs row at p v h e got stands =
    sym (h.rest ∙ standing-skip ts row vs h.end p (sym h.last ∙ e) ∙ rw (got, sought-row ts vs row at p v h e got, stands) refl)

pub sought-on : (ts : List Started) (vs : List Stored) (row : ℕ) (at : Option ℕ) (p : ℕ) (v : Stored) (next : Option ℕ) → Sought ts vs row at → at ≡ Some p → slice_get vs p ≡ Some v → is_aborted (fate_at ts v.maker) ≡ true
    → next ≡ last_below (is_of v.row) vs p → Sought ts vs row next
sought-on ts vs row at p v next h e got gone f = record {
  end = p;
  within = let below : p < length vs = sought-within ts vs row at p h e in omega arith;
  last = f ∙ ap (λ (n : ℕ). last_below (is_of n) vs p) (eqb-true v.row row (sought-row ts vs row at p v h e got));
  rest = h.rest ∙ standing-skip ts row vs h.end p (sym h.last ∙ e) ∙ rw (got, sought-row ts vs row at p v h e got, gone) refl;
}

pub sought-none : (ts : List Started) (vs : List Stored) (row : ℕ) (at : Option ℕ) → Sought ts vs row at → at ≡ None → None ≡ standing ts vs row
sought-none ts vs row at h e = sym (h.rest ∙ standing-none ts row vs h.end (sym h.last ∙ e))

-- the way that is left
abbrev pub left : Option ℕ → ℕ
left None = 0
left (Some p) = p + 1

pub left-falls : (test : Stored → Bool) (vs : List Stored) (p : ℕ) (next : Option ℕ) → next ≡ last_below test vs p → left next < p + 1
left-falls test vs p None e = omega arith
left-falls test vs p (Some q) e = omega (arith, place-below test vs p q (sym e))

pub place-within : (test : Stored → Bool) (vs : List Stored) (p : ℕ) → last_below test vs (length vs) ≡ Some p → p < length vs
place-within test vs p e = place-below test vs (length vs) p e

pub linked-at : (vs : List Stored) (es : List (Option ℕ)) (p : ℕ) (v : Stored) → IsLinked vs es → slice_get vs p ≡ Some v → (p < length es) × (get_or es p None ≡ last_below (is_of v.row) vs p)
linked-at vs es p v linked got = let e = linked p v got in (slice_get_within es p _ e, get_or_from_slice_get es p _ None e)
