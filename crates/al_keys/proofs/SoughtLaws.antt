-- What is found among the versions of a key.
use Rattle.std.proofs.Common.{◌≡◌, ℕ, ◌+◌, ◌<◌, ◌≤◌, Bool, true, false, cond, not, ◌&&◌, ◌==◌, List, [], ◌∷◌, ◌++◌, length, drop, refl, sym, ap, ◌∙◌, subst, arith, zero, suc, add-one, min, fold, slice_get, slice_set, get_or, eq-eqb, nat_eq, append-nil, append_assoc, Option, Some, None, ◌⊎◌, inl, inr, ⊎_elim}
use Rattle.std.specs.Option.{option_map_or}
use Rattle.std.proofs.lemmas.Bool.{both_ways, and_parts, eqb-true, cases_lt}
use Rattle.std.proofs.lemmas.Option.{none-some, same_Some}
use Rattle.al_xacts.specs.declared.xact.Started.{Started}
use Rattle.al_xacts.specs.Snapshots.{Taken}
use Rattle.al_keys.specs.declared.version.KeyVersion.{KeyVersion}
use Rattle.al_keys.specs.declared.version.Sought.{Sought}
use Rattle.al_keys.specs.declared.version.Sought.TheVariants.{Free, Held, Open}
use Rattle.al_keys.specs.Keys.{last_below, passes, standing, is_standing, left_by, removed}
use Rattle.al_keys.specs.Sought.{verdict, is_taken, is_in_way, lesser_row, least_row, first_of, sought_on, sought, IsAtLeastRow, IsSought, is_visible, IsLeastGiven, IsGiven}

-- ---- the least row

get-push : (xs : List KeyVersion) (y : KeyVersion) (k : ℕ) (x : KeyVersion) → slice_get xs k ≡ Some x → slice_get (xs ++ y ∷ []) k ≡ Some x
get-push [] y k x e = absurd (none-some x e)
get-push (z ∷ xs) y zero x e = e
get-push (z ∷ xs) y (suc k) x e = get-push xs y k x e

get-pushed : (xs : List KeyVersion) (y : KeyVersion) → slice_get (xs ++ y ∷ []) (length xs) ≡ Some y
get-pushed [] y = refl
get-pushed (z ∷ xs) y = get-pushed xs y

push-either : (xs : List KeyVersion) (y : KeyVersion) (k : ℕ) (x : KeyVersion) → slice_get (xs ++ y ∷ []) k ≡ Some x → (slice_get xs k ≡ Some x) ⊎ (y ≡ x)
push-either [] y zero x e = inr (same_Some y x e)
push-either [] y (suc k) x e = absurd (none-some x e)
push-either (z ∷ xs) y zero x e = inl e
push-either (z ∷ xs) y (suc k) x e = push-either xs y k x e

record LeastAt (test : KeyVersion → Bool) (xs : List KeyVersion) (row : ℕ) : Type 0 where
  place : ℕ
  version : KeyVersion
  there : slice_get xs place ≡ Some version
  is_row : version.row ≡ row
  passes : test version ≡ true
  least : (other : ℕ) (behind : KeyVersion) → slice_get xs other ≡ Some behind → test behind ≡ true → row ≤ behind.row

abbrev LeastOf : (KeyVersion → Bool) → List KeyVersion → Option ℕ → Type 0
LeastOf test xs None = (place : ℕ) (version : KeyVersion) → slice_get xs place ≡ Some version → test version ≡ false
LeastOf test xs (Some row) = LeastAt test xs row

least-push_by : (test : KeyVersion → Bool) (xs : List KeyVersion) (y : KeyVersion) (b : Bool) (found : Option ℕ) → test y ≡ b → LeastOf test xs found
    → LeastOf test (xs ++ y ∷ []) (cond b (Some (option_map_or (λ other. min y.row other) found y.row)) found)
least-push_by test xs y true None e h = record {
  place = length xs;
  version = y;
  there = get-pushed xs y;
  is_row = refl;
  passes = e;
  least = λ k v got f. ⊎_elim (λ old. absurd (both_ways (test v) (h k v old) f)) (λ new. subst (λ (w : KeyVersion). y.row ≤ w.row) new (omega arith)) (push-either xs y k v got);
}
least-push_by test xs y true (Some row) e h = ⊎_elim
    (λ (less : y.row < row). record {
      place = length xs;
      version = y;
      there = get-pushed xs y;
      is_row = omega arith;
      passes = e;
      least = λ k v got f. ⊎_elim (λ old. let r = h.least k v old f in omega arith) (λ new. subst (λ (w : KeyVersion). min y.row row ≤ w.row) new (omega arith)) (push-either xs y k v got);
    })
    (λ (more : row ≤ y.row). record {
      place = h.place;
      version = h.version;
      there = get-push xs y h.place h.version h.there;
      is_row = omega (arith, h.is_row);
      passes = h.passes;
      least = λ k v got f. ⊎_elim (λ old. let r = h.least k v old f in omega arith) (λ new. subst (λ (w : KeyVersion). min y.row row ≤ w.row) new (omega arith)) (push-either xs y k v got);
    }) (cases_lt y.row row)
least-push_by test xs y false None e h = λ k v got. ⊎_elim (λ old. h k v old) (λ new. ap test (sym new) ∙ e) (push-either xs y k v got)
least-push_by test xs y false (Some row) e h = record {
  place = h.place;
  version = h.version;
  there = get-push xs y h.place h.version h.there;
  is_row = h.is_row;
  passes = h.passes;
  least = λ k v got f. ⊎_elim (λ old. h.least k v old f) (λ new. absurd (both_ways (test v) (ap test (sym new) ∙ e) f)) (push-either xs y k v got);
}

least-fold : (test : KeyVersion → Bool) (xs ys : List KeyVersion) (found : Option ℕ) → LeastOf test xs found → LeastOf test (xs ++ ys) (fold (lesser_row test) found ys)
least-fold test xs [] found h = rw append-nil h
least-fold test xs (y ∷ ys) found h =
    subst (λ (zs : List KeyVersion). LeastOf test zs (fold (lesser_row test) (lesser_row test found y) ys)) (append_assoc xs (y ∷ []) ys)
    (least-fold test (xs ++ y ∷ []) ys (lesser_row test found y) (least-push_by test xs y (test y) found refl h))

least-all : (test : KeyVersion → Bool) (xs : List KeyVersion) → LeastOf test xs (least_row test xs)
least-all test xs = least-fold test [] xs None (λ k v got. absurd (none-some v got))

-- ---- what a snapshot is given

given_by : (s : Taken) (ts : List Started) (vs : List KeyVersion) (found : Option ℕ) → LeastOf (is_visible s ts) vs found → IsGiven s ts vs found
given_by s ts vs None h = h
given_by s ts vs (Some row) h = record { place = h.place; version = h.version; there = h.there; is_row = h.is_row; seen = h.passes; least = h.least }

pub given-least : (s : Taken) (ts : List Started) (vs : List KeyVersion) (found : Option ℕ) → found ≡ least_row (is_visible s ts) vs → IsGiven s ts vs found
given-least s ts vs found e = subst (IsGiven s ts vs) (sym e) (given_by s ts vs (least_row (is_visible s ts) vs) (least-all (is_visible s ts) vs))

-- ---- what is sought

record FirstAt (ts : List Started) (x row : ℕ) (vs : List KeyVersion) : Type 0 where
  place : ℕ
  version : KeyVersion
  there : slice_get vs place ≡ Some version
  is_row : version.row ≡ row
  taken : is_in_way ts x version ≡ true
  says : first_of ts x row vs ≡ verdict ts x version

first-found : (ts : List Started) (x row : ℕ) (vs : List KeyVersion) (k : ℕ) (v : KeyVersion) → slice_get vs k ≡ Some v → v.row ≡ row → is_in_way ts x v ≡ true → FirstAt ts x row vs
first-found ts x row [] k v got e f = absurd (none-some v got)
first-found ts x row (w ∷ vs) k v got e f = by_test ((w.row == row) && is_in_way ts x w) refl (later k got) (λ j g. first-found ts x row vs j v g e f) where
  later : (k : ℕ) → slice_get (w ∷ vs) k ≡ Some v → (((w.row == row) && is_in_way ts x w) ≡ true) ⊎ ((j : ℕ) × (slice_get vs j ≡ Some v))
  later zero g = let same : w ≡ v = same_Some w v g in inl (subst (λ (u : KeyVersion). ((u.row == row) && is_in_way ts x u) ≡ true) (sym same) (rw (eq-eqb v.row row e) f))
  later (suc j) g = inr (j, g)

  by_test : (b : Bool) → ((w.row == row) && is_in_way ts x w) ≡ b → ((((w.row == row) && is_in_way ts x w) ≡ true) ⊎ ((j : ℕ) × (slice_get vs j ≡ Some v))) → ((j : ℕ) → slice_get vs j ≡ Some v → FirstAt ts x row vs) → FirstAt ts x row (w ∷ vs)
  by_test true h g more =
      let parts = and_parts (w.row == row) (is_in_way ts x w) h in
      record { place = 0; version = w; there = refl; is_row = eqb-true w.row row parts.0; taken = parts.1; says = rw h refl }
  by_test false h g more = ⊎_elim (λ same. absurd (both_ways ((w.row == row) && is_in_way ts x w) h same)) (λ p. behind (more p.0 p.1)) g where
    behind : FirstAt ts x row vs → FirstAt ts x row (w ∷ vs)
    behind r = record { place = suc r.place; version = r.version; there = r.there; is_row = r.is_row; taken = r.taken; says = rw h r.says }

sought-said : (ts : List Started) (x : ℕ) (vs : List KeyVersion) (s : Sought) → is_taken s ≡ true → IsAtLeastRow ts x vs s → IsSought ts x vs s
sought-said ts x vs Free e h = absurd (cc)
sought-said ts x vs (Held row) e h = h
sought-said ts x vs (Open by) e h = h

sought_by : (ts : List Started) (x : ℕ) (vs : List KeyVersion) (found : Option ℕ) → LeastOf (is_in_way ts x) vs found → IsSought ts x vs (sought_on ts x vs found)
sought_by ts x vs None h = h
sought_by ts x vs (Some row) h =
    let first : FirstAt ts x row vs = first-found ts x row vs h.place h.version h.there h.is_row h.passes in
    sought-said ts x vs (first_of ts x row vs) (ap is_taken first.says ∙ first.taken) (record {
      place = first.place;
      version = first.version;
      there = first.there;
      says = sym first.says;
      least = λ k v got f. let r = h.least k v got f in omega (arith, first.is_row);
    })

pub sought-found : (ts : List Started) (x : ℕ) (vs : List KeyVersion) (found : Sought) → found ≡ sought ts x vs → IsSought ts x vs found
sought-found ts x vs found e = subst (IsSought ts x vs) (sym e) (sought_by ts x vs (least_row (is_in_way ts x) vs) (least-all (is_in_way ts x) vs))

-- ---- loops

pub place-below : (test : KeyVersion → Bool) (vs : List KeyVersion) (k p : ℕ) → last_below test vs k ≡ Some p → p < k
place-below test vs zero p e = absurd (none-some p e)
place-below test vs (suc k) p e = by_test (passes test (slice_get vs k)) (place-below test vs k p) e where
  by_test : (b : Bool) → (last_below test vs k ≡ Some p → p < k) → cond b (Some k) (last_below test vs k) ≡ Some p → p < suc k
  by_test true more h = let same : k ≡ p = same_Some k p h in omega arith
  by_test false more h = omega (arith, more h)

-- a version that doesn't pass is passed over
pub last-step : (test : KeyVersion → Bool) (vs : List KeyVersion) (end k : ℕ) (v : KeyVersion) → end ≡ k + 1 → slice_get vs k ≡ Some v → test v ≡ false → last_below test vs end ≡ last_below test vs k
last-step test vs end k v e got fails = ap (last_below test vs) (e ∙ add-one k) ∙ rw (got, fails) refl

pub last-here : (test : KeyVersion → Bool) (vs : List KeyVersion) (end k : ℕ) (v : KeyVersion) → end ≡ k + 1 → slice_get vs k ≡ Some v → test v ≡ true → last_below test vs end ≡ Some k
last-here test vs end k v e got passes = ap (last_below test vs) (e ∙ add-one k) ∙ rw (got, passes) refl

-- what a removal leaves
pub left-said : (ts : List Started) (x row : ℕ) (vs : List KeyVersion) (p : ℕ) (v : KeyVersion) → standing ts vs row ≡ Some p → slice_get vs p ≡ Some v → left_by ts x row vs ≡ slice_set vs p (removed x v)
left-said ts x row vs p v e got = rw (e, got) refl
