-- What is read piece by piece is what is read at once.
use Rattle.std.proofs.Common.{◌≡◌, ℕ, ◌+◌, ◌-◌, ◌<◌, ◌≤◌, zero, suc, List, [], ◌∷◌, ◌++◌, length, take, refl, sym, ap, ◌∙◌, subst, arith, slice_get, Option, Some, None, IfSome, Result, Ok, add-one, ⊎_elim, nat_lt, if◌then◌else◌, min, max}
use Rattle.std.proofs.lemmas.Bool.{cases_lt, lt-ltb, le-ltb}
use Rattle.std.proofs.lemmas.Option.{none-some}
use Rattle.al_values.specs.declared.scalar.Value.{Value}
use Rattle.al_xacts.specs.declared.xact.Started.{Started}
use Rattle.al_xacts.specs.Snapshots.{Taken}
use Rattle.al_heap.specs.declared.version.Stored.{Stored}
use Rattle.al_query.specs.declared.origin.Origin.{Origin}
use Rattle.al_query.specs.declared.reading.Read.{Read}
use Rattle.al_query.specs.declared.reading.Read.TheVariants.{More, Done}
use Rattle.al_query.specs.Rows.{with_version, with_rows, rows_seen}
use Rattle.al_query.specs.Progress.{Progress, between, read_to, piece_end, HasRead}

same_Some : {X : Type 0} (x y : X) → Some x ≡ Some y → x ≡ y
same_Some x y e = cc

pub with_rows_append : (origins : List Origin) (snapshot : Taken) (ts : List Started) (found : List (ℕ × List Value)) (xs ys : List Stored)
    → with_rows origins snapshot ts found (xs ++ ys) ≡ with_rows origins snapshot ts (with_rows origins snapshot ts found xs) ys
with_rows_append origins snapshot ts found [] ys = refl
with_rows_append origins snapshot ts found (x ∷ xs) ys = with_rows_append origins snapshot ts (with_version origins snapshot ts found x) xs ys

-- a version more
more : (vs : List Stored) (from to : ℕ) (v : Stored) → from ≤ to → slice_get vs to ≡ Some v → between vs from (suc to) ≡ between vs from to ++ v ∷ []
more [] from to v h e = absurd (none-some v e)
more (w ∷ vs) zero zero v h e = ap (λ (u : Stored). u ∷ []) (same_Some w v e)
more (w ∷ vs) zero (suc to) v h e = ap (λ (us : List Stored). w ∷ us) (more vs zero to v (omega arith) e)
more (w ∷ vs) (suc from) zero v h e = absurd (omega arith)
more (w ∷ vs) (suc from) (suc to) v h e = more vs from to v (omega arith) e

pub between-more : (vs : List Stored) (from to : ℕ) (v : Stored) → from ≤ to → slice_get vs to ≡ Some v → between vs from (to + 1) ≡ between vs from to ++ v ∷ []
between-more vs from to v h e = subst (λ (n : ℕ). between vs from n ≡ between vs from to ++ v ∷ []) (sym (add-one to)) (more vs from to v h e)

-- none yet
pub between-none : (vs : List Stored) (at : ℕ) → between vs at at ≡ []
between-none [] zero = refl
between-none [] (suc at) = refl
between-none (v ∷ vs) zero = refl
between-none (v ∷ vs) (suc at) = between-none vs at

take-parts : (vs : List Stored) (from to : ℕ) → from ≤ to → take to vs ≡ take from vs ++ between vs from to
take-parts vs zero to h = refl
take-parts vs (suc from) zero h = absurd (omega arith)
take-parts [] (suc from) (suc to) h = refl
take-parts (v ∷ vs) (suc from) (suc to) h = ap (λ (us : List Stored). v ∷ us) (take-parts vs from to (omega arith))

pub found-more : (vs : List Stored) (ts : List Started) (r : Progress) (to : ℕ) (v : Stored) → r.place ≤ to → slice_get vs to ≡ Some v
    → with_version r.origins r.snapshot ts (with_rows r.origins r.snapshot ts r.found (between vs r.place to)) v ≡ with_rows r.origins r.snapshot ts r.found (between vs r.place (to + 1))
found-more vs ts r to v h e =
    sym (ap (with_rows r.origins r.snapshot ts r.found) (between-more vs r.place to v h e) ∙ with_rows_append r.origins r.snapshot ts r.found (between vs r.place to) (v ∷ []))

-- a version more, and all else stays
pub read-more : (vs : List Stored) (ts : List Started) (old now new : Progress) (v : Stored) → now ≡ read_to vs ts now.place old → old.place ≤ now.place → slice_get vs now.place ≡ Some v
    → new ≡ record now { found = with_version now.origins now.snapshot ts now.found v; place = now.place + 1 } → new ≡ read_to vs ts (now.place + 1) old
read-more vs ts old now new v is h got e =
    e ∙ ap (λ (r : Progress). record r { found = with_version r.origins r.snapshot ts r.found v; place = now.place + 1 }) is
    ∙ ap (λ (rows : List (ℕ × List Value)). record old { found = rows; place = now.place + 1 }) (found-more vs ts old now.place v h got)

-- all that was read is found
pub read-whole : (vs : List Stored) (ts : List Started) (old new : Progress) (to : ℕ) → new ≡ read_to vs ts to old → old.place ≤ to → to ≤ length vs → HasRead vs ts old → HasRead vs ts new
read-whole vs ts old new to e h within read = subst (HasRead vs ts) (sym e) (record {
  within = within;
  found = ap (λ (rows : List (ℕ × List Value)). with_rows old.origins old.snapshot ts rows (between vs old.place to)) read.found
      ∙ sym (ap (with_rows old.origins old.snapshot ts []) (take-parts vs old.place to h) ∙ with_rows_append old.origins old.snapshot ts [] (take old.place vs) (between vs old.place to));
})

pub none-past : {X : Type 0} (vs : List X) (k : ℕ) → slice_get vs k ≡ None → length vs ≤ k
none-past [] k e = omega arith
none-past (v ∷ vs) zero e = absurd (none-some v (sym e))
none-past (v ∷ vs) (suc k) e = omega (arith, none-past vs k e)

pub read-on : (vs : List Stored) (ts : List Started) (old now new : Progress) → now ≡ read_to vs ts now.place old → old.place ≤ now.place → now.place < length vs
    → IfSome (slice_get vs now.place) (λ v. new ≡ record now { found = with_version now.origins now.snapshot ts now.found v; place = now.place + 1 })
    → (new ≡ read_to vs ts new.place old) × (new.place ≡ now.place + 1)
read-on vs ts old now new is h below one = by (slice_get vs now.place) refl one where
  by : (o : Option Stored) → slice_get vs now.place ≡ o → IfSome o (λ v. new ≡ record now { found = with_version now.origins now.snapshot ts now.found v; place = now.place + 1 })
      → (new ≡ read_to vs ts new.place old) × (new.place ≡ now.place + 1)
  by None got e = absurd (omega (arith, none-past vs now.place got))
  by (Some v) got e =
      let place : new.place ≡ now.place + 1 = ap (λ (r : Progress). r.place) e in
      (subst (λ (n : ℕ). new ≡ read_to vs ts n old) (sym place) (read-more vs ts old now new v is h got e), place)

-- where a part ends
pub piece-ahead : (place end up_to at : ℕ) → place ≤ at → at < piece_end place end up_to → at < end
piece-ahead place end up_to at h less = ⊎_elim (λ below. within (rw (lt-ltb place end below) at less)) (λ above. absurd (past (rw (le-ltb place end above) at less))) (cases_lt place end) where
  within : at < place + min (max up_to 1) (end - place) → at < end
  within less = grind (arith, less, h)

  past : at < place → ⊥
  past less = omega arith

pub piece-most : (place end up_to most : ℕ) → place ≤ most → end ≤ most → piece_end place end up_to ≤ most
piece-most place end up_to most h k = ⊎_elim (λ below. rw (lt-ltb place end below) (within below)) (λ above. rw (le-ltb place end above) h) (cases_lt place end) where
  within : place < end → place + min (max up_to 1) (end - place) ≤ most
  within below = grind (arith, below, k)

-- all is read
pub done-place : (place end : ℕ) (read : Read) → read ≡ (if nat_lt place end then More else Done) → read ≡ Done → end ≤ place
done-place place end read e done = ⊎_elim (λ below. absurd (differ (rw (lt-ltb place end below) at e))) (λ above. above) (cases_lt place end) where
  differ : read ≡ More → ⊥
  differ more = let h : More ≡ Done = sym more ∙ done in cc

pub same_Ok : {X E : Type 0} (r s : Result X E) (x y : X) → r ≡ Ok x → s ≡ Ok y → r ≡ s → x ≡ y
same_Ok r s x y e f g = cc

pub done-all : (vs : List Stored) (ts : List Started) (old now : Progress) (end : ℕ) → now ≡ read_to vs ts now.place old → old.place ≤ now.place → now.place ≡ end → end ≤ length vs → HasRead vs ts old
    → now.found ≡ rows_seen old.origins old.snapshot ts (take end vs)
done-all vs ts old now end is h at within read =
    let there : now ≡ read_to vs ts end old = subst (λ (n : ℕ). now ≡ read_to vs ts n old) at is in
    ap (λ (r : Progress). r.found) there ∙ (read-whole vs ts old (read_to vs ts end old) end refl (subst (λ (n : ℕ). old.place ≤ n) at h) within read).found
