-- Whom removers hide a version from, and what a change leaves.
use Rattle.std.proofs.Common.{◌≡◌, ℕ, ◌<◌, Bool, true, false, not, ◌||◌, ◌&&◌, ◌==◌, List, [], ◌∷◌, ◌++◌, length, refl, sym, ap, subst, ◌∙◌, arith, nat_lt, eq-eqb, Option, Some, None, zero, suc, IfSome, slice_get, slice_set}
use Rattle.al_values.specs.declared.scalar.Value.{Value}
use Rattle.std.specs.List.{list_any}
use Rattle.std.proofs.lemmas.Bool.{ne_eqb}
use Rattle.al_xacts.specs.declared.xact.Started.{Started}
use Rattle.al_xacts.specs.declared.xact.Fate.{Fate}
use Rattle.al_xacts.specs.declared.xact.Fate.TheVariants.{Open, Committed, Aborted}
use Rattle.al_xacts.specs.Fates.{fate_at, is_aborted, is_committed}
use Rattle.al_xacts.specs.Snapshots.{Taken, sees}
use Rattle.al_heap.specs.declared.version.Stored.{Stored}
use Rattle.al_heap.specs.Versions.{standing}
use Rattle.al_heap.specs.Visible.{is_removed_for}
use Rattle.al_heap.specs.Changes.{made, removed, with_version, ChangedAt, Changes, OwnChange}

aborted-other : (f : Fate) → is_aborted f ≡ true → is_committed f ≡ false
aborted-other Open e = refl
aborted-other Committed e = absurd (cc)
aborted-other Aborted e = refl

none-of : (a b : Bool) → (a && (b && false)) ≡ false
none-of true true = refl
none-of true false = refl
none-of false b = refl

-- one that was rolled back, other than the snapshot's own, removes nothing for it
pub aborted-hides : (snapshot : Taken) (ts : List Started) (removers : Option ℕ) (remover : ℕ) → removers ≡ Some remover → (remover ≡ snapshot.own → ⊥) → is_aborted (fate_at ts remover) ≡ true
    → is_removed_for (sees snapshot ts) removers ≡ false
aborted-hides snapshot ts removers remover e differ aborted =
    ap (is_removed_for (sees snapshot ts)) e ∙ rw (ne_eqb remover snapshot.own differ, aborted-other (fate_at ts remover) aborted) (none-of (nat_lt remover snapshot.end) (not (list_any (λ other. other == remover) snapshot.open_ones)))

pub not-hidden : (visible seen removed : Bool) → visible ≡ (seen && not removed) → removed ≡ false → visible ≡ seen
not-hidden visible seen removed e f = e ∙ ap (λ (b : Bool). seen && not b) f ∙ and-true seen where
  and-true : (b : Bool) → (b && true) ≡ b
  and-true true = refl
  and-true false = refl

-- a transaction's own changes
pub own-change : (row number x : ℕ) → OwnChange row number x
own-change row number x = record {
  gone = λ ts snapshot version e. rw (eq-eqb x snapshot.own (sym e)) (and-false (sees snapshot ts version.maker));
  new = λ ts snapshot values e. rw (eq-eqb x snapshot.own (sym e)) refl;
} where
  and-false : (b : Bool) → (b && false) ≡ false
  and-false true = refl
  and-false false = refl

-- ---- what a change leaves

get-push : {X : Type 0} (xs : List X) (y : X) (k : ℕ) → k < length xs → slice_get (xs ++ y ∷ []) k ≡ slice_get xs k
get-push [] y k h = absurd (omega arith)
get-push (z ∷ xs) y zero h = refl
get-push (z ∷ xs) y (suc k) h = get-push xs y k (omega arith)

set-push : {X : Type 0} (xs : List X) (y : X) (k : ℕ) (u : X) → k < length xs → slice_set (xs ++ y ∷ []) k u ≡ slice_set xs k u ++ y ∷ []
set-push [] y k u h = absurd (omega arith)
set-push (z ∷ xs) y zero u h = refl
set-push (z ∷ xs) y (suc k) u h = ap (λ (more : List _). z ∷ more) (set-push xs y k u (omega arith))

pub changed-at : (before after : List Stored) (row number x p : ℕ) (values : Option (List Value)) → p < length before
    → IfSome (slice_get (with_version row number x values before) p) (λ version. after ≡ slice_set (with_version row number x values before) p (removed x number version))
    → ChangedAt before after row number x values p
changed-at before after row number x p None below h = h
changed-at before after row number x p (Some values) below h = by_found (slice_get before p) (subst (λ (o : Option Stored). IfSome o (λ version. after ≡ slice_set (before ++ v ∷ []) p (removed x number version))) (get-push before v p below) h) where
  v : Stored
  v = made row number x values

  by_found : (o : Option Stored) → IfSome o (λ version. after ≡ slice_set (before ++ v ∷ []) p (removed x number version)) → IfSome o (λ version. after ≡ slice_set before p (removed x number version) ++ v ∷ [])
  by_found None g = tt
  by_found (Some version) g = g ∙ set-push before v p (removed x number version) below

pub changes-said : (ts : List Started) (before after : List Stored) (row number x p : ℕ) (values : Option (List Value)) → standing ts before row ≡ Some p → ChangedAt before after row number x values p
    → Changes ts before after row number x values
changes-said ts before after row number x p values e h = rw e h
