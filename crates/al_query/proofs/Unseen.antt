-- Versions that a snapshot doesn't see add nothing.
use Rattle.std.proofs.Common.{◌≡◌, ℕ, ◌≤◌, zero, suc, Bool, false, List, [], ◌∷◌, take, refl, sym, ap, ◌∙◌, arith, slice_get, Some}
use Rattle.al_values.specs.declared.scalar.Value.{Value}
use Rattle.al_xacts.specs.declared.xact.Started.{Started}
use Rattle.al_xacts.specs.Snapshots.{Taken}
use Rattle.al_heap.specs.declared.version.Stored.{Stored}
use Rattle.al_heap.specs.Visible.{is_visible}
use Rattle.al_query.specs.declared.origin.Origin.{Origin}
use Rattle.al_query.specs.Rows.{with_row, with_version, with_rows, rows_seen}

unseen : (o : List Origin) (s : Taken) (ts : List Started) (found : List (ℕ × List Value)) (vs : List Stored) → ((place : ℕ) (v : Stored) → slice_get vs place ≡ Some v → is_visible s ts v ≡ false)
    → with_rows o s ts found vs ≡ found
unseen o s ts found [] h = refl
unseen o s ts found (v ∷ vs) h =
    ap (λ (b : Bool). with_rows o s ts (with_row o b found v.row v.values) vs) (h zero v refl) ∙ unseen o s ts found vs (λ place w e. h (suc place) w e)

all-before : (o : List Origin) (s : Taken) (ts : List Started) (found : List (ℕ × List Value)) (vs : List Stored) (end : ℕ)
    → ((place : ℕ) (v : Stored) → end ≤ place → slice_get vs place ≡ Some v → is_visible s ts v ≡ false) → with_rows o s ts found (take end vs) ≡ with_rows o s ts found vs
all-before o s ts found vs zero h = sym (unseen o s ts found vs (λ place v e. h place v (omega arith) e))
all-before o s ts found [] (suc end) h = refl
all-before o s ts found (v ∷ vs) (suc end) h = all-before o s ts (with_version o s ts found v) vs end (λ place w k e. h (suc place) w (omega (arith, k)) e)

pub whole_table : (o : List Origin) (s : Taken) (ts : List Started) (vs : List Stored) (end : ℕ)
    → ((place : ℕ) (v : Stored) → end ≤ place → slice_get vs place ≡ Some v → is_visible s ts v ≡ false) → rows_seen o s ts (take end vs) ≡ rows_seen o s ts vs
whole_table o s ts vs end h = all-before o s ts [] vs end h
