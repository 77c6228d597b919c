-- What others do leaves what a snapshot sees.
use Rattle.std.proofs.Common.{◌≡◌, ℕ, ◌+◌, ◌≤◌, zero, suc, Bool, true, false, cond, not, ◌&&◌, ◌||◌, ◌==◌, List, [], ◌∷◌, ◌++◌, length, take, refl, sym, ap, ◌∙◌, subst, arith, nat_lt, eq-eqb, slice_get, slice_set, Option, Some, None, IfSome}
use Rattle.std.specs.List.{list_any}
use Rattle.std.specs.Option.{option_map_or}
use Rattle.std.proofs.lemmas.Bool.{ne_eqb, or_right, and_parts, le-ltb}
use Rattle.std.proofs.lemmas.Option.{none-some}
use Rattle.al_values.specs.declared.scalar.Value.{Value}
use Rattle.al_xacts.specs.declared.xact.Started.{Started}
use Rattle.al_xacts.specs.declared.xact.Fate.{Fate}
use Rattle.al_xacts.specs.declared.xact.Fate.TheVariants.{Open, Committed, Aborted}
use Rattle.al_xacts.specs.Fates.{fate_of, fate_at, is_open, is_committed, is_aborted, open_from, GoesOn}
use Rattle.al_xacts.specs.Snapshots.{Taken, taken, sees}
use Rattle.al_heap.specs.declared.version.Stored.{Stored}
use Rattle.al_heap.specs.Versions.{passes, standing}
use Rattle.al_heap.specs.Visible.{is_removed_for, is_visible}
use Rattle.al_heap.specs.Changes.{made, removed, is_freed, is_changeable, can_change, with_version, ChangedAt, Changes}
use Rattle.al_query.specs.declared.origin.Origin.{Origin}
use Rattle.al_query.specs.Rows as rows
use Rattle.al_query.specs.Progress.{Progress, HasRead}
use Rattle.al_query.specs.GoingOn.{IsAsBefore, GoesOnFor}
use Rattle.al_query.proofs.Pieces.{none-past}

-- ---- a reading stays right

goes-longer : (s : Taken) (before after : List Started) (vs ws : List Stored) → GoesOnFor s before after vs ws → length vs ≤ length ws
goes-longer s before after [] ws g = omega arith
goes-longer s before after (v ∷ vs) [] g = absurd g
goes-longer s before after (v ∷ vs) (w ∷ ws) g = omega (arith, goes-longer s before after vs ws g.1)

row-stays : (o : List Origin) (s : Taken) (before after : List Started) (found : List (ℕ × List Value)) (v w : Stored) → IsAsBefore s before after v w
    → rows.with_version o s before found v ≡ rows.with_version o s after found w
row-stays o s before after found v w same =
    ap (λ (b : Bool). rows.with_row o b found v.row v.values) (sym same.seen)
    ∙ ap (λ (n : ℕ). rows.with_row o (is_visible s after w) found n v.values) (sym same.row)
    ∙ ap (λ (values : List Value). rows.with_row o (is_visible s after w) found w.row values) (sym same.values)

rows-stay : (o : List Origin) (s : Taken) (before after : List Started) (found : List (ℕ × List Value)) (vs ws : List Stored) (k : ℕ) → GoesOnFor s before after vs ws → k ≤ length vs
    → rows.with_rows o s before found (take k vs) ≡ rows.with_rows o s after found (take k ws)
rows-stay o s before after found vs ws zero g h = refl
rows-stay o s before after found [] ws (suc k) g h = absurd (omega arith)
rows-stay o s before after found (v ∷ vs) [] (suc k) g h = absurd g
rows-stay o s before after found (v ∷ vs) (w ∷ ws) (suc k) g h =
    ap (λ (more : List (ℕ × List Value)). rows.with_rows o s before more (take k vs)) (row-stays o s before after found v w g.0)
    ∙ rows-stay o s before after (rows.with_version o s after found w) vs ws k g.1 (omega arith)

pub reading_stays : (r : Progress) (before after : List Started) (vs ws : List Stored) → GoesOnFor r.snapshot before after vs ws → HasRead vs before r → HasRead ws after r
reading_stays r before after vs ws g read = record {
  within = omega (arith, read.within, goes-longer r.snapshot before after vs ws g);
  found = read.found ∙ rows-stay r.origins r.snapshot before after [] vs ws r.place g read.within;
}

-- ---- more versions

nothing-new : (s : Taken) (ts : List Started) (v : Stored) → IsAsBefore s ts ts v v
nothing-new s ts v = record { row = refl; values = refl; seen = refl }

follow : (s : Taken) (before after : List Started) (vs ws more : List Stored) → GoesOnFor s before after vs ws → GoesOnFor s before after vs (ws ++ more)
follow s before after [] ws more g = tt
follow s before after (v ∷ vs) [] more g = absurd g
follow s before after (v ∷ vs) (w ∷ ws) more g = (g.0, follow s before after vs ws more g.1)

same : (s : Taken) (ts : List Started) (vs : List Stored) → GoesOnFor s ts ts vs vs
same s ts [] = tt
same s ts (v ∷ vs) = (nothing-new s ts v, same s ts vs)

pub more_follow : (s : Taken) (ts : List Started) (vs more : List Stored) → GoesOnFor s ts ts vs (vs ++ more)
more_follow s ts vs more = follow s ts ts vs vs more (same s ts vs)

-- ---- a remover

none-of : (a b : Bool) → (a && (b && false)) ≡ false
none-of true true = refl
none-of true false = refl
none-of false b = refl

aborted-other : (f : Fate) → is_aborted f ≡ true → is_committed f ≡ false
aborted-other Open e = refl
aborted-other Committed e = absurd (cc)
aborted-other Aborted e = refl

both : (b : Bool) → b ≡ true → b ≡ false → ⊥
both b e f = let h : true ≡ false = sym e ∙ f in cc

freed : (s : Taken) (ts : List Started) (remover : Option ℕ) → is_aborted (fate_at ts s.own) ≡ false → is_freed ts remover ≡ true → is_removed_for (sees s ts) remover ≡ false
freed s ts None own e = refl
freed s ts (Some x) own e = rw (ne_eqb x s.own differ, aborted-other (fate_at ts x) e) (none-of (nat_lt x s.end) (not (list_any (λ other. other == x) s.open_ones))) where
  differ : x ≡ s.own → ⊥
  differ here = both (is_aborted (fate_at ts x)) e (ap (λ (n : ℕ). is_aborted (fate_at ts n)) here ∙ own)

removed-same : (s : Taken) (ts : List Started) (x number : ℕ) (v : Stored) → sees s ts x ≡ false → is_aborted (fate_at ts s.own) ≡ false → is_freed ts v.remover ≡ true → IsAsBefore s ts ts v (removed x number v)
removed-same s ts x number v unseen own free = record {
  row = refl;
  values = refl;
  seen = ap (λ (b : Bool). sees s ts v.maker && not b) (unseen ∙ sym (freed s ts v.remover own free));
}

set-stays : (s : Taken) (ts : List Started) (vs : List Stored) (p : ℕ) (v w : Stored) → slice_get vs p ≡ Some v → IsAsBefore s ts ts v w → GoesOnFor s ts ts vs (slice_set vs p w)
set-stays s ts [] p v w got kept = tt
set-stays s ts (u ∷ us) zero v w got kept = (subst (λ (t : Stored). IsAsBefore s ts ts t w) (sym (inside u v got)) kept, same s ts us) where
  inside : (a b : Stored) → Some a ≡ Some b → a ≡ b
  inside a b e = cc
set-stays s ts (u ∷ us) (suc p) v w got kept = (nothing-new s ts u, set-stays s ts us p v w got kept)

with-stays : (s : Taken) (ts : List Started) (vs ws : List Stored) (row number x : ℕ) (values : Option (List Value)) → GoesOnFor s ts ts vs ws → GoesOnFor s ts ts vs (with_version row number x values ws)
with-stays s ts vs ws row number x None g = g
with-stays s ts vs ws row number x (Some values) g = follow s ts ts vs ws (made row number x values ∷ []) g

changed-stays : (s : Taken) (ts : List Started) (before after : List Stored) (row number x : ℕ) (values : Option (List Value)) (at : Option ℕ) → sees s ts x ≡ false → is_aborted (fate_at ts s.own) ≡ false
    → option_map_or (λ place. passes (is_changeable ts x) (slice_get before place)) at false ≡ true → IfSome at (ChangedAt before after row number x values) → GoesOnFor s ts ts before after
changed-stays s ts before after row number x values None unseen own can change = absurd (cc)
changed-stays s ts before after row number x values (Some p) unseen own can change = by (slice_get before p) refl can change where
  by : (o : Option Stored) → slice_get before p ≡ o → passes (is_changeable ts x) o ≡ true → IfSome o (λ version. after ≡ with_version row number x values (slice_set before p (removed x number version))) → GoesOnFor s ts ts before after
  by None got can change = absurd (cc)
  by (Some v) got can change = subst (GoesOnFor s ts ts before) (sym change) (with-stays s ts before (slice_set before p (removed x number v)) row number x values
      (set-stays s ts before p v (removed x number v) got (removed-same s ts x number v unseen own (and_parts ((v.maker == x) || is_committed (fate_at ts v.maker)) (is_freed ts v.remover) can).1)))

pub change_stays : (s : Taken) (ts : List Started) (before after : List Stored) (row number x : ℕ) (values : Option (List Value)) → sees s ts x ≡ false → is_aborted (fate_at ts s.own) ≡ false
    → can_change ts before row x ≡ true → Changes ts before after row number x values → GoesOnFor s ts ts before after
change_stays s ts before after row number x values unseen own can change = changed-stays s ts before after row number x values (standing ts before row) unseen own can change

-- ---- transactions that start and end

abbrev has : ℕ → List ℕ → Bool
has x numbers = list_any (λ other. other == x) numbers

-- one that is open is listed
listed : (n k x : ℕ) (ts : List Started) (t : Started) → x ≡ n + k → slice_get ts k ≡ Some t → is_open t.fate ≡ true → has x (open_from n ts) ≡ true
listed n k x [] t e got undecided = absurd (none-some t got)
listed n zero x (u ∷ ts) t e got undecided = by (is_open u.fate) (ap (λ (o : Option Started). is_open (fate_of o)) got ∙ undecided) where
  by : (b : Bool) → b ≡ true → has x (cond b (n ∷ open_from (n + 1) ts) (open_from (n + 1) ts)) ≡ true
  by true h = rw (eq-eqb n x (omega arith)) refl
  by false h = absurd (cc)
listed n (suc k) x (u ∷ ts) t e got undecided = by (is_open u.fate) (listed (n + 1) k x ts t (omega arith) got undecided) where
  by : (b : Bool) → has x (open_from (n + 1) ts) ≡ true → has x (cond b (n ∷ open_from (n + 1) ts) (open_from (n + 1) ts)) ≡ true
  by true h = or_right (n == x) _ h
  by false h = h

past-end : (ts : List Started) (x : ℕ) → slice_get ts x ≡ None → nat_lt x (length ts) ≡ false
past-end ts x e = le-ltb x (length ts) (none-past ts x e)

abbrev test_of : Bool → Bool → Bool → Bool
test_of below listed committed = below && (not listed && committed)

open-unseen : (a c d : Bool) → test_of a true c ≡ test_of a true d
open-unseen true c d = refl
open-unseen false c d = refl

seen-same : (start before after : List Started) (x : ℕ) (o : Option Started) → slice_get start x ≡ o → GoesOn start before → GoesOn start after
    → test_of (nat_lt x (length start)) (has x (open_from 0 start)) (is_committed (fate_at after x)) ≡ test_of (nat_lt x (length start)) (has x (open_from 0 start)) (is_committed (fate_at before x))
seen-same start before after x None got on then_on = rw (past-end start x got) refl
seen-same start before after x (Some t) got on then_on = by t.fate refl where
  was : fate_at start x ≡ t.fate
  was = ap fate_of got

  by : (f : Fate) → t.fate ≡ f → test_of (nat_lt x (length start)) (has x (open_from 0 start)) (is_committed (fate_at after x)) ≡ test_of (nat_lt x (length start)) (has x (open_from 0 start)) (is_committed (fate_at before x))
  by Open e = rw (listed 0 x x start t (omega arith) got (ap is_open e)) (open-unseen (nat_lt x (length start)) (is_committed (fate_at after x)) (is_committed (fate_at before x)))
  by Committed e = ap (λ (f : Fate). test_of (nat_lt x (length start)) (has x (open_from 0 start)) (is_committed f)) (then_on.committed x (was ∙ e) ∙ sym (on.committed x (was ∙ e)))
  by Aborted e = ap (λ (f : Fate). test_of (nat_lt x (length start)) (has x (open_from 0 start)) (is_committed f)) (then_on.aborted x (was ∙ e) ∙ sym (on.aborted x (was ∙ e)))

sees-same : (start before after : List Started) (own x : ℕ) → GoesOn start before → GoesOn start after → sees (taken start own) after x ≡ sees (taken start own) before x
sees-same start before after own x on then_on = ap (λ (b : Bool). (x == own) || b) (seen-same start before after x (slice_get start x) refl on then_on)

visible-same : (s : Taken) (before after : List Started) (v : Stored) → ((x : ℕ) → sees s after x ≡ sees s before x) → is_visible s after v ≡ is_visible s before v
visible-same s before after v all = ap (λ (b : Bool). b && not (is_removed_for (sees s after) v.remover)) (all v.maker) ∙ ap (λ (b : Bool). sees s before v.maker && not b) (by v.remover) where
  by : (o : Option ℕ) → is_removed_for (sees s after) o ≡ is_removed_for (sees s before) o
  by None = refl
  by (Some x) = all x

pub transactions_go_on : (start before after : List Started) (own : ℕ) (vs : List Stored) → GoesOn start before → GoesOn start after → GoesOnFor (taken start own) before after vs vs
transactions_go_on start before after own [] on then_on = tt
transactions_go_on start before after own (v ∷ vs) on then_on =
    (record { row = refl; values = refl; seen = visible-same (taken start own) before after v (λ x. sees-same start before after own x on then_on) }, transactions_go_on start before after own vs on then_on)
