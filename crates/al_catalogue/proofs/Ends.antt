-- How tables are found once a transaction has ended.
use Rattle.std.proofs.Common.{◌≡◌, ℕ, Bool, true, false, cond, ◌||◌, List, [], ◌∷◌, refl, sym, ap, ◌∙◌, subst, zero, suc, slice_get, Option, Some, None, ⊎_elim, fold, map}
use Rattle.std.specs.Prelude.{◌==◌}
use Rattle.std.proofs.lemmas.Bool.{eqb-true, ne_eqb, or_cases, both_ways}
use Rattle.std.proofs.lemmas.Option.{none-some, same_Some}
use Rattle.al_xacts.specs.declared.xact.Fate.{Fate}
use Rattle.al_xacts.specs.declared.xact.Fate.TheVariants as fates
use Rattle.al_catalogue.specs.declared.entry.TableEntry.{TableEntry}
use Rattle.al_catalogue.specs.declared.entry.Own.{Own}
use Rattle.al_catalogue.specs.declared.entry.Kept.{Kept}
use Rattle.al_catalogue.specs.Names.{is_called}
use Rattle.al_catalogue.specs.Changes.{ended}
use Rattle.al_catalogue.specs.Indexed.{is_listed, numbers_of, place_in, has_name, is_own, AreNamed, IsIndexed, at_place}
use Rattle.al_catalogue.proofs.Indexing.{got-at}

-- what a transaction's end leaves of a table
record Leaves (x : ℕ) (before after : Kept) : Type 0 where
  number : after.number ≡ before.number
  gone : is_own x after ≡ false
  others : (y : ℕ) → is_own y after ≡ true → is_own y before ≡ true
  names : (name : List ℕ) → has_name name after ≡ true → has_name name before ≡ true
  stays : is_own x before ≡ false → after ≡ before

leaves_none : (x number : ℕ) (committed : Option TableEntry) →
    Leaves x (record { number = number; committed = committed; own = None }) (record { number = number; committed = committed; own = None })
leaves_none x number committed = record { number = refl; gone = refl; others = λ y h. h; names = λ name h. h; stays = λ e. refl }

left-name : (a b : Bool) → (a || false) ≡ true → (a || b) ≡ true
left-name true b e = refl
left-name false b e = absurd (cc)

right-name : (a b : Bool) → (a || false) ≡ true → (b || a) ≡ true
right-name a true e = refl
right-name true false e = refl
right-name false false e = absurd (cc)

leaves_committed : (x number : ℕ) (committed : Option TableEntry) (own : Own) (b : Bool) → (own.xact == x) ≡ b
    → Leaves x (record { number = number; committed = committed; own = Some own })
    (cond b (record { number = number; committed = own.entry; own = None }) (record { number = number; committed = committed; own = Some own }))
leaves_committed x number committed own true e = record {
  number = refl;
  gone = refl;
  others = λ y h. absurd (cc);
  names = λ name h. right-name (is_called name own.entry) (is_called name committed) h;
  stays = λ f. absurd (both_ways _ f e);
}
leaves_committed x number committed own false e = record { number = refl; gone = e; others = λ y h. h; names = λ name h. h; stays = λ f. refl }

leaves_aborted : (x number : ℕ) (committed : Option TableEntry) (own : Own) (b : Bool) → (own.xact == x) ≡ b
    → Leaves x (record { number = number; committed = committed; own = Some own })
    (cond b (record { number = number; committed = committed; own = None }) (record { number = number; committed = committed; own = Some own }))
leaves_aborted x number committed own true e = record {
  number = refl;
  gone = refl;
  others = λ y h. absurd (cc);
  names = λ name h. left-name (is_called name committed) (is_called name own.entry) h;
  stays = λ f. absurd (both_ways _ f e);
}
leaves_aborted x number committed own false e = record { number = refl; gone = e; others = λ y h. h; names = λ name h. h; stays = λ f. refl }

leaves_by : (x number : ℕ) (fate : Fate) (committed : Option TableEntry) (own : Option Own)
    → Leaves x (record { number = number; committed = committed; own = own }) (ended x fate (record { number = number; committed = committed; own = own }))
leaves_by x number fate committed None = leaves_none x number committed
leaves_by x number fates.Committed committed (Some own) = leaves_committed x number committed own (own.xact == x) refl
leaves_by x number fates.Aborted committed (Some own) = leaves_aborted x number committed own (own.xact == x) refl
leaves_by x number fates.Open committed (Some own) = leaves_aborted x number committed own (own.xact == x) refl

leaves : (x : ℕ) (fate : Fate) (kept : Kept) → Leaves x kept (ended x fate kept)
leaves x fate kept = leaves_by x kept.number fate kept.committed kept.own

-- ---- all changes

pub named-ended : (x : ℕ) (fate : Fate) (tables : List Kept) (named : List ℕ → List ℕ) (at : ℕ) → AreNamed tables named → AreNamed (at_place (ended x fate) at tables) named
named-ended x fate tables named at names name i kept got h =
    ⊎_elim (λ l. names name i kept l.0 h)
    (λ r. names name i r.0 r.2 ((leaves x fate r.0).names name (subst (λ (k : Kept). has_name name k ≡ true) (sym r.3) h)))
    (got-at (ended x fate) tables at i kept got)

-- all of a transaction's changes are listed
abbrev pub AreOwned : ℕ → List Kept → List ℕ → Type 0
AreOwned x tables places = (i : ℕ) (kept : Kept) → slice_get tables i ≡ Some kept → is_own x kept ≡ true → is_listed i places ≡ true

false_by : (b : Bool) → (b ≡ true → ⊥) → b ≡ false
false_by true never = absurd (never refl)
false_by false never = refl

pub none-ended : (x : ℕ) (fate : Fate) (tables : List Kept) → AreOwned x tables [] → map (ended x fate) tables ≡ tables
none-ended x fate [] owned = refl
none-ended x fate (kept ∷ tables) owned =
    let same : ended x fate kept ≡ kept = (leaves x fate kept).stays (false_by (is_own x kept) (λ h. absurd (let k = owned 0 kept refl h in (cc)))) in
    rw (same, none-ended x fate tables (λ i other got h. owned (suc i) other got h)) refl

again-ended : (x : ℕ) (fate : Fate) (kept : Kept) → ended x fate (ended x fate kept) ≡ ended x fate kept
again-ended x fate kept = (leaves x fate (ended x fate kept)).stays (leaves x fate kept).gone

map-at : (x : ℕ) (fate : Fate) (tables : List Kept) (at : ℕ) → map (ended x fate) (at_place (ended x fate) at tables) ≡ map (ended x fate) tables
map-at x fate [] at = refl
map-at x fate (kept ∷ tables) zero = ap (λ (k : Kept). k ∷ map (ended x fate) tables) (again-ended x fate kept)
map-at x fate (kept ∷ tables) (suc at) = ap (λ (ks : List Kept). ended x fate kept ∷ ks) (map-at x fate tables at)

owned-on : (x : ℕ) (fate : Fate) (tables : List Kept) (place : ℕ) (places : List ℕ) → AreOwned x tables (place ∷ places) → AreOwned x (at_place (ended x fate) place tables) places
owned-on x fate tables place places owned i kept got h =
    ⊎_elim (λ l. ⊎_elim (λ same. absurd (l.1 (sym (eqb-true place i same)))) (λ later. later) (or_cases (place == i) _ (owned i kept l.0 h)))
    (λ r. absurd (both_ways (is_own x kept) (subst (λ (k : Kept). is_own x k ≡ false) r.3 (leaves x fate r.0).gone) h))
    (got-at (ended x fate) tables place i kept got)

pub all-ended : (x : ℕ) (fate : Fate) (places : List ℕ) (tables : List Kept) → AreOwned x tables places
    → fold (λ (ts : List Kept) (at : ℕ). at_place (ended x fate) at ts) tables places ≡ map (ended x fate) tables
all-ended x fate [] tables owned = sym (none-ended x fate tables owned)
all-ended x fate (place ∷ places) tables owned =
    all-ended x fate places (at_place (ended x fate) place tables) (owned-on x fate tables place places owned) ∙ map-at x fate tables place

numbers-ended : (x : ℕ) (fate : Fate) (tables : List Kept) → numbers_of (map (ended x fate) tables) ≡ numbers_of tables
numbers-ended x fate [] = refl
numbers-ended x fate (kept ∷ tables) = rw ((leaves x fate kept).number, numbers-ended x fate tables) refl

mapped-at : (change : Kept → Kept) (tables : List Kept) (i : ℕ) (kept : Kept) → slice_get (map change tables) i ≡ Some kept → (old : Kept) × (slice_get tables i ≡ Some old) × (change old ≡ kept)
mapped-at change [] i kept e = absurd (none-some kept e)
mapped-at change (first ∷ tables) zero kept e = (first, refl, same_Some _ _ e)
mapped-at change (first ∷ tables) (suc i) kept e = mapped-at change tables i kept e

pub index-ended : (x : ℕ) (fate : Fate) (tables : List Kept) (numbers : ℕ → Option ℕ) (named named' : List ℕ → List ℕ) (owned owned' : ℕ → List ℕ)
    → IsIndexed tables numbers named owned → AreNamed (map (ended x fate) tables) named' → ((y : ℕ) → (x == y) ≡ false → owned' y ≡ owned y)
    → IsIndexed (map (ended x fate) tables) numbers named' owned'
index-ended x fate tables numbers named named' owned owned' index names others = record {
  numbered = λ number. index.numbered number ∙ ap (λ (ns : List ℕ). place_in ns number) (sym (numbers-ended x fate tables));
  names = names;
  owners = λ y i kept got h.
      let m = mapped-at (ended x fate) tables i kept got in
      let l = leaves x fate m.0 in
      let here : is_own y (ended x fate m.0) ≡ true = subst (λ (k : Kept). is_own y k ≡ true) (sym m.2) h in
      let apart : (x == y) ≡ false = ne_eqb x y (λ same. both_ways (is_own y (ended x fate m.0)) (subst (λ (z : ℕ). is_own z (ended x fate m.0) ≡ false) same l.gone) here) in
      ap (is_listed i) (others y apart) ∙ index.owners y i m.0 m.1 (l.others y here);
}
