-- The first of some places whose tables pass, and what it says of all tables.
use Rattle.std.proofs.Common.{◌≡◌, ℕ, ◌<◌, ◌≤◌, Bool, true, false, cond, not, ◌||◌, ◌&&◌, List, [], ◌∷◌, refl, sym, ap, ◌∙◌, subst, arith, zero, suc, slice_get, Option, Some, None, ◌⊎◌, inl, inr, ⊎_elim, fold, nat_le}
use Rattle.std.specs.Prelude.{◌==◌, is_some}
use Rattle.std.specs.Option.{option_map, option_and_then}
use Rattle.std.proofs.lemmas.Bool.{eqb-true, or_cases, or_left, or_right, both_ways, leb-true, leb-false}
use Rattle.std.proofs.lemmas.Option.{none-some, same_Some}
use Rattle.al_catalogue.specs.declared.entry.TableEntry.{TableEntry}
use Rattle.al_catalogue.specs.declared.entry.Own.{Own}
use Rattle.al_catalogue.specs.declared.entry.Kept.{Kept}
use Rattle.al_catalogue.specs.declared.search.Sought.{Sought}
use Rattle.al_catalogue.specs.declared.search.Sought.TheVariants.{Found, Moved}
use Rattle.al_catalogue.specs.Tables.{own_or, seen}
use Rattle.al_catalogue.specs.Names.{is_called, find_in, moves_name, taker_of, taker_in, or_later}
use Rattle.al_catalogue.specs.Indexed.{is_listed, passes, lesser, nearer, first_among, is_sought, has_name, AreNamed}

-- one was found, and not behind a place
abbrev pub AtMost : Option ℕ → ℕ → Type 0
AtMost None at = ⊥
AtMost (Some found) at = found ≤ at

at-most_itself : (found : Option ℕ) (at : ℕ) → found ≡ Some at → AtMost found at
at-most_itself None at e = absurd (none-some at e)
at-most_itself (Some found) at e = let same = same_Some found at e in omega arith

at-most_later : (found : Option ℕ) (low high : ℕ) → low ≤ high → AtMost found low → AtMost found high
at-most_later None low high h below = absurd below
at-most_later (Some found) low high h below = omega arith

lesser_by : (other at : ℕ) (b : Bool) → nat_le other at ≡ b → (q : ℕ) × (cond b (Some other) (Some at) ≡ Some q) × (q ≤ other) × (q ≤ at)
lesser_by other at true e = (other, refl, omega arith, leb-true other at e)
lesser_by other at false e = let h = leb-false other at e in (at, refl, omega arith, omega arith)

lesser-here : (start : Option ℕ) (at : ℕ) → (q : ℕ) × (lesser start at ≡ Some q) × (q ≤ at)
lesser-here None at = (at, refl, omega arith)
lesser-here (Some other) at = let l = lesser_by other at (nat_le other at) refl in (l.0, l.1, l.3)

lesser-below : (start : Option ℕ) (other at : ℕ) → start ≡ Some other → (q : ℕ) × (lesser start at ≡ Some q) × (q ≤ other)
lesser-below None other at e = absurd (none-some other e)
lesser-below (Some first) other at e = let l = lesser_by first at (nat_le first at) refl in let same = same_Some first other e in (l.0, l.1, omega (arith, l.2))

lesser-from_by : (first at q : ℕ) (b : Bool) → cond b (Some first) (Some at) ≡ Some q → (Some first ≡ Some q) ⊎ (at ≡ q)
lesser-from_by first at q true e = inl e
lesser-from_by first at q false e = inr (same_Some at q e)

lesser-from : (start : Option ℕ) (at q : ℕ) → lesser start at ≡ Some q → (start ≡ Some q) ⊎ (at ≡ q)
lesser-from None at q e = inr (same_Some at q e)
lesser-from (Some first) at q e = lesser-from_by first at q (nat_le first at) e

-- what is found, from one that was found before, is no later than each that passes, and one of them
record IsNearest (hit : ℕ → Bool) (places : List ℕ) (start found : Option ℕ) : Type 0 where
  begun : (at : ℕ) → start ≡ Some at → AtMost found at
  each : (at : ℕ) → is_listed at places ≡ true → hit at ≡ true → AtMost found at
  origin : (at : ℕ) → found ≡ Some at → (start ≡ Some at) ⊎ (hit at ≡ true)

abbrev hit_at : (Kept → Bool) → List Kept → ℕ → Bool
hit_at test tables at = passes test (slice_get tables at)

nearest_on : (hit : ℕ → Bool) (place : ℕ) (places : List ℕ) (start found : Option ℕ) (b : Bool) → hit place ≡ b
    → IsNearest hit places (cond b (lesser start place) start) found → IsNearest hit (place ∷ places) start found
nearest_on hit place places start found true e n = record {
  begun = λ at f. let l = lesser-below start at place f in at-most_later found l.0 at l.2 (n.begun l.0 l.1);
  each = λ at listed passed. ⊎_elim
      (λ same. let l = lesser-here start place in let here : l.0 ≤ at = omega (arith, l.2, eqb-true place at same) in at-most_later found l.0 at here (n.begun l.0 l.1))
      (λ later. n.each at later passed) (or_cases (place == at) _ listed);
  origin = λ at f. ⊎_elim
      (λ before. ⊎_elim (λ g. inl g) (λ same. inr (subst (λ (k : ℕ). hit k ≡ true) same e)) (lesser-from start place at before))
      (λ passed. inr passed) (n.origin at f);
}
nearest_on hit place places start found false e n = record {
  begun = n.begun;
  each = λ at listed passed. ⊎_elim
      (λ same. absurd (both_ways (hit place) e (subst (λ (k : ℕ). hit k ≡ true) (sym (eqb-true place at same)) passed)))
      (λ later. n.each at later passed) (or_cases (place == at) _ listed);
  origin = n.origin;
}

nearest : (test : Kept → Bool) (tables : List Kept) (places : List ℕ) (start : Option ℕ) → IsNearest (hit_at test tables) places start (fold (nearer test tables) start places)
nearest test tables [] start = record { begun = λ at e. at-most_itself start at e; each = λ at listed passed. absurd (cc); origin = λ at e. inl e }
nearest test tables (place ∷ places) start =
    nearest_on (hit_at test tables) place places start _ (hit_at test tables place) refl (nearest test tables places (nearer test tables start place))

-- a table passes at a place, and none before it
pub record IsFirstAt (test : Kept → Bool) (tables : List Kept) (at : ℕ) : Type 0 where
  pub kept : Kept
  pub there : slice_get tables at ≡ Some kept
  pub passed : test kept ≡ true
  pub before : (i : ℕ) (other : Kept) → i < at → slice_get tables i ≡ Some other → test other ≡ false

abbrev pub NonePasses : (Kept → Bool) → List Kept → Type 0
NonePasses test tables = (i : ℕ) (kept : Kept) → slice_get tables i ≡ Some kept → test kept ≡ false

-- all that pass are listed
abbrev pub Covers : (Kept → Bool) → List Kept → List ℕ → Type 0
Covers test tables places = (i : ℕ) (kept : Kept) → slice_get tables i ≡ Some kept → test kept ≡ true → is_listed i places ≡ true

passed_by : (test : Kept → Bool) (o : Option Kept) → passes test o ≡ true → (kept : Kept) × (o ≡ Some kept) × (test kept ≡ true)
passed_by test None e = absurd (cc)
passed_by test (Some kept) e = (kept, refl, e)

false_by : (b : Bool) → (b ≡ true → ⊥) → b ≡ false
false_by true never = absurd (never refl)
false_by false never = refl

hit-there : (test : Kept → Bool) (tables : List Kept) (i : ℕ) (kept : Kept) → slice_get tables i ≡ Some kept → test kept ≡ true → hit_at test tables i ≡ true
hit-there test tables i kept got h = ap (passes test) got ∙ h

pub first-none : (test : Kept → Bool) (tables : List Kept) (places : List ℕ) → Covers test tables places → first_among test tables places ≡ None → NonePasses test tables
first-none test tables places covers e i kept got =
    false_by (test kept) (λ h. subst (λ (o : Option ℕ). AtMost o i) e ((nearest test tables places None).each i (covers i kept got h) (hit-there test tables i kept got h)))

pub first-some : (test : Kept → Bool) (tables : List Kept) (places : List ℕ) (at : ℕ) → Covers test tables places → first_among test tables places ≡ Some at → IsFirstAt test tables at
first-some test tables places at covers e =
    let n = nearest test tables places None in
    let here : hit_at test tables at ≡ true = ⊎_elim (λ g. absurd (none-some at g)) (λ h. h) (n.origin at e) in
    let p = passed_by test (slice_get tables at) here in
    record {
      kept = p.0;
      there = p.1;
      passed = p.2;
      before = λ i other below got. false_by (test other)
          (λ h. let least : at ≤ i = subst (λ (o : Option ℕ). AtMost o i) e (n.each i (covers i other got h) (hit-there test tables i other got h)) in absurd (omega arith));
    }

-- what a search through all tables finds

pub find-none : (name : List ℕ) (x : ℕ) (tables : List Kept) → NonePasses (is_sought Found name x) tables → find_in tables name x ≡ None
find-none name x [] none = refl
find-none name x (kept ∷ tables) none = rw (none 0 kept refl) (find-none name x tables (λ i other got. none (suc i) other got))

find-at : (name : List ℕ) (x : ℕ) (tables : List Kept) (at : ℕ) (kept : Kept) → slice_get tables at ≡ Some kept → is_called name (seen x kept) ≡ true
    → ((i : ℕ) (other : Kept) → i < at → slice_get tables i ≡ Some other → is_called name (seen x other) ≡ false) → find_in tables name x ≡ Some kept.number
find-at name x [] at kept got e before = absurd (none-some kept got)
find-at name x (first ∷ tables) zero kept got e before =
    let same = same_Some first kept got in rw (ap (λ (k : Kept). is_called name (seen x k)) same ∙ e) (ap (λ (k : Kept). Some k.number) same)
find-at name x (first ∷ tables) (suc at) kept got e before =
    rw (before 0 first (omega arith) refl) (find-at name x tables at kept got e (λ i other h there. before (suc i) other (omega arith) there))

pub find-some : (name : List ℕ) (x : ℕ) (tables : List Kept) (at : ℕ) → IsFirstAt (is_sought Found name x) tables at
    → option_map (λ (kept : Kept). kept.number) (slice_get tables at) ≡ find_in tables name x
find-some name x tables at f = ap (option_map (λ (kept : Kept). kept.number)) f.there ∙ sym (find-at name x tables at f.kept f.there f.passed f.before)

none-of : (o : Option ℕ) → is_some o ≡ false → o ≡ None
none-of None e = refl
none-of (Some by) e = absurd (cc)

some-later : (o later : Option ℕ) → is_some o ≡ true → or_later o later ≡ o
some-later None later e = absurd (cc)
some-later (Some by) later e = refl

pub taker-none : (name : List ℕ) (x : ℕ) (tables : List Kept) → NonePasses (is_sought Moved name x) tables → taker_in tables name x ≡ None
taker-none name x [] none = refl
taker-none name x (kept ∷ tables) none = rw (none-of _ (none 0 kept refl)) (taker-none name x tables (λ i other got. none (suc i) other got))

taker-at : (name : List ℕ) (x : ℕ) (tables : List Kept) (at : ℕ) (kept : Kept) → slice_get tables at ≡ Some kept → is_some (taker_of name x kept.committed kept.own) ≡ true
    → ((i : ℕ) (other : Kept) → i < at → slice_get tables i ≡ Some other → is_some (taker_of name x other.committed other.own) ≡ false)
    → taker_in tables name x ≡ taker_of name x kept.committed kept.own
taker-at name x [] at kept got e before = absurd (none-some kept got)
taker-at name x (first ∷ tables) zero kept got e before =
    let same = same_Some first kept got in
    subst (λ (k : Kept). or_later (taker_of name x k.committed k.own) (taker_in tables name x) ≡ taker_of name x kept.committed kept.own) (sym same) (some-later _ _ e)
taker-at name x (first ∷ tables) (suc at) kept got e before =
    rw (none-of _ (before 0 first (omega arith) refl)) (taker-at name x tables at kept got e (λ i other h there. before (suc i) other (omega arith) there))

pub taker-some : (name : List ℕ) (x : ℕ) (tables : List Kept) (at : ℕ) → IsFirstAt (is_sought Moved name x) tables at
    → option_and_then (λ (kept : Kept). taker_of name x kept.committed kept.own) (slice_get tables at) ≡ taker_in tables name x
taker-some name x tables at f = ap (option_and_then (λ (kept : Kept). taker_of name x kept.committed kept.own)) f.there ∙ sym (taker-at name x tables at f.kept f.there f.passed f.before)

-- ---- all tables of a name are listed under it

seen_named : (name : List ℕ) (x number : ℕ) (committed : Option TableEntry) (own : Option Own)
    → is_called name (own_or x own committed) ≡ true → has_name name (record { number = number; committed = committed; own = own }) ≡ true
seen_named name x number committed None h = or_left _ _ h
seen_named name x number committed (Some own) h = by (own.xact == x) h where
  by : (b : Bool) → is_called name (cond b own.entry committed) ≡ true → (is_called name committed || is_called name own.entry) ≡ true
  by true h = or_right _ _ h
  by false h = or_left _ _ h

moves_either : (b a : Bool) → ((b && not a) || (not b && a)) ≡ true → (b || a) ≡ true
moves_either true a h = refl
moves_either false true h = refl
moves_either false false h = absurd (cc)

moved_named : (name : List ℕ) (x number : ℕ) (committed : Option TableEntry) (own : Option Own)
    → is_some (taker_of name x committed own) ≡ true → has_name name (record { number = number; committed = committed; own = own }) ≡ true
moved_named name x number committed None h = absurd (cc)
moved_named name x number committed (Some own) h = by (not (own.xact == x)) (moves_name name committed own.entry) refl h where
  by : (b m : Bool) → moves_name name committed own.entry ≡ m → is_some (cond (b && m) (Some own.xact) None) ≡ true → (is_called name committed || is_called name own.entry) ≡ true
  by true true e h = moves_either (is_called name committed) (is_called name own.entry) e
  by true false e h = absurd (cc)
  by false m e h = absurd (cc)

sought_named : (sought : Sought) (name : List ℕ) (x : ℕ) (kept : Kept) → is_sought sought name x kept ≡ true → has_name name kept ≡ true
sought_named Found name x kept h = seen_named name x kept.number kept.committed kept.own h
sought_named Moved name x kept h = moved_named name x kept.number kept.committed kept.own h

listed-all : (sought : Sought) (name : List ℕ) (x : ℕ) (tables : List Kept) (named : List ℕ → List ℕ) → AreNamed tables named → Covers (is_sought sought name x) tables (named name)
listed-all sought name x tables named names i kept got h = names name i kept got (sought_named sought name x kept h)

-- ---- what the calls say

pub search-none : (sought : Sought) (name : List ℕ) (x : ℕ) (tables slice : List Kept) (places : List ℕ) (found : Option ℕ) (named : List ℕ → List ℕ) → AreNamed tables named
    → slice ≡ tables → places ≡ named name → found ≡ first_among (is_sought sought name x) slice places → found ≡ None → NonePasses (is_sought sought name x) tables
search-none sought name x tables slice places found named names same listed e f =
    first-none (is_sought sought name x) tables (named name) (listed-all sought name x tables named names)
    (ap (λ (ts : List Kept). first_among (is_sought sought name x) ts (named name)) (sym same) ∙ ap (first_among (is_sought sought name x) slice) (sym listed) ∙ sym e ∙ f)

pub search-some : (sought : Sought) (name : List ℕ) (x : ℕ) (tables slice : List Kept) (places : List ℕ) (found : Option ℕ) (at : ℕ) (named : List ℕ → List ℕ) → AreNamed tables named
    → slice ≡ tables → places ≡ named name → found ≡ first_among (is_sought sought name x) slice places → found ≡ Some at → IsFirstAt (is_sought sought name x) tables at
search-some sought name x tables slice places found at named names same listed e f =
    first-some (is_sought sought name x) tables (named name) at (listed-all sought name x tables named names)
    (ap (λ (ts : List Kept). first_among (is_sought sought name x) ts (named name)) (sym same) ∙ ap (first_among (is_sought sought name x) slice) (sym listed) ∙ sym e ∙ f)
