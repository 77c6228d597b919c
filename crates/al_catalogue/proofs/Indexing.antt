-- How tables are found goes on to agree with them.
use Rattle.std.proofs.Common.{◌≡◌, ℕ, ◌+◌, ◌<◌, ◌≤◌, Bool, true, false, cond, not, List, [], ◌∷◌, ◌++◌, refl, sym, ap, ◌∙◌, subst, arith, zero, suc, slice_get, slice_set, get_or, Option, Some, None, ◌⊎◌, inl, inr, ⊎_elim, nat_eq, length, unwrap_or, Result, Ok, Err, OnOk, OnErr}
use Rattle.std.specs.Prelude.{◌==◌}
use Rattle.std.specs.Option.{option_map, option_map_or}
use Rattle.std.specs.Str.{bytes_eq}
use Rattle.std.specs.String.{string_bytes, string_eq}
use Rattle.std.specs.Prelude.{String}
use Rattle.std.proofs.lemmas.Slice.Eq.{bytes_eq-Decides}
use Rattle.std.proofs.lemmas.Map.Text.{hash_map_updates_text}
use Rattle.indexmap.specs.IndexMap.{IndexMap, UpdatesBy, get_by_text}
use Rattle.std.proofs.lemmas.Bool.{eqb-true, eqb-false, eq-eqb, or_cases, or_left, or_right, both_ways}
use Rattle.std.proofs.lemmas.List.Folds.{list_any-append}
use Rattle.std.proofs.lemmas.Option.{none-some, same_Some}
use Rattle.al_catalogue.specs.declared.entry.Own.{Own}
use Rattle.al_catalogue.specs.declared.entry.Kept.{Kept}
use Rattle.al_catalogue.specs.Names.{is_called}
use Rattle.al_catalogue.specs.Indexed.{is_listed, with_place, without_place, ChangesNamed, ChangesOwned, KeepsListed, numbers_of, place_in, has_name, is_own, AreNamed, IsIndexed, at_place, with_own, named_in}

-- ---- places

listed-with : (at : ℕ) (places : List ℕ) (i : ℕ) (b : Bool) → is_listed i places ≡ true → is_listed i (cond b places (places ++ at ∷ [])) ≡ true
listed-with at places i true h = h
listed-with at places i false h = list_any-append (λ (place : ℕ). place == i) places (at ∷ []) ∙ or_left _ _ h

listed-last : (at : ℕ) (places : List ℕ) → is_listed at (places ++ at ∷ []) ≡ true
listed-last at places = list_any-append (λ (place : ℕ). place == at) places (at ∷ []) ∙ or_right _ _ (or_left _ _ (eq-eqb at at refl))

listed-there_by : (at : ℕ) (places : List ℕ) (b : Bool) → is_listed at places ≡ b → is_listed at (cond b places (places ++ at ∷ [])) ≡ true
listed-there_by at places true e = e
listed-there_by at places false e = listed-last at places

listed-without : (at : ℕ) (places : List ℕ) (i : ℕ) → (i ≡ at → ⊥) → is_listed i places ≡ true → is_listed i (without_place at places) ≡ true
listed-without at [] i differ h = absurd (cc)
listed-without at (place ∷ places) i differ h = by_test (place == at) refl (or_cases (place == i) _ h) (listed-without at places i differ) where
  by_test : (b : Bool) → (place == at) ≡ b → ((place == i) ≡ true) ⊎ (is_listed i places ≡ true) → (is_listed i places ≡ true → is_listed i (without_place at places) ≡ true)
      → is_listed i (cond (not b) (place ∷ without_place at places) (without_place at places)) ≡ true
  by_test true e (inl same) more = absurd (differ (sym (eqb-true place i same) ∙ eqb-true place at e))
  by_test true e (inr later) more = more later
  by_test false e (inl same) more = or_left _ _ same
  by_test false e (inr later) more = or_right _ _ (more later)

-- ---- names

bytes_same : (xs ys : List ℕ) → bytes_eq xs ys ≡ true → xs ≡ ys
bytes_same xs ys e = (bytes_eq-Decides xs ys).0 e

named-more_by : (at : ℕ) (places after : List ℕ) (i : ℕ) (b : Bool) → after ≡ cond b (with_place at places) places → is_listed i places ≡ true → is_listed i after ≡ true
named-more_by at places after i true e h = ap (is_listed i) e ∙ listed-with at places i (is_listed at places) h
named-more_by at places after i false e h = ap (is_listed i) e ∙ h

pub named-keeps : (before after : List ℕ → List ℕ) (name : List ℕ) (at : ℕ) → ChangesNamed before after name (with_place at) → KeepsListed before after
named-keeps before after name at e key i h = named-more_by at (before key) (after key) i (bytes_eq name key) (e key) h

pub same-keeps : {K : Type 0} (before after : K → List ℕ) → ((key : K) → after key ≡ before key) → KeepsListed before after
same-keeps before after e key i h = ap (is_listed i) (e key) ∙ h

pub named-there : (before after : List ℕ → List ℕ) (name key : List ℕ) (at : ℕ) → ChangesNamed before after name (with_place at) → bytes_eq name key ≡ true → is_listed at (after key) ≡ true
named-there before after name key at e same =
    ap (is_listed at) (e key ∙ ap (λ (b : Bool). cond b (with_place at (before key)) (before key)) same) ∙ listed-there_by at (before key) (is_listed at (before key)) refl

-- a name that a table hasn't any more
pub named-cut : (tables : List Kept) (before after : List ℕ → List ℕ) (name : List ℕ) (at : ℕ) → ChangesNamed before after name (without_place at)
    → option_map_or (has_name name) (slice_get tables at) false ≡ false → AreNamed tables before → AreNamed tables after
named-cut tables before after name at e out names key i kept got h = ap (is_listed i) (e key) ∙ by (bytes_eq name key) refl where
  by : (b : Bool) → bytes_eq name key ≡ b → is_listed i (cond b (without_place at (before key)) (before key)) ≡ true
  by true same = listed-without at (before key) i
      (λ here. both_ways (has_name name kept)
      (ap (λ (o : Option Kept). option_map_or (has_name name) o false) (sym (ap (slice_get tables) (sym here) ∙ got)) ∙ out)
      (subst (λ (n : List ℕ). has_name n kept ≡ true) (sym (bytes_same name key same)) h))
      (names key i kept got h)
  by false same = names key i kept got h

-- ---- owners

owned-keeps_by : (at : ℕ) (places after : List ℕ) (i : ℕ) (b : Bool) → after ≡ cond b (places ++ at ∷ []) places → is_listed i places ≡ true → is_listed i after ≡ true
owned-keeps_by at places after i true e h = ap (is_listed i) e ∙ list_any-append (λ (place : ℕ). place == i) places (at ∷ []) ∙ or_left _ _ h
owned-keeps_by at places after i false e h = ap (is_listed i) e ∙ h

pub owned-keeps : (before after : ℕ → List ℕ) (x at : ℕ) → ChangesOwned before after x (λ (places : List ℕ). places ++ at ∷ []) → KeepsListed before after
owned-keeps before after x at e key i h = owned-keeps_by at (before key) (after key) i (nat_eq key x) (e key) h

pub owned-there : (before after : ℕ → List ℕ) (x at : ℕ) → ChangesOwned before after x (λ (places : List ℕ). places ++ at ∷ []) → is_listed at (after x) ≡ true
owned-there before after x at e = ap (is_listed at) (e x ∙ ap (λ (b : Bool). cond b (before x ++ at ∷ []) (before x)) (eq-eqb x x refl)) ∙ listed-last at (before x)

own_there : (x : ℕ) (o : Option Kept) → option_map_or (is_own x) o false ≡ true → (kept : Kept) × (o ≡ Some kept) × (is_own x kept ≡ true)
own_there x None e = absurd (cc)
own_there x (Some kept) e = (kept, refl, e)

-- the place of a change is listed, by now or before
pub owner-listed : (tables : List Kept) (numbers : ℕ → Option ℕ) (named : List ℕ → List ℕ) (owned owned' : ℕ → List ℕ) (x at : ℕ) → IsIndexed tables numbers named owned → KeepsListed owned owned'
    → (option_map_or (is_own x) (slice_get tables at) false ≡ false → is_listed at (owned' x) ≡ true) → is_listed at (owned' x) ≡ true
owner-listed tables numbers named owned owned' x at index keeps there = by (option_map_or (is_own x) (slice_get tables at) false) refl where
  by : (b : Bool) → option_map_or (is_own x) (slice_get tables at) false ≡ b → is_listed at (owned' x) ≡ true
  by true e = let o = own_there x (slice_get tables at) e in keeps x at (index.owners x at o.0 o.1 o.2)
  by false e = there e

-- ---- maps by names

pub changes-named : {Y S : Type 0} (bs name : List ℕ) (m n : IndexMap (String Y) (List ℕ) S) (w : Option (List ℕ)) (change : List ℕ → List ℕ) → bs ≡ name
    → UpdatesBy string_eq (λ (k : String Y). bytes_eq bs (string_bytes k)) m n w → unwrap_or w [] ≡ change (named_in m name) → ChangesNamed (named_in m) (named_in n) name change
changes-named bs name m n w change same updates is asked =
    ap (λ (o : Option (List ℕ)). unwrap_or o []) (hash_map_updates_text bs m n w updates asked)
    ∙ ap (λ (b : Bool). unwrap_or (cond b w (get_by_text m asked)) []) (ap (λ (ns : List ℕ). bytes_eq ns asked) same)
    ∙ by (bytes_eq name asked) refl where
      by : (b : Bool) → bytes_eq name asked ≡ b → unwrap_or (cond b w (get_by_text m asked)) [] ≡ cond b (change (named_in m asked)) (named_in m asked)
      by true e = is ∙ ap (λ (ns : List ℕ). change (named_in m ns)) (bytes_same name asked e)
      by false e = refl

pub changes-none : (before after : List ℕ → List ℕ) (name : List ℕ) → ChangesNamed before after name (λ (places : List ℕ). places) → (asked : List ℕ) → after asked ≡ before asked
changes-none before after name e asked = e asked ∙ by (bytes_eq name asked) where
  by : (b : Bool) → cond b (before asked) (before asked) ≡ before asked
  by true = refl
  by false = refl

-- ---- a table at a place

with-own_number : (own : Own) (tables : List Kept) (at : ℕ) → numbers_of (at_place (with_own own) at tables) ≡ numbers_of tables
with-own_number own [] at = refl
with-own_number own (kept ∷ tables) zero = refl
with-own_number own (kept ∷ tables) (suc at) = ap (λ (ns : List ℕ). kept.number ∷ ns) (with-own_number own tables at)

-- what stands at a place once the table at one was changed
pub got-at : (change : Kept → Kept) (tables : List Kept) (at i : ℕ) (kept : Kept) → slice_get (at_place change at tables) i ≡ Some kept
    → ((slice_get tables i ≡ Some kept) × (i ≡ at → ⊥)) ⊎ ((old : Kept) × (i ≡ at) × (slice_get tables i ≡ Some old) × (change old ≡ kept))
got-at change [] at i kept e = absurd (none-some kept e)
got-at change (first ∷ tables) zero zero kept e = inr (first, refl, refl, same_Some _ _ e)
got-at change (first ∷ tables) zero (suc i) kept e = inl (e, λ f. absurd (omega arith))
got-at change (first ∷ tables) (suc at) zero kept e = inl (e, λ f. absurd (omega arith))
got-at change (first ∷ tables) (suc at) (suc i) kept e =
    ⊎_elim (λ l. inl (l.0, λ f. l.1 (omega arith))) (λ r. inr (r.0, ap suc r.1, r.2, r.3)) (got-at change tables at i kept e)

pub set-at_place : (change : Kept → Kept) (tables : List Kept) (at : ℕ) (kept : Kept) → at < length tables → kept ≡ get_or tables at kept → slice_set tables at (change kept) ≡ at_place change at tables
set-at_place change [] at kept h e = absurd (omega arith)
set-at_place change (first ∷ tables) zero kept h e = ap (λ (k : Kept). change k ∷ tables) e
set-at_place change (first ∷ tables) (suc at) kept h e = ap (λ (ks : List Kept). first ∷ ks) (set-at_place change tables at kept (omega arith) e)

pub past-at_place : (change : Kept → Kept) (tables : List Kept) (at : ℕ) → length tables ≤ at → at_place change at tables ≡ tables
past-at_place change [] at h = refl
past-at_place change (first ∷ tables) zero h = absurd (omega arith)
past-at_place change (first ∷ tables) (suc at) h = ap (λ (ks : List Kept). first ∷ ks) (past-at_place change tables at (omega arith))

-- ---- what is kept grows

pub index-grows : (tables : List Kept) (numbers : ℕ → Option ℕ) (named named' : List ℕ → List ℕ) (owned owned' : ℕ → List ℕ)
    → KeepsListed named named' → KeepsListed owned owned' → IsIndexed tables numbers named owned → IsIndexed tables numbers named' owned'
index-grows tables numbers named named' owned owned' keeps_named keeps_owned index = record {
  numbered = index.numbered;
  names = λ name at kept got h. keeps_named name at (index.names name at kept got h);
  owners = λ x at kept got h. keeps_owned x at (index.owners x at kept got h);
}

-- names of a table as it is changed are listed
pub named-changed : (tables : List Kept) (named named' : List ℕ → List ℕ) (at : ℕ) (own : Own) → AreNamed tables named → KeepsListed named named'
    → ((name : List ℕ) → is_called name own.entry ≡ true → is_listed at (named' name) ≡ true) → AreNamed (at_place (with_own own) at tables) named'
named-changed tables named named' at own names keeps there name i kept got h =
    ⊎_elim (λ l. keeps name i (names name i kept l.0 h))
    (λ r. let here : has_name name (with_own own r.0) ≡ true = subst (λ (k : Kept). has_name name k ≡ true) (sym r.3) h in
    ⊎_elim (λ before. keeps name i (names name i r.0 r.2 (or_left _ _ before))) (λ now. subst (λ (n : ℕ). is_listed n (named' name) ≡ true) (sym r.1) (there name now))
    (or_cases (is_called name r.0.committed) (is_called name own.entry) here))
    (got-at (with_own own) tables at i kept got)

pub index-changed : (tables : List Kept) (numbers : ℕ → Option ℕ) (named named' : List ℕ → List ℕ) (owned owned' : ℕ → List ℕ) (at : ℕ) (own : Own)
    → IsIndexed tables numbers named owned → AreNamed (at_place (with_own own) at tables) named' → KeepsListed owned owned'
    → is_listed at (owned' own.xact) ≡ true → IsIndexed (at_place (with_own own) at tables) numbers named' owned'
index-changed tables numbers named named' owned owned' at own index names keeps there = record {
  numbered = λ number. index.numbered number ∙ ap (λ (ns : List ℕ). place_in ns number) (sym (with-own_number own tables at));
  names = names;
  owners = λ x i kept got h. ⊎_elim (λ l. keeps x i (index.owners x i kept l.0 h))
      (λ r. let here : is_own x (with_own own r.0) ≡ true = subst (λ (k : Kept). is_own x k ≡ true) (sym r.3) h in
      subst (λ (n : ℕ). is_listed n (owned' x) ≡ true) (sym r.1) (subst (λ (y : ℕ). is_listed at (owned' y) ≡ true) (eqb-true own.xact x here) there))
      (got-at (with_own own) tables at i kept got);
}

-- ---- a table more

got-pushed : (tables : List Kept) (new : Kept) (i : ℕ) (kept : Kept) → slice_get (tables ++ new ∷ []) i ≡ Some kept → (slice_get tables i ≡ Some kept) ⊎ ((i ≡ length tables) × (new ≡ kept))
got-pushed [] new zero kept e = inr (refl, same_Some new kept e)
got-pushed [] new (suc i) kept e = absurd (none-some kept e)
got-pushed (first ∷ tables) new zero kept e = inl e
got-pushed (first ∷ tables) new (suc i) kept e = ⊎_elim (λ l. inl l) (λ r. inr (ap suc r.0, r.1)) (got-pushed tables new i kept e)

numbers-pushed : (tables : List Kept) (new : Kept) → numbers_of (tables ++ new ∷ []) ≡ numbers_of tables ++ new.number ∷ []
numbers-pushed [] new = refl
numbers-pushed (first ∷ tables) new = ap (λ (ns : List ℕ). first.number ∷ ns) (numbers-pushed tables new)

more-none : (o : Option ℕ) → option_map (λ (at : ℕ). at + 1) o ≡ None → o ≡ None
more-none None e = refl
more-none (Some at) e = absurd (cc)

not-first : (m n : ℕ) (ns : List ℕ) → place_in (m ∷ ns) n ≡ None → ((m == n) ≡ false) × (place_in ns n ≡ None)
not-first m n ns e = by_test (m == n) refl e where
  by_test : (b : Bool) → (m == n) ≡ b → cond b (Some 0) (option_map (λ (at : ℕ). at + 1) (place_in ns n)) ≡ None → ((m == n) ≡ false) × (place_in ns n ≡ None)
  by_test true e f = absurd (cc)
  by_test false e f = (e, more-none _ f)

place-pushed : (ns : List ℕ) (n asked : ℕ) → place_in ns n ≡ None → place_in (ns ++ n ∷ []) asked ≡ cond (n == asked) (Some (length ns)) (place_in ns asked)
place-pushed [] n asked e = refl
place-pushed (m ∷ ns) n asked e = let out = not-first m n ns e in by_tests (m == asked) refl (n == asked) refl out.0 (place-pushed ns n asked out.1) where
  by_tests : (b : Bool) → (m == asked) ≡ b → (d : Bool) → (n == asked) ≡ d → (m == n) ≡ false → place_in (ns ++ n ∷ []) asked ≡ cond (n == asked) (Some (length ns)) (place_in ns asked)
      → cond b (Some 0) (option_map (λ (at : ℕ). at + 1) (place_in (ns ++ n ∷ []) asked)) ≡ cond d (Some (suc (length ns))) (cond b (Some 0) (option_map (λ (at : ℕ). at + 1) (place_in ns asked)))
  by_tests true p true q apart more = absurd (eqb-false m n apart (eqb-true m asked p ∙ sym (eqb-true n asked q)))
  by_tests true p false q apart more = refl
  by_tests false p true q apart more = ap (option_map (λ (at : ℕ). at + 1)) (more ∙ ap (λ (b : Bool). cond b (Some (length ns)) (place_in ns asked)) q) ∙ ap Some (omega arith)
  by_tests false p false q apart more = ap (option_map (λ (at : ℕ). at + 1)) (more ∙ ap (λ (b : Bool). cond b (Some (length ns)) (place_in ns asked)) q)

length-numbers : (tables : List Kept) → length (numbers_of tables) ≡ length tables
length-numbers [] = refl
length-numbers (kept ∷ tables) = ap suc (length-numbers tables)

pub index-pushed : (tables : List Kept) (numbers numbers' : ℕ → Option ℕ) (named named' : List ℕ → List ℕ) (owned owned' : ℕ → List ℕ) (table : ℕ) (own : Own)
    → IsIndexed tables numbers named owned → place_in (numbers_of tables) table ≡ None
    → ((asked : ℕ) → numbers' asked ≡ cond (table == asked) (Some (length tables)) (numbers asked))
    → KeepsListed named named' → ((name : List ℕ) → is_called name own.entry ≡ true → is_listed (length tables) (named' name) ≡ true)
    → KeepsListed owned owned' → is_listed (length tables) (owned' own.xact) ≡ true
    → IsIndexed (tables ++ record { number = table; committed = None; own = Some own } ∷ []) numbers' named' owned'
index-pushed tables numbers numbers' named named' owned owned' table own index out more keeps_named there_named keeps_owned there_owned = record {
  numbered = λ asked. more asked ∙ ap (λ (o : Option ℕ). cond (table == asked) (Some (length tables)) o) (index.numbered asked)
      ∙ ap (λ (n : ℕ). cond (table == asked) (Some n) (place_in (numbers_of tables) asked)) (sym (length-numbers tables))
      ∙ sym (place-pushed (numbers_of tables) table asked out) ∙ ap (λ (ns : List ℕ). place_in ns asked) (sym (numbers-pushed tables (record { number = table; committed = None; own = Some own })));
  names = λ name i kept got h. ⊎_elim (λ l. keeps_named name i (index.names name i kept l h))
      (λ r. subst (λ (n : ℕ). is_listed n (named' name) ≡ true) (sym r.0) (there_named name (subst (λ (k : Kept). has_name name k ≡ true) (sym r.1) h)))
      (got-pushed tables _ i kept got);
  owners = λ x i kept got h. ⊎_elim (λ l. keeps_owned x i (index.owners x i kept l h))
      (λ r. let here : (own.xact == x) ≡ true = subst (λ (k : Kept). is_own x k ≡ true) (sym r.1) h in
      subst (λ (n : ℕ). is_listed n (owned' x) ≡ true) (sym r.0) (subst (λ (y : ℕ). is_listed (length tables) (owned' y) ≡ true) (eqb-true own.xact x here) there_owned))
      (got-pushed tables _ i kept got);
}

-- nothing is lost, whatever a call answers
pub either-keeps : {K V W : Type 0} (result : Result V W) (before after : K → List ℕ) (P : Type 0) → OnOk result P → OnErr result ((key : K) → after key ≡ before key) → (P → KeepsListed before after) → KeepsListed before after
either-keeps (Ok v) before after P ok err keeps = keeps ok
either-keeps (Err w) before after P ok err keeps = same-keeps before after err
