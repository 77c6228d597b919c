-- The table of a number, by its place.
use Rattle.std.proofs.Common.{◌≡◌, ℕ, ◌+◌, Bool, true, false, cond, List, [], ◌∷◌, ◌++◌, refl, sym, ap, ◌∙◌, subst, arith, zero, suc, slice_get, Option, Some, None}
use Rattle.std.specs.Prelude.{◌==◌}
use Rattle.std.specs.Option.{option_map, option_map_or, option_and_then}
use Rattle.std.proofs.lemmas.Option.{none-some, same_Some}
use Rattle.al_catalogue.specs.declared.entry.TableEntry.{TableEntry}
use Rattle.al_catalogue.specs.declared.entry.Kept.{Kept}
use Rattle.al_catalogue.specs.Tables.{seen, entry_of}
use Rattle.al_catalogue.specs.Changes.{is_mine, is_free_for, changed}
use Rattle.al_catalogue.specs.Indexed.{numbers_of, place_in, at_place, with_own}

-- the place is the first, or one of the later tables
abbrev pub Located : ℕ → Kept → List Kept → ℕ → Type 0
Located table kept tables zero = (kept.number == table) ≡ true
Located table kept tables (suc at) = ((kept.number == table) ≡ false) × (place_in (numbers_of tables) table ≡ Some at)

one-more : (o : Option ℕ) (at : ℕ) → option_map (λ (n : ℕ). n + 1) o ≡ Some at → (before : ℕ) × (at ≡ suc before) × (o ≡ Some before)
one-more None at e = absurd (none-some at e)
one-more (Some before) at e = (before, sym (same_Some _ _ e) ∙ omega arith, refl)

located : (table : ℕ) (kept : Kept) (tables : List Kept) (at : ℕ) → place_in (numbers_of (kept ∷ tables)) table ≡ Some at → Located table kept tables at
located table kept tables at e = by_test (kept.number == table) refl e where
  by_test : (b : Bool) → (kept.number == table) ≡ b → cond b (Some 0) (option_map (λ (n : ℕ). n + 1) (place_in (numbers_of tables) table)) ≡ Some at → Located table kept tables at
  by_test true p e = subst (Located table kept tables) (same_Some 0 at e) p
  by_test false p e = let m = one-more _ at e in subst (Located table kept tables) (sym m.1) (p, m.2)

not-located : (table : ℕ) (kept : Kept) (tables : List Kept) → place_in (numbers_of (kept ∷ tables)) table ≡ None → ((kept.number == table) ≡ false) × (place_in (numbers_of tables) table ≡ None)
not-located table kept tables e = by_test (kept.number == table) refl e where
  none_more : (o : Option ℕ) → option_map (λ (n : ℕ). n + 1) o ≡ None → o ≡ None
  none_more None f = refl
  none_more (Some at) f = absurd (cc)

  by_test : (b : Bool) → (kept.number == table) ≡ b → cond b (Some 0) (option_map (λ (n : ℕ). n + 1) (place_in (numbers_of tables) table)) ≡ None → ((kept.number == table) ≡ false) × (place_in (numbers_of tables) table ≡ None)
  by_test true p f = absurd (cc)
  by_test false p f = (p, none_more _ f)

pub entry-at : (table x : ℕ) (tables : List Kept) (at : ℕ) → place_in (numbers_of tables) table ≡ Some at → option_and_then (seen x) (slice_get tables at) ≡ entry_of tables table x
entry-at table x [] at e = absurd (none-some at e)
entry-at table x (kept ∷ tables) zero e = rw (located table kept tables 0 e) refl
entry-at table x (kept ∷ tables) (suc at) e = let l = located table kept tables (suc at) e in rw l.0 (entry-at table x tables at l.1)

pub entry-none : (table x : ℕ) (tables : List Kept) → place_in (numbers_of tables) table ≡ None → entry_of tables table x ≡ None
entry-none table x [] e = refl
entry-none table x (kept ∷ tables) e = let l = not-located table kept tables e in rw l.0 (entry-none table x tables l.1)

pub free-at : (table x : ℕ) (tables : List Kept) (at : ℕ) → place_in (numbers_of tables) table ≡ Some at → option_map_or (λ (kept : Kept). is_mine x kept.own) (slice_get tables at) true ≡ is_free_for tables table x
free-at table x [] at e = absurd (none-some at e)
free-at table x (kept ∷ tables) zero e = rw (located table kept tables 0 e) refl
free-at table x (kept ∷ tables) (suc at) e = let l = located table kept tables (suc at) e in rw l.0 (free-at table x tables at l.1)

pub free-none : (table x : ℕ) (tables : List Kept) → place_in (numbers_of tables) table ≡ None → is_free_for tables table x ≡ true
free-none table x [] e = refl
free-none table x (kept ∷ tables) e = let l = not-located table kept tables e in rw l.0 (free-none table x tables l.1)

pub changed-at : (table x : ℕ) (entry : Option TableEntry) (tables : List Kept) (at : ℕ) → place_in (numbers_of tables) table ≡ Some at
    → at_place (with_own (record { xact = x; entry = entry })) at tables ≡ changed x table entry tables
changed-at table x entry [] at e = absurd (none-some at e)
changed-at table x entry (kept ∷ tables) zero e = rw (located table kept tables 0 e) refl
changed-at table x entry (kept ∷ tables) (suc at) e = let l = located table kept tables (suc at) e in rw l.0 (ap (λ (ks : List Kept). kept ∷ ks) (changed-at table x entry tables at l.1))

pub changed-new : (table x : ℕ) (entry : Option TableEntry) (tables : List Kept) → place_in (numbers_of tables) table ≡ None
    → tables ++ record { number = table; committed = None; own = Some (record { xact = x; entry = entry }) } ∷ [] ≡ changed x table entry tables
changed-new table x entry [] e = refl
changed-new table x entry (kept ∷ tables) e = let l = not-located table kept tables e in rw l.0 (ap (λ (ks : List Kept). kept ∷ ks) (changed-new table x entry tables l.1))

pub place-within : (table : ℕ) (tables : List Kept) (at : ℕ) → place_in (numbers_of tables) table ≡ Some at → (kept : Kept) × (slice_get tables at ≡ Some kept)
place-within table [] at e = absurd (none-some at e)
place-within table (kept ∷ tables) zero e = (kept, refl)
place-within table (kept ∷ tables) (suc at) e = place-within table tables at (located table kept tables (suc at) e).1
