-- How tables are found: by number, by name, and by the transaction that has changed them.
use Rattle.std.specs.Prelude.{◌≡◌, ℕ, zero, suc, ◌+◌, List, [], ◌∷◌, ◌++◌, Bool, true, false, not, ◌==◌, ◌||◌, ◌&&◌, if◌then◌else◌, Option, Some, None, unwrap_or, filter, fold, nat_eq, nat_le, slice_get, String}
use Rattle.std.specs.List.{list_any}
use Rattle.std.specs.Option.{option_map, option_map_or, is_some}
use Rattle.std.specs.Map.{lookup}
use Rattle.std.specs.Str.{bytes_eq}
use Rattle.indexmap.specs.IndexMap.{IndexMap, get_by_text}
use Rattle.al_catalogue.specs.declared.entry.TableEntry.{TableEntry}
use Rattle.al_catalogue.specs.declared.entry.Own.{Own}
use Rattle.al_catalogue.specs.declared.entry.Kept.{Kept}
use Rattle.al_catalogue.specs.declared.search.Sought.{Sought}
use Rattle.al_catalogue.specs.declared.search.Sought.TheVariants.{Found, Moved}
use Rattle.al_catalogue.specs.Tables.{seen}
use Rattle.al_catalogue.specs.Names.{is_called, taker_of}

-- places

abbrev pub is_listed : ℕ → List ℕ → Bool
is_listed at places = list_any (λ place. place == at) places

abbrev pub with_place : ℕ → List ℕ → List ℕ
with_place at places = if is_listed at places then places else places ++ at ∷ []

abbrev pub without_place : ℕ → List ℕ → List ℕ
without_place at places = filter (λ place. not (place == at)) places

-- a name's or a transaction's places are changed, and no others
abbrev pub ChangesNamed : (List ℕ → List ℕ) → (List ℕ → List ℕ) → List ℕ → (List ℕ → List ℕ) → Type 0
ChangesNamed before after name change = (asked : List ℕ) → after asked ≡ (if bytes_eq name asked then change (before asked) else before asked)

abbrev pub ChangesOwned : (ℕ → List ℕ) → (ℕ → List ℕ) → ℕ → (List ℕ → List ℕ) → Type 0
ChangesOwned before after x change = (asked : ℕ) → after asked ≡ (if nat_eq asked x then change (before asked) else before asked)

abbrev pub named_in : {Y S : Type 0} → IndexMap (String Y) (List ℕ) S → List ℕ → List ℕ
named_in names name = unwrap_or (get_by_text names name) []

-- no place is lost
abbrev pub KeepsListed : {K : Type 0} → (K → List ℕ) → (K → List ℕ) → Type 0
KeepsListed {K} before after = (key : K) (at : ℕ) → is_listed at (before key) ≡ true → is_listed at (after key) ≡ true

abbrev pub owned_in : List (ℕ × List ℕ) → ℕ → List ℕ
owned_in entries x = unwrap_or (lookup (nat_eq x) entries) []

-- numbers

abbrev pub numbers_of : List Kept → List ℕ
numbers_of [] = []
numbers_of (kept ∷ tables) = kept.number ∷ numbers_of tables

abbrev pub place_in : List ℕ → ℕ → Option ℕ
place_in [] number = None
place_in (other ∷ numbers) number = if other == number then Some 0 else option_map (λ at. at + 1) (place_in numbers number)

-- a table is called so by what is committed, or by an open transaction's change
abbrev pub own_called : List ℕ → Option Own → Bool
own_called name None = false
own_called name (Some own) = is_called name own.entry

abbrev pub has_name : List ℕ → Kept → Bool
has_name name kept = is_called name kept.committed || own_called name kept.own

-- a transaction has changed a table
abbrev pub own_by : ℕ → Option Own → Bool
own_by x None = false
own_by x (Some own) = own.xact == x

abbrev pub is_own : ℕ → Kept → Bool
is_own x kept = own_by x kept.own

-- each table stands among the places of its names
abbrev pub AreNamed : List Kept → (List ℕ → List ℕ) → Type 0
AreNamed tables named =
    (name : List ℕ) (at : ℕ) (kept : Kept) → slice_get tables at ≡ Some kept → has_name name kept ≡ true → is_listed at (named name) ≡ true

-- each table is found by its number, and stands among the places of its names and of the transaction that has changed it
pub record IsIndexed (tables : List Kept) (numbers : ℕ → Option ℕ) (named : List ℕ → List ℕ) (owned : ℕ → List ℕ) : Type 0 where
  pub numbered : (number : ℕ) → numbers number ≡ place_in (numbers_of tables) number
  pub names : AreNamed tables named
  pub owners : (x at : ℕ) (kept : Kept) → slice_get tables at ≡ Some kept → is_own x kept ≡ true → is_listed at (owned x) ≡ true

-- whether the table at a place has a name
abbrev pub has_name_at : List Kept → List ℕ → ℕ → Bool
has_name_at tables name at = option_map_or (has_name name) (slice_get tables at) false

-- the places of a name are exactly those of the tables that have it
abbrev pub AreExact : List Kept → (List ℕ → List ℕ) → Type 0
AreExact tables named = (name : List ℕ) (at : ℕ) → is_listed at (named name) ≡ has_name_at tables name at

-- but that one place stands there by the name of an entry too
abbrev pub AreExactBut : List Kept → (List ℕ → List ℕ) → ℕ → Option TableEntry → Type 0
AreExactBut tables named at entry =
    (name : List ℕ) (other : ℕ) → is_listed other (named name) ≡ (has_name_at tables name other || ((at == other) && is_called name entry))

-- a place more for the name of an entry, and no other
abbrev pub ListsMore : (List ℕ → List ℕ) → (List ℕ → List ℕ) → ℕ → Option TableEntry → Type 0
ListsMore before after at entry =
    (name : List ℕ) (other : ℕ) → is_listed other (after name) ≡ (is_listed other (before name) || ((at == other) && is_called name entry))

-- no name is kept without a place
abbrev pub HasNoBare : (List ℕ → Option (List ℕ)) → Type 0
HasNoBare got = (name : List ℕ) → got name ≡ Some [] → ⊥

-- the table at a place is changed
abbrev pub at_place : (Kept → Kept) → ℕ → List Kept → List Kept
at_place change at [] = []
at_place change zero (kept ∷ tables) = change kept ∷ tables
at_place change (suc at) (kept ∷ tables) = kept ∷ at_place change at tables

abbrev pub with_own : Own → Kept → Kept
with_own own kept = record kept { own = Some own }

-- what is sought among the tables of a name: one that a transaction finds by it, or one that another makes come to it or go
abbrev pub is_sought : Sought → List ℕ → ℕ → Kept → Bool
is_sought Found name x kept = is_called name (seen x kept)
is_sought Moved name x kept = is_some (taker_of name x kept.committed kept.own)

abbrev pub passes : (Kept → Bool) → Option Kept → Bool
passes test None = false
passes test (Some kept) = test kept

-- the lesser of a place found so far and another, where the table there passes
abbrev pub lesser : Option ℕ → ℕ → Option ℕ
lesser None at = Some at
lesser (Some other) at = if nat_le other at then Some other else Some at

abbrev pub nearer : (Kept → Bool) → List Kept → Option ℕ → ℕ → Option ℕ
nearer test tables found at = if passes test (slice_get tables at) then lesser found at else found

-- the first of some places whose tables pass
abbrev pub first_among : (Kept → Bool) → List Kept → List ℕ → Option ℕ
first_among test tables places = fold (nearer test tables) None places
