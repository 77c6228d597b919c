-- Cases of the definitions, and wrong answers that they refuse.
use Rattle.std.specs.Prelude.{◌≡◌, ℕ, List, [], ◌∷◌, Bool, true, false, Option, Some, None, refl}
use Rattle.al_modes.specs.declared.level.Level.TheVariants.{ReadCommitted}
use Rattle.al_values.specs.declared.kinds.Kind.TheVariants as kinds
use Rattle.al_values.specs.declared.scalar.Value.{Value}
use Rattle.al_values.specs.declared.scalar.Value.TheVariants as values
use Rattle.al_xacts.specs.declared.xact.Fate.{Fate}
use Rattle.al_xacts.specs.declared.xact.Fate.TheVariants.{Open, Committed, Aborted}
use Rattle.al_xacts.specs.declared.xact.Started.{Started}
use Rattle.al_xacts.specs.Snapshots.{Taken, taken}
use Rattle.al_heap.specs.declared.version.Stored.{Stored}
use Rattle.al_schema.specs.declared.slot.Slot.{Slot}
use Rattle.al_query.specs.Origins.{origins_of, origins_named, row_from}
use Rattle.al_query.specs.Rows.{rows_seen}
use Rattle.al_query.specs.Progress.{piece_end}

abbrev with_fate : Fate → Started
with_fate fate = record { session = 0; level = ReadCommitted; fate = fate }

-- 0 was committed, 1 was rolled back, 2 and 3 are open
abbrev transactions : List Started
transactions = with_fate Committed ∷ with_fate Aborted ∷ with_fate Open ∷ with_fate Open ∷ []

abbrev seen_by_2 : Taken
seen_by_2 = taken transactions 2

abbrev version : ℕ → ℕ → Option ℕ → List Value → Stored
version row maker remover stored = record { row = row; number = 0; maker = maker; remover = remover; removal = 0; values = stored }

abbrev slot : ℕ → Value → Bool → Slot
slot name added dropped = record { name = name ∷ []; kind = kinds.Bigint; default = values.Null; added = added; not_null = false; own = true; dropped = dropped }

abbrev one : Value
one = values.Bool true

abbrev two : Value
two = values.Bool false

-- a was dropped, b is stored, and c was added later
abbrev slots : List Slot
slots = slot 97 values.Null true ∷ slot 98 values.Null false ∷ slot 99 one false ∷ []

abbrev rows : List Stored → List (ℕ × List Value)
rows versions = rows_seen (origins_of slots) seen_by_2 transactions versions

pub own_row : rows (version 7 2 None (two ∷ two ∷ []) ∷ []) ≡ (7, two ∷ one ∷ []) ∷ []
own_row = refl

pub open_row_of_another : rows (version 7 3 None (two ∷ two ∷ []) ∷ []) ≡ []
open_row_of_another = refl

pub open_row_of_another_is_not_seen : rows (version 7 3 None (two ∷ two ∷ []) ∷ []) ≡ (7, two ∷ one ∷ []) ∷ [] → ⊥
open_row_of_another_is_not_seen e = cc

pub removed_by_itself : rows (version 7 0 (Some 2) (two ∷ two ∷ []) ∷ []) ≡ []
removed_by_itself = refl

pub removed_by_another : rows (version 7 0 (Some 3) (two ∷ two ∷ two ∷ []) ∷ []) ≡ (7, two ∷ two ∷ []) ∷ []
removed_by_another = refl

pub by_number : rows (version 9 0 None (one ∷ one ∷ []) ∷ version 7 0 None (two ∷ two ∷ []) ∷ []) ≡ (7, two ∷ one ∷ []) ∷ (9, one ∷ one ∷ []) ∷ []
by_number = refl

apart : two ∷ one ∷ [] ≡ two ∷ two ∷ [] → ⊥
apart e = cc

pub not_as_stored : row_from (origins_of slots) (two ∷ two ∷ []) ≡ two ∷ two ∷ [] → ⊥
not_as_stored e = apart e

-- by the names, c and b; and d, which the table doesn't have
pub by_names : row_from (origins_named slots ((99 ∷ []) ∷ (98 ∷ []) ∷ (100 ∷ []) ∷ [])) (one ∷ two ∷ []) ≡ one ∷ two ∷ values.Null ∷ []
by_names = refl

pub parts_end : (piece_end 3 9 4 ≡ 7) × (piece_end 7 9 4 ≡ 9) × (piece_end 7 9 0 ≡ 8) × (piece_end 9 9 4 ≡ 9)
parts_end = (refl, refl, refl, refl)
