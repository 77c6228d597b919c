-- Cases of the definitions, and wrong answers that they refuse.
use Rattle.std.specs.Prelude.{◌≡◌, ℕ, pos, List, [], ◌∷◌, true, false, Option, Some, None, refl}
use Rattle.std.specs.declared.cmp.Ordering.TheVariants.{Less, Greater}
use Rattle.al_modes.specs.declared.level.Level.TheVariants.{ReadCommitted}
use Rattle.al_values.specs.declared.scalar.Value.{Value}
use Rattle.al_values.specs.declared.scalar.Value.TheVariants as values
use Rattle.al_xacts.specs.declared.xact.Fate.{Fate}
use Rattle.al_xacts.specs.declared.xact.Fate.TheVariants as fates
use Rattle.al_xacts.specs.declared.xact.Started.{Started}
use Rattle.al_xacts.specs.Snapshots.{Taken, taken}
use Rattle.al_keys.specs.declared.version.KeyVersion.{KeyVersion}
use Rattle.al_keys.specs.declared.version.Sought.TheVariants.{Free, Held, Open}
use Rattle.al_keys.specs.Order.{keys_equal, has_null, key_order}
use Rattle.al_keys.specs.Keys.{left_by}
use Rattle.al_keys.specs.Sought.{sought, least_row, is_visible}

-- ---- keys

abbrev one : List Value
one = values.Int (pos 1) ∷ []

abbrev null : List Value
null = values.Int (pos 1) ∷ values.Null ∷ []

pub equal_to_itself : keys_equal one one ≡ true
equal_to_itself = refl

pub null_is_equal_to_none : keys_equal null null ≡ false
null_is_equal_to_none = refl

pub key_with_null : has_null null ≡ true
key_with_null = refl

pub another_sort : keys_equal one (values.Day (pos 1) ∷ []) ≡ false
another_sort = refl

pub prefix_is_less : key_order one null ≡ Less
prefix_is_less = refl

pub texts_behind_numbers : key_order (values.Text [] ∷ []) one ≡ Greater
texts_behind_numbers = refl

-- ---- versions: 0 was committed, 1 was rolled back, 2 and 3 are open

abbrev with_fate : Fate → Started
with_fate fate = record { session = 0; level = ReadCommitted; fate = fate }

abbrev transactions : List Started
transactions = with_fate fates.Committed ∷ with_fate fates.Aborted ∷ with_fate fates.Open ∷ with_fate fates.Open ∷ []

abbrev version : ℕ → ℕ → Option ℕ → KeyVersion
version row maker remover = record { row = row; place = 0; maker = maker; remover = remover }

pub committed_row : sought transactions 2 (version 7 0 None ∷ []) ≡ Held 7
committed_row = refl

pub own_row : sought transactions 2 (version 7 2 None ∷ []) ≡ Held 7
own_row = refl

pub open_maker : sought transactions 2 (version 7 3 None ∷ []) ≡ Open 3
open_maker = refl

pub open_remover : sought transactions 2 (version 7 0 (Some 3) ∷ []) ≡ Open 3
open_remover = refl

pub not_held : sought transactions 2 (version 7 0 (Some 3) ∷ []) ≡ Held 7 → ⊥
not_held e = cc

-- also where its open maker has replaced it
pub replaced_by_its_maker : sought transactions 2 (version 7 3 (Some 3) ∷ []) ≡ Open 3
replaced_by_its_maker = refl

pub aborted_maker : sought transactions 2 (version 7 1 None ∷ []) ≡ Free
aborted_maker = refl

pub aborted_remover : sought transactions 2 (version 7 0 (Some 1) ∷ []) ≡ Held 7
aborted_remover = refl

pub own_removal : sought transactions 2 (version 7 0 (Some 2) ∷ []) ≡ Free
own_removal = refl

-- the rows are looked at in ascending number, whatever the order in which they were entered
pub least_row_first : sought transactions 2 (version 9 3 None ∷ version 7 0 None ∷ []) ≡ Held 7
least_row_first = refl

pub given_row : least_row (is_visible (taken transactions 2) transactions) (version 9 0 None ∷ version 8 0 (Some 3) ∷ version 7 3 None ∷ []) ≡ Some 8
given_row = refl

-- the newest version of the row is left, and none of a transaction that was rolled back
pub left_version : left_by transactions 2 7 (version 7 0 None ∷ version 7 1 None ∷ version 8 0 None ∷ []) ≡ version 7 0 (Some 2) ∷ version 7 1 None ∷ version 8 0 None ∷ []
left_version = refl
