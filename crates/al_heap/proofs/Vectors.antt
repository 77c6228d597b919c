-- Cases of the definitions, and wrong answers that they refuse.
use Rattle.std.specs.Prelude.{◌≡◌, ℕ, List, [], ◌∷◌, true, false, Option, Some, None, refl}
use Rattle.al_modes.specs.declared.level.Level.TheVariants.{ReadCommitted}
use Rattle.al_xacts.specs.declared.xact.Fate.{Fate}
use Rattle.al_xacts.specs.declared.xact.Fate.TheVariants.{Open, Committed, Aborted}
use Rattle.al_xacts.specs.declared.xact.Started.{Started}
use Rattle.al_xacts.specs.Snapshots.{Taken, taken}
use Rattle.al_heap.specs.declared.version.Stored.{Stored}
use Rattle.al_heap.specs.Versions.{newest, standing}
use Rattle.al_heap.specs.Visible.{is_visible}
use Rattle.al_heap.specs.Changes.{can_change}

abbrev with_fate : Fate → Started
with_fate fate = record { session = 0; level = ReadCommitted; fate = fate }

-- 0 was committed, 1 was rolled back, 2 and 3 are open
abbrev transactions : List Started
transactions = with_fate Committed ∷ with_fate Aborted ∷ with_fate Open ∷ with_fate Open ∷ []

abbrev version : ℕ → ℕ → Option ℕ → Stored
version row maker remover = record { row = row; number = 0; maker = maker; remover = remover; removal = 0; values = [] }

abbrev seen_by_2 : Taken
seen_by_2 = taken transactions 2

pub sees_committed : is_visible seen_by_2 transactions (version 7 0 None) ≡ true
sees_committed = refl

pub sees_no_aborted : is_visible seen_by_2 transactions (version 7 1 None) ≡ false
sees_no_aborted = refl

pub sees_no_open : is_visible seen_by_2 transactions (version 7 3 None) ≡ false
sees_no_open = refl

pub sees_though_open_removes : is_visible seen_by_2 transactions (version 7 0 (Some 3)) ≡ true
sees_though_open_removes = refl

pub sees_though_aborted_removed : is_visible seen_by_2 transactions (version 7 0 (Some 1)) ≡ true
sees_though_aborted_removed = refl

pub sees_not_what_it_removed : is_visible seen_by_2 transactions (version 7 0 (Some 2)) ≡ false
sees_not_what_it_removed = refl

-- row 7: a committed version, one of a transaction that was rolled back, and between them another row's
abbrev versions : List Stored
versions = version 7 0 (Some 1) ∷ version 8 0 None ∷ version 7 1 None ∷ []

pub newest_of_all : newest versions 7 ≡ Some 2
newest_of_all = refl

pub newest_that_stands : standing transactions versions 7 ≡ Some 0
newest_that_stands = refl

pub no_version : newest versions 9 ≡ None
no_version = refl

pub may_change : can_change transactions versions 7 2 ≡ true
may_change = refl

pub may_not_change : can_change transactions (version 7 0 (Some 3) ∷ []) 7 2 ≡ false
may_not_change = refl

pub may_not_change_other : can_change transactions (version 7 3 None ∷ []) 7 2 ≡ false
may_not_change_other = refl
