-- Cases of the definitions, and wrong answers that they refuse.
use Rattle.std.specs.Prelude.{◌≡◌, ℕ, List, [], ◌∷◌, true, false, None, refl}
use Rattle.al_modes.specs.declared.level.Level.TheVariants.{ReadCommitted}
use Rattle.al_modes.specs.declared.row_mode.RowMode.{RowMode}
use Rattle.al_modes.specs.declared.row_mode.RowMode.TheVariants as modes
use Rattle.al_xacts.specs.declared.xact.Fate.{Fate}
use Rattle.al_xacts.specs.declared.xact.Fate.TheVariants.{Open, Committed, Aborted}
use Rattle.al_xacts.specs.declared.xact.Started.{Started}
use Rattle.al_xacts.specs.declared.xact.Mark.{Mark}
use Rattle.al_xacts.specs.declared.xact.Marked.TheVariants.{Done, Held}
use Rattle.al_xacts.specs.Kept.{Kept}
use Rattle.al_xacts.specs.Marks.{with_mark, without_marks, makes_wait}
use Rattle.al_xacts.specs.Snapshots.{taken, sees}
use Rattle.al_xacts.specs.Least.{in_way, answer}

abbrev with_fate : Fate → Started
with_fate fate = record { session = 0; level = ReadCommitted; fate = fate }

-- ---- snapshots: 0 was committed, 1 was rolled back, 2 and 3 are open

abbrev before : List Started
before = with_fate Committed ∷ with_fate Aborted ∷ with_fate Open ∷ with_fate Open ∷ []

-- then 3 is committed, and 4 starts and is committed
abbrev after : List Started
after = with_fate Committed ∷ with_fate Aborted ∷ with_fate Open ∷ with_fate Committed ∷ with_fate Committed ∷ []

pub taken_by_2 : taken before 2 ≡ record { own = 2; end = 4; open_ones = 2 ∷ 3 ∷ [] }
taken_by_2 = refl

pub sees_committed : sees (taken before 2) after 0 ≡ true
sees_committed = refl

pub sees_no_aborted : sees (taken before 2) after 1 ≡ false
sees_no_aborted = refl

pub sees_own : sees (taken before 2) after 2 ≡ true
sees_own = refl

pub sees_no_later_commit : sees (taken before 2) after 3 ≡ false
sees_no_later_commit = refl

pub sees_no_later_start : sees (taken before 2) after 4 ≡ false
sees_no_later_start = refl

pub sees_anew : sees (taken after 2) after 3 ≡ true
sees_anew = refl

-- ---- marks: 5 and 3 share row 7, and 4 has row 8

abbrev mark : ℕ → RowMode → Mark
mark x mode = record { xact = x; mode = mode }

abbrev kept : Kept
kept = record { sessions = 8; transactions = []; marks = (7, mark 5 modes.Share ∷ mark 3 modes.KeyShare ∷ []) ∷ (8, mark 4 modes.Update ∷ []) ∷ [] }

pub beside_key_share : in_way kept 5 7 modes.NoKeyUpdate ≡ None
beside_key_share = refl

pub share_in_the_way : answer (in_way kept 3 7 modes.NoKeyUpdate) ≡ Held 5
share_in_the_way = refl

pub least_in_the_way : answer (in_way kept 4 7 modes.Update) ≡ Held 3
least_in_the_way = refl

pub not_the_first : answer (in_way kept 4 7 modes.Update) ≡ Held 5 → ⊥
not_the_first e = cc

pub own_row : answer (in_way kept 4 8 modes.KeyShare) ≡ Done
own_row = refl

pub free_row : answer (in_way kept 4 9 modes.Update) ≡ Done
free_row = refl

pub waits_for_it : makes_wait (mark 5 modes.Share ∷ []) 3 modes.Update 5 ≡ true
waits_for_it = refl

pub waits_not_for_itself : makes_wait (mark 5 modes.Share ∷ []) 5 modes.Update 5 ≡ false
waits_not_for_itself = refl

-- a weaker mark of the same transaction isn't kept, and a stronger one is
pub weaker_mark : with_mark (mark 5 modes.KeyShare) (mark 5 modes.Share ∷ []) ≡ mark 5 modes.Share ∷ []
weaker_mark = refl

pub stronger_mark : with_mark (mark 5 modes.Update) (mark 5 modes.Share ∷ []) ≡ mark 5 modes.Share ∷ mark 5 modes.Update ∷ []
stronger_mark = refl

pub dropped_marks : without_marks 5 (mark 5 modes.Share ∷ mark 3 modes.KeyShare ∷ mark 5 modes.Update ∷ []) ≡ mark 3 modes.KeyShare ∷ []
dropped_marks = refl
