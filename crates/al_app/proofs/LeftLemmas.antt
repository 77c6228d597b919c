-- What is left to do, and the move that is due.
use Rattle.std.proofs.Common.{◌≡◌, ℕ, zero, suc, ◌+◌, ◌≤◌, List, [], ◌∷◌, ◌++◌, length, drop, refl, ap, Option, Some, None, Bool, true, false, arith, ◌∙◌, slice_get, option_map, flat_map}
use Rattle.std.specs.Prelude.{IsSome, ◌||◌}
use Rattle.al_history.specs.declared.entry.Entry.TheVariants.{Cancel}
use Rattle.al_spec.specs.declared.spec.Block.{Block}
use Rattle.al_spec.specs.declared.spec.Part.{Part}
use Rattle.al_spec.specs.declared.spec.Spec.{Spec}
use Rattle.al_history.specs.Past.{Past}
use Rattle.al_history.specs.Hand.{hand}
use Rattle.al_history.specs.Whole.{blocks_such, session_for, Task, GiveBlock, GiveSteps, CancelIfBusy, CloseSession, give_and_cancel, Move, move_for, next_move, left_by, left, due}
use Rattle.al_app.specs.Runs.{HasLeft, left_when, tasks_from}

-- ---- moves

-- a move depends on the past by who is busy alone
move_same : (spec : Spec) (p q : Past) (task : Task) (tasks : List Task) → ((s : ℕ) → hand p s ≡ hand q s) → move_for spec p task tasks ≡ move_for spec q task tasks
move_same spec p q (GiveBlock block) tasks same = refl
move_same spec p q (GiveSteps []) tasks same = refl
move_same spec p q (GiveSteps (step ∷ steps)) tasks same = rw (same (session_for spec step)) refl
move_same spec p q (CancelIfBusy s) tasks same = rw (same s) refl
move_same spec p q (CloseSession s) tasks same = refl

pub moves_same : (spec : Spec) (p q : Past) (tasks : List Task) → ((s : ℕ) → hand p s ≡ hand q s) → next_move spec p tasks ≡ next_move spec q tasks
moves_same spec p q [] same = refl
moves_same spec p q (task ∷ tasks) same = rw (move_same spec p q task tasks same, moves_same spec p q tasks same) refl

module _ (spec : Spec) (steps : List ℕ) (past : Past) (tasks : List Task) (has : HasLeft spec steps past tasks) where
  module _ (move : Move) (is : next_move spec past tasks ≡ Some move) where
    pub due_is : due spec steps past ≡ Some move.entry
    due_is = ap (option_map (λ (m : Move). m.entry)) (has.comes_to ∙ is)

    pub then_left : left_by (next_move spec past (left spec steps past)) ≡ move.then_left
    then_left = ap left_by (has.comes_to ∙ is)

  -- the first tasks have no move
  pub left_skips : (others : List Task) → next_move spec past tasks ≡ next_move spec past others → HasLeft spec steps past others
  left_skips others same = record { as_due = has.as_due; comes_to = has.comes_to ∙ same }

pub cancels_none : (spec : Spec) (past : Past) (s : ℕ) (tasks : List Task) → hand past s ≡ None → next_move spec past (CancelIfBusy s ∷ tasks) ≡ next_move spec past tasks
cancels_none spec past s tasks none = rw none refl

pub cancels_busy : (spec : Spec) (past : Past) (s : ℕ) (tasks : List Task) → IsSome (hand past s) → next_move spec past (CancelIfBusy s ∷ tasks) ≡ Some (record { entry = Cancel s; then_left = tasks })
cancels_busy spec past s tasks busy = rw busy refl

-- ---- refusals

pub left_none : (spec : Spec) (refused : Bool) (tasks : List Task) → left_when spec None refused tasks ≡ tasks
left_none spec true tasks = refl
left_none spec false tasks = refl

pub left_twice : (spec : Spec) (tasks mid : List Task) (part : Option ℕ) (r1 r2 : Bool) → mid ≡ left_when spec part r1 tasks → left_when spec part r2 mid ≡ left_when spec part (r1 || r2) tasks
left_twice spec tasks mid None true true is = is
left_twice spec tasks mid None true false is = is
left_twice spec tasks mid None false true is = is
left_twice spec tasks mid None false false is = is
left_twice spec tasks mid (Some block) true true is = refl
left_twice spec tasks mid (Some block) true false is = is
left_twice spec tasks mid (Some block) false true is = refl
left_twice spec tasks mid (Some block) false false is = is

-- ---- tasks of blocks

pub drop_at : {T : Type 0} (items : List T) (at : ℕ) (item : T) → slice_get items at ≡ Some item → drop at items ≡ item ∷ drop (at + 1) items
drop_at [] at item is = absurd cc
drop_at (i ∷ items) zero item is = let e : i ≡ item = cc in rw e refl
drop_at (i ∷ items) (suc at) item is = let n : suc at + 1 ≡ suc (at + 1) = omega arith in rw n (drop_at items at item is)

pub drop_end : {T : Type 0} (items : List T) (at : ℕ) → length items ≤ at → drop at items ≡ []
drop_end [] zero le = refl
drop_end [] (suc at) le = refl
drop_end (i ∷ items) zero le = absurd (omega arith)
drop_end (i ∷ items) (suc at) le = drop_end items at (omega arith)

module _ (spec : Spec) (test : Part → Bool) where
  pub tasks_here : (number : ℕ) (block : Block) → slice_get spec.blocks number ≡ Some block → test block.part ≡ true → tasks_from spec test number ≡ give_and_cancel spec number ++ tasks_from spec test (number + 1)
  tasks_here number block there is = ap (λ (bs : List Block). flat_map (give_and_cancel spec) (blocks_such test number bs)) (drop_at spec.blocks number block there) ∙ rw is refl

  pub tasks_skip : (number : ℕ) (block : Block) → slice_get spec.blocks number ≡ Some block → test block.part ≡ false → tasks_from spec test number ≡ tasks_from spec test (number + 1)
  tasks_skip number block there is = ap (λ (bs : List Block). flat_map (give_and_cancel spec) (blocks_such test number bs)) (drop_at spec.blocks number block there) ∙ rw is refl

  pub tasks_end : (number : ℕ) → length spec.blocks ≤ number → tasks_from spec test number ≡ []
  tasks_end number le = ap (λ (bs : List Block). flat_map (give_and_cancel spec) (blocks_such test number bs)) (drop_end spec.blocks number le)
