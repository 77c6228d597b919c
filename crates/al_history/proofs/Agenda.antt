-- What the driver does next depends on the past only by who is busy.
use Rattle.std.proofs.Common.{◌≡◌, ℕ, List, [], ◌∷◌, refl}
use Rattle.al_spec.specs.declared.spec.Spec.{Spec}
use Rattle.al_history.specs.Past.{Past}
use Rattle.al_history.specs.Hand.{hand}
use Rattle.al_history.specs.Whole.{Task, GiveBlock, GiveSteps, CancelIfBusy, CloseSession, session_for, move_for, next_move}

module _ (spec : Spec) (old new : Past) (hands : (s : ℕ) → hand new s ≡ hand old s) where
  move_same : (task : Task) (tasks : List Task) → move_for spec new task tasks ≡ move_for spec old task tasks
  move_same (GiveBlock block) tasks = refl
  move_same (GiveSteps []) tasks = refl
  move_same (GiveSteps (step ∷ steps)) tasks = rw (hands (session_for spec step)) refl
  move_same (CancelIfBusy s) tasks = rw (hands s) refl
  move_same (CloseSession s) tasks = refl

  pub moves_same : (tasks : List Task) → next_move spec new tasks ≡ next_move spec old tasks
  moves_same [] = refl
  moves_same (task ∷ tasks) = rw (move_same task tasks, moves_same tasks) refl
