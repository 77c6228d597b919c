-- Blocks that run, statement by statement, and wrong courses that the definitions refuse.
use Rattle.std.specs.Prelude.{◌≡◌, List, [], ◌∷◌, None, refl}
use Rattle.al_history.specs.declared.statement.Statement.TheVariants.{Begin, Commit, Rollback, Insert, Select}
use Rattle.al_sessions.specs.declared.block.Control.{Control}
use Rattle.al_sessions.specs.declared.block.Control.TheVariants.{Begins, EndsBlock, Other}
use Rattle.al_sessions.specs.declared.block.BlockState.{BlockState}
use Rattle.al_sessions.specs.declared.block.BlockState.TheVariants.{Outside, Open, Failed}
use Rattle.al_sessions.specs.declared.step.Progress.{Progress}
use Rattle.al_sessions.specs.declared.step.Next.{Next}
use Rattle.al_sessions.specs.declared.step.Next.TheVariants.{Run, Finish}
use Rattle.al_sessions.specs.declared.step.How.{How}
use Rattle.al_sessions.specs.declared.step.How.TheVariants.{Done, Refused}
use Rattle.al_sessions.specs.declared.step.Ending.{Ending}
use Rattle.al_sessions.specs.declared.step.Ending.TheVariants.{Goes, Commits, Aborts, Ends}
use Rattle.al_sessions.specs.Blocks.{controls_of, controls_given}
use Rattle.al_sessions.specs.Steps.{given, next_of, after, ending_of}

-- what a session does next before each statement, and how the step went on after it
abbrev pub course : List How → Progress → List (Next × Ending)
course [] progress = []
course (how ∷ hows) progress = (next_of progress.step, ending_of how progress) ∷ course hows (after how progress)

-- how far the session is after them
abbrev pub reached : List How → Progress → Progress
reached [] progress = progress
reached (how ∷ hows) progress = reached hows (after how progress)

-- a session that has no step in hand
abbrev pub idle : BlockState → Progress
idle state = record { step = None; state = state }

-- a step of these statements, given to a session in such a block
abbrev pub step_in : BlockState → List Control → Progress
step_in state controls = given controls (idle state)

pub of_statements : controls_of (Begin ∷ Insert [] [] ∷ Commit ∷ Rollback ∷ Select [] ∷ []) ≡ Begins ∷ Other ∷ EndsBlock ∷ EndsBlock ∷ Other ∷ []
of_statements = refl

pub of_no_script : controls_given None ≡ []
of_no_script = refl

-- BEGIN; INSERT; COMMIT; BEGIN; SELECT
abbrev pub two_blocks : List Control
two_blocks = Begins ∷ Other ∷ EndsBlock ∷ Begins ∷ Other ∷ []

-- done, it ends in the second block
pub two_blocks_course :
    course (Done ∷ Done ∷ Done ∷ Done ∷ Done ∷ []) (step_in Outside two_blocks)
    ≡ (Run 0, Goes) ∷ (Run 1, Goes) ∷ (Run 2, Goes) ∷ (Run 3, Goes) ∷ (Run 4, Ends) ∷ []
two_blocks_course = refl

pub two_blocks_reach : reached (Done ∷ Done ∷ Done ∷ Done ∷ Done ∷ []) (step_in Outside two_blocks) ≡ idle Open
two_blocks_reach = refl

-- its second statement is refused: the block stays failed, and the later statements aren't run
pub refused_course : course (Done ∷ Refused ∷ []) (step_in Outside two_blocks) ≡ (Run 0, Goes) ∷ (Run 1, Aborts) ∷ []
refused_course = refl

pub refused_reach : reached (Done ∷ Refused ∷ []) (step_in Outside two_blocks) ≡ idle Failed
refused_reach = refl

-- the statement after its COMMIT is refused, and no block is open there
pub refused_outside : reached (Done ∷ Done ∷ Done ∷ Refused ∷ []) (step_in Outside two_blocks) ≡ idle Outside
refused_outside = refl

-- the same in an implicit transaction
pub implicit_refused : course (Done ∷ Refused ∷ []) (step_in Outside (Other ∷ Other ∷ Other ∷ [])) ≡ (Run 0, Goes) ∷ (Run 1, Aborts) ∷ []
implicit_refused = refl

-- two statements are one transaction, which commits with their step
pub implicit_commits : course (Done ∷ Done ∷ []) (step_in Outside (Other ∷ Other ∷ [])) ≡ (Run 0, Goes) ∷ (Run 1, Commits) ∷ []
implicit_commits = refl

-- in an open block it doesn't commit with a step, and no more in a failed one
pub open_ends : course (Done ∷ []) (step_in Open (Other ∷ [])) ≡ (Run 0, Ends) ∷ []
open_ends = refl

pub failed_stays : reached (Refused ∷ []) (step_in Failed (Begins ∷ [])) ≡ idle Failed
failed_stays = refl

-- COMMIT and ROLLBACK end a failed block
pub failed_ended : course (Done ∷ Done ∷ []) (step_in Failed (EndsBlock ∷ Other ∷ [])) ≡ (Run 0, Goes) ∷ (Run 1, Commits) ∷ []
failed_ended = refl

pub failed_leaves : reached (Done ∷ []) (step_in Failed (EndsBlock ∷ [])) ≡ idle Outside
failed_leaves = refl

-- INSERT; BEGIN: the implicit transaction becomes an open block
pub implicit_opened : course (Done ∷ Done ∷ []) (step_in Outside (Other ∷ Begins ∷ [])) ≡ (Run 0, Goes) ∷ (Run 1, Ends) ∷ []
implicit_opened = refl

-- BEGIN in a block, and COMMIT outside one, change nothing
pub begin_in_block : reached (Done ∷ []) (step_in Open (Begins ∷ [])) ≡ idle Open
begin_in_block = refl

pub commit_outside : reached (Done ∷ []) (step_in Outside (EndsBlock ∷ [])) ≡ idle Outside
commit_outside = refl

-- a script without statements ends at once, and changes no block
pub empty_course : course (Done ∷ []) (step_in Outside []) ≡ (Finish, Commits) ∷ []
empty_course = refl

pub empty_in_block : course (Done ∷ []) (step_in Open []) ≡ (Finish, Ends) ∷ []
empty_in_block = refl

pub empty_keeps_block : reached (Done ∷ []) (step_in Failed []) ≡ idle Failed
empty_keeps_block = refl

-- a block that is no script is refused as a whole, which fails an open block
pub no_script_course : course (Refused ∷ []) (step_in Open (controls_given None)) ≡ (Finish, Aborts) ∷ []
no_script_course = refl

pub no_script_fails : reached (Refused ∷ []) (step_in Open (controls_given None)) ≡ idle Failed
no_script_fails = refl

-- wrong courses
pub not_on_after_refusal : (reached (Refused ∷ []) (step_in Outside two_blocks)).step ≡ (reached (Done ∷ []) (step_in Outside two_blocks)).step → ⊥
not_on_after_refusal e = cc

pub not_committed_in_block : ending_of Done (step_in Open (Other ∷ [])) ≡ Commits → ⊥
not_committed_in_block e = cc

pub not_ended_at_commit : (reached (Done ∷ []) (step_in Open (EndsBlock ∷ Other ∷ []))).step ≡ None → ⊥
not_ended_at_commit e = cc

pub not_failed_after_rollback : reached (Done ∷ []) (step_in Failed (EndsBlock ∷ [])) ≡ idle Failed → ⊥
not_failed_after_rollback e = cc

pub not_past_the_last : next_of (reached (Done ∷ []) (step_in Outside (Other ∷ Other ∷ []))).step ≡ Finish → ⊥
not_past_the_last e = cc
