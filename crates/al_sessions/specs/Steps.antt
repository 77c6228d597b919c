-- The step that a session has in hand, and how it goes on and ends (3.4).
use Rattle.std.specs.Prelude.{ℕ, ◌+◌, ◌-◌, nat_lt, if◌then◌else◌, List, length, Option, Some, None, is_some, slice_get, unwrap_or}
use Rattle.std.specs.Option.{option_map_or}
use Rattle.al_sessions.specs.declared.block.Control.{Control}
use Rattle.al_sessions.specs.declared.block.BlockState.{BlockState}
use Rattle.al_sessions.specs.declared.block.BlockState.TheVariants.{Outside, Open, Failed}
use Rattle.al_sessions.specs.declared.step.InStep.{InStep}
use Rattle.al_sessions.specs.declared.step.Progress.{Progress}
use Rattle.al_sessions.specs.declared.step.Next.{Next}
use Rattle.al_sessions.specs.declared.step.Next.TheVariants.{Idle, Run, Finish}
use Rattle.al_sessions.specs.declared.step.How.{How}
use Rattle.al_sessions.specs.declared.step.How.TheVariants.{Done, Refused}
use Rattle.al_sessions.specs.declared.step.Ending.{Ending}
use Rattle.al_sessions.specs.declared.step.Ending.TheVariants.{Goes, Commits, Aborts, Ends}
use Rattle.al_sessions.specs.Blocks.{moved, failed}

-- a session that has no step in hand, and no block
abbrev pub at_rest : Progress
at_rest = record { step = None; state = Outside }

-- the progress of a session; one that isn't there is at rest
abbrev pub progress_of : List Progress → ℕ → Progress
progress_of sessions session = unwrap_or (slice_get sessions session) at_rest

-- a step is put in hand, of which nothing is done
abbrev pub given : List Control → Progress → Progress
given controls progress = record { step = Some (record { controls = controls; done = 0 }); state = progress.state }

-- how many statements of a step aren't done
abbrev pub left_of : InStep → ℕ
left_of step = length step.controls - step.done

-- what comes next in a step: the statement whose number is the count of those done, where there is one, else its end
abbrev pub next_of : Option InStep → Next
next_of None = Idle
next_of (Some step) = if nat_lt step.done (length step.controls) then Run step.done else Finish

-- the block state once the statement in hand is done; a step with no statement left leaves it
abbrev pub state_on : InStep → BlockState → BlockState
state_on step state = option_map_or (λ control. moved control state) (slice_get step.controls step.done) state

-- the step goes on with the next statement, where there is one, else it ends
abbrev pub step_on : InStep → Option InStep
step_on step =
    if nat_lt (step.done + 1) (length step.controls) then Some (record { controls = step.controls; done = step.done + 1 }) else None

-- a session once the statement in hand is done, or its step, where it has no statement left
abbrev pub after_done : Progress → Progress
after_done progress =
    option_map_or (λ step. record { step = step_on step; state = state_on step progress.state }) progress.step progress

-- a session once its step is refused: the later statements are dropped
abbrev pub after_refused : Progress → Progress
after_refused progress = record { step = None; state = failed progress.state }

abbrev pub after : How → Progress → Progress
after Done progress = after_done progress
after Refused progress = after_refused progress

-- at a step's end the implicit transaction commits, where no block is open
abbrev pub ending_in : BlockState → Ending
ending_in Outside = Commits
ending_in Open = Ends
ending_in Failed = Ends

-- what becomes of a step and its transaction: it goes on, or it ends and commits, aborts or leaves what is open
abbrev pub ending_of : How → Progress → Ending
ending_of Refused progress = Aborts
ending_of Done progress = if is_some (after_done progress).step then Goes else ending_in (after_done progress).state
