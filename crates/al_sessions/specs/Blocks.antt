-- Transaction blocks: what a statement does to one (3.4, and BEGIN, COMMIT, ROLLBACK in Part VI).
use Rattle.std.specs.Prelude.{List, [], map, Option, None, Some}
use Rattle.al_history.specs.declared.statement.Statement.{Statement}
use Rattle.al_history.specs.declared.statement.Statement.TheVariants as statements
use Rattle.al_sessions.specs.declared.block.Control.{Control}
use Rattle.al_sessions.specs.declared.block.Control.TheVariants.{Begins, EndsBlock, Other}
use Rattle.al_sessions.specs.declared.block.BlockState.{BlockState}
use Rattle.al_sessions.specs.declared.block.BlockState.TheVariants.{Outside, Open, Failed}

-- what a statement does to a block: BEGIN opens one, COMMIT and ROLLBACK end it, and no other does anything to it
abbrev pub control_of : Statement → Control
control_of statements.Begin = Begins
control_of statements.Commit = EndsBlock
control_of statements.Rollback = EndsBlock
control_of statement = Other

-- the same of the statements of a script, in order
abbrev pub controls_of : List Statement → List Control
controls_of script = map control_of script

-- a block of a spec file that is no script has no statement
abbrev pub controls_given : Option (List Statement) → List Control
controls_given None = []
controls_given (Some script) = controls_of script

-- BEGIN changes nothing in a block; COMMIT and ROLLBACK leave none
abbrev pub moved : Control → BlockState → BlockState
moved Begins Outside = Open
moved EndsBlock state = Outside
moved control state = state

-- a refusal fails an open block, which stays failed until it is ended
abbrev pub failed : BlockState → BlockState
failed Open = Failed
failed state = state
