-- The blocks of a spec as scripts (src/test/isolation/README; 55.2.2.1 for several statements in one text).
use Rattle.std.specs.Prelude.{◌≡◌, ◌⊎◌, ◌+◌, ℕ, List, [], ◌∷◌, length, Option, Some, None, Result, Ok, Err}
use Rattle.al_spec.specs.declared.spec.Block.{Block}
use Rattle.al_spec.specs.declared.spec.Spec.{Spec}
use Rattle.al_history.specs.declared.statement.Statement.{Statement}
use Rattle.al_history.specs.declared.statement.ScriptBlock.{ScriptBlock}
use Rattle.al_history.specs.declared.statement.Scripts.{Scripts}
use Rattle.al_statements.specs.declared.fault.SqlFault.{SqlFault}
use Rattle.al_statements.specs.declared.fault.SqlFault.TheVariants as faults
use Rattle.al_statements.specs.declared.script.Statement.{Statement as Tree}
use Rattle.al_lexemes.specs.Faults.{IsText, IsFault}
use Rattle.al_sql.specs.Scripts.{script}
use Rattle.al_app.specs.Built.{all_from, built}

-- two lists, item by item
abbrev pub EachWith : {A B : Type 0} → (A → B → Type 0) → List A → List B → Type 0
EachWith R [] [] = Unit {0}
EachWith R [] (y ∷ ys) = ⊥
EachWith R (x ∷ xs) [] = ⊥
EachWith R (x ∷ xs) (y ∷ ys) = R x y × EachWith R xs ys

-- trees as statements: these, where all are built, and else a refusal at the first byte
abbrev pub AreBuilt : List Tree → Result (List Statement) SqlFault → Type 0
AreBuilt trees (Ok statements) = all_from built [] trees ≡ Some statements
AreBuilt trees (Err fault) = (all_from built [] trees ≡ None) × (fault ≡ faults.NotInProfile 0)

-- a text that is a script, of these statements, which are all built
pub record IsBuiltText (text : List ℕ) (statements : List Statement) : Type 0 where
  pub trees : List Tree
  pub is_text : IsText script text trees
  pub are_built : all_from built [] trees ≡ Some statements

-- a text that is a script, of which some statement isn't built: it is refused as a whole, at its first byte
pub record IsUnbuiltText (text : List ℕ) (fault : SqlFault) : Type 0 where
  pub trees : List Tree
  pub is_text : IsText script text trees
  pub not_built : all_from built [] trees ≡ None
  pub fault_is : fault ≡ faults.NotInProfile 0

-- what a text is read as: its statements, or why there are none, which for a text that is no script is its first fault
abbrev pub IsReadAs : List ℕ → Result (List Statement) SqlFault → Type 0
IsReadAs text (Ok statements) = IsBuiltText text statements
IsReadAs text (Err fault) = IsFault script text fault ⊎ IsUnbuiltText text fault

pub record IsScriptOf (block : Block) (read : ScriptBlock) : Type 0 where
  pub session : read.session ≡ block.session
  pub reads : IsReadAs block.text read.script

-- the blocks of a spec, each for its session and read from its text; the control session is counted too
pub record AreScripts (spec : Spec) (scripts : Scripts) : Type 0 where
  pub sessions : scripts.sessions ≡ length spec.sessions + 1
  pub each : EachWith IsScriptOf spec.blocks scripts.blocks
