-- The laws of answers on texts, for scripts.
use Rattle.std.proofs.Common.{◌≡◌, ℕ, ◌-◌, Bool, false, ◌==◌, List, length, Result, Ok, Err, IfOk}
use Rattle.al_values.specs.declared.cant.Cant.{Cant}
use Rattle.al_values.specs.Gives.{GivesUnlessNoMemory}
use Rattle.al_tokens.specs.declared.kinds.Front.{Front}
use Rattle.al_tokens.specs.Tokens.{IsFront, IfWhy}
use Rattle.al_statements.specs.declared.fault.SqlFault.{SqlFault}
use Rattle.al_statements.specs.declared.script.Statement.{Statement}
use Rattle.al_sql.specs.Scripts.{script, script_shape}
use Rattle.al_sql.proofs.ScriptLaws.{lawful_script}
use Rattle.al_lexemes.specs.Faults.{IsText, IsFault}
use Rattle.al_grammar.specs.Whole.{whole_of}
use Rattle.al_phrases.specs.declared.lexeme.Lexeme.{Lexeme}
use Rattle.al_lexemes.specs.Classes.{lexemes_of}
use Rattle.al_lexemes.specs.Answer.{answer, trial, goes_on, fault_at}
use Rattle.al_lexemes.proofs.TextLaws.{value_is, value_only, fault_is, fault_only, answer_stopped}

abbrev Statements : Type 0
Statements = List Statement

pub found : (text : List ℕ) (front : Front) (r : Result Statements (Cant SqlFault)) → IsFront text front → GivesUnlessNoMemory r (answer script text front) → IfOk r (λ v. IsText script text v)
found = value_is Statements script_shape script lawful_script

pub only : (text : List ℕ) (front : Front) (r : Result Statements (Cant SqlFault)) → ((g : Front) → IsFront text g → front ≡ g) → GivesUnlessNoMemory r (answer script text front)
    → (v : Statements) → IsText script text v → GivesUnlessNoMemory r (Ok v)
only = value_only Statements script_shape script lawful_script

pub fault : (text : List ℕ) (front : Front) (r : Result Statements (Cant SqlFault)) → IsFront text front → GivesUnlessNoMemory r (answer script text front) → IfWhy r (λ f. IsFault script text f)
fault = fault_is Statements script_shape script lawful_script

pub only_fault : (text : List ℕ) (front : Front) (r : Result Statements (Cant SqlFault)) → ((g : Front) → IsFront text g → front ≡ g) → GivesUnlessNoMemory r (answer script text front)
    → (f : SqlFault) → IsFault script text f → GivesUnlessNoMemory r (Err f)
only_fault = fault_only Statements script_shape script lawful_script

pub stopped : (text : List ℕ) (front : Front) (ts tr : List Lexeme) (left : ℕ) (st : Bool) (f : SqlFault) → ts ≡ lexemes_of text front.tokens → whole_of (script.reads ts) ≡ Err left → (left == 0) ≡ false
    → tr ≡ trial ts (length ts - left) → st ≡ goes_on (whole_of (script.reads tr)) → f ≡ fault_at text front.tokens (length front.tokens - left) st → answer script text front ≡ Err f
stopped = answer_stopped Statements script_shape script lawful_script
