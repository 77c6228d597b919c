-- The laws of answers on texts, for names with commas between.
use Rattle.std.proofs.Common.{◌≡◌, ℕ, ◌-◌, Bool, false, ◌==◌, List, length, Result, Ok, Err, IfOk}
use Rattle.al_values.specs.declared.cant.Cant.{Cant}
use Rattle.al_values.specs.Gives.{GivesUnlessNoMemory}
use Rattle.al_tokens.specs.declared.kinds.Front.{Front}
use Rattle.al_tokens.specs.Tokens.{IsFront, IfWhy}
use Rattle.al_statements.specs.declared.fault.SqlFault.{SqlFault}
use Rattle.al_phrases.specs.Words.{name_list, comma_shape, name_shape}
use Rattle.al_phrases.proofs.WordLaws.{lawful_name_list}
use Rattle.al_lexemes.specs.Faults.{IsText, IsFault}
use Rattle.al_grammar.specs.Whole.{whole_of}
use Rattle.al_phrases.specs.declared.lexeme.Lexeme.{Lexeme}
use Rattle.al_lexemes.specs.Classes.{lexemes_of}
use Rattle.al_lexemes.specs.Answer.{answer, trial, goes_on, fault_at}
use Rattle.al_lexemes.proofs.TextLaws.{value_is, value_only, fault_is, fault_only, answer_stopped}

abbrev Names : Type 0
Names = List (List ℕ)

pub found : (text : List ℕ) (front : Front) (r : Result Names (Cant SqlFault)) → IsFront text front → GivesUnlessNoMemory r (answer name_list text front) → IfOk r (λ v. IsText name_list text v)
found = value_is Names (comma_shape name_shape) name_list lawful_name_list

pub only : (text : List ℕ) (front : Front) (r : Result Names (Cant SqlFault)) → ((g : Front) → IsFront text g → front ≡ g) → GivesUnlessNoMemory r (answer name_list text front)
    → (v : Names) → IsText name_list text v → GivesUnlessNoMemory r (Ok v)
only = value_only Names (comma_shape name_shape) name_list lawful_name_list

pub fault : (text : List ℕ) (front : Front) (r : Result Names (Cant SqlFault)) → IsFront text front → GivesUnlessNoMemory r (answer name_list text front) → IfWhy r (λ f. IsFault name_list text f)
fault = fault_is Names (comma_shape name_shape) name_list lawful_name_list

pub only_fault : (text : List ℕ) (front : Front) (r : Result Names (Cant SqlFault)) → ((g : Front) → IsFront text g → front ≡ g) → GivesUnlessNoMemory r (answer name_list text front)
    → (f : SqlFault) → IsFault name_list text f → GivesUnlessNoMemory r (Err f)
only_fault = fault_only Names (comma_shape name_shape) name_list lawful_name_list

pub stopped : (text : List ℕ) (front : Front) (ts tr : List Lexeme) (left : ℕ) (st : Bool) (f : SqlFault) → ts ≡ lexemes_of text front.tokens → whole_of (name_list.reads ts) ≡ Err left → (left == 0) ≡ false
    → tr ≡ trial ts (length ts - left) → st ≡ goes_on (whole_of (name_list.reads tr)) → f ≡ fault_at text front.tokens (length front.tokens - left) st → answer name_list text front ≡ Err f
stopped = answer_stopped Names (comma_shape name_shape) name_list lawful_name_list
