-- What is answered on a text, out of what a rule's reader makes of its tokens.
use Rattle.std.specs.Prelude.{ℕ, zero, suc, ◌-◌, Bool, true, false, ◌||◌, ◌==◌, if◌then◌else◌, List, [], ◌∷◌, length, take, slice_get, Option, Some, None, Result, Ok, Err}
use Rattle.al_grammar.specs.Rules.{Shape, Step, read, fault, Rule}
use Rattle.al_grammar.specs.Whole.{whole_of}
use Rattle.al_tokens.specs.declared.kinds.Token.{Token}
use Rattle.al_tokens.specs.declared.kinds.Ending.{Ending}
use Rattle.al_tokens.specs.declared.kinds.Ending.TheVariants as endings
use Rattle.al_tokens.specs.declared.kinds.Front.{Front}
use Rattle.al_statements.specs.declared.fault.SqlFault.{SqlFault}
use Rattle.al_statements.specs.declared.fault.SqlFault.TheVariants as faults
use Rattle.al_phrases.specs.declared.lexeme.Lexeme.{Lexeme}
use Rattle.al_lexemes.specs.Classes.{lexemes_of, outside, stand_in}
use Rattle.al_lexemes.specs.Faults.{end_place}

-- the tokens up to a place, of which the last is stood in for
abbrev pub trial : List Lexeme → ℕ → List Lexeme
trial [] place = []
trial (t ∷ ts) zero = stand_in t ∷ []
trial (t ∷ ts) (suc place) = t ∷ trial ts place

-- what was read of a whole text says that its tokens begin some text
abbrev pub goes_on : {A : Type 0} → Result A ℕ → Bool
goes_on (Ok v) = true
goes_on (Err left) = left == 0

abbrev pub fault_of : Bool → ℕ → SqlFault
fault_of true place = faults.NotInProfile place
fault_of false place = faults.Syntax place

-- what is told of a token that can't stand, which its stand-in may
abbrev pub fault_by : List ℕ → Option Token → Bool → SqlFault
fault_by text (Some t) stands = fault_of (outside text t || stands) t.start
fault_by text None stands = faults.Syntax (length text)

abbrev pub fault_at : List ℕ → List Token → ℕ → Bool → SqlFault
fault_at text tokens place stands = fault_by text (slice_get tokens place) stands

-- a value, where the text's end ends it
abbrev pub ended : {A : Type 0} → Ending → A → ℕ → Result A SqlFault
ended endings.Whole v end = Ok v
ended other v end = Err (faults.Syntax (end_place other end))

abbrev pub answer_by : {A : Type 0} {s : Shape} → Rule Lexeme s A → List ℕ → Front → Result A ℕ → Result A SqlFault
answer_by p text front (Ok v) = ended front.ending v (length text)
answer_by p text front (Err left) =
    if left == 0 then Err (faults.Syntax (end_place front.ending (length text)))
    else (let place = length front.tokens - left in
    Err (fault_at text front.tokens place (goes_on (whole_of (p.reads (trial (lexemes_of text front.tokens) place))))))

-- a text's value or its fault
abbrev pub answer : {A : Type 0} {s : Shape} → Rule Lexeme s A → List ℕ → Front → Result A SqlFault
answer p text front = answer_by p text front (whole_of (p.reads (lexemes_of text front.tokens)))

-- a reader's answer in front of tokens, with how many stand behind the text
abbrev pub front_of : {T A : Type 0} → Step T A → Result (A × ℕ) ℕ
front_of (read v rest) = Ok (v, length rest)
front_of (fault left) = Err left

-- what is answered of a token that can't stand behind others: these alone may be a text
abbrev pub front_before : {A : Type 0} {s : Shape} → Rule Lexeme s A → List ℕ → List Token → ℕ → Result A ℕ → Result (A × ℕ) SqlFault
front_before p text ts place (Ok v) = Ok (v, place)
front_before p text ts place (Err n) = Err (fault_at text ts place (goes_on (whole_of (p.reads (trial (lexemes_of text ts) place)))))

abbrev pub front_by : {A : Type 0} {s : Shape} → Rule Lexeme s A → List ℕ → List Token → Step Lexeme A → Result (A × ℕ) SqlFault
front_by p text ts (read v rest) = Ok (v, length ts - length rest)
front_by p text ts (fault left) =
    if left == 0 then Err (faults.Syntax (length text))
    else (let place = length ts - left in front_before p text ts place (whole_of (p.reads (take place (lexemes_of text ts)))))

-- the value of the text in front of others and how many tokens it has, or a fault
abbrev pub front_answer : {A : Type 0} {s : Shape} → Rule Lexeme s A → List ℕ → List Token → Result (A × ℕ) SqlFault
front_answer p text ts = front_by p text ts (p.reads (lexemes_of text ts))
