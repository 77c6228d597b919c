-- Spec files: what bytes are one, and where others have their fault.
use Rattle.std.specs.Prelude.{◌≡◌, ℕ, ◌-◌, List, [], ◌∷◌, ◌++◌, length, take, drop, Option, Some, Result, Ok, Err, IsUtf8}
use Rattle.std.specs.Str.{IsValidUpTo}
use Rattle.al_values.specs.declared.cant.Cant.{Cant}
use Rattle.al_values.specs.declared.cant.Cant.TheVariants as cants
use Rattle.al_grammar.specs.Whole.{StopsAt, whole_of}
use Rattle.al_spec.specs.declared.kinds.Lexeme.{Lexeme}
use Rattle.al_spec.specs.declared.kinds.Lexeme.TheVariants as lexemes
use Rattle.al_spec.specs.declared.kinds.Token.{Token}
use Rattle.al_spec.specs.declared.spec.Spec.{Spec}
use Rattle.al_spec.specs.declared.spec.SpecFault.{SpecFault}
use Rattle.al_spec.specs.declared.spec.SpecFault.TheVariants as faults
use Rattle.al_spec.specs.declared.notes.Noted.{Noted}
use Rattle.al_spec.specs.Tokens.{AreTokens}
use Rattle.al_spec.specs.Grammar.{file, File}
use Rattle.al_spec.specs.Notes.{note, note_all, nothing_noted, all_permutations}
use Rattle.al_spec.specs.Meaning.{spec_of}
use Rattle.al_spec.specs.Keeps.{Keeps, limits}

abbrev pub spec_noted : Noted → Spec
spec_noted n = record { sessions = n.sessions; blocks = n.blocks; permutations = all_permutations n }

-- Bytes are a spec file: UTF-8, whose tokens are a text of the grammar that keeps the rules. Its spec is what the grammar
-- says.
pub record IsSpecFile (bytes : List ℕ) (spec : Spec) : Type 0 where
  pub utf8 : IsUtf8 bytes
  pub tokens : List Token
  pub tokens_are : AreTokens bytes tokens
  pub value : File
  pub is : file.Is tokens value
  pub means : spec ≡ spec_of value
  pub keeps : Keeps limits value

-- the fault of a token that can't stand there: a `(` after a name in a permutation is a marker
abbrev pub marker_or_syntax : Lexeme → Option (List ℕ) → ℕ → SpecFault
marker_or_syntax lexemes.Paren (Some (step ∷ steps)) at = faults.Marker at
marker_or_syntax other current at = faults.Syntax at

-- the same where what is left of the tokens may be nothing: then it is the end's
abbrev pub syntax_fault : Noted → List Token → ℕ → SpecFault
syntax_fault n [] end = faults.Syntax end
syntax_fault n (t ∷ ts) end = marker_or_syntax t.lexeme n.current t.start

-- The first fault in reading order.
pub data IsFault (bytes : List ℕ) : SpecFault → Type 0 where
  -- the longest front that is UTF-8
  not_utf8 : (at : ℕ) → (IsUtf8 bytes → ⊥) → IsValidUpTo bytes at → IsFault bytes (faults.Utf8 at)
  -- a token that breaks a rule, where no token before does, and what stands up to it begins a text of the grammar
  rule : (fault : SpecFault) (tokens before : List Token) (t : Token) (after more : List Token) (value : File) (n : Noted)
      → IsUtf8 bytes → AreTokens bytes tokens → tokens ≡ before ++ t ∷ after → file.Is (before ++ t ∷ more) value
      → note_all nothing_noted before ≡ Ok n → note n t ≡ Err fault → IsFault bytes fault
  -- a token that can't stand there, where no token before breaks a rule
  syntax : (fault : SpecFault) (tokens : List Token) (left : ℕ) (n : Noted)
      → IsUtf8 bytes → AreTokens bytes tokens → (stops : StopsAt file.Is tokens left)
      → note_all nothing_noted stops.before ≡ Ok n → fault ≡ syntax_fault n stops.from (length bytes) → IsFault bytes fault

-- ---- the same as a program

abbrev pub spec_or : Result Noted SpecFault → Result Spec SpecFault
spec_or (Ok n) = Ok (spec_noted n)
spec_or (Err f) = Err f

abbrev pub fault_or : Result Noted SpecFault → List Token → ℕ → Result Spec SpecFault
fault_or (Ok n) from end = Err (syntax_fault n from end)
fault_or (Err f) from end = Err f

abbrev pub answer_by : Result File ℕ → List Token → ℕ → Result Spec SpecFault
answer_by (Ok v) ts end = spec_or (note_all nothing_noted ts)
answer_by (Err left) ts end = fault_or (note_all nothing_noted (take (length ts - left) ts)) (drop (length ts - left) ts) end

abbrev pub answer : List Token → ℕ → Result Spec SpecFault
answer ts end = answer_by (whole_of (file.reads ts)) ts end

-- what a refusal's own cause says
abbrev pub IfWhy : {T E : Type 0} → Result T (Cant E) → (E → Type 0) → Type 0
IfWhy (Ok value) says = Unit {0}
IfWhy (Err (cants.Why cause)) says = says cause
IfWhy (Err cants.NoMemory) says = Unit {0}
