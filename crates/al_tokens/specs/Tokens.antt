-- The tokens of a text of SQL, and where it has none.
use Rattle.std.specs.Prelude.{◌≡◌, ℕ, ◌+◌, ◌<◌, ◌≤◌, true, false, ◌⊎◌, List, [], ◌∷◌, length, Option, Some, None, Result, Ok, Err}
use Rattle.al_values.specs.declared.cant.Cant.{Cant}
use Rattle.al_values.specs.declared.cant.Cant.TheVariants as cants
use Rattle.al_tokens.specs.declared.kinds.TokenKind.{TokenKind}
use Rattle.al_tokens.specs.declared.kinds.TokenKind.TheVariants as kinds
use Rattle.al_tokens.specs.declared.kinds.Token.{Token}
use Rattle.al_tokens.specs.declared.kinds.Ending.{Ending}
use Rattle.al_tokens.specs.declared.kinds.Ending.TheVariants as endings
use Rattle.al_tokens.specs.declared.kinds.Front.{Front}
use Rattle.al_tokens.specs.declared.kinds.Lex.{Lex}
use Rattle.al_tokens.specs.declared.bytes.Class.TheVariants as classes
use Rattle.al_tokens.specs.declared.bytes.Stop.{Stop}
use Rattle.al_tokens.specs.declared.bytes.Stop.TheVariants as stops
use Rattle.al_tokens.specs.Bytes.{at, is_blank, begins_word, is_of, Run, First, Closed}
use Rattle.al_tokens.specs.Signs.{width, Spells}
use Rattle.std.specs.Char.{is_ascii_digit}

-- What parts tokens: a blank, or two dashes (45) with all up to the line feed (10) or the text's end.
abbrev pub IsGap : List ℕ → ℕ → ℕ → Type 0
IsGap text i end = ((is_blank (at text i) ≡ true) × (end ≡ i + 1)) ⊎ ((at text i ≡ 45) × (at text (i + 1) ≡ 45) × First 10 text i end)

-- A token of a kind stands from a place to an end. A word is as long as it can be. An integer is digits that no letter
-- and no point follows; otherwise the digits, and as many letters, digits and points as follow, are an odd number.
-- A name in double quotes (34), not empty, or a text in single quotes (39), goes to its closing quote.
abbrev pub IsToken : TokenKind → List ℕ → ℕ → ℕ → Type 0
IsToken kinds.Word text i end = (begins_word (at text i) ≡ true) × Run classes.Word text i end
IsToken kinds.Integer text i end = (is_ascii_digit (at text i) ≡ true) × Run classes.Digit text i end × (is_of classes.Number (at text end) ≡ false)
IsToken kinds.OddNumber text i end = (is_ascii_digit (at text i) ≡ true) × ((d : ℕ) × Run classes.Digit text i d × (is_of classes.Number (at text d) ≡ true) × Run classes.Number text d end)
IsToken kinds.QuotedName text i end = (at text i ≡ 34) × Closed 34 text end (i + 1) × (end ≡ i + 2 → ⊥)
IsToken kinds.Text text i end = (at text i ≡ 39) × Closed 39 text end (i + 1)
IsToken (kinds.Sign s) text i end = Spells s (at text i) (at text (i + 1)) × (end ≡ i + width s)

-- From a place to an end the text is gaps and these tokens, each with its places.
pub data Reads (text : List ℕ) (end : ℕ) : ℕ → List Token → Type 0 where
  here : (i : ℕ) → i ≡ end → Reads text end i []
  gap : (i next : ℕ) (ts : List Token) → IsGap text i next → Reads text end next ts → Reads text end i ts
  token : (kind : TokenKind) (i next : ℕ) (ts : List Token) → IsToken kind text i next → i < next → Reads text end next ts
      → Reads text end i (record { kind = kind; start = i; end = next } ∷ ts)

-- the tokens of a whole text
abbrev pub AreTokens : List ℕ → List Token → Type 0
AreTokens text ts = Reads text (length text) 0 ts

-- A quote stands at a place, and nothing closes it.
abbrev pub IsOpen : ℕ → List ℕ → ℕ → Type 0
IsOpen quote text i = (at text i ≡ quote) × ((end : ℕ) → Closed quote text end (i + 1) → ⊥)

-- double quotes, or single ones
abbrev pub Unclosed : List ℕ → ℕ → Type 0
Unclosed text i = IsOpen 34 text i ⊎ IsOpen 39 text i

-- Within the text neither a gap nor a token begins at a place. The fault is told there, but at the text's end where a
-- quote is unclosed.
pub record IsStuck (text : List ℕ) (i fault : ℕ) : Type 0 where
  pub within : i < length text
  pub no_gap : (end : ℕ) → IsGap text i end → ⊥
  pub no_token : (kind : TokenKind) (end : ℕ) → IsToken kind text i end → ⊥
  pub place : (Unclosed text i × (fault ≡ length text)) ⊎ ((Unclosed text i → ⊥) × (fault ≡ i))

-- Gaps and tokens stand up to a place where none begins.
pub record FaultAt (text : List ℕ) (fault : ℕ) : Type 0 where
  pub upto : ℕ
  pub tokens : List Token
  pub reads : Reads text upto 0 tokens
  pub stuck : IsStuck text upto fault

-- Within the text neither a gap nor a token begins at a place, and no quote is open there.
pub record IsStray (text : List ℕ) (i : ℕ) : Type 0 where
  pub within : i < length text
  pub no_gap : (end : ℕ) → IsGap text i end → ⊥
  pub no_token : (kind : TokenKind) (end : ℕ) → IsToken kind text i end → ⊥
  pub closed : Unclosed text i → ⊥

-- what ends the tokens that stand up to a place, told with that place
abbrev pub Ends : Ending → List ℕ → ℕ → Type 0
Ends endings.Whole text i = i ≡ length text
Ends (endings.Stray place) text i = (place ≡ i) × IsStray text i
Ends (endings.OpenName place) text i = (place ≡ i) × IsOpen 34 text i
Ends (endings.OpenText place) text i = (place ≡ i) × IsOpen 39 text i

-- The tokens of a text up to the first place where none begins, and what stands there.
pub record IsFront (text : List ℕ) (front : Front) : Type 0 where
  pub upto : ℕ
  pub reads : Reads text upto 0 front.tokens
  pub ends : Ends front.ending text upto

-- Spans rise from a place, none is empty, all lie within the text, and in each span stands its token.
abbrev pub Spans : List ℕ → ℕ → List Token → Type 0
Spans text from [] = from ≤ length text
Spans text from (t ∷ ts) = (from ≤ t.start) × (t.start < t.end) × IsToken t.kind text t.start t.end × Spans text t.end ts

-- A gap, or a token of a kind, stands from a place to an end.
abbrev pub IsPiece : Option TokenKind → List ℕ → ℕ → ℕ → Type 0
IsPiece None text i end = IsGap text i end
IsPiece (Some kind) text i end = IsToken kind text i end

-- what a refusal's own cause says
abbrev pub IfWhy : {T E : Type 0} → Result T (Cant E) → (E → Type 0) → Type 0
IfWhy (Ok value) says = Unit {0}
IfWhy (Err (cants.Why cause)) says = says cause
IfWhy (Err cants.NoMemory) says = Unit {0}

-- why no gap and no token is read at a place
abbrev pub Stops : Stop → List ℕ → ℕ → Type 0
Stops stops.Stray text i = IsStray text i
Stops stops.OpenName text i = IsOpen 34 text i
Stops stops.OpenText text i = IsOpen 39 text i

-- the same, told with the place
abbrev pub ending_of : Stop → ℕ → Ending
ending_of stops.Stray place = endings.Stray place
ending_of stops.OpenName place = endings.OpenName place
ending_of stops.OpenText place = endings.OpenText place

abbrev pub whole_by : Ending → List Token → ℕ → Result (List Token) (Cant Lex)
whole_by endings.Whole tokens end = Ok tokens
whole_by (endings.Stray place) tokens end = Err (cants.Why (record { at = place }))
whole_by (endings.OpenName place) tokens end = Err (cants.Why (record { at = end }))
whole_by (endings.OpenText place) tokens end = Err (cants.Why (record { at = end }))

-- the tokens of a whole text, or the place of the fault: the text's length where a quote is open
abbrev pub whole_of : Front → ℕ → Result (List Token) (Cant Lex)
whole_of front end = whole_by front.ending front.tokens end
