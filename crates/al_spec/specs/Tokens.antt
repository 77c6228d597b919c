-- The tokens of a spec file.
use Rattle.std.specs.Prelude.{◌≡◌, ℕ, ◌+◌, ◌<◌, ◌≤◌, ◌⊎◌, Bool, false, ◌&&◌, List, [], ◌∷◌, ◌++◌, length, Option, Some, None, is_none, slice_range, bytes_eq, codes, IsCharBoundary, if◌then◌else◌}
use Rattle.std.specs.List.{list_all}
use Rattle.al_spec.specs.declared.kinds.Word.{Word}
use Rattle.al_spec.specs.declared.kinds.Word.TheVariants as words
use Rattle.al_spec.specs.declared.kinds.Lexeme.{Lexeme}
use Rattle.al_spec.specs.declared.kinds.Lexeme.TheVariants as lexemes
use Rattle.al_spec.specs.declared.kinds.Token.{Token}
use Rattle.al_spec.specs.declared.bytes.Begins.TheVariants as begins
use Rattle.al_spec.specs.declared.lex.Quote.{Quote}
use Rattle.al_spec.specs.declared.lex.Quote.TheVariants as quotes
use Rattle.al_spec.specs.declared.lex.Piece.{Piece}
use Rattle.al_spec.specs.declared.lex.Piece.TheVariants as pieces
use Rattle.al_spec.specs.Bytes.{at, begins_name, goes_on, begun, Run, First, Quoted, cut}

-- The word that a text is, where it is one of the five.
unfoldable pub word_of : List ℕ → Option Word
word_of bs =
    if bytes_eq bs (codes "setup") then Some words.Setup else
    (if bytes_eq bs (codes "teardown") then Some words.Teardown else
    (if bytes_eq bs (codes "session") then Some words.Session else
    (if bytes_eq bs (codes "step") then Some words.Step else
    (if bytes_eq bs (codes "permutation") then Some words.Permutation else None))))

-- a word, or else a name
abbrev pub word_or_name : Option Word → List ℕ → Lexeme
word_or_name (Some word) bs = lexemes.Word word
word_or_name None bs = lexemes.Name bs

-- One of the five words, or a name.
abbrev pub plain : List ℕ → Lexeme
plain bs = word_or_name (word_of bs) bs

-- A plain identifier: a byte that begins a name, and bytes that go on one, other than the five words.
abbrev pub is_plain : List ℕ → Bool
is_plain [] = false
is_plain (b ∷ bs) = begins_name b && (list_all goes_on bs && is_none (word_of (b ∷ bs)))

-- What parts tokens: a blank, or a `#` with all up to the line feed (10) or the text's end.
abbrev pub IsGap : List ℕ → ℕ → ℕ → Type 0
IsGap text i end = ((begun (at text i) ≡ begins.Blank) × (end ≡ i + 1)) ⊎ ((begun (at text i) ≡ begins.Comment) × First 10 text i (length text) end)

-- A word or a name, as long as it can be.
pub record IsPlain (text : List ℕ) (i end : ℕ) (lexeme : Lexeme) : Type 0 where
  pub begins : begun (at text i) ≡ begins.Name
  pub run : Run text i end
  pub means : lexeme ≡ plain (slice_range text i end)

-- A name in double quotes, not empty.
pub record IsQuoted (text : List ℕ) (i end : ℕ) (lexeme : Lexeme) : Type 0 where
  pub begins : begun (at text i) ≡ begins.Quote
  pub name : List ℕ
  pub quoted : Quoted text end (i + 1) name
  pub some : name ≡ [] → ⊥
  pub means : lexeme ≡ lexemes.Name name

-- A block: from its `{` to the first `}` (125).
pub record IsBlock (text : List ℕ) (i end : ℕ) (lexeme : Lexeme) : Type 0 where
  pub begins : begun (at text i) ≡ begins.Block
  pub close : ℕ
  pub first : First 125 text i (length text) close
  pub closed : close < length text
  pub ends : end ≡ close + 1
  pub means : lexeme ≡ lexemes.Block (cut (slice_range text (i + 1) close))

-- A token stands from a place to an end.
abbrev pub IsToken : List ℕ → ℕ → ℕ → Lexeme → Type 0
IsToken text i end lexeme = IsPlain text i end lexeme ⊎ (IsQuoted text i end lexeme ⊎ IsBlock text i end lexeme)

-- From a place to an end the text is gaps and these tokens, each with its place.
pub data Reads (text : List ℕ) (end : ℕ) : ℕ → List Token → Type 0 where
  here : (i : ℕ) → i ≡ end → Reads text end i []
  gap : (i next : ℕ) (ts : List Token) → IsGap text i next → Reads text end next ts → Reads text end i ts
  token : (lexeme : Lexeme) (i next : ℕ) (ts : List Token) → IsToken text i next lexeme → Reads text end next ts
      → Reads text end i (record { lexeme = lexeme; start = i } ∷ ts)

-- A name in double quotes is closed somewhere.
abbrev pub IsClosed : List ℕ → ℕ → Type 0
IsClosed text i = (end : ℕ) × ((name : List ℕ) × Quoted text end (i + 1) name)

-- A name in double quotes that isn't closed, without a line feed up to the text's end.
pub record IsOpenName (text : List ℕ) (i : ℕ) : Type 0 where
  pub begins : begun (at text i) ≡ begins.Quote
  pub no_close : IsClosed text i → ⊥
  pub no_feed : (k : ℕ) → i < k → k < length text → at text k ≡ 10 → ⊥

-- a block that isn't closed
pub record IsOpenBlock (text : List ℕ) (i : ℕ) : Type 0 where
  pub begins : begun (at text i) ≡ begins.Block
  pub no_close : First 125 text i (length text) (length text)

-- A name in double quotes that is empty, or has a line feed before it is closed.
pub record IsBadName (text : List ℕ) (i : ℕ) : Type 0 where
  pub begins : begun (at text i) ≡ begins.Quote
  pub bad : Quoted text (i + 2) (i + 1) [] ⊎ ((IsClosed text i → ⊥) × ((k : ℕ) × (i < k) × (k < length text) × (at text k ≡ 10)))

-- What no rule takes: it is the last token. What is open at the end has its own place and, behind it, the end's.
pub data Tail (text : List ℕ) (i : ℕ) : List Token → Type 0 where
  whole : i ≡ length text → Tail text i []
  open_name : IsOpenName text i → Tail text i (record { lexeme = lexemes.OpenName; start = i } ∷ record { lexeme = lexemes.Unclosed; start = length text } ∷ [])
  open_block : IsOpenBlock text i → Tail text i (record { lexeme = lexemes.OpenBlock; start = i } ∷ record { lexeme = lexemes.Unclosed; start = length text } ∷ [])
  bad_name : IsBadName text i → Tail text i (record { lexeme = lexemes.Stray; start = i } ∷ [])
  paren : begun (at text i) ≡ begins.Paren → Tail text i (record { lexeme = lexemes.Paren; start = i } ∷ [])
  stray : i < length text → begun (at text i) ≡ begins.Nothing → Tail text i (record { lexeme = lexemes.Stray; start = i } ∷ [])

-- The tokens of a text, up to the first place where none begins.
pub record AreTokens (text : List ℕ) (ts : List Token) : Type 0 where
  pub upto : ℕ
  pub front : List Token
  pub last : List Token
  pub reads : Reads text upto 0 front
  pub tail : Tail text upto last
  pub all : ts ≡ front ++ last

-- what a name in double quotes is
abbrev pub IsQuote : List ℕ → ℕ → Quote → Type 0
IsQuote text i (quotes.Closed name end) = Quoted text end (i + 1) name × (end ≤ length text) × (i < end) × IsCharBoundary text end
IsQuote text i quotes.Open = (IsClosed text i → ⊥) × ((k : ℕ) → i < k → k < length text → at text k ≡ 10 → ⊥)
IsQuote text i quotes.Broken = (IsClosed text i → ⊥) × ((k : ℕ) × (i < k) × (k < length text) × (at text k ≡ 10))

-- what stands at a place
abbrev pub IsPiece : List ℕ → ℕ → Piece → Type 0
IsPiece text i (pieces.Gap next) = IsGap text i next
IsPiece text i (pieces.Token lexeme next) = IsToken text i next lexeme
IsPiece text i (pieces.Open lexeme) = Tail text i (record { lexeme = lexeme; start = i } ∷ record { lexeme = lexemes.Unclosed; start = length text } ∷ [])
IsPiece text i (pieces.Bad lexeme) = Tail text i (record { lexeme = lexeme; start = i } ∷ [])

-- where reading goes on
abbrev pub GoesOnTo : List ℕ → ℕ → ℕ → Type 0
GoesOnTo text i next = (i < next) × (next ≤ length text) × IsCharBoundary text next

abbrev pub GoesOn : List ℕ → ℕ → Piece → Type 0
GoesOn text i (pieces.Gap next) = GoesOnTo text i next
GoesOn text i (pieces.Token lexeme next) = GoesOnTo text i next
GoesOn text i other = Unit {0}
