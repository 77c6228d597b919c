-- Tokens of a text, classed as the grammar tells them apart (4.1), and those that are left out of SQL here.
use Rattle.std.specs.Prelude.{ℕ, ◌+◌, ◌-◌, pos, Bool, true, false, ◌&&◌, ◌||◌, nat_lt, ◌==◌, if◌then◌else◌, List, [], ◌∷◌, length, map, slice_range}
use Rattle.std.specs.Char.{to_ascii_lowercase}
use Rattle.al_values.specs.Reading.{digits_value}
use Rattle.al_tokens.specs.declared.kinds.Sign.{Sign}
use Rattle.al_tokens.specs.declared.kinds.Sign.TheVariants as signs
use Rattle.al_tokens.specs.declared.kinds.TokenKind.{TokenKind}
use Rattle.al_tokens.specs.declared.kinds.TokenKind.TheVariants as kinds
use Rattle.al_tokens.specs.declared.kinds.Token.{Token}
use Rattle.al_grammar.specs.Kinds.{among}
use Rattle.al_phrases.specs.declared.lexeme.Lexeme.{Lexeme}
use Rattle.al_phrases.specs.Kinds as k
use Rattle.al_lexemes.specs.Words.{word_kind, is_left_out}

-- ---- what a token says

-- Each quote directly behind one that was kept goes, so that two quotes are one.
abbrev pub undoubled_from : ℕ → Bool → List ℕ → List ℕ
undoubled_from quote behind [] = []
undoubled_from quote behind (b ∷ bs) =
    if behind && b == quote then undoubled_from quote false bs else b ∷ undoubled_from quote (b == quote) bs

abbrev pub undoubled : ℕ → List ℕ → List ℕ
undoubled quote bytes = undoubled_from quote false bytes

-- a word in small letters
unfoldable pub word_of : List ℕ → Token → List ℕ
word_of text t = map to_ascii_lowercase (slice_range text t.start t.end)

-- what stands in quotes, with two quotes as one
unfoldable pub quoted_of : ℕ → List ℕ → Token → List ℕ
quoted_of quote text t = undoubled quote (slice_range text (t.start + 1) (t.end - 1))

-- the number that an integer's digits spell, however long
unfoldable pub number_of : List ℕ → Token → ℕ
number_of text t = digits_value (slice_range text t.start t.end)

-- over 63 bytes, which is no name (4.1.1)
abbrev pub is_long : List ℕ → Bool
is_long name = nat_lt 63 (length name)

-- over 64 bits with a sign (8.1.1)
abbrev pub is_wide : ℕ → Bool
is_wide number = nat_lt 9223372036854775807 number

-- ---- classed

abbrev pub sign_kind : Sign → ℕ
sign_kind signs.LeftParen = k.left_paren
sign_kind signs.RightParen = k.right_paren
sign_kind signs.Comma = k.comma
sign_kind signs.Semicolon = k.semicolon
sign_kind signs.Point = k.point
sign_kind signs.Equal = k.equal
sign_kind signs.NotEqual = k.not_equal
sign_kind signs.Less = k.less
sign_kind signs.LessOrEqual = k.less_or_equal
sign_kind signs.Greater = k.greater
sign_kind signs.GreaterOrEqual = k.greater_or_equal
sign_kind signs.Plus = k.plus
sign_kind signs.Minus = k.minus
sign_kind signs.Star = k.star
sign_kind signs.Slash = k.slash
sign_kind signs.Percent = k.percent
sign_kind signs.Joined = k.joined
sign_kind signs.Cast = k.cast_sign

-- a token that has neither a text nor a number
abbrev pub bare : ℕ → ℕ → Lexeme
bare kind place = record { kind = kind; called = false; place = place; text = []; number = pos 0 }

-- a word or a quoted name, where a parenthesis may stand directly behind it
abbrev pub named : ℕ → Bool → ℕ → List ℕ → Lexeme
named kind paren place name =
    if is_long name then bare k.untaken place
    else record { kind = kind; called = paren && among kind k.names; place = place; text = name; number = pos 0 }

abbrev pub integer : ℕ → ℕ → Lexeme
integer place number =
    if is_wide number then bare k.untaken place
    else record { kind = k.integer_token; called = false; place = place; text = []; number = pos number }

abbrev pub lexeme_by : TokenKind → List ℕ → Token → Bool → Lexeme
lexeme_by kinds.Word text t paren = named (word_kind paren (word_of text t)) paren t.start (word_of text t)
lexeme_by kinds.QuotedName text t paren = named k.name paren t.start (quoted_of 34 text t)
lexeme_by kinds.Integer text t paren = integer t.start (number_of text t)
lexeme_by kinds.Text text t paren = record { kind = k.text_token; called = false; place = t.start; text = quoted_of 39 text t; number = pos 0 }
lexeme_by (kinds.Sign sign) text t paren = bare (sign_kind sign) t.start
lexeme_by kinds.OddNumber text t paren = bare k.untaken t.start

-- A token classed. `paren` says whether an opening parenthesis stands directly behind it, blanks apart.
unfoldable pub lexeme_of : List ℕ → Token → Bool → Lexeme
lexeme_of text t paren = lexeme_by t.kind text t paren

abbrev pub is_paren_kind : TokenKind → Bool
is_paren_kind (kinds.Sign signs.LeftParen) = true
is_paren_kind other = false

-- whether an opening parenthesis stands behind tokens, and the first of them, where none stand before what is told
abbrev pub opens : List Token → Bool → Bool
opens [] paren = paren
opens (t ∷ ts) paren = is_paren_kind t.kind

-- tokens classed, in front of what may be a parenthesis
abbrev pub classed : List ℕ → List Token → Bool → List Lexeme
classed text [] paren = []
classed text (t ∷ ts) paren = lexeme_of text t (opens ts paren) ∷ classed text ts paren

-- all tokens of a text, classed
unfoldable pub lexemes_of : List ℕ → List Token → List Lexeme
lexemes_of text ts = classed text ts false

-- ---- left out of SQL here

abbrev pub outside_by : TokenKind → List ℕ → Token → Bool
outside_by kinds.Word text t = is_long (word_of text t) || is_left_out (word_of text t)
outside_by kinds.QuotedName text t = is_long (quoted_of 34 text t)
outside_by kinds.Integer text t = is_wide (number_of text t)
outside_by kinds.OddNumber text t = true
outside_by (kinds.Sign signs.Point) text t = true
outside_by other text t = false

-- A token is SQL's, but never read here: a number that is too wide, digits with a point or letter, a `.`, a name over 63
-- bytes, or one of the words that are left out.
unfoldable pub outside : List ℕ → Token → Bool
outside text t = outside_by t.kind text t

-- The kind that stands in for a token where a rule names it and leaves it out: a parenthesis, a NOT or a sign that opens a
-- level too many, FOR behind aggregates, and a name directly before a parenthesis as a plain name.
abbrev pub stand_in_kind : Lexeme → ℕ
stand_in_kind t =
    if t.called then k.name else
    (if t.kind == k.left_paren then k.deep_paren else
    (if t.kind == k.not_word then k.deep_not else
    (if t.kind == k.plus || t.kind == k.minus then k.deep_sign else
    (if t.kind == k.for_word then k.late_for else t.kind))))

-- what stands in for a token; any other stands for itself
unfoldable pub stand_in : Lexeme → Lexeme
stand_in t = record t { kind = stand_in_kind t; called = false }
