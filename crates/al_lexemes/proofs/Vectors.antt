-- Small texts, classed, by computation.
use Rattle.std.proofs.Common.{◌≡◌, ℕ, true, false, List, [], ◌∷◌, pos, refl}
use Rattle.std.specs.Prelude.{codes}
use Rattle.al_values.specs.Reading.{digits_value}
use Rattle.al_tokens.specs.declared.kinds.Token.{Token}
use Rattle.al_tokens.specs.declared.kinds.TokenKind.{TokenKind}
use Rattle.al_tokens.specs.declared.kinds.TokenKind.TheVariants as kinds
use Rattle.al_tokens.specs.declared.kinds.Sign.TheVariants as signs
use Rattle.al_phrases.specs.declared.lexeme.Lexeme.{Lexeme}
use Rattle.al_phrases.specs.Kinds as k
use Rattle.al_lexemes.specs.Words.{word_kind, is_left_out}
use Rattle.al_lexemes.specs.Classes.{undoubled, lexeme_of, lexemes_of, word_of, quoted_of, number_of, outside, stand_in, bare}

abbrev token : TokenKind → ℕ → ℕ → Token
token kind start end = record { kind = kind; start = start; end = end }

abbrev named : ℕ → ℕ → List ℕ → Lexeme
named kind place text = record { kind = kind; called = false; place = place; text = text; number = pos 0 }

-- a"b and ""
pub two_are_one : undoubled 34 (codes "a\"\"b") ≡ codes "a\"b"
two_are_one = refl

pub four_are_two : undoubled 34 (codes "\"\"\"\"") ≡ codes "\"\""
four_are_two = refl

pub other_quotes_stay : undoubled 34 (codes "a''b") ≡ codes "a''b"
other_quotes_stay = refl

-- SELECT "A" 7, count (
pub a_text : lexemes_of (codes "SELECT \"A\" 7, count (") (token kinds.Word 0 6 ∷ token kinds.QuotedName 7 10 ∷ token kinds.Integer 11 12 ∷ token (kinds.Sign signs.Comma) 12 13 ∷ token kinds.Word 14 19 ∷ token (kinds.Sign signs.LeftParen) 20 21 ∷ [])
    ≡ named k.select_word 0 (codes "select") ∷ named k.name 7 (codes "A") ∷ record (named k.integer_token 11 []) { number = pos 7 } ∷ bare k.comma 12
    ∷ record (named k.count_call 14 (codes "count")) { called = true } ∷ bare k.left_paren 20 ∷ []
unfolding lexemes_of lexeme_of word_of quoted_of number_of word_kind digits_value
a_text = refl

-- count alone, 1.5, and a text
pub a_word : lexemes_of (codes "count 1.5 'it''s'") (token kinds.Word 0 5 ∷ token kinds.OddNumber 6 9 ∷ token kinds.Text 10 17 ∷ [])
    ≡ named k.count_word 0 (codes "count") ∷ bare k.untaken 6 ∷ named k.text_token 10 (codes "it's") ∷ []
unfolding lexemes_of lexeme_of word_of quoted_of number_of word_kind digits_value
a_word = refl

-- the greatest number of 64 bits, and one more
pub widest : outside (codes "9223372036854775807") (token kinds.Integer 0 19) ≡ false
unfolding outside number_of digits_value
widest = refl

pub too_wide : outside (codes "9223372036854775808") (token kinds.Integer 0 19) ≡ true
unfolding outside number_of digits_value
too_wide = refl

-- CASE and "case"
pub case_left_out : outside (codes "CASE") (token kinds.Word 0 4) ≡ true
unfolding outside word_of is_left_out
case_left_out = refl

pub case_quoted : outside (codes "\"case\"") (token kinds.QuotedName 0 6) ≡ false
unfolding outside quoted_of
case_quoted = refl

pub select_known : outside (codes "select") (token kinds.Word 0 6) ≡ false
unfolding outside word_of is_left_out
select_known = refl

-- stand-ins
pub paren_deep : stand_in (bare k.left_paren 3) ≡ bare k.deep_paren 3
unfolding stand_in
paren_deep = refl

pub called_plain : stand_in (record (named k.count_call 3 (codes "count")) { called = true }) ≡ named k.name 3 (codes "count")
unfolding stand_in
called_plain = refl

pub comma_itself : stand_in (bare k.comma 3) ≡ bare k.comma 3
unfolding stand_in
comma_itself = refl
