-- Names of kinds (chapter 8).
use Rattle.std.specs.Prelude.{ℕ, ℤ, pos, negsuc, Bool, true, false, ◌&&◌, nat_le, ◌==◌, if◌then◌else◌, List, [], ◌∷◌, Option, Some, None}
use Rattle.al_grammar.specs.Rules.{Shape, Rule, leaf, leaf_shape, pair, both, optional, at_most_once, or, either}
use Rattle.al_values.specs.declared.kinds.Kind.{Kind}
use Rattle.al_values.specs.declared.kinds.Kind.TheVariants as kinds
use Rattle.al_phrases.specs.declared.lexeme.Lexeme.{Lexeme}
use Rattle.al_phrases.specs.Kinds.{left_paren, right_paren, integer_token, smallint_word, int2_word, integer_word, int_word, int4_word, bigint_word, int8_word, boolean_word, bool_word, text_word, date_word, varchar_word, character_word, varying_word}
use Rattle.al_phrases.specs.Words.{kind_of, one_of, word, ◌▸◌, ◌◂◌}

-- the greatest length that varchar(n) may have
abbrev pub size_in : Bool → ℕ → Option ℕ
size_in true n = Some n
size_in false n = None

abbrev pub size_of : ℤ → Option ℕ
size_of (pos n) = size_in (nat_le 1 n && nat_le n 10_485_760) n
size_of (negsuc n) = None

unfoldable pub size : Rule Lexeme (one_of integer_token) ℕ
size = leaf kind_of (integer_token ∷ []) (λ t. size_of t.number)

-- "(" integer ")"
abbrev pub sized_shape : Shape
sized_shape = both (one_of left_paren) (both (one_of integer_token) (one_of right_paren))

unfoldable pub sized : Rule Lexeme sized_shape ℕ
sized = left_paren ▸ (size ◂ right_paren)

-- varchar, or character varying
abbrev pub varying_shape : Shape
varying_shape = either (one_of varchar_word) (both (one_of character_word) (one_of varying_word))

unfoldable pub varying : Rule Lexeme varying_shape (Unit {0})
varying = or kind_of (word varchar_word) (character_word ▸ word varying_word)

-- without a length it is text
abbrev pub varying_kind : Unit {0} → Option ℕ → Kind
varying_kind u None = kinds.Text
varying_kind u (Some n) = kinds.Varchar n

abbrev pub varying_text_shape : Shape
varying_text_shape = both varying_shape (at_most_once sized_shape)

unfoldable pub varying_text : Rule Lexeme varying_text_shape Kind
varying_text = pair varying_kind varying (optional kind_of sized)

-- kind := smallint | int2 | integer | int | int4 | bigint | int8 | boolean | bool | text | date
--       | ( varchar | character varying ) [ "(" integer ")" ]
abbrev pub one_word : List ℕ
one_word = smallint_word ∷ int2_word ∷ integer_word ∷ int_word ∷ int4_word ∷ bigint_word ∷ int8_word ∷ boolean_word ∷ bool_word ∷ text_word ∷ date_word ∷ []

abbrev pub kind_named : ℕ → Kind
kind_named k =
    if k == smallint_word then kinds.Smallint else
    (if k == int2_word then kinds.Smallint else
    (if k == bigint_word then kinds.Bigint else
    (if k == int8_word then kinds.Bigint else
    (if k == boolean_word then kinds.Boolean else
    (if k == bool_word then kinds.Boolean else
    (if k == text_word then kinds.Text else
    (if k == date_word then kinds.Date else kinds.Integer)))))))

unfoldable pub one_word_kind : Rule Lexeme (leaf_shape one_word) Kind
one_word_kind = leaf kind_of one_word (λ t. Some (kind_named t.kind))

abbrev pub type_shape : Shape
type_shape = either varying_text_shape (leaf_shape one_word)

unfoldable pub type_name : Rule Lexeme type_shape Kind
type_name = or kind_of varying_text one_word_kind
