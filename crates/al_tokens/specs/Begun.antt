-- What a byte begins, as a test.
use Rattle.std.specs.Prelude.{ℕ, ◌+◌, ◌&&◌, List, Option, Some, None, if◌then◌else◌, ◌==◌}
use Rattle.std.specs.Char.{is_ascii_digit}
use Rattle.al_tokens.specs.declared.kinds.Sign.{Sign}
use Rattle.al_tokens.specs.declared.kinds.Sign.TheVariants as signs
use Rattle.al_tokens.specs.declared.bytes.Begins.{Begins}
use Rattle.al_tokens.specs.declared.bytes.Begins.TheVariants as begins
use Rattle.al_tokens.specs.Bytes.{at, is_blank, begins_word}

-- `<>`, `!=`, `<=`, `>=`, `||` and `::`
unfoldable pub long_sign : ℕ → ℕ → Option Sign
long_sign b next =
    if b == 60 && next == 62 then Some signs.NotEqual else
    (if b == 33 && next == 61 then Some signs.NotEqual else
    (if b == 60 && next == 61 then Some signs.LessOrEqual else
    (if b == 62 && next == 61 then Some signs.GreaterOrEqual else
    (if b == 124 && next == 124 then Some signs.Joined else
    (if b == 58 && next == 58 then Some signs.Cast else None)))))

-- `( ) , ; . = < > + - * / %`
unfoldable pub short_sign : ℕ → Option Sign
short_sign b =
    if b == 40 then Some signs.LeftParen else
    (if b == 41 then Some signs.RightParen else
    (if b == 44 then Some signs.Comma else
    (if b == 59 then Some signs.Semicolon else
    (if b == 46 then Some signs.Point else
    (if b == 61 then Some signs.Equal else
    (if b == 60 then Some signs.Less else
    (if b == 62 then Some signs.Greater else
    (if b == 43 then Some signs.Plus else
    (if b == 45 then Some signs.Minus else
    (if b == 42 then Some signs.Star else
    (if b == 47 then Some signs.Slash else
    (if b == 37 then Some signs.Percent else None))))))))))))

-- the longer sign, where both begin
abbrev pub sign_begun : Option Sign → Option Sign → Begins
sign_begun (Some s) short = begins.Sign s
sign_begun None (Some s) = begins.Sign s
sign_begun None None = begins.Nothing

-- What a byte begins, where another follows: a blank, a comment, a word, a number, a quoted name, a text, or a sign.
unfoldable pub begun : ℕ → ℕ → Begins
begun b next =
    if is_blank b then begins.Blank else
    (if b == 45 && next == 45 then begins.Comment else
    (if begins_word b then begins.Word else
    (if is_ascii_digit b then begins.Number else
    (if b == 34 then begins.QuotedName else
    (if b == 39 then begins.Text else sign_begun (long_sign b next) (short_sign b))))))

abbrev pub begun_at : List ℕ → ℕ → Begins
begun_at text i = begun (at text i) (at text (i + 1))
