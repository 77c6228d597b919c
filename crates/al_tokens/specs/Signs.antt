-- The signs of SQL.
use Rattle.std.specs.Prelude.{◌≡◌, ℕ, ◌⊎◌}
use Rattle.al_tokens.specs.declared.kinds.Sign.{Sign}
use Rattle.al_tokens.specs.declared.kinds.Sign.TheVariants as signs

-- how many bytes a sign has
abbrev pub width : Sign → ℕ
width signs.NotEqual = 2
width signs.LessOrEqual = 2
width signs.GreaterOrEqual = 2
width signs.Joined = 2
width signs.Cast = 2
width s = 1

-- A byte and the next one begin a sign. A short sign isn't taken where the next byte makes it a longer one or a comment:
-- `( ) , ; . =`, `<>` or `!=`, `<`, `<=`, `>`, `>=`, `+ - * / %`, `||` and `::`.
abbrev pub Spells : Sign → ℕ → ℕ → Type 0
Spells signs.LeftParen b next = b ≡ 40
Spells signs.RightParen b next = b ≡ 41
Spells signs.Comma b next = b ≡ 44
Spells signs.Semicolon b next = b ≡ 59
Spells signs.Point b next = b ≡ 46
Spells signs.Equal b next = b ≡ 61
Spells signs.NotEqual b next = ((b ≡ 60) × (next ≡ 62)) ⊎ ((b ≡ 33) × (next ≡ 61))
Spells signs.Less b next = (b ≡ 60) × (next ≡ 62 → ⊥) × (next ≡ 61 → ⊥)
Spells signs.LessOrEqual b next = (b ≡ 60) × (next ≡ 61)
Spells signs.Greater b next = (b ≡ 62) × (next ≡ 61 → ⊥)
Spells signs.GreaterOrEqual b next = (b ≡ 62) × (next ≡ 61)
Spells signs.Plus b next = b ≡ 43
Spells signs.Minus b next = (b ≡ 45) × (next ≡ 45 → ⊥)
Spells signs.Star b next = b ≡ 42
Spells signs.Slash b next = b ≡ 47
Spells signs.Percent b next = b ≡ 37
Spells signs.Joined b next = (b ≡ 124) × (next ≡ 124)
Spells signs.Cast b next = (b ≡ 58) × (next ≡ 58)
