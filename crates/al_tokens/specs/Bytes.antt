-- Kinds of bytes in SQL, and how far they go.
use Rattle.std.specs.Prelude.{◌≡◌, ℕ, ◌+◌, ◌<◌, ◌≤◌, Bool, true, false, ◌||◌, ◌&&◌, List, length, get_or, nat_le, ◌==◌}
use Rattle.std.specs.Char.{is_ascii_alphabetic, is_ascii_digit}
use Rattle.al_tokens.specs.declared.bytes.Class.{Class}
use Rattle.al_tokens.specs.declared.bytes.Class.TheVariants as classes

-- the byte at a place; 0, which goes on no token and is in no sign, past the end
abbrev pub at : List ℕ → ℕ → ℕ
at text i = get_or text i 0

-- space, tab, line feed, vertical tab, form feed and carriage return
abbrev pub is_blank : ℕ → Bool
is_blank b = b == 32 || (nat_le 9 b && nat_le b 13)

-- an ASCII letter or `_`
abbrev pub begins_word : ℕ → Bool
begins_word b = is_ascii_alphabetic b || b == 95

-- Bytes that go on: of a word, of digits, of an odd number (ASCII letters, digits and points).
abbrev pub is_of : Class → ℕ → Bool
is_of classes.Word b = begins_word b || is_ascii_digit b
is_of classes.Digit b = is_ascii_digit b
is_of classes.Number b = is_ascii_alphabetic b || (is_ascii_digit b || b == 46)

-- The bytes from a place to an end are of a class, as many as there are.
pub record Run (class : Class) (text : List ℕ) (i end : ℕ) : Type 0 where
  pub rises : i ≤ end
  pub within : end ≤ length text
  pub each : (k : ℕ) → i ≤ k → k < end → is_of class (at text k) ≡ true
  pub longest : end < length text → is_of class (at text end) ≡ false

-- The end is the first place of a byte from a place on, or the text's length where there is none.
pub record First (byte : ℕ) (text : List ℕ) (i end : ℕ) : Type 0 where
  pub rises : i ≤ end
  pub within : end ≤ length text
  pub before : (k : ℕ) → i ≤ k → k < end → at text k ≡ byte → ⊥
  pub is : end < length text → at text end ≡ byte

-- What stands open in quotes at a place is closed by a quote just before an end: two quotes are one, and go on.
pub data Closed (quote : ℕ) (text : List ℕ) (end : ℕ) : ℕ → Type 0 where
  closes : (i : ℕ) → at text i ≡ quote → (at text (i + 1) ≡ quote → ⊥) → end ≡ i + 1 → Closed quote text end i
  doubled : (i : ℕ) → at text i ≡ quote → at text (i + 1) ≡ quote → Closed quote text end (i + 2) → Closed quote text end i
  other : (i : ℕ) → i < length text → (at text i ≡ quote → ⊥) → Closed quote text end (i + 1) → Closed quote text end i
