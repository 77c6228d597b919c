-- Bytes of a spec file, and how far they go.
use Rattle.std.specs.Prelude.{◌≡◌, ℕ, ◌+◌, ◌<◌, ◌≤◌, Bool, true, false, ◌||◌, List, [], ◌∷◌, length, get_or, nat_le, ◌==◌, if◌then◌else◌}
use Rattle.std.specs.Char.{is_ascii_alphabetic, is_ascii_digit}
use Rattle.al_spec.specs.declared.bytes.Begins.{Begins}
use Rattle.al_spec.specs.declared.bytes.Begins.TheVariants as begins

-- the byte at a place; 0, which is in no token, past the end
abbrev pub at : List ℕ → ℕ → ℕ
at text i = get_or text i 0

-- space, tab, carriage return and form feed, which are cut at a block's ends
abbrev pub is_cut : ℕ → Bool
is_cut b = b == 32 || (b == 9 || (b == 13 || b == 12))

-- what parts tokens: those, and the line feed
abbrev pub is_blank : ℕ → Bool
is_blank b = is_cut b || b == 10

-- an ASCII letter, `_`, or a byte of a character past ASCII
abbrev pub begins_name : ℕ → Bool
begins_name b = is_ascii_alphabetic b || (b == 95 || nat_le 128 b)

-- those, ASCII digits and `$`
abbrev pub goes_on : ℕ → Bool
goes_on b = begins_name b || (is_ascii_digit b || b == 36)

-- What a byte begins: a blank, a comment (`#`), a name or word, a name in double quotes, a block (`{`), a marker (`(`),
-- or nothing.
unfoldable pub begun : ℕ → Begins
begun b =
    if is_blank b then begins.Blank else
    (if b == 35 then begins.Comment else
    (if begins_name b then begins.Name else
    (if b == 34 then begins.Quote else
    (if b == 123 then begins.Block else
    (if b == 40 then begins.Paren else begins.Nothing)))))

-- The bytes from a place to an end go on a name, as many as there are.
pub record Run (text : List ℕ) (i end : ℕ) : Type 0 where
  pub rises : i ≤ end
  pub within : end ≤ length text
  pub each : (k : ℕ) → i ≤ k → k < end → goes_on (at text k) ≡ true
  pub longest : end < length text → goes_on (at text end) ≡ false

-- The end is the first place of a byte from one place on and before another, or that other one where there is none.
pub record First (byte : ℕ) (text : List ℕ) (i to end : ℕ) : Type 0 where
  pub rises : i ≤ end
  pub within : end ≤ to
  pub before : (k : ℕ) → i ≤ k → k < end → at text k ≡ byte → ⊥
  pub is : end < to → at text end ≡ byte

-- What stands open in double quotes (34) at a place is closed just before an end, and is this name: two quotes are one,
-- and there is no line feed (10).
pub data Quoted (text : List ℕ) (end : ℕ) : ℕ → List ℕ → Type 0 where
  closes : (i : ℕ) → at text i ≡ 34 → (at text (i + 1) ≡ 34 → ⊥) → end ≡ i + 1 → Quoted text end i []
  doubled : (i : ℕ) (name : List ℕ) → at text i ≡ 34 → at text (i + 1) ≡ 34 → Quoted text end (i + 2) name → Quoted text end i (34 ∷ name)
  other : (i : ℕ) (name : List ℕ) → i < length text → (at text i ≡ 34 → ⊥) → (at text i ≡ 10 → ⊥) → Quoted text end (i + 1) name → Quoted text end i (at text i ∷ name)

-- without the bytes that are cut at the front
abbrev pub cut_front : List ℕ → List ℕ
cut_front [] = []
cut_front (b ∷ bs) = if is_cut b then cut_front bs else b ∷ bs

-- a byte before what is left of those behind it
abbrev pub kept : ℕ → List ℕ → List ℕ
kept b [] = if is_cut b then [] else b ∷ []
kept b (c ∷ cs) = b ∷ c ∷ cs

-- without those at the back
abbrev pub cut_back : List ℕ → List ℕ
cut_back [] = []
cut_back (b ∷ bs) = kept b (cut_back bs)

-- A block's text: what lies between its braces, without the bytes that are cut at both ends.
abbrev pub cut : List ℕ → List ℕ
cut bs = cut_back (cut_front bs)
