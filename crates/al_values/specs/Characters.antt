-- Characters of a text in UTF-8 (manual, 8.3: a length counts characters, not bytes).
use Rattle.std.specs.Prelude.{ℕ, ◌+◌, ◌-◌, Bool, ◌||◌, ◌==◌, nat_lt, nat_le, if◌then◌else◌, List, [], ◌∷◌, take, drop, count_by}
use Rattle.std.specs.List.{list_all}

-- the byte is the first of a character, and not a later one
abbrev pub begins_character : ℕ → Bool
begins_character byte = nat_lt byte 0x80 || nat_le 0xC0 byte

-- how many characters there are
abbrev pub characters : List ℕ → ℕ
characters text = count_by begins_character text

-- how many bytes the first characters take, at most so many of them
unfoldable pub bytes_of : ℕ → List ℕ → ℕ
bytes_of most [] = 0
bytes_of most (byte ∷ text) =
    if begins_character byte
    then (if most == 0 then 0 else 1 + bytes_of (most - 1) text)
    else 1 + bytes_of most text

-- the first characters
abbrev pub first_characters : ℕ → List ℕ → List ℕ
first_characters most text = take (bytes_of most text) text

-- what stands after them is nothing but spaces
abbrev pub only_spaces_after : ℕ → List ℕ → Bool
only_spaces_after most text = list_all (λ byte. byte == 32) (drop (bytes_of most text) text)
