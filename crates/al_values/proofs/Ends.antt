-- Where the first characters of a text end, byte by byte.
use Rattle.std.proofs.Common.{◌≡◌, ℕ, ◌+◌, ◌-◌, ◌<◌, ◌≤◌, List, length, drop, get_or, refl, drop-cons, add-one}
use Rattle.std.specs.Prelude.{◌==◌, if◌then◌else◌}
use Rattle.std.proofs.lemmas.List.{drop_all}
use Rattle.al_values.specs.Characters.{bytes_of, begins_character}

pub bytes_of_at : (most place : ℕ) (text : List ℕ) → place < length text
    → bytes_of most (drop place text) ≡ (if begins_character (get_or text place 0)
    then (if most == 0 then 0 else 1 + bytes_of (most - 1) (drop (place + 1) text))
    else 1 + bytes_of most (drop (place + 1) text))
unfolding bytes_of
bytes_of_at most place text within = rw (drop-cons text place 0, add-one) refl

pub bytes_of_end : (most place : ℕ) (text : List ℕ) → length text ≤ place → bytes_of most (drop place text) ≡ 0
unfolding bytes_of
bytes_of_end most place text past = rw drop_all refl
