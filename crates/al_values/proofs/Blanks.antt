-- Blanks at the end of a text.
use Rattle.std.proofs.Common.{◌≡◌, ℕ, ◌-◌, ◌+◌, ◌<◌, ◌≤◌, true, false, List, [], ◌∷◌, ◌++◌, length, take, get_or, reverse, refl, sym, ap, ◌∙◌, arith}
use Rattle.std.proofs.lemmas.List.{reverse-append, reverse-reverse, take_more, take_all}
use Rattle.al_values.specs.Reading.{skip_blanks, is_blank}

-- a text and its last byte
last_apart : (text : List ℕ) → 1 ≤ length text → text ≡ take (length text - 1) text ++ get_or text (length text - 1) 0 ∷ []
last_apart text some =
    let within : length text - 1 < length text = omega arith in
    sym (take_all (length text - 1 + 1) text (omega arith)) ∙ take_more text (length text - 1) 0 within

reversed_apart : (text : List ℕ) → 1 ≤ length text
    → reverse text ≡ get_or text (length text - 1) 0 ∷ reverse (take (length text - 1) text)
reversed_apart text some = ap reverse (last_apart text some) ∙ reverse-append (take (length text - 1) text) (get_or text (length text - 1) 0 ∷ [])

pub back_more : (text : List ℕ) → 1 ≤ length text → is_blank (get_or text (length text - 1) 0) ≡ true
    → skip_blanks (reverse (take (length text - 1) text)) ≡ skip_blanks (reverse text)
unfolding skip_blanks
back_more text some blank = rw (reversed_apart text some, blank) refl

pub back_stop : (text : List ℕ) → 1 ≤ length text → is_blank (get_or text (length text - 1) 0) ≡ false
    → text ≡ reverse (skip_blanks (reverse text))
unfolding skip_blanks
back_stop text some other =
    let stays : skip_blanks (reverse text) ≡ reverse text = rw (reversed_apart text some, other) refl in
    sym (ap reverse stays ∙ reverse-reverse text)

pub back_none : (text : List ℕ) → length text < 1 → text ≡ reverse (skip_blanks (reverse text))
unfolding skip_blanks
back_none [] none = refl
back_none (byte ∷ text) none = absurd (omega arith)
