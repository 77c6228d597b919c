-- Texts that are put together piece by piece.
use Rattle.std.proofs.Common.{◌≡◌, ℕ, zero, suc, ◌+◌, ◌-◌, ◌≤◌, ◌<◌, List, [], ◌∷◌, ◌++◌, ap, sym, ◌∙◌, append_assoc, append-nil, arith, flat_map, length, take, drop, get_or, codes, length-drop}
use Rattle.std.specs.Prelude.{if◌then◌else◌}
use Rattle.std.specs.List.{range_with_len, slice_range}
use Rattle.std.proofs.lemmas.Grind.{flat_map-append}
use Rattle.std.proofs.lemmas.List.{take_more, flat_map_more, get_or-drop}
use Rattle.std.proofs.lemmas.Bool.{ne_eqb}
use Rattle.al_app.specs.Report.{doubled}

-- three pieces, put at the end one after another
pub appended_three : (old one two new a b c : List ℕ) → one ≡ old ++ a → two ≡ one ++ b → new ≡ two ++ c → new ≡ old ++ (a ++ (b ++ c))
appended_three old one two new a b c first second third =
    third ∙ ap (λ x. x ++ c) (second ∙ ap (λ x. x ++ b) first) ∙ append_assoc (old ++ a) b c ∙ append_assoc old a (b ++ c)

-- two pieces
pub appended_two : (old one new a b : List ℕ) → one ≡ old ++ a → new ≡ one ++ b → new ≡ old ++ (a ++ b)
appended_two old one new a b first second = second ∙ ap (λ x. x ++ b) first ∙ append_assoc old a b

-- a line with a name in it, and what comes behind it
pub appended_line : (old one new a name b c : List ℕ) → one ≡ old ++ (a ++ (name ++ b)) → new ≡ one ++ c → new ≡ old ++ (a ++ (name ++ (b ++ c)))
appended_line old one new a name b c first second =
    second ∙ ap (λ x. x ++ c) first ∙ append_assoc old (a ++ (name ++ b)) c
    ∙ ap (λ x. old ++ x) (append_assoc a (name ++ b) c ∙ ap (λ x. a ++ x) (append_assoc name b c))

-- one more number at the end
range_grows : (from count : ℕ) → range_with_len from (suc count) ≡ range_with_len from count ++ (from + count) ∷ []
range_grows from zero = ap (λ n. n ∷ []) (omega arith)
range_grows from (suc count) =
    ap (λ ns. from ∷ ns) (range_grows (from + 1) count ∙ ap (λ n. range_with_len (from + 1) count ++ n ∷ []) (omega arith))

-- the texts from a place on, with that of the next place
pub texts_grow : (text : ℕ → List ℕ) (from place : ℕ) → from ≤ place → flat_map text (range_with_len from (place + 1 - from)) ≡ flat_map text (range_with_len from (place - from)) ++ text place
texts_grow text from place within =
    let count : place + 1 - from ≡ suc (place - from) = omega arith in
    let last : from + (place - from) ≡ place = omega arith in
    ap (λ n. flat_map text (range_with_len from n)) count
    ∙ ap (flat_map text) (range_grows from (place - from))
    ∙ flat_map-append text (range_with_len from (place - from)) ((from + (place - from)) ∷ [])
    ∙ ap (λ n. flat_map text (range_with_len from (place - from)) ++ (text n ++ [])) last
    ∙ ap (λ t. flat_map text (range_with_len from (place - from)) ++ t) (append-nil (text place))

-- ---- texts with their quotes doubled

-- one more byte of a piece
piece_grows : (bytes : List ℕ) (from place : ℕ) → from ≤ place → place < length bytes → slice_range bytes from (place + 1) ≡ slice_range bytes from place ++ get_or bytes place 0 ∷ []
piece_grows bytes from place within inside =
    let count : place + 1 - from ≡ place - from + 1 = omega arith in
    let left : place - from < length (drop from bytes) = omega (arith, length-drop {A = ℕ}) in
    let there : from + (place - from) ≡ place = omega arith in
    ap (λ n. take n (drop from bytes)) count
    ∙ take_more (drop from bytes) (place - from) 0 left
    ∙ ap (λ b. slice_range bytes from place ++ b ∷ []) (get_or-drop from bytes (place - from) 0 ∙ ap (λ n. get_or bytes n 0) there)

-- what is to stand once one more byte is read
more_to_stand : (old before bytes : List ℕ) (from place : ℕ) → place < length bytes → before ++ slice_range bytes from place ≡ old ++ flat_map doubled (take place bytes) → (before ++ slice_range bytes from place) ++ doubled (get_or bytes place 0) ≡ old ++ flat_map doubled (take (place + 1) bytes)
more_to_stand old before bytes from place inside stands =
    ap (λ t. t ++ doubled (get_or bytes place 0)) stands
    ∙ flat_map_more doubled old (take place bytes) (get_or bytes place 0)
    ∙ ap (λ bs. old ++ flat_map doubled bs) (sym (take_more bytes place 0 inside))

pub plain_byte : (old before bytes : List ℕ) (from place : ℕ) → from ≤ place → place < length bytes → (get_or bytes place 0 ≡ 34 → ⊥) → before ++ slice_range bytes from place ≡ old ++ flat_map doubled (take place bytes) → before ++ slice_range bytes from (place + 1) ≡ old ++ flat_map doubled (take (place + 1) bytes)
plain_byte old before bytes from place within inside plain stands =
    let b = get_or bytes place 0 in
    let once : doubled b ≡ b ∷ [] = ap (λ t. if t then codes "\"\"" else b ∷ []) (ne_eqb b 34 plain) in
    ap (λ bs. before ++ bs) (piece_grows bytes from place within inside)
    ∙ sym (append_assoc before (slice_range bytes from place) (b ∷ []))
    ∙ ap (λ bs. (before ++ slice_range bytes from place) ++ bs) (sym once)
    ∙ more_to_stand old before bytes from place inside stands

pub quote_byte : (old before one two bytes : List ℕ) (from place : ℕ) → from ≤ place → place < length bytes → get_or bytes place 0 ≡ 34 → before ++ slice_range bytes from place ≡ old ++ flat_map doubled (take place bytes) → one ≡ before ++ slice_range bytes from (place + 1) → two ≡ one ++ 34 ∷ [] → two ++ slice_range bytes (place + 1) (place + 1) ≡ old ++ flat_map doubled (take (place + 1) bytes)
quote_byte old before one two bytes from place within inside quote stands first second =
    let b = get_or bytes place 0 in
    let piece = slice_range bytes from place in
    let nothing : place + 1 - (place + 1) ≡ 0 = omega arith in
    let twice : doubled b ≡ 34 ∷ 34 ∷ [] = ap doubled quote in
    ap (λ n. two ++ take n (drop (place + 1) bytes)) nothing
    ∙ append-nil two
    ∙ second
    ∙ ap (λ t. t ++ 34 ∷ []) (first ∙ ap (λ bs. before ++ bs) (piece_grows bytes from place within inside ∙ ap (λ n. piece ++ n ∷ []) quote))
    ∙ append_assoc before (piece ++ 34 ∷ []) (34 ∷ [])
    ∙ ap (λ bs. before ++ bs) (append_assoc piece (34 ∷ []) (34 ∷ []))
    ∙ sym (append_assoc before piece (34 ∷ 34 ∷ []))
    ∙ ap (λ bs. (before ++ piece) ++ bs) (sym twice)
    ∙ more_to_stand old before bytes from place inside stands
