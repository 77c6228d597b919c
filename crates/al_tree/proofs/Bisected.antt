-- Where a number stands among numbers that ascend.
use Rattle.std.proofs.Common.{◌≡◌, ℕ, ◌-◌, ◌<◌, ◌≤◌, Bool, true, false, cond, List, [], ◌∷◌, length, refl, sym, ◌∙◌, ap, subst, arith, zero, suc, get_or, nat_lt, leb, ltb, Some, None, position, ◌⊎◌, ⊎_elim}
use Rattle.std.specs.Prelude.{◌==◌}
use Rattle.std.specs.List.{position_or_len}
use Rattle.std.specs.List.Sorted.{IsPartitionPoint, IsNonDecreasingBy}
use Rattle.std.proofs.lemmas.Bool.{eqb-true, eqb-false, ltb-true, ltb-false, leb-true, leb-false, ne_eqb, eq-eqb, lt-ltb, le-ltb, cases_eq, cases_lt}
use Rattle.std.proofs.lemmas.List.Sums.{position_or_len_is, passes_at_first, fails_before_first}
use Rattle.al_tree.specs.declared.line.Line.{Line}
use Rattle.al_tree.specs.Ascending.{AllAbove, Ascends, is_among}
use Rattle.al_tree.specs.Lines.{tables_of}
use Rattle.al_tree.proofs.Places.{is_at, none_passes, one_passes}

-- each number is less than each later one
abbrev pub IsRising : {X : Type 0} → (X → ℕ) → List X → Type 0
IsRising {X} n xs = (i j : ℕ) (d : X) → i < j → j < length xs → n (get_or xs i d) < n (get_or xs j d)

above-at : (least : ℕ) (xs : List ℕ) (j d : ℕ) → AllAbove least xs → j < length xs → least < get_or xs j d
above-at least [] j d all h = absurd (omega arith)
above-at least (x ∷ xs) zero d all h = all.0
above-at least (x ∷ xs) (suc j) d all h = above-at least xs j d all.1 (omega arith)

pub numbers-rise : (xs : List ℕ) → Ascends xs → IsRising (λ (x : ℕ). x) xs
numbers-rise [] all i j d h w = absurd (omega arith)
numbers-rise (x ∷ xs) all i zero d h w = absurd (omega arith)
numbers-rise (x ∷ xs) all zero (suc j) d h w = above-at x xs j d all.0 (omega arith)
numbers-rise (x ∷ xs) all (suc i) (suc j) d h w = numbers-rise xs all.1 i j d (omega arith) (omega arith)

line-above : (least : ℕ) (lines : List Line) (j : ℕ) (d : Line) → AllAbove least (tables_of lines) → j < length lines → least < (get_or lines j d).table
line-above least [] j d all h = absurd (omega arith)
line-above least (line ∷ lines) zero d all h = all.0
line-above least (line ∷ lines) (suc j) d all h = line-above least lines j d all.1 (omega arith)

pub lines-rise : (lines : List Line) → Ascends (tables_of lines) → IsRising (λ (line : Line). line.table) lines
lines-rise [] all i j d h w = absurd (omega arith)
lines-rise (line ∷ lines) all i zero d h w = absurd (omega arith)
lines-rise (line ∷ lines) all zero (suc j) d h w = line-above line.table lines j d all.0 (omega arith)
lines-rise (line ∷ lines) all (suc i) (suc j) d h w = lines-rise lines all.1 i j d (omega arith) (omega arith)

pub rising-stays : {X : Type 0} (n : X → ℕ) (xs : List X) → IsRising n xs → IsNonDecreasingBy n xs
rising-stays {X} n xs rises i j d h w = by_place (cases_eq i j) where
  by_place : (i ≡ j) ⊎ (i ≡ j → ⊥) → n (get_or xs i d) ≤ n (get_or xs j d)
  by_place p = ⊎_elim (λ same. subst (λ (k : ℕ). n (get_or xs i d) ≤ n (get_or xs k d)) same (omega arith)) (λ differ. let lt = rises i j d (omega arith) w in omega arith) p

-- what bisection gives is the first that is above
pub parted : {X : Type 0} (n : X → ℕ) (xs : List X) (i t : ℕ) (d : X) → i ≤ length xs → IsPartitionPoint (λ (y : X). leb (n y) t ≡ true) (λ (y : X). leb (n y) t ≡ false) xs i
    → i ≡ position_or_len (λ (y : X). nat_lt t (n y)) xs
parted n xs i t d h point = sym (position_or_len_is (λ y. nat_lt t (n y)) xs i d h
    (λ k below. le-ltb t (n (get_or xs k d)) (leb-true (n (get_or xs k d)) t (point.0 k d (omega arith) below)))
    (λ within. lt-ltb t (n (get_or xs i d)) (leb-false (n (get_or xs i d)) t (point.1 i d (omega arith) within))))

-- a number that stands at a place is found there
pub found-at : {X : Type 0} (n : X → ℕ) (xs : List X) (t i : ℕ) (d : X) → IsRising n xs → i < length xs → n (get_or xs i d) ≡ t → position (λ (y : X). n y == t) xs ≡ Some i
found-at n xs t i d rises h e =
    let first : position_or_len (λ y. n y == t) xs ≡ i =
    position_or_len_is (λ y. n y == t) xs i d (omega arith)
    (λ k below. ne_eqb (n (get_or xs k d)) t (λ same. let lt = rises k i d below h in absurd (omega arith)))
    (λ within. eq-eqb (n (get_or xs i d)) t e) in
    ap (λ (k : ℕ). cond (ltb k (length xs)) (Some k) None) first ∙ ap (λ (b : Bool). cond b (Some i) None) (lt-ltb i (length xs) h)

-- and where none stands before the first that is above, none does

is-above : {X : Type 0} (n : X → ℕ) (xs : List X) (t above k : ℕ) (d : X) → IsRising n xs → above ≡ position_or_len (λ (y : X). nat_lt t (n y)) xs → above ≤ k → k < length xs → t < n (get_or xs k d)
is-above n xs t above k d rises e g w =
    let there : nat_lt t (n (get_or xs above d)) ≡ true =
    subst (λ (i : ℕ). nat_lt t (n (get_or xs i d)) ≡ true) (sym e) (passes_at_first (λ y. nat_lt t (n y)) xs d (subst (λ (i : ℕ). i < length xs) e (omega arith))) in
    let least : t < n (get_or xs above d) = ltb-true t (n (get_or xs above d)) there in
    let on : n (get_or xs above d) ≤ n (get_or xs k d) = rising-stays n xs rises above k d g w in omega arith

below-apart : {X : Type 0} (n : X → ℕ) (xs : List X) (t above k : ℕ) (d : X) → IsRising n xs → above ≤ length xs → above ≡ position_or_len (λ (y : X). nat_lt t (n y)) xs
    → (0 < above → n (get_or xs (above - 1) d) ≡ t → ⊥) → k < above → n (get_or xs k d) ≡ t → ⊥
below-apart n xs t above k d rises h e none below same =
    ⊎_elim (λ last. none (omega arith) (subst (λ (i : ℕ). n (get_or xs i d) ≡ t) last same))
    (λ differ.
    let lt : n (get_or xs k d) < n (get_or xs (above - 1) d) = rises k (above - 1) d (omega arith) (omega arith) in
    let fails : nat_lt t (n (get_or xs (above - 1) d)) ≡ false = fails_before_first (λ y. nat_lt t (n y)) xs (above - 1) d (subst (λ (i : ℕ). above - 1 < i) e (omega arith)) in
    let least = ltb-false t (n (get_or xs (above - 1) d)) fails in absurd (omega arith))
    (cases_eq k (above - 1))

pub found-none : {X : Type 0} (n : X → ℕ) (xs : List X) (t above : ℕ) (d : X) → IsRising n xs → above ≤ length xs → above ≡ position_or_len (λ (y : X). nat_lt t (n y)) xs
    → (0 < above → n (get_or xs (above - 1) d) ≡ t → ⊥) → position (λ (y : X). n y == t) xs ≡ None
found-none n xs t above d rises h e none =
    let all : position_or_len (λ y. n y == t) xs ≡ length xs =
    position_or_len_is (λ y. n y == t) xs (length xs) d (omega arith)
    (λ k w. ne_eqb (n (get_or xs k d)) t (λ same. ⊎_elim (λ below. below-apart n xs t above k d rises h e none below same)
    (λ behind. let lt = is-above n xs t above k d rises e behind w in absurd (omega arith)) (cases_lt k above)))
    (λ w. absurd (omega arith)) in
    ap (λ (k : ℕ). cond (ltb k (length xs)) (Some k) None) all ∙ ap (λ (b : Bool). cond b (Some (length xs)) None) (le-ltb (length xs) (length xs) (omega arith))

-- ---- who is among numbers that ascend

pub among-none : (t : ℕ) (ns : List ℕ) (above : ℕ) → Ascends ns → above ≤ length ns → above ≡ position_or_len (λ (n : ℕ). nat_lt t n) ns → above ≡ 0 → is_among t ns ≡ false
among-none t ns above up h e zero_above =
    none_passes (λ (n : ℕ). n == t) ns (found-none (λ (n : ℕ). n) ns t above 0 (numbers-rise ns up) h e (λ some same. absurd (omega arith)))

pub among-at : (t : ℕ) (ns : List ℕ) (above : ℕ) → Ascends ns → above ≤ length ns → above ≡ position_or_len (λ (n : ℕ). nat_lt t n) ns → 0 < above → (get_or ns (above - 1) 0 == t) ≡ is_among t ns
among-at t ns above up h e some = by (get_or ns (above - 1) 0 == t) refl where
  by : (b : Bool) → (get_or ns (above - 1) 0 == t) ≡ b → b ≡ is_among t ns
  by true same =
      sym (one_passes (λ (n : ℕ). n == t) ns (above - 1) (is_at (λ (n : ℕ). n == t) ns (above - 1)
      (found-at (λ (n : ℕ). n) ns t (above - 1) 0 (numbers-rise ns up) (omega arith) (eqb-true (get_or ns (above - 1) 0) t same))))
  by false differ =
      sym (none_passes (λ (n : ℕ). n == t) ns (found-none (λ (n : ℕ). n) ns t above 0 (numbers-rise ns up) h e (λ some same. eqb-false (get_or ns (above - 1) 0) t differ same)))
