-- Places that were found in a list.
use Rattle.std.proofs.Common.{◌≡◌, ℕ, ◌+◌, ◌<◌, ◌≤◌, Bool, true, false, cond, not, List, [], ◌∷◌, length, filter, refl, ap, subst, ltb, arith, Some, None, position, zero, suc}
use Rattle.std.specs.List.{list_any, position_or_len, items_where_true}
use Rattle.std.specs.List.Retain.{IsFiltered, ReturnsInTurn}
use Rattle.std.proofs.lemmas.Bool.{ltb-true, ltb-false}
use Rattle.std.proofs.lemmas.List.Sums.{prefix_len-le-length}

-- an item passes, and none before it
abbrev pub IsAt : {X : Type 0} → (X → Bool) → List X → ℕ → Type 0
IsAt test [] at = ⊥
IsAt test (x ∷ xs) zero = test x ≡ true
IsAt test (x ∷ xs) (suc at) = (test x ≡ false) × IsAt test xs at

here_or_on : {X : Type 0} (test : X → Bool) (x : X) (xs : List X) (at n : ℕ) (b : Bool) → test x ≡ b → cond (not b) (1 + n) 0 ≡ at → at < length (x ∷ xs)
    → ((k : ℕ) → n ≡ k → k < length xs → IsAt test xs k) → IsAt test (x ∷ xs) at
here_or_on test x xs zero n true e f h on = e
here_or_on test x xs (suc at) n true e f h on = absurd (cc)
here_or_on test x xs zero n false e f h on = absurd (omega arith)
here_or_on test x xs (suc at) n false e f h on = (e, on at (omega arith) (omega arith))

at_place : {X : Type 0} (test : X → Bool) (xs : List X) (at : ℕ) → position_or_len test xs ≡ at → at < length xs → IsAt test xs at
at_place test [] at e h = absurd (omega arith)
at_place test (x ∷ xs) at e h = here_or_on test x xs at (position_or_len test xs) (test x) refl e h (at_place test xs)

found_by : (n m at : ℕ) (b : Bool) → ltb n m ≡ b → cond b (Some n) None ≡ Some at → (n ≡ at) × (n < m)
found_by n m at true e f = (cc, ltb-true n m e)
found_by n m at false e f = absurd (cc)

pub is_at : {X : Type 0} (test : X → Bool) (xs : List X) (at : ℕ) → position test xs ≡ Some at → IsAt test xs at
is_at test xs at e =
    let p = found_by (position_or_len test xs) (length xs) at _ refl e in
    at_place test xs at p.0 (subst (λ (k : ℕ). k < length xs) p.0 p.1)

pub at_within : {X : Type 0} (test : X → Bool) (xs : List X) (at : ℕ) → IsAt test xs at → at < length xs
at_within test [] at h = absurd h
at_within test (x ∷ xs) zero h = omega arith
at_within test (x ∷ xs) (suc at) h = let k = at_within test xs at h.1 in omega arith

none-at_length_by : (n m : ℕ) (b : Bool) → ltb n m ≡ b → n ≤ m → cond b (Some n) None ≡ None → n ≡ m
none-at_length_by n m true e p h = absurd (cc)
none-at_length_by n m false e p h = omega (arith, ltb-false n m e)

-- where nothing passes, the first place that passes is the length
pub none-at_length : {X : Type 0} (test : X → Bool) (xs : List X) → position test xs ≡ None → position_or_len test xs ≡ length xs
none-at_length test xs h = none-at_length_by (position_or_len test xs) (length xs) _ refl (prefix_len-le-length _ xs) h

none_or_on : (b rest : Bool) (n m : ℕ) → cond (not b) (1 + n) 0 ≡ 1 + m → (n ≡ m → rest ≡ false) → cond b true rest ≡ false
none_or_on true rest n m e on = absurd (omega arith)
none_or_on false rest n m e on = on (omega arith)

any_none : {X : Type 0} (test : X → Bool) (xs : List X) → position_or_len test xs ≡ length xs → list_any test xs ≡ false
any_none test [] e = refl
any_none test (x ∷ xs) e = grind (arith, none_or_on (test x) (list_any test xs) (position_or_len test xs) (length xs), any_none test xs)

-- where none was found, none passes
pub none_passes : {X : Type 0} (test : X → Bool) (xs : List X) → position test xs ≡ None → list_any test xs ≡ false
none_passes test xs h = any_none test xs (none-at_length test xs h)

-- where one was found, one passes
pub one_passes : {X : Type 0} (test : X → Bool) (xs : List X) (at : ℕ) → IsAt test xs at → list_any test xs ≡ true
one_passes test [] at h = absurd h
one_passes test (x ∷ xs) zero h = rw h refl
one_passes test (x ∷ xs) (suc at) h = rw h.0 (one_passes test xs at h.1)

-- what `retain` leaves
first_by : {X : Type 0} (x : X) (xs ys : List X) (bs : List Bool) (b t : Bool) → b ≡ t → items_where_true bs xs ≡ ys
    → items_where_true (b ∷ bs) (x ∷ xs) ≡ cond t (x ∷ ys) ys
first_by x xs ys bs true true e h = ap (λ zs. x ∷ zs) h
first_by x xs ys bs false false e h = h
first_by x xs ys bs true false e h = cc
first_by x xs ys bs false true e h = cc

turns-filter : {X P : Type 0} (R : P → X → Bool → P → Type 0) (test : X → Bool) (f : P)
    → ((x : X) (b : Bool) (g : P) → R f x b g → (b ≡ test x) × (g ≡ f))
    → (q : P) (bs : List Bool) (xs : List X) → length bs ≡ length xs → ReturnsInTurn R f bs xs q → items_where_true bs xs ≡ filter test xs
turns-filter R test f says q [] [] e h = refl
turns-filter R test f says q [] (x ∷ xs) e h = absurd (omega arith)
turns-filter R test f says q (b ∷ bs) [] e h = refl
turns-filter R test f says q (b ∷ bs) (x ∷ xs) e h =
    let said = says x b h.0 h.1 in
    let later = subst (λ g. ReturnsInTurn R g bs xs q) said.1 h.2 in
    first_by x xs (filter test xs) bs b (test x) said.0 (turns-filter R test f says q bs xs (omega arith) later)

-- where no call changes the closure, `retain` leaves what passes the test
pub filter-from_retain : {X P : Type 0} (R : P → X → Bool → P → Type 0) (test : X → Bool) (f : P)
    → ((x : X) (b : Bool) (g : P) → R f x b g → (b ≡ test x) × (g ≡ f))
    → (xs ys : List X) → IsFiltered R f xs ys → ys ≡ filter test xs
filter-from_retain R test f says xs ys h = rw h.4 (turns-filter R test f says h.1 h.0 xs h.2 h.3)
