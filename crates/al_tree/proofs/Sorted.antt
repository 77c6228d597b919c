-- Numbers put into a list in order, and taken out of it.
use Rattle.std.proofs.Common.{◌≡◌, ℕ, ◌+◌, ◌<◌, Bool, true, false, cond, not, ◌||◌, ◌&&◌, List, [], ◌∷◌, refl, sym, ◌∙◌, ap, subst, arith, nat_lt, zero, suc, Option, Some, None, position}
use Rattle.std.specs.Prelude.{◌==◌}
use Rattle.std.specs.List.{insert, position_or_len, remove}
use Rattle.std.proofs.lemmas.Grind.{common_steps}
use Rattle.std.proofs.lemmas.Bool.{ltb-true, ltb-false, eqb-true, eqb-false, ne_eqb}
use Rattle.al_tree.specs.Ascending.{AllAbove, Ascends, is_among, put, without}
use Rattle.al_tree.proofs.Places.{IsAt, is_at, none_passes}

insert-put_by : (x : ℕ) (xs : List ℕ) (number n : ℕ) (b : Bool) → insert xs n number ≡ put number xs
    → insert (x ∷ xs) (cond (not b) (1 + n) 0) number ≡ cond b (number ∷ x ∷ xs) (x ∷ put number xs)
insert-put_by x xs number n true e = refl
insert-put_by x xs number n false e = grind (arith, common_steps, e)

pub insert-put : (number : ℕ) (xs : List ℕ) → insert xs (position_or_len (λ other. nat_lt number other) xs) number ≡ put number xs
insert-put number [] = refl
insert-put number (x ∷ xs) = insert-put_by x xs number _ (nat_lt number x) (insert-put number xs)

-- who is among them

among-put_by : (b here x rest : Bool) → cond b (x || (here || rest)) (here || (rest || x)) ≡ ((here || rest) || x)
among-put_by true true true true = refl
among-put_by true true true false = refl
among-put_by true true false true = refl
among-put_by true true false false = refl
among-put_by true false true true = refl
among-put_by true false true false = refl
among-put_by true false false true = refl
among-put_by true false false false = refl
among-put_by false true x rest = refl
among-put_by false false x rest = refl

split : (c x n : ℕ) (b : Bool) (xs ys : List ℕ) → is_among c (cond b (n ∷ x ∷ xs) (x ∷ ys)) ≡ cond b ((n == c) || ((x == c) || is_among c xs)) ((x == c) || is_among c ys)
split c x n true xs ys = refl
split c x n false xs ys = refl

pub among-put : (c n : ℕ) (xs : List ℕ) → is_among c (put n xs) ≡ (is_among c xs || (n == c))
among-put c n [] = by (n == c) where
  by : (b : Bool) → (b || false) ≡ (false || b)
  by true = refl
  by false = refl
among-put c n (x ∷ xs) = split c x n (nat_lt n x) xs (put n xs) ∙ rw (among-put c n xs) (among-put_by (nat_lt n x) (x == c) (n == c) (is_among c xs))

and-true : (b : Bool) → (b && true) ≡ b
and-true true = refl
and-true false = refl

and-false : (b : Bool) → (b && false) ≡ false
and-false true = refl
and-false false = refl

without_by : (c n x : ℕ) (xs : List ℕ) (b : Bool) → (x == n) ≡ b → is_among c (without n xs) ≡ (is_among c xs && not (n == c))
    → is_among c (cond (not b) (x ∷ without n xs) (without n xs)) ≡ (((x == c) || is_among c xs) && not (n == c))
without_by c n x xs true e more = rw (eqb-true x n e) (by (n == c) (is_among c xs) more) where
  by : (b rest : Bool) → is_among c (without n xs) ≡ (rest && not b) → is_among c (without n xs) ≡ ((b || rest) && not b)
  by true true m = m
  by true false m = m
  by false true m = m
  by false false m = m
without_by c n x xs false e more = by (x == c) refl (n == c) refl (is_among c xs) more where
  by : (b : Bool) → (x == c) ≡ b → (d : Bool) → (n == c) ≡ d → (rest : Bool) → is_among c (without n xs) ≡ (rest && not d) → (b || is_among c (without n xs)) ≡ ((b || rest) && not d)
  by true p true q rest m = let l = eqb-true x c p in let r = eqb-true n c q in absurd (eqb-false x n e (l ∙ sym r))
  by true p false q rest m = refl
  by false p d q rest m = m

pub among-without : (c n : ℕ) (xs : List ℕ) → is_among c (without n xs) ≡ (is_among c xs && not (n == c))
among-without c n [] = refl
among-without c n (x ∷ xs) = without_by c n x xs (x == n) refl (among-without c n xs)

-- they still ascend

above-put : (least n : ℕ) (xs : List ℕ) → least < n → AllAbove least xs → AllAbove least (put n xs)
above-put least n [] h all = (h, tt)
above-put least n (x ∷ xs) h all = by (nat_lt n x) (above-put least n xs h all.1) where
  by : (b : Bool) → AllAbove least (put n xs) → AllAbove least (cond b (n ∷ x ∷ xs) (x ∷ put n xs))
  by true more = (h, all)
  by false more = (all.0, more)

above-lower : (low high : ℕ) (xs : List ℕ) → low < high → AllAbove high xs → AllAbove low xs
above-lower low high [] h all = tt
above-lower low high (x ∷ xs) h all = (omega (arith, all.0), above-lower low high xs h all.1)

pub put-ascends : (n : ℕ) (xs : List ℕ) → is_among n xs ≡ false → Ascends xs → Ascends (put n xs)
put-ascends n [] out all = (tt, tt)
put-ascends n (x ∷ xs) out all = by (nat_lt n x) refl (x == n) refl out (λ o. put-ascends n xs o all.1) where
  by : (b : Bool) → nat_lt n x ≡ b → (same : Bool) → (x == n) ≡ same → (same || is_among n xs) ≡ false
      → (is_among n xs ≡ false → Ascends (put n xs)) → Ascends (cond b (n ∷ x ∷ xs) (x ∷ put n xs))
  by b e true s o more = absurd (cc)
  by true e false s o more = let h = ltb-true n x e in ((h, above-lower n x xs h all.0), all)
  by false e false s o more =
      let apart : x ≡ n → ⊥ = eqb-false x n s in
      let least = ltb-false n x e in
      let h : x < n = omega arith in
      (above-put x n xs h all.0, more o)

above-without : (least n : ℕ) (xs : List ℕ) → AllAbove least xs → AllAbove least (without n xs)
above-without least n [] all = tt
above-without least n (x ∷ xs) all = by (x == n) (above-without least n xs all.1) where
  by : (b : Bool) → AllAbove least (without n xs) → AllAbove least (cond (not b) (x ∷ without n xs) (without n xs))
  by true more = more
  by false more = (all.0, more)

pub without-ascends : (n : ℕ) (xs : List ℕ) → Ascends xs → Ascends (without n xs)
without-ascends n [] all = tt
without-ascends n (x ∷ xs) all = by (x == n) (without-ascends n xs all.1) where
  by : (b : Bool) → Ascends (without n xs) → Ascends (cond (not b) (x ∷ without n xs) (without n xs))
  by true more = more
  by false more = (above-without x n xs all.0, more)

-- what is above isn't among
pub above-out : (n : ℕ) (xs : List ℕ) → AllAbove n xs → is_among n xs ≡ false
above-out n [] all = refl
above-out n (x ∷ xs) all = rw (ne_eqb x n (λ e. absurd (omega (arith, all.0)))) (above-out n xs all.1)

-- one is taken out

without-out : (n : ℕ) (xs : List ℕ) → is_among n xs ≡ false → without n xs ≡ xs
without-out n [] out = refl
without-out n (x ∷ xs) out = by (x == n) out (without-out n xs) where
  by : (b : Bool) → (b || is_among n xs) ≡ false → (is_among n xs ≡ false → without n xs ≡ xs) → cond (not b) (x ∷ without n xs) (without n xs) ≡ x ∷ xs
  by true o more = absurd (cc)
  by false o more = ap (λ ys. x ∷ ys) (more o)

remove-at : (n : ℕ) (xs : List ℕ) (at : ℕ) → Ascends xs → IsAt (λ (x : ℕ). x == n) xs at → remove xs at ≡ without n xs
remove-at n [] at all h = absurd h
remove-at n (x ∷ xs) zero all h = rw h (sym (without-out n xs (above-out n xs (subst (λ (m : ℕ). AllAbove m xs) (eqb-true x n h) all.0))))
remove-at n (x ∷ xs) (suc at) all h = rw h.0 (ap (λ ys. x ∷ ys) (remove-at n xs at all.1 h.1))

pub removed : (n : ℕ) (xs slice : List ℕ) (found : Option ℕ) (at : ℕ) → slice ≡ xs → found ≡ position (λ (x : ℕ). x == n) slice → found ≡ Some at → Ascends xs → remove xs at ≡ without n xs
removed n xs slice found at same e f all =
    remove-at n xs at all (is_at (λ (x : ℕ). x == n) xs at (ap (position (λ (x : ℕ). x == n)) (sym same) ∙ sym e ∙ f))

pub none-removed : (n : ℕ) (xs slice : List ℕ) (found : Option ℕ) → slice ≡ xs → found ≡ position (λ (x : ℕ). x == n) slice → found ≡ None → xs ≡ without n xs
none-removed n xs slice found same e f =
    sym (without-out n xs (none_passes (λ (x : ℕ). x == n) xs (ap (position (λ (x : ℕ). x == n)) (sym same) ∙ sym e ∙ f)))
