-- The least session in the way of a request is found.
use Rattle.std.proofs.Common.{◌≡◌, ℕ, ◌<◌, ◌≤◌, ◌↔◌, IfSome, not, min, Bool, true, false, cond, ◌||◌, ◌&&◌, eqb, List, [], ◌∷◌, ◌++◌, refl, sym, ◌∙◌, ap, subst, arith, eq-eqb, ◌⊎◌, inl, inr, ⊎_elim, fold, Option, Some, None, append-nil, append_assoc}
use Rattle.std.specs.List.{list_any}
use Rattle.std.specs.Option.{option_map_or}
use Rattle.std.proofs.lemmas.Bool.{eqb-true, and_parts, or_left, or_right, or_cases, both_ways, cases_lt, not-true}
use Rattle.std.proofs.lemmas.List.Folds.{list_any-append}
use Rattle.al_queue.specs.declared.grant.Grant.{Grant}
use Rattle.al_queue.specs.InWay.{is_in_way}
use Rattle.al_queue.specs.Waits.{is_in_way_of, makes_wait, IsLeast}
use Rattle.al_queue.specs.Least.{lesser}

-- what was found in a list: nobody is in the way, or it is the least session that is
abbrev pub Found : (ℕ → Bool) → Bool → Option ℕ → Type 0
Found of any None = any ≡ false
Found of any (Some s) = (of s ≡ true) × ((t : ℕ) → of t ≡ true → s ≤ t)

at-self : (n : ℕ) → (eqb n n && true) ≡ true
at-self n = rw (eq-eqb n n refl) refl

at-that : (n t : ℕ) (b : Bool) → (eqb n t && b) ≡ true → n ≡ t
at-that n t b e = eqb-true n t (and_parts (eqb n t) b e).0

least_by : (of : ℕ → Bool) (n s m : ℕ) → of s ≡ true → ((m ≡ n) ⊎ (m ≡ s)) → (of m || (eqb n m && true)) ≡ true
least_by of n s m e (inl p) = or_right (of m) _ (subst (λ (k : ℕ). (eqb n k && true) ≡ true) (sym p) (at-self n))
least_by of n s m e (inr p) = or_left (of m) _ (subst (λ (k : ℕ). of k ≡ true) (sym p) e)

min_either : (n s : ℕ) → (min n s ≡ n) ⊎ (min n s ≡ s)
min_either n s = ⊎_elim (λ (h : n < s). inl (omega arith)) (λ (h : s ≤ n). inr (omega arith)) (cases_lt n s)

either : (P : Type 0) (a b : Bool) → (a ≡ true → P) → (b ≡ true → P) → (a || b) ≡ true → P
either P a b left right e = ⊎_elim left right (or_cases a b e)

step_by : (of : ℕ → Bool) (any : Bool) → ((t : ℕ) → of t ≡ true → any ≡ true) → (n : ℕ) (b : Bool) (found : Option ℕ) → Found of any found
    → Found (λ t. of t || (eqb n t && b)) (any || b) (cond b (Some (option_map_or (λ s. min n s) found n)) found)
step_by of any some n true None h =
    (or_right (of n) _ (at-self n), λ t. either (n ≤ t) (of t) _ (λ e. absurd (both_ways any h (some t e))) (λ e. omega (arith, at-that n t true e)))
step_by of any some n true (Some s) h =
    (least_by of n s (min n s) h.0 (min_either n s), λ t. either (min n s ≤ t) (of t) _ (λ e. omega (arith, h.1 t e)) (λ e. omega (arith, at-that n t true e)))
step_by of any some n false None h = rw h refl
step_by of any some n false (Some s) h =
    (or_left (of s) _ h.0, λ t. either (s ≤ t) (of t) _ (λ e. h.1 t e) (λ e. absurd (both_ways false refl (and_parts (eqb n t) false e).1)))

-- each session that is in the way is one of those that are
of-any : (r : Grant) (xs : List Grant) (t : ℕ) → list_any (is_in_way_of t r) xs ≡ true → list_any (is_in_way r) xs ≡ true
of-any r [] t e = e
of-any r (x ∷ xs) t e =
    either (list_any (is_in_way r) (x ∷ xs) ≡ true) (is_in_way_of t r x) (list_any (is_in_way_of t r) xs)
    (λ h. or_left (is_in_way r x) _ (and_parts (eqb x.session t) (is_in_way r x) h).1) (λ h. or_right (is_in_way r x) _ (of-any r xs t h)) e

-- what was found among the locks of a list
abbrev pub FoundAmong : Grant → List Grant → Option ℕ → Type 0
FoundAmong r xs found = Found (λ t. list_any (is_in_way_of t r) xs) (list_any (is_in_way r) xs) found

or-false : (b : Bool) → (b || false) ≡ b
or-false true = refl
or-false false = refl

any-push : (test : Grant → Bool) (xs : List Grant) (x : Grant) → list_any test (xs ++ x ∷ []) ≡ (list_any test xs || test x)
any-push test xs x = list_any-append test xs (x ∷ []) ∙ ap (λ b. list_any test xs || b) (or-false (test x))

-- the same said of equal tests
found-same : (of more : ℕ → Bool) (any all : Bool) → ((t : ℕ) → more t ≡ of t) → all ≡ any → (found : Option ℕ) → Found of any found → Found more all found
found-same of more any all e f None h = f ∙ h
found-same of more any all e f (Some s) h = (e s ∙ h.0, λ t p. h.1 t (sym (e t) ∙ p))

found-push : (r : Grant) (xs : List Grant) (x : Grant) (found : Option ℕ) → FoundAmong r xs found → FoundAmong r (xs ++ x ∷ []) (lesser r found x)
found-push r xs x found h =
    found-same _ _ _ _ (λ t. any-push (is_in_way_of t r) xs x) (any-push (is_in_way r) xs x) (lesser r found x)
    (step_by (λ t. list_any (is_in_way_of t r) xs) (list_any (is_in_way r) xs) (of-any r xs) x.session (is_in_way r x) found h)

found-fold : (r : Grant) (xs ys : List Grant) (found : Option ℕ) → FoundAmong r xs found → FoundAmong r (xs ++ ys) (fold (lesser r) found ys)
found-fold r xs [] found h = rw append-nil h
found-fold r xs (y ∷ ys) found h =
    subst (λ (zs : List Grant). FoundAmong r zs (fold (lesser r) (lesser r found y) ys)) (append_assoc xs (y ∷ []) ys)
    (found-fold r (xs ++ y ∷ []) ys (lesser r found y) (found-push r xs y found h))

-- what is found in two lists, one after the other
pub found-both : (r : Grant) (held ahead : List Grant)
    → Found (λ t. list_any (is_in_way_of t r) held || list_any (is_in_way_of t r) ahead) (list_any (is_in_way r) held || list_any (is_in_way r) ahead) (fold (lesser r) (fold (lesser r) None held) ahead)
found-both r held ahead =
    found-same _ _ _ _ (λ t. sym (list_any-append (is_in_way_of t r) held ahead)) (sym (list_any-append (is_in_way r) held ahead)) _
    (found-fold r held ahead (fold (lesser r) None held) (found-fold r [] held None refl))

none_by : (of : ℕ → Bool) (any : Bool) → ((t : ℕ) → of t ≡ true → any ≡ true) → (found : Option ℕ) → Found of any found → (found ≡ None) ↔ (not any ≡ true)
none_by of any some None h = (λ _. rw h refl, λ _. refl)
none_by of any some (Some s) h = (λ e. absurd (cc), λ e. absurd (both_ways any (not-true any e) (some s h.0)))

least_found : (of : ℕ → Bool) (any : Bool) (found : Option ℕ) → Found of any found → IfSome found (IsLeast of)
least_found of any None h = tt
least_found of any (Some s) h = h

any-both : (r : Grant) (held ahead : List Grant) (t : ℕ) → makes_wait held ahead r t ≡ true → (list_any (is_in_way r) held || list_any (is_in_way r) ahead) ≡ true
any-both r held ahead t =
    either _ (list_any (is_in_way_of t r) held) (list_any (is_in_way_of t r) ahead)
    (λ h. or_left (list_any (is_in_way r) held) _ (of-any r held t h)) (λ h. or_right (list_any (is_in_way r) held) _ (of-any r ahead t h))

-- none is found exactly where the request isn't held up, and else the least session that makes it wait
pub found-none : (r : Grant) (held ahead : List Grant) (found : Option ℕ) → found ≡ fold (lesser r) (fold (lesser r) None held) ahead
    → (found ≡ None) ↔ (not (list_any (is_in_way r) held || list_any (is_in_way r) ahead) ≡ true)
found-none r held ahead found e = rw e (none_by (makes_wait held ahead r) _ (any-both r held ahead) _ (found-both r held ahead))

pub found-least : (r : Grant) (held ahead : List Grant) (found : Option ℕ) → found ≡ fold (lesser r) (fold (lesser r) None held) ahead
    → IfSome found (IsLeast (makes_wait held ahead r))
found-least r held ahead found e = rw e (least_found (makes_wait held ahead r) _ _ (found-both r held ahead))
