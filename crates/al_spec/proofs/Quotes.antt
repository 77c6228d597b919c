-- Names in double quotes.
use Rattle.std.proofs.Common.{◌≡◌, ℕ, ◌+◌, ◌-◌, zero, suc, ◌<◌, ◌≤◌, List, [], ◌∷◌, ◌++◌, length, refl, sym, ap, ◌∙◌, arith, subst}
use Rattle.std.specs.Prelude.{slice_range}
use Rattle.std.proofs.lemmas.List.{get_or_past}
use Rattle.al_spec.specs.Bytes.{at, Quoted, closes, doubled, other}
use Rattle.al_spec.proofs.Slices.{slice_first, slice_none}

pub inside_if : (text : List ℕ) (i b : ℕ) → 0 < b → at text i ≡ b → i < length text
inside_if text i b pos is =
    let out : length text ≤ i → ⊥ = λ (past : length text ≤ i). let e : at text i ≡ 0 = get_or_past text i 0 past in omega (arith, is, e) in
    omega arith

-- a name has one end and one spelling
pub one_name : (text : List ℕ) (m n i : ℕ) (a b : List ℕ) → Quoted text m i a → Quoted text n i b → (m ≡ n) × (a ≡ b)
one_name text m n _ _ _ (closes i a b c) (closes _ d e f) = (c ∙ sym f, refl)
one_name text m n _ _ _ (closes i a b c) (doubled _ x d e f) = absurd (b e)
one_name text m n _ _ _ (closes i a b c) (other _ x d e g f) = absurd (e a)
one_name text m n _ _ _ (doubled i x a b c) (closes _ d e f) = absurd (e b)
one_name text m n _ _ _ (doubled i x a b c) (doubled _ y d e f) = let r = one_name text m n (i + 2) x y c f in (r.0, ap (λ (z : List ℕ). 34 ∷ z) r.1)
one_name text m n _ _ _ (doubled i x a b c) (other _ y d e g f) = absurd (e a)
one_name text m n _ _ _ (other i x a b h c) (closes _ d e f) = absurd (b d)
one_name text m n _ _ _ (other i x a b h c) (doubled _ y d e f) = absurd (b d)
one_name text m n _ _ _ (other i x a b h c) (other _ y d e g f) = let r = one_name text m n (i + 1) x y c f in (r.0, ap (λ (z : List ℕ). at text i ∷ z) r.1)

-- what stands before the next quote is of the name
on_by : (text : List ℕ) (end d i m : ℕ) (n : List ℕ) → i + d ≡ m → m ≤ length text → ((k : ℕ) → i ≤ k → k < m → at text k ≡ 34 → ⊥) → ((k : ℕ) → i ≤ k → k < m → at text k ≡ 10 → ⊥)
    → Quoted text end m n → Quoted text end i (slice_range text i m ++ n)
on_by text end zero i m n e le quote feed h =
    let same : m ≡ i = omega arith in
    let nothing : slice_range text i m ≡ [] = ap (λ (j : ℕ). slice_range text i j) same ∙ slice_none text i in
    rw nothing (subst (λ (j : ℕ). Quoted text end j n) same h)
on_by text end (suc d) i m n e le quote feed h =
    let first : slice_range text i m ≡ at text i ∷ slice_range text (i + 1) m = slice_first text i m (omega arith) (omega arith) in
    subst (λ (x : List ℕ). Quoted text end i (x ++ n)) (sym first)
    (other i (slice_range text (i + 1) m ++ n) (omega arith) (quote i (omega arith) (omega arith)) (feed i (omega arith) (omega arith))
    (on_by text end d (i + 1) m n (omega arith) le (λ k a b. quote k (omega arith) b) (λ k a b. feed k (omega arith) b) h))

pub on_piece : (text : List ℕ) (end i m : ℕ) (n : List ℕ) → i ≤ m → m ≤ length text → ((k : ℕ) → i ≤ k → k < m → at text k ≡ 34 → ⊥) → ((k : ℕ) → i ≤ k → k < m → at text k ≡ 10 → ⊥)
    → Quoted text end m n → Quoted text end i (slice_range text i m ++ n)
on_piece text end i m n a le quote feed h = on_by text end (m - i) i m n (omega arith) le quote feed h

over_other : (text : List ℕ) (end i : ℕ) (n : List ℕ) → (at text i ≡ 34 → ⊥) → Quoted text end i n → (rest : List ℕ) × Quoted text end (i + 1) rest
over_other text end _ _ ne (closes i a b c) = absurd (ne a)
over_other text end _ _ ne (doubled i n a b c) = absurd (ne a)
over_other text end _ _ ne (other i n a b d c) = (n, c)

pub over_doubled : (text : List ℕ) (end i : ℕ) (n : List ℕ) → at text i ≡ 34 → at text (i + 1) ≡ 34 → Quoted text end i n → (rest : List ℕ) × Quoted text end (i + 2) rest
over_doubled text end _ _ is again (closes i a b c) = absurd (b again)
over_doubled text end _ _ is again (doubled i n a b c) = (n, c)
over_doubled text end _ _ is again (other i n a b d c) = absurd (b is)

off_by : (text : List ℕ) (end d i m : ℕ) (n : List ℕ) → i + d ≡ m → ((k : ℕ) → i ≤ k → k < m → at text k ≡ 34 → ⊥) → Quoted text end i n → (rest : List ℕ) × Quoted text end m rest
off_by text end zero i m n e quote h = let same : i ≡ m = omega arith in (n, subst (λ (j : ℕ). Quoted text end j n) same h)
off_by text end (suc d) i m n e quote h =
    let next = over_other text end i n (quote i (omega arith) (omega arith)) h in
    off_by text end d (i + 1) m next.0 (omega arith) (λ k a b. quote k (omega arith) b) next.1

pub off_piece : (text : List ℕ) (end i m : ℕ) (n : List ℕ) → i ≤ m → ((k : ℕ) → i ≤ k → k < m → at text k ≡ 34 → ⊥) → Quoted text end i n → (rest : List ℕ) × Quoted text end m rest
off_piece text end i m n le quote h = off_by text end (m - i) i m n (omega arith) quote h

at_end : (text : List ℕ) (end i : ℕ) (n : List ℕ) → length text ≤ i → Quoted text end i n → ⊥
at_end text end _ _ past (closes i a b c) = let e : at text i ≡ 0 = get_or_past text i 0 past in omega (arith, a, e)
at_end text end _ _ past (doubled i n a b c) = let e : at text i ≡ 0 = get_or_past text i 0 past in omega (arith, a, e)
at_end text end _ _ past (other i n a b d c) = omega (arith, a, past)

at_feed : (text : List ℕ) (end i : ℕ) (n : List ℕ) → at text i ≡ 10 → Quoted text end i n → ⊥
at_feed text end _ _ e (closes i a b c) = omega (arith, a, e)
at_feed text end _ _ e (doubled i n a b c) = omega (arith, a, e)
at_feed text end _ _ e (other i n a b d c) = d e

-- without a quote up to the end, or up to a line feed, nothing is closed
pub never : (text : List ℕ) (end i : ℕ) (n : List ℕ) → i ≤ length text → ((k : ℕ) → i ≤ k → k < length text → at text k ≡ 34 → ⊥) → Quoted text end i n → ⊥
never text end i n le quote h = let p = off_piece text end i (length text) n le quote h in at_end text end (length text) p.0 (omega arith) p.1

pub not_over : (text : List ℕ) (end i m : ℕ) (n : List ℕ) → i ≤ m → at text m ≡ 10 → ((k : ℕ) → i ≤ k → k < m → at text k ≡ 34 → ⊥) → Quoted text end i n → ⊥
not_over text end i m n le feed quote h = let p = off_piece text end i m n le quote h in at_feed text end m p.0 feed p.1

-- no line feed up to a quote, and none up to one that is doubled
pub no_feed_to : (text : List ℕ) (start place to : ℕ) → ((k : ℕ) → start < k → k < place → at text k ≡ 10 → ⊥) → ((k : ℕ) → place ≤ k → k < to → at text k ≡ 10 → ⊥) → (k : ℕ) → start < k → k < to → at text k ≡ 10 → ⊥
no_feed_to text start place to before after k a b e =
    let far : k < place → ⊥ = λ (l : k < place). before k a l e in
    after k (omega arith) b e

pub no_feed_over : (text : List ℕ) (start found : ℕ) → ((k : ℕ) → start < k → k < found → at text k ≡ 10 → ⊥) → at text found ≡ 34 → at text (found + 1) ≡ 34 → (k : ℕ) → start < k → k < found + 2 → at text k ≡ 10 → ⊥
no_feed_over text start found before one two k a b e =
    let far : k < found → ⊥ = λ (l : k < found). before k a l e in
    let first : k ≡ found → ⊥ = λ (s : k ≡ found). let x : at text k ≡ at text found = ap (λ (j : ℕ). at text j) s in omega (arith, x, one, e) in
    let second : k ≡ found + 1 → ⊥ = λ (s : k ≡ found + 1). let x : at text k ≡ at text (found + 1) = ap (λ (j : ℕ). at text j) s in omega (arith, x, two, e) in
    omega arith
