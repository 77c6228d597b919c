-- Runs of bytes, and what is closed.
use Rattle.std.proofs.Common.{◌≡◌, ℕ, ◌+◌, ◌-◌, zero, suc, get_or, drop, take, take_all, ◌<◌, ◌≤◌, Bool, true, false, List, length, sym, ap, ◌∙◌, arith, subst}
use Rattle.std.specs.Prelude.{◌==◌, slice_index}
use Rattle.std.proofs.lemmas.List.{get_or_past, get_or-drop}
use Rattle.std.proofs.Math.ListN.{length-drop}
use Rattle.std.proofs.lemmas.Bool.{eqb-true, eq-eqb}
use Rattle.al_tokens.specs.declared.bytes.Class.{Class}
use Rattle.al_tokens.specs.Bytes.{at, is_of, Run, First, Closed, closes, doubled, other}

pub clash : (b : Bool) → b ≡ true → b ≡ false → ⊥
clash b t f = cc

-- two runs of a class from a place have one end
run_below : (class : Class) (text : List ℕ) (i m n : ℕ) → Run class text i m → Run class text i n → m < n → ⊥
run_below class text i m n r s lt = clash (is_of class (at text m)) (s.each m r.rises lt) (r.longest (omega (arith, s.within)))

pub one_run : (class : Class) (text : List ℕ) (i m n : ℕ) → Run class text i m → Run class text i n → m ≡ n
one_run class text i m n r s =
    let no : m < n → ⊥ = run_below class text i m n r s in
    let yes : n < m → ⊥ = run_below class text i n m s r in
    omega arith

-- a byte has one first place
first_below : (byte : ℕ) (text : List ℕ) (i m n : ℕ) → First byte text i m → First byte text i n → m < n → ⊥
first_below byte text i m n r s lt = s.before m r.rises lt (r.is (omega (arith, s.within)))

pub one_first : (byte : ℕ) (text : List ℕ) (i m n : ℕ) → First byte text i m → First byte text i n → m ≡ n
one_first byte text i m n r s =
    let no : m < n → ⊥ = first_below byte text i m n r s in
    let yes : n < m → ⊥ = first_below byte text i n m s r in
    omega arith

-- What is closed is closed at one end.
pub one_end : (q : ℕ) (text : List ℕ) (m n i : ℕ) → Closed q text m i → Closed q text n i → m ≡ n
one_end q text m n _ (closes i a b c) (closes _ d e f) = c ∙ sym f
one_end q text m n _ (closes i a b c) (doubled _ d e f) = absurd (b e)
one_end q text m n _ (closes i a b c) (other _ d e f) = absurd (e a)
one_end q text m n _ (doubled i a b c) (closes _ d e f) = absurd (e b)
one_end q text m n _ (doubled i a b c) (doubled _ d e f) = one_end q text m n (i + 2) c f
one_end q text m n _ (doubled i a b c) (other _ d e f) = absurd (e a)
one_end q text m n _ (other i a b c) (closes _ d e f) = absurd (b d)
one_end q text m n _ (other i a b c) (doubled _ d e f) = absurd (b d)
one_end q text m n _ (other i a b c) (other _ d e f) = one_end q text m n (i + 1) c f

-- at a place, the three cases
pub past_end : (q : ℕ) (text : List ℕ) (n i : ℕ) → 0 < q → length text ≤ i → Closed q text n i → ⊥
past_end q text n _ pos past (closes i a b c) = let e : at text i ≡ 0 = get_or_past text i 0 past in omega (arith, a, e)
past_end q text n _ pos past (doubled i a b c) = let e : at text i ≡ 0 = get_or_past text i 0 past in omega (arith, a, e)
past_end q text n _ pos past (other i a b c) = omega (arith, a, past)

pub over_other : (q : ℕ) (text : List ℕ) (n i : ℕ) → (at text i ≡ q → ⊥) → Closed q text n i → Closed q text n (i + 1)
over_other q text n _ ne (closes i a b c) = absurd (ne a)
over_other q text n _ ne (doubled i a b c) = absurd (ne a)
over_other q text n _ ne (other i a b c) = c

pub over_doubled : (q : ℕ) (text : List ℕ) (n i : ℕ) → at text i ≡ q → at text (i + 1) ≡ q → Closed q text n i → Closed q text n (i + 2)
over_doubled q text n _ is again (closes i a b c) = absurd (b again)
over_doubled q text n _ is again (doubled i a b c) = c
over_doubled q text n _ is again (other i a b c) = absurd (b is)

pub byte_within : (q : ℕ) (text : List ℕ) (i : ℕ) → 0 < q → at text i ≡ q → i < length text
byte_within q text i pos is =
    let out : length text ≤ i → ⊥ = λ (past : length text ≤ i). let e : at text i ≡ 0 = get_or_past text i 0 past in omega (arith, is, e) in
    omega arith

-- What stands before the first quote is passed over.
to_by : (q : ℕ) (text : List ℕ) (n d i : ℕ) → ((k : ℕ) → i ≤ k → k < i + d → at text k ≡ q → ⊥) → Closed q text n i → Closed q text n (i + d)
to_by q text n zero i none h = subst (λ (x : ℕ). Closed q text n x) (omega arith) h
to_by q text n (suc d) i none h =
    subst (λ (x : ℕ). Closed q text n x) (omega arith)
    (to_by q text n d (i + 1) (λ k a b. none k (omega arith) (omega arith)) (over_other q text n i (none i (omega arith) (omega arith)) h))

from_by : (q : ℕ) (text : List ℕ) (n d i : ℕ) → i + d ≤ length text → ((k : ℕ) → i ≤ k → k < i + d → at text k ≡ q → ⊥) → Closed q text n (i + d) → Closed q text n i
from_by q text n zero i le none h = subst (λ (x : ℕ). Closed q text n x) (omega arith) h
from_by q text n (suc d) i le none h =
    other i (omega arith) (none i (omega arith) (omega arith))
    (from_by q text n d (i + 1) (omega arith) (λ k a b. none k (omega arith) (omega arith)) (subst (λ (x : ℕ). Closed q text n x) (omega arith) h))

pub to_first : (q : ℕ) (text : List ℕ) (n i m : ℕ) → First q text i m → Closed q text n i → Closed q text n m
to_first q text n i m f h =
    let e : i + (m - i) ≡ m = omega (arith, f.rises) in
    subst (λ (x : ℕ). Closed q text n x) e (to_by q text n (m - i) i (λ k a b. f.before k a (omega (arith, f.rises))) h)

pub from_first : (q : ℕ) (text : List ℕ) (n i m : ℕ) → First q text i m → Closed q text n m → Closed q text n i
from_first q text n i m f h =
    let e : i + (m - i) ≡ m = omega (arith, f.rises) in
    from_by q text n (m - i) i (omega (arith, f.rises, f.within)) (λ k a b. f.before k a (omega (arith, f.rises))) (subst (λ (x : ℕ). Closed q text n x) (sym e) h)

-- ---- a search of what stands from a place on

module _ (byte : ℕ) (text : List ℕ) (i : ℕ) (le : i ≤ length text) where
  abbrev from_on : List ℕ
  from_on = take (length text - i) (drop i text)

  from_on_is : from_on ≡ drop i text
  from_on_is = take_all (length text - i) (drop i text) (rw length-drop (omega arith))

  size : length from_on ≡ length text - i
  size = ap length from_on_is ∙ length-drop i text

  byte_of : (k : ℕ) → i ≤ k → at text k ≡ byte → (slice_index from_on (k - i) == byte) ≡ true
  byte_of k a e =
      let there : i + (k - i) ≡ k = omega arith in
      let at_k : slice_index from_on (k - i) ≡ byte = ap (λ (xs : List ℕ). get_or xs (k - i) 0) from_on_is ∙ get_or-drop i text (k - i) 0 ∙ ap (λ (x : ℕ). get_or text x 0) there ∙ e in
      eq-eqb _ byte at_k

  pub none_after : ((k : ℕ) → 0 ≤ k → k < length from_on → (slice_index from_on k == byte) ≡ true → ⊥) → First byte text i (length text)
  none_after none = record {
    rises = le;
    within = omega arith;
    before = λ k a b e. none (k - i) (omega arith) (omega (arith, size)) (byte_of k a e);
    is = λ lt. absurd (omega (arith, lt));
  }

  pub found_after : (m : ℕ) → m < length from_on → ((k : ℕ) → 0 ≤ k → k < m → (slice_index from_on k == byte) ≡ true → ⊥) → (slice_index from_on m == byte) ≡ true → First byte text i (i + m)
  found_after m lt none here =
      let inside : m < length text - i = rw (← size) lt in
      record {
        rises = omega arith;
        within = omega arith;
        before = λ k a b e. none (k - i) (omega arith) (omega arith) (byte_of k a e);
        is = λ l. sym (ap (λ (xs : List ℕ). get_or xs m 0) from_on_is ∙ get_or-drop i text m 0) ∙ eqb-true _ byte here;
      }
