-- Runs of bytes.
use Rattle.std.proofs.Common.{◌≡◌, ℕ, ◌+◌, ◌-◌, get_or, drop, take, min, ◌<◌, ◌≤◌, Bool, true, false, List, length, sym, ap, ◌∙◌, arith}
use Rattle.std.specs.Prelude.{◌==◌, slice_index}
use Rattle.std.proofs.lemmas.List.{get_or-take, get_or-drop}
use Rattle.std.proofs.Math.ListN.{length-drop, length-take}
use Rattle.std.proofs.lemmas.Bool.{eqb-true, eq-eqb}
use Rattle.al_spec.specs.Bytes.{at, Run, First}

pub clash : {b : Bool} → b ≡ true → b ≡ false → ⊥
clash t f = cc

-- two runs from a place have one end
run_below : (text : List ℕ) (i m n : ℕ) → Run text i m → Run text i n → m < n → ⊥
run_below text i m n r s lt = clash (s.each m r.rises lt) (r.longest (omega (arith, s.within)))

pub one_run : (text : List ℕ) (i m n : ℕ) → Run text i m → Run text i n → m ≡ n
one_run text i m n r s =
    let no : m < n → ⊥ = run_below text i m n r s in
    let yes : n < m → ⊥ = run_below text i n m s r in
    omega arith

-- a byte has one first place
first_below : (byte : ℕ) (text : List ℕ) (i to m n : ℕ) → First byte text i to m → First byte text i to n → m < n → ⊥
first_below byte text i to m n r s lt = s.before m r.rises lt (r.is (omega (arith, s.within)))

pub one_first : (byte : ℕ) (text : List ℕ) (i to m n : ℕ) → First byte text i to m → First byte text i to n → m ≡ n
one_first byte text i to m n r s =
    let no : m < n → ⊥ = first_below byte text i to m n r s in
    let yes : n < m → ⊥ = first_below byte text i to n m s r in
    omega arith

min_is : (a b : ℕ) → a ≤ b → min a b ≡ a
min_is a b le = omega arith

-- ---- a search of what stands from a place on and before another

module _ (byte : ℕ) (text : List ℕ) (i to : ℕ) (le : i ≤ to) (fits : to ≤ length text) where
  abbrev part : List ℕ
  part = take (to - i) (drop i text)

  byte_at : (n : ℕ) → n < to - i → get_or part n 0 ≡ at text (i + n)
  byte_at n lt = get_or-take (to - i) (drop i text) n 0 lt ∙ get_or-drop i text n 0

  byte_of : (k : ℕ) → i ≤ k → k < to → at text k ≡ byte → (slice_index part (k - i) == byte) ≡ true
  byte_of k a b e =
      let there : i + (k - i) ≡ k = omega arith in
      let same : slice_index part (k - i) ≡ byte = byte_at (k - i) (omega arith) ∙ ap (λ (x : ℕ). at text x) there ∙ e in
      eq-eqb _ byte same

  size : length part ≡ to - i
  size = length-take (to - i) (drop i text) ∙ min_is (to - i) (length (drop i text)) (omega (arith, length-drop i text))

  pub none_after : ((k : ℕ) → 0 ≤ k → k < length part → (slice_index part k == byte) ≡ true → ⊥) → First byte text i to to
  none_after none = record {
    rises = le;
    within = omega arith;
    before = λ k a b e. none (k - i) (omega arith) (omega (arith, size)) (byte_of k a b e);
    is = λ lt. absurd (omega (arith, lt));
  }

  pub found_after : (m : ℕ) → m < length part → ((k : ℕ) → 0 ≤ k → k < m → (slice_index part k == byte) ≡ true → ⊥) → (slice_index part m == byte) ≡ true → First byte text i to (i + m)
  found_after m lt none here =
      let inside : m < to - i = rw (← size) lt in
      record {
        rises = omega arith;
        within = omega arith;
        before = λ k a b e. none (k - i) (omega arith) (omega arith) (byte_of k a (omega arith) e);
        is = λ l. sym (byte_at m inside) ∙ eqb-true _ byte here;
      }
