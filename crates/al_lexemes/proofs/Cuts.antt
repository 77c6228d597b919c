-- Where a text may be cut round its tokens.
use Rattle.std.proofs.Common.{◌≡◌, ℕ, ◌+◌, ◌-◌, ◌<◌, ◌≤◌, true, false, List, length, ap, ◌∙◌, subst, arith}
use Rattle.std.specs.Prelude.{IsUtf8, IsCharBoundary}
use Rattle.std.proofs.lemmas.Str.{IsCharBoundary-after_ascii, IsCharBoundary-before_ascii}
use Rattle.std.proofs.lemmas.Bool.Decides.{nat_tests}
use Rattle.al_tokens.specs.declared.kinds.TokenKind.TheVariants as kinds
use Rattle.al_tokens.specs.declared.bytes.Class.TheVariants as classes
use Rattle.al_tokens.specs.Bytes.{at, is_of, Closed, closes, doubled, other}
use Rattle.al_tokens.specs.Tokens.{IsToken}

small_by : (b : ℕ) → 128 ≤ b → is_of classes.Word b ≡ false
small_by b le = grind (arith, nat_tests)

pub word_small : (b : ℕ) → is_of classes.Word b ≡ true → b < 128
word_small b e =
    let large : 128 ≤ b → ⊥ = λ (le : 128 ≤ b). let f = small_by b le in absurd cc in
    omega arith

-- behind a word
pub word_end : (text : List ℕ) (i end : ℕ) → IsUtf8 text → IsToken kinds.Word text i end → i < end → IsCharBoundary text end
word_end text i end u is lt =
    let last = word_small (at text (end - 1)) (is.1.each (end - 1) (omega arith) (omega arith)) in
    let e : end - 1 + 1 ≡ end = omega arith in
    subst (λ (n : ℕ). IsCharBoundary text n) e (IsCharBoundary-after_ascii text (end - 1) u (omega (arith, is.1.within)) last)

-- before a word, or what begins with a quote
pub word_start : (text : List ℕ) (i end : ℕ) → IsToken kinds.Word text i end → i < end → IsCharBoundary text i
word_start text i end is lt = IsCharBoundary-before_ascii text i (omega (arith, is.1.within)) (word_small (at text i) (is.1.each i (omega arith) lt))

-- what is closed ends with its quote
pub closed_end : (quote : ℕ) (text : List ℕ) (end i : ℕ) → Closed quote text end i → (at text (end - 1) ≡ quote) × (i < end)
closed_end quote text end _ (closes i is ends e) =
    let place : end - 1 ≡ i = omega arith in
    (ap (λ (n : ℕ). at text n) place ∙ is, omega arith)
closed_end quote text end _ (doubled i a b c) = let r = closed_end quote text end (i + 2) c in (r.0, omega (arith, r.1))
closed_end quote text end _ (other i a b c) = let r = closed_end quote text end (i + 1) c in (r.0, omega (arith, r.1))

-- what stands between quotes
module _ (quote : ℕ) (text : List ℕ) (start end : ℕ) (small : quote < 128) where
  pub inner_start : IsUtf8 text → at text start ≡ quote → Closed quote text end (start + 1) → end ≤ length text → IsCharBoundary text (start + 1)
  inner_start u is closed within =
      let r = closed_end quote text end (start + 1) closed in
      IsCharBoundary-after_ascii text start u (omega (arith, r.1)) (omega (arith, is))

  pub inner_end : Closed quote text end (start + 1) → end ≤ length text → IsCharBoundary text (end - 1)
  inner_end closed within =
      let r = closed_end quote text end (start + 1) closed in
      IsCharBoundary-before_ascii text (end - 1) (omega (arith, r.1)) (omega (arith, r.0))

  pub inner_rises : Closed quote text end (start + 1) → start + 1 ≤ end - 1
  inner_rises closed = let r = closed_end quote text end (start + 1) closed in omega (arith, r.1)
