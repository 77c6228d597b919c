-- Parts of a text, and what is cut.
use Rattle.std.proofs.Common.{◌≡◌, ℕ, ◌+◌, ◌-◌, suc, get_or, drop, take, ◌<◌, ◌≤◌, true, false, List, [], ◌∷◌, ◌++◌, length, refl, sym, ap, ◌∙◌, arith}
use Rattle.std.specs.Prelude.{slice_range, ◌==◌}
use Rattle.std.proofs.lemmas.Bool.{eqb-true}
use Rattle.al_grammar.proofs.FirstTokens.{or_cases}
use Rattle.std.proofs.lemmas.List.{get_or-drop, take_more}
use Rattle.std.proofs.Math.Seq.{drop-cons}
use Rattle.std.proofs.Math.ListN.{length-drop}
use Rattle.al_spec.specs.Bytes.{at, is_cut, cut_front, cut_back, kept}

pub slice_first : (text : List ℕ) (i j : ℕ) → i < j → i < length text → slice_range text i j ≡ at text i ∷ slice_range text (i + 1) j
slice_first text i j lt inside =
    let one : suc i ≡ i + 1 = omega arith in
    let d : drop i text ≡ at text i ∷ drop (i + 1) text = drop-cons text i 0 inside ∙ ap (λ (n : ℕ). at text i ∷ drop n text) one in
    let e : j - i ≡ suc (j - (i + 1)) = omega arith in
    rw (e, d) refl

pub slice_last : (text : List ℕ) (i j : ℕ) → i < j → j ≤ length text → slice_range text i j ≡ slice_range text i (j - 1) ++ at text (j - 1) ∷ []
slice_last text i j lt le =
    let n : j - i ≡ (j - 1 - i) + 1 = omega arith in
    let there : i + (j - 1 - i) ≡ j - 1 = omega arith in
    let byte : get_or (drop i text) (j - 1 - i) 0 ≡ at text (j - 1) = get_or-drop i text (j - 1 - i) 0 ∙ ap (λ (k : ℕ). at text k) there in
    ap (λ (k : ℕ). take k (drop i text)) n ∙ take_more (drop i text) (j - 1 - i) 0 (omega (arith, length-drop i text)) ∙ ap (λ (b : ℕ). take (j - 1 - i) (drop i text) ++ b ∷ []) byte

pub slice_none : (text : List ℕ) (i : ℕ) → slice_range text i i ≡ []
slice_none text i = let e : i - i ≡ 0 = omega arith in rw e refl

-- ---- what is cut

pub front_goes : (text : List ℕ) (i j : ℕ) → i < j → j ≤ length text → is_cut (at text i) ≡ true → cut_front (slice_range text i j) ≡ cut_front (slice_range text (i + 1) j)
front_goes text i j lt le e =
    let inside : i < length text = omega arith in
    let step : cut_front (at text i ∷ slice_range text (i + 1) j) ≡ cut_front (slice_range text (i + 1) j) = rw e refl in
    ap cut_front (slice_first text i j lt inside) ∙ step

pub front_stays : (text : List ℕ) (i j : ℕ) → i < j → j ≤ length text → is_cut (at text i) ≡ false → cut_front (slice_range text i j) ≡ slice_range text i j
front_stays text i j lt le e =
    let inside : i < length text = omega arith in
    let s : slice_range text i j ≡ at text i ∷ slice_range text (i + 1) j = slice_first text i j lt inside in
    let step : cut_front (at text i ∷ slice_range text (i + 1) j) ≡ at text i ∷ slice_range text (i + 1) j = rw e refl in
    ap cut_front s ∙ step ∙ sym s

back_more : (xs : List ℕ) (b : ℕ) → is_cut b ≡ true → cut_back (xs ++ b ∷ []) ≡ cut_back xs
back_more [] b e = rw e refl
back_more (x ∷ xs) b e = ap (kept x) (back_more xs b e)

kept_more : (x : ℕ) (xs : List ℕ) (b : ℕ) → kept x (xs ++ b ∷ []) ≡ x ∷ (xs ++ b ∷ [])
kept_more x [] b = refl
kept_more x (y ∷ xs) b = refl

back_whole : (xs : List ℕ) (b : ℕ) → is_cut b ≡ false → cut_back (xs ++ b ∷ []) ≡ xs ++ b ∷ []
back_whole [] b e = rw e refl
back_whole (x ∷ xs) b e = ap (kept x) (back_whole xs b e) ∙ kept_more x xs b

pub back_goes : (text : List ℕ) (i j : ℕ) → i < j → j ≤ length text → is_cut (at text (j - 1)) ≡ true → cut_back (slice_range text i j) ≡ cut_back (slice_range text i (j - 1))
back_goes text i j lt le e = ap cut_back (slice_last text i j lt le) ∙ back_more (slice_range text i (j - 1)) (at text (j - 1)) e

pub back_stays : (text : List ℕ) (i j : ℕ) → i < j → j ≤ length text → is_cut (at text (j - 1)) ≡ false → cut_back (slice_range text i j) ≡ slice_range text i j
back_stays text i j lt le e =
    let s : slice_range text i j ≡ slice_range text i (j - 1) ++ at text (j - 1) ∷ [] = slice_last text i j lt le in
    ap cut_back s ∙ back_whole (slice_range text i (j - 1)) (at text (j - 1)) e ∙ sym s

is_small : (b n : ℕ) → (b == n) ≡ true → n < 128 → b < 128
is_small b n e lt = let same : b ≡ n = eqb-true b n e in omega arith

pub small_cut : (b : ℕ) → is_cut b ≡ true → b < 128
small_cut b e =
    or_cases (b == 32) _ (b < 128) e (λ h. is_small b 32 h (omega arith))
    (λ f. or_cases (b == 9) _ (b < 128) f (λ h. is_small b 9 h (omega arith))
    (λ g. or_cases (b == 13) _ (b < 128) g (λ h. is_small b 13 h (omega arith)) (λ h. is_small b 12 h (omega arith))))
