-- Tokens up to one, which is stood in for.
use Rattle.std.proofs.Common.{◌≡◌, ℕ, zero, suc, ◌+◌, ◌<◌, ◌≤◌, List, [], ◌∷◌, ◌++◌, length, take, refl, ap, ◌∙◌, arith}
use Rattle.al_phrases.specs.declared.lexeme.Lexeme.{Lexeme}
use Rattle.al_lexemes.specs.Classes.{stand_in}
use Rattle.al_lexemes.specs.Answer.{trial}

pub trial_past : (ts : List Lexeme) (place : ℕ) → length ts ≤ place → trial ts place ≡ ts
trial_past [] place le = refl
trial_past (t ∷ ts) zero le = absurd (omega (arith, le))
trial_past (t ∷ ts) (suc place) le = ap (λ (l : List Lexeme). t ∷ l) (trial_past ts place (omega (arith, le)))

not_nil : (xs : List Lexeme) (t : Lexeme) → [] ≡ xs ++ t ∷ [] → ⊥
not_nil [] t e = absurd cc
not_nil (x ∷ xs) t e = absurd cc

cut_by : (ts xs : List Lexeme) (t : Lexeme) (place : ℕ) → place < length ts → take (suc place) ts ≡ xs ++ t ∷ [] → trial ts place ≡ xs ++ stand_in t ∷ []
cut_by [] xs t place lt e = absurd (omega (arith, lt))
cut_by (y ∷ ts) [] t zero lt e = let same : y ≡ t = cc in ap (λ (l : Lexeme). stand_in l ∷ []) same
cut_by (y ∷ ts) (x ∷ xs) t zero lt e = let none : [] ≡ xs ++ t ∷ [] = cc in absurd (not_nil xs t none)
cut_by (y ∷ []) xs t (suc place) lt e = absurd (omega (arith, lt))
cut_by (y ∷ z ∷ ts) [] t (suc place) lt e = absurd cc
cut_by (y ∷ z ∷ ts) (x ∷ xs) t (suc place) lt e =
    let same : y ≡ x = cc in
    let rest : take (suc place) (z ∷ ts) ≡ xs ++ t ∷ [] = cc in
    ap (λ (l : Lexeme). l ∷ trial (z ∷ ts) place) same ∙ ap (λ (l : List Lexeme). x ∷ l) (cut_by (z ∷ ts) xs t place (omega (arith, lt)) rest)

pub trial_cut : (ts xs : List Lexeme) (t : Lexeme) (place : ℕ) → place < length ts → take (place + 1) ts ≡ xs ++ t ∷ [] → trial ts place ≡ xs ++ stand_in t ∷ []
trial_cut ts xs t place lt e =
    let one : suc place ≡ place + 1 = omega arith in
    cut_by ts xs t place lt (ap (λ (n : ℕ). take n ts) one ∙ e)
