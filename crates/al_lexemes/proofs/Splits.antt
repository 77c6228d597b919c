-- Classed tokens taken apart at one of them.
use Rattle.std.proofs.Common.{◌≡◌, ℕ, zero, suc, ◌+◌, ◌-◌, ◌<◌, Bool, false, List, [], ◌∷◌, ◌++◌, length, length-append, Some, refl, sym, ap, ◌∙◌, arith}
use Rattle.std.specs.Prelude.{slice_get}
use Rattle.al_tokens.specs.declared.kinds.Token.{Token}
use Rattle.al_phrases.specs.declared.lexeme.Lexeme.{Lexeme}
use Rattle.al_lexemes.specs.Classes.{lexeme_of, lexemes_of, classed, opens, is_paren_kind, stand_in}
use Rattle.al_lexemes.specs.Answer.{trial}

-- ---- lists

module _ (T : Type 0) where
  -- a list taken apart at a place
  pub record Parts (ts : List T) (place : ℕ) : Type 0 where
    pub before : List T
    pub token : T
    pub after : List T
    pub split : ts ≡ before ++ token ∷ after
    pub at : length before ≡ place

  pub parts : (ts : List T) (place : ℕ) → place < length ts → Parts ts place
  parts [] place lt = absurd (omega (arith, lt))
  parts (t ∷ ts) zero lt = record { before = []; token = t; after = ts; split = refl; at = refl }
  parts (t ∷ ts) (suc place) lt =
      let r = parts ts place (omega (arith, lt)) in
      record { before = t ∷ r.before; token = r.token; after = r.after; split = ap (λ (l : List T). t ∷ l) r.split; at = ap suc r.at }

  pub get_mid : (xs ys : List T) (t : T) → slice_get (xs ++ t ∷ ys) (length xs) ≡ Some t
  get_mid [] ys t = refl
  get_mid (x ∷ xs) ys t = get_mid xs ys t

  pub rest_length : (ts xs ys : List T) (t : T) (place : ℕ) → ts ≡ xs ++ t ∷ ys → length xs ≡ place → length (t ∷ ys) ≡ length ts - place
  rest_length ts xs ys t place split at =
      let whole : length ts ≡ length xs + length (t ∷ ys) = ap length split ∙ length-append xs (t ∷ ys) in
      omega arith

  pub place_length : (ts xs ys : List T) (t : T) → ts ≡ xs ++ t ∷ ys → length ts - length (t ∷ ys) ≡ length xs
  place_length ts xs ys t split =
      let whole : length ts ≡ length xs + length (t ∷ ys) = ap length split ∙ length-append xs (t ∷ ys) in
      omega arith

-- ---- classed tokens

pub classed_length : (text : List ℕ) (ts : List Token) (paren : Bool) → length (classed text ts paren) ≡ length ts
classed_length text [] paren = refl
classed_length text (t ∷ ts) paren = ap suc (classed_length text ts paren)

pub lexemes_length : (text : List ℕ) (ts : List Token) → length (lexemes_of text ts) ≡ length ts
unfolding lexemes_of
lexemes_length text ts = classed_length text ts false

opens_by : (a b : List Token) (paren : Bool) → opens (a ++ b) paren ≡ opens a (opens b paren)
opens_by [] b paren = refl
opens_by (t ∷ a) b paren = refl

pub classed_split : (text : List ℕ) (a b : List Token) (paren : Bool) → classed text (a ++ b) paren ≡ classed text a (opens b paren) ++ classed text b paren
classed_split text [] b paren = refl
classed_split text (t ∷ a) b paren =
    ap (λ (o : Bool). lexeme_of text t o ∷ classed text (a ++ b) paren) (opens_by a b paren)
    ∙ ap (λ (l : List Lexeme). lexeme_of text t (opens a (opens b paren)) ∷ l) (classed_split text a b paren)

trial_mid : (xs ys : List Lexeme) (t : Lexeme) → trial (xs ++ t ∷ ys) (length xs) ≡ xs ++ stand_in t ∷ []
trial_mid [] ys t = refl
trial_mid (x ∷ xs) ys t = ap (λ (l : List Lexeme). x ∷ l) (trial_mid xs ys t)

-- the tokens before one, and what stands in for it
abbrev pub stood_in : List ℕ → List Token → Token → List Token → List Lexeme
stood_in text before token after = classed text before (is_paren_kind token.kind) ++ stand_in (lexeme_of text token (opens after false)) ∷ []

pub tried : (text : List ℕ) (tokens before after : List Token) (token : Token) → tokens ≡ before ++ token ∷ after
    → trial (lexemes_of text tokens) (length before) ≡ stood_in text before token after
unfolding lexemes_of
tried text tokens before after token split =
    let front = classed text before (is_paren_kind token.kind) in
    let lexeme = lexeme_of text token (opens after false) in
    let whole : classed text tokens false ≡ front ++ lexeme ∷ classed text after false =
    ap (λ (l : List Token). classed text l false) split ∙ classed_split text before (token ∷ after) false in
    ap (λ (l : List Lexeme). trial l (length before)) whole
    ∙ ap (λ (n : ℕ). trial (front ++ lexeme ∷ classed text after false) n) (sym (classed_length text before (is_paren_kind token.kind)))
    ∙ trial_mid front (classed text after false) lexeme
