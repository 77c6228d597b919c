-- What is answered in front of tokens, from the readings.
use Rattle.std.proofs.Common.{◌≡◌, ℕ, ◌-◌, Bool, true, false, ◌==◌, List, length, take, Result, Ok, Err, refl, sym, ap, ◌∙◌, arith}
use Rattle.al_grammar.specs.Rules.{Shape, Step, read, fault, Rule}
use Rattle.al_grammar.specs.Whole.{whole_of}
use Rattle.al_tokens.specs.declared.kinds.Token.{Token}
use Rattle.al_statements.specs.declared.fault.SqlFault.{SqlFault}
use Rattle.al_statements.specs.declared.fault.SqlFault.TheVariants as faults
use Rattle.al_phrases.specs.declared.lexeme.Lexeme.{Lexeme}
use Rattle.al_lexemes.specs.Classes.{lexemes_of}
use Rattle.al_lexemes.specs.Answer.{front_answer, front_by, front_before, front_of, fault_at, goes_on, trial}
use Rattle.al_lexemes.proofs.Splits.{lexemes_length}

module _ (A : Type 0) (s : Shape) (p : Rule Lexeme s A) (text : List ℕ) (tokens : List Token) (ts : List Lexeme) (all : ts ≡ lexemes_of text tokens) where
  size : length ts ≡ length tokens
  size = ap length all ∙ lexemes_length text tokens

  abbrev counted : A → ℕ → Result (A × ℕ) SqlFault
  counted v n = Ok (v, n)

  abbrev given : A → ℕ → Result (A × ℕ) ℕ
  given v n = Ok (v, n)

  fault_step : (step : Step Lexeme A) (n : ℕ) → front_of step ≡ Err n → step ≡ fault n
  fault_step (read v rest) n e = absurd cc
  fault_step (fault m) n e = let same : m ≡ n = cc in ap (λ (k : ℕ). fault k) same

  answer_of : (step : Step Lexeme A) → p.reads ts ≡ step → front_answer p text tokens ≡ front_by p text tokens step
  answer_of step e = ap (λ (l : List Lexeme). front_by p text tokens (p.reads l)) (sym all) ∙ ap (λ (x : Step Lexeme A). front_by p text tokens x) e

  -- a text, and what is behind it
  read_step : (v : A) (behind n : ℕ) (step : Step Lexeme A) → p.reads ts ≡ step → front_of step ≡ given v behind → n ≡ length ts - behind → front_answer p text tokens ≡ counted v n
  read_step v behind n (fault m) h e at = absurd cc
  read_step v behind n (read w rest) h e at =
      let value : w ≡ v = ap (λ (r : Result (A × ℕ) ℕ). value_or w r) e in
      let count : length rest ≡ behind = ap (λ (r : Result (A × ℕ) ℕ). count_or r) e in
      answer_of (read w rest) h ∙ ap (λ (u : A). counted u (length tokens - length rest)) value ∙ ap (λ (m : ℕ). counted v m) (omega (arith, count, at, size))
    where
      value_or : A → Result (A × ℕ) ℕ → A
      value_or u (Ok x) = x.0
      value_or u (Err m) = u

      count_or : Result (A × ℕ) ℕ → ℕ
      count_or (Ok x) = x.1
      count_or (Err m) = 0

  pub front_read : (v : A) (behind n : ℕ) → front_of (p.reads ts) ≡ given v behind → n ≡ length ts - behind → front_answer p text tokens ≡ counted v n
  front_read v behind n e at = read_step v behind n (p.reads ts) refl e at

  -- the tokens end too early
  pub front_early : (left : ℕ) (f : SqlFault) → front_of (p.reads ts) ≡ Err left → (left == 0) ≡ true → f ≡ faults.Syntax (length text) → front_answer p text tokens ≡ Err f
  front_early left f e none told = answer_of (fault left) (fault_step (p.reads ts) left e) ∙ by_none ∙ ap Err (sym told)
    where
      by_none : front_by p text tokens (fault left) ≡ Err (faults.Syntax (length text))
      by_none = rw none refl

  abbrev late : ℕ → Result (A × ℕ) SqlFault
  late left = front_before p text tokens (length tokens - left) (whole_of (p.reads (take (length tokens - left) (lexemes_of text tokens))))

  late_is : (left : ℕ) → front_of (p.reads ts) ≡ Err left → (left == 0) ≡ false → front_answer p text tokens ≡ late left
  late_is left e some = answer_of (fault left) (fault_step (p.reads ts) left e) ∙ by_some
    where
      by_some : front_by p text tokens (fault left) ≡ late left
      by_some = rw some refl

  read_before : (left n : ℕ) (r : Result A ℕ) → n ≡ length ts - left → whole_of (p.reads (take n ts)) ≡ r → whole_of (p.reads (take (length tokens - left) (lexemes_of text tokens))) ≡ r
  read_before left n r at e =
      let place : length tokens - left ≡ n = ap (λ (m : ℕ). m - left) (sym size) ∙ sym at in
      ap (λ (m : ℕ). whole_of (p.reads (take m (lexemes_of text tokens)))) place ∙ ap (λ (l : List Lexeme). whole_of (p.reads (take n l))) (sym all) ∙ e

  -- what stands before a token that can't stand is a text
  pub front_text_before : (left n : ℕ) (v : A) → front_of (p.reads ts) ≡ Err left → (left == 0) ≡ false → n ≡ length ts - left → whole_of (p.reads (take n ts)) ≡ Ok v → front_answer p text tokens ≡ counted v n
  front_text_before left n v e some at before =
      late_is left e some ∙ ap (λ (r : Result A ℕ). front_before p text tokens (length tokens - left) r) (read_before left n (Ok v) at before)
      ∙ ap (λ (m : ℕ). counted v m) (ap (λ (m : ℕ). m - left) (sym size) ∙ sym at)

  -- it is none, and the token is told
  pub front_stopped : (left n m : ℕ) (tr : List Lexeme) (st : Bool) (f : SqlFault) → front_of (p.reads ts) ≡ Err left → (left == 0) ≡ false → n ≡ length ts - left → whole_of (p.reads (take n ts)) ≡ Err m
      → tr ≡ trial ts (length ts - left) → st ≡ goes_on (whole_of (p.reads tr)) → f ≡ fault_at text tokens (length tokens - left) st → front_answer p text tokens ≡ Err f
  front_stopped left n m tr st f e some at before up second told =
      let place : length ts - left ≡ length tokens - left = ap (λ (k : ℕ). k - left) size in
      let cut : tr ≡ trial (lexemes_of text tokens) (length tokens - left) = up ∙ ap (λ (l : List Lexeme). trial l (length ts - left)) all ∙ ap (λ (k : ℕ). trial (lexemes_of text tokens) k) place in
      let stand : st ≡ goes_on (whole_of (p.reads (trial (lexemes_of text tokens) (length tokens - left)))) = second ∙ ap (λ (l : List Lexeme). goes_on (whole_of (p.reads l))) cut in
      late_is left e some
      ∙ ap (λ (r : Result A ℕ). front_before p text tokens (length tokens - left) r) (read_before left n (Err m) at before)
      ∙ ap (λ (b : Bool). Err (fault_at text tokens (length tokens - left) b)) (sym stand)
      ∙ ap Err (sym told)
