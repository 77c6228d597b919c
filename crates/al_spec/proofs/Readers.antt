-- What the readers of spec files leave, production by production.
use Rattle.std.proofs.Common.{◌≡◌, ℕ, true, List, [], ◌∷◌, Some, Result, Ok, Err, refl, ◌∙◌}
use Rattle.al_grammar.specs.Kinds.{among}
use Rattle.al_grammar.specs.Rules.{pair, optional, many}
use Rattle.al_grammar.specs.Skim.{skim, skim_token}
use Rattle.al_grammar.proofs.FirstTokens.{clash}
use Rattle.al_grammar.proofs.Skims.{skim_on, skim_off, skim_leaf}
use Rattle.al_spec.specs.declared.kinds.Word.TheVariants as words
use Rattle.al_spec.specs.declared.kinds.Kind.{Kind}
use Rattle.al_spec.specs.declared.kinds.Kind.TheVariants as kinds
use Rattle.al_spec.specs.declared.kinds.Lexeme.{Lexeme}
use Rattle.al_spec.specs.declared.kinds.Lexeme.TheVariants as lexemes
use Rattle.al_spec.specs.declared.kinds.Token.{Token}
use Rattle.al_spec.specs.Grammar.{kind, kind_of, number, name_in, text_in, word, name, block, block_after, step, step_of, steps, one_or_more, session_end, session_parts, session_of, session, sessions, permutation, bodies, late, file, file_of}

abbrev one : Kind → List Token → Result (List Token) ℕ
one k ts = skim_token kind_of (number k) ts

skim_word : (k : Kind) (ts : List Token) → skim ((word k).reads ts) ≡ one k ts
skim_word k ts = skim_leaf Token (Unit {0}) kind_of (number k) (λ t. Some tt) (λ t e. (tt, refl)) ts

named : (l : Lexeme) → among (number (kind l)) (5 ∷ []) ≡ true → (v : List ℕ) × (name_in l ≡ Some v)
named (lexemes.Word words.Setup) e = absurd (clash e refl)
named (lexemes.Word words.Teardown) e = absurd (clash e refl)
named (lexemes.Word words.Session) e = absurd (clash e refl)
named (lexemes.Word words.Step) e = absurd (clash e refl)
named (lexemes.Word words.Permutation) e = absurd (clash e refl)
named (lexemes.Name n) e = (n, refl)
named lexemes.OpenName e = ([], refl)
named (lexemes.Block text) e = absurd (clash e refl)
named lexemes.OpenBlock e = absurd (clash e refl)
named lexemes.Unclosed e = absurd (clash e refl)
named lexemes.Paren e = absurd (clash e refl)
named lexemes.Stray e = absurd (clash e refl)

pub skim_name : (ts : List Token) → skim (name.reads ts) ≡ one kinds.Name ts
skim_name ts = skim_leaf Token (List ℕ) kind_of 5 (λ t. name_in t.lexeme) (λ t e. named t.lexeme e) ts

texted : (l : Lexeme) → among (number (kind l)) (6 ∷ []) ≡ true → (v : List ℕ) × (text_in l ≡ Some v)
texted (lexemes.Word words.Setup) e = absurd (clash e refl)
texted (lexemes.Word words.Teardown) e = absurd (clash e refl)
texted (lexemes.Word words.Session) e = absurd (clash e refl)
texted (lexemes.Word words.Step) e = absurd (clash e refl)
texted (lexemes.Word words.Permutation) e = absurd (clash e refl)
texted (lexemes.Name n) e = absurd (clash e refl)
texted lexemes.OpenName e = absurd (clash e refl)
texted (lexemes.Block text) e = (text, refl)
texted lexemes.OpenBlock e = ([], refl)
texted lexemes.Unclosed e = absurd (clash e refl)
texted lexemes.Paren e = absurd (clash e refl)
texted lexemes.Stray e = absurd (clash e refl)

skim_block : (ts : List Token) → skim (block.reads ts) ≡ one kinds.Block ts
skim_block ts = skim_leaf Token (List ℕ) kind_of 6 (λ t. text_in t.lexeme) (λ t e. texted t.lexeme e) ts

-- ---- a word and what follows it

pub block_after_on : (k : Kind) (ts mid : List Token) → one k ts ≡ Ok mid → skim ((block_after k).reads ts) ≡ one kinds.Block mid
unfolding block_after
block_after_on k ts mid e = skim_on _ _ _ _ (λ u v. v) (word k).reads block.reads ts mid (skim_word k ts ∙ e) ∙ skim_block mid

pub block_after_off : (k : Kind) (ts : List Token) (n : ℕ) → one k ts ≡ Err n → skim ((block_after k).reads ts) ≡ Err n
unfolding block_after
block_after_off k ts n e = skim_off _ _ _ _ (λ u v. v) (word k).reads block.reads ts n (skim_word k ts ∙ e)

-- step := "step" name block

pub step_on : (ts named mid : List Token) → one kinds.Step ts ≡ Ok named → one kinds.Name named ≡ Ok mid → skim (step.reads ts) ≡ one kinds.Block mid
unfolding step
step_on ts named mid e f =
    skim_on _ _ _ _ (λ u v. v) (word kinds.Step).reads (pair step_of name block).reads ts named (skim_word kinds.Step ts ∙ e)
    ∙ skim_on _ _ _ _ step_of name.reads block.reads named mid (skim_name named ∙ f) ∙ skim_block mid

pub step_off_word : (ts : List Token) (n : ℕ) → one kinds.Step ts ≡ Err n → skim (step.reads ts) ≡ Err n
unfolding step
step_off_word ts n e = skim_off _ _ _ _ (λ u v. v) (word kinds.Step).reads (pair step_of name block).reads ts n (skim_word kinds.Step ts ∙ e)

pub step_off_name : (ts named : List Token) (n : ℕ) → one kinds.Step ts ≡ Ok named → one kinds.Name named ≡ Err n → skim (step.reads ts) ≡ Err n
unfolding step
step_off_name ts named n e f =
    skim_on _ _ _ _ (λ u v. v) (word kinds.Step).reads (pair step_of name block).reads ts named (skim_word kinds.Step ts ∙ e)
    ∙ skim_off _ _ _ _ step_of name.reads block.reads named n (skim_name named ∙ f)

pub steps_on : (ts mid : List Token) → skim (step.reads ts) ≡ Ok mid → skim (steps.reads ts) ≡ skim ((many kind_of step).reads mid)
unfolding steps
steps_on ts mid e = skim_on _ _ _ _ (λ x xs. x ∷ xs) step.reads (many kind_of step).reads ts mid e

pub steps_off : (ts : List Token) (n : ℕ) → skim (step.reads ts) ≡ Err n → skim (steps.reads ts) ≡ Err n
unfolding steps
steps_off ts n e = skim_off _ _ _ _ (λ x xs. x ∷ xs) step.reads (many kind_of step).reads ts n e

pub session_end_on : (ts mid : List Token) → skim (steps.reads ts) ≡ Ok mid → skim (session_end.reads ts) ≡ skim ((optional kind_of (block_after kinds.Teardown)).reads mid)
unfolding session_end
session_end_on ts mid e = skim_on _ _ _ _ (λ x y. (x, y)) steps.reads (optional kind_of (block_after kinds.Teardown)).reads ts mid e

pub session_end_off : (ts : List Token) (n : ℕ) → skim (steps.reads ts) ≡ Err n → skim (session_end.reads ts) ≡ Err n
unfolding session_end
session_end_off ts n e = skim_off _ _ _ _ (λ x y. (x, y)) steps.reads (optional kind_of (block_after kinds.Teardown)).reads ts n e

pub session_parts_on : (ts mid : List Token) → skim ((optional kind_of (block_after kinds.Setup)).reads ts) ≡ Ok mid → skim (session_parts.reads ts) ≡ skim (session_end.reads mid)
unfolding session_parts
session_parts_on ts mid e = skim_on _ _ _ _ (λ x y. (x, y)) (optional kind_of (block_after kinds.Setup)).reads session_end.reads ts mid e

pub session_parts_off : (ts : List Token) (n : ℕ) → skim ((optional kind_of (block_after kinds.Setup)).reads ts) ≡ Err n → skim (session_parts.reads ts) ≡ Err n
unfolding session_parts
session_parts_off ts n e = skim_off _ _ _ _ (λ x y. (x, y)) (optional kind_of (block_after kinds.Setup)).reads session_end.reads ts n e

pub session_on : (ts named mid : List Token) → one kinds.Session ts ≡ Ok named → one kinds.Name named ≡ Ok mid → skim (session.reads ts) ≡ skim (session_parts.reads mid)
unfolding session
session_on ts named mid e f =
    skim_on _ _ _ _ (λ u v. v) (word kinds.Session).reads (pair session_of name session_parts).reads ts named (skim_word kinds.Session ts ∙ e)
    ∙ skim_on _ _ _ _ session_of name.reads session_parts.reads named mid (skim_name named ∙ f)

pub session_off_word : (ts : List Token) (n : ℕ) → one kinds.Session ts ≡ Err n → skim (session.reads ts) ≡ Err n
unfolding session
session_off_word ts n e = skim_off _ _ _ _ (λ u v. v) (word kinds.Session).reads (pair session_of name session_parts).reads ts n (skim_word kinds.Session ts ∙ e)

pub session_off_name : (ts named : List Token) (n : ℕ) → one kinds.Session ts ≡ Ok named → one kinds.Name named ≡ Err n → skim (session.reads ts) ≡ Err n
unfolding session
session_off_name ts named n e f =
    skim_on _ _ _ _ (λ u v. v) (word kinds.Session).reads (pair session_of name session_parts).reads ts named (skim_word kinds.Session ts ∙ e)
    ∙ skim_off _ _ _ _ session_of name.reads session_parts.reads named n (skim_name named ∙ f)

pub sessions_on : (ts mid : List Token) → skim (session.reads ts) ≡ Ok mid → skim (sessions.reads ts) ≡ skim ((many kind_of session).reads mid)
unfolding sessions
sessions_on ts mid e = skim_on _ _ _ _ (λ x xs. x ∷ xs) session.reads (many kind_of session).reads ts mid e

pub sessions_off : (ts : List Token) (n : ℕ) → skim (session.reads ts) ≡ Err n → skim (sessions.reads ts) ≡ Err n
unfolding sessions
sessions_off ts n e = skim_off _ _ _ _ (λ x xs. x ∷ xs) session.reads (many kind_of session).reads ts n e

pub permutation_on : (ts named mid : List Token) → one kinds.Permutation ts ≡ Ok named → one kinds.Name named ≡ Ok mid → skim (permutation.reads ts) ≡ skim ((many kind_of name).reads mid)
unfolding permutation
permutation_on ts named mid e f =
    skim_on _ _ _ _ (λ u v. v) (word kinds.Permutation).reads (one_or_more name).reads ts named (skim_word kinds.Permutation ts ∙ e)
    ∙ skim_on _ _ _ _ (λ x xs. x ∷ xs) name.reads (many kind_of name).reads named mid (skim_name named ∙ f)

pub permutation_off_word : (ts : List Token) (n : ℕ) → one kinds.Permutation ts ≡ Err n → skim (permutation.reads ts) ≡ Err n
unfolding permutation
permutation_off_word ts n e = skim_off _ _ _ _ (λ u v. v) (word kinds.Permutation).reads (one_or_more name).reads ts n (skim_word kinds.Permutation ts ∙ e)

pub permutation_off_name : (ts named : List Token) (n : ℕ) → one kinds.Permutation ts ≡ Ok named → one kinds.Name named ≡ Err n → skim (permutation.reads ts) ≡ Err n
unfolding permutation
permutation_off_name ts named n e f =
    skim_on _ _ _ _ (λ u v. v) (word kinds.Permutation).reads (one_or_more name).reads ts named (skim_word kinds.Permutation ts ∙ e)
    ∙ skim_off _ _ _ _ (λ x xs. x ∷ xs) name.reads (many kind_of name).reads named n (skim_name named ∙ f)

pub bodies_on : (ts mid : List Token) → skim (sessions.reads ts) ≡ Ok mid → skim (bodies.reads ts) ≡ skim ((many kind_of permutation).reads mid)
unfolding bodies
bodies_on ts mid e = skim_on _ _ _ _ (λ x y. (x, y)) sessions.reads (many kind_of permutation).reads ts mid e

pub bodies_off : (ts : List Token) (n : ℕ) → skim (sessions.reads ts) ≡ Err n → skim (bodies.reads ts) ≡ Err n
unfolding bodies
bodies_off ts n e = skim_off _ _ _ _ (λ x y. (x, y)) sessions.reads (many kind_of permutation).reads ts n e

pub late_on : (ts mid : List Token) → skim ((optional kind_of (block_after kinds.Teardown)).reads ts) ≡ Ok mid → skim (late.reads ts) ≡ skim (bodies.reads mid)
unfolding late
late_on ts mid e = skim_on _ _ _ _ (λ x y. (x, y)) (optional kind_of (block_after kinds.Teardown)).reads bodies.reads ts mid e

pub late_off : (ts : List Token) (n : ℕ) → skim ((optional kind_of (block_after kinds.Teardown)).reads ts) ≡ Err n → skim (late.reads ts) ≡ Err n
unfolding late
late_off ts n e = skim_off _ _ _ _ (λ x y. (x, y)) (optional kind_of (block_after kinds.Teardown)).reads bodies.reads ts n e

pub file_on : (ts mid : List Token) → skim ((many kind_of (block_after kinds.Setup)).reads ts) ≡ Ok mid → skim (file.reads ts) ≡ skim (late.reads mid)
unfolding file
file_on ts mid e = skim_on _ _ _ _ file_of (many kind_of (block_after kinds.Setup)).reads late.reads ts mid e

pub file_off : (ts : List Token) (n : ℕ) → skim ((many kind_of (block_after kinds.Setup)).reads ts) ≡ Err n → skim (file.reads ts) ≡ Err n
unfolding file
file_off ts n e = skim_off _ _ _ _ file_of (many kind_of (block_after kinds.Setup)).reads late.reads ts n e
