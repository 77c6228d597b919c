-- Tokens of a text, one after another.
use Rattle.std.proofs.Common.{◌≡◌, ℕ, zero, suc, ◌+◌, ◌<◌, ◌≤◌, List, [], ◌∷◌, length, take, ◌-◌, drop, Some, subst, arith}
use Rattle.std.specs.Prelude.{slice_get}
use Rattle.std.proofs.lemmas.List.{take_rest}
use Rattle.al_tokens.specs.declared.kinds.Token.{Token}
use Rattle.al_tokens.specs.Tokens.{Spans, IsToken}

-- spans rise from any earlier place too
pub spans_from : (text : List ℕ) (m n : ℕ) (ts : List Token) → m ≤ n → Spans text n ts → Spans text m ts
spans_from text m n [] le h = omega arith
spans_from text m n (t ∷ ts) le h = (omega (arith, h.0), h.1, h.2, h.3)

pub spans_within : (text : List ℕ) (n : ℕ) (ts : List Token) → Spans text n ts → n ≤ length text
spans_within text n [] h = h
spans_within text n (t ∷ ts) h = let rest = spans_within text t.end ts h.3 in omega (arith, h.0, h.1)

-- what spans say of the token at a place
pub record Stands (text : List ℕ) (t : Token) : Type 0 where
  pub is : IsToken t.kind text t.start t.end
  pub rises : t.start < t.end
  pub within : t.end ≤ length text

pub spans_at : (text : List ℕ) (n : ℕ) (ts : List Token) (i : ℕ) (t : Token) → Spans text n ts → slice_get ts i ≡ Some t → Stands text t
spans_at text n [] i t h e = absurd cc
spans_at text n (x ∷ xs) zero t h e =
    let same : x ≡ t = cc in
    subst (λ (y : Token). Stands text y) same (record { is = h.2; rises = h.1; within = spans_within text x.end xs h.3 })
spans_at text n (x ∷ xs) (suc i) t h e = spans_at text x.end xs i t h.3 e

-- what is left of tokens has its spans
pub spans_drop : (text : List ℕ) (n from : ℕ) (ts : List Token) → Spans text n ts → Spans text 0 (drop from ts)
spans_drop text n zero ts h = spans_from text 0 n ts (omega arith) h
spans_drop text n (suc from) [] h = omega arith
spans_drop text n (suc from) (t ∷ ts) h = spans_drop text t.end from ts h.3

-- a text has no more tokens than bytes
pub spans_count : (text : List ℕ) (n : ℕ) (ts : List Token) → Spans text n ts → n + length ts ≤ length text
spans_count text n [] h = omega arith
spans_count text n (t ∷ ts) h = let rest = spans_count text t.end ts h.3 in omega (arith, h.0, h.1)

pub rest_of : (ts : List Token) (from : ℕ) → take (length ts - from) (drop from ts) ≡ drop from ts
rest_of ts from = take_rest ts from
