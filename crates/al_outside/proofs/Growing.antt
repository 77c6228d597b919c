-- How growths of a sink add up.
use Rattle.std.proofs.Common.{ℕ, List, [], ◌++◌, ◌+◌, take, drop, sym, ap, ◌∙◌, subst, append-nil, append_assoc}
use Rattle.std.proofs.Math.Seq.{take-add}
use Rattle.al_outside.specs.Holding.{Held, Bytes, Unknown, Silent, Grows}

pub Grows-nil : (a : Held) → Grows a a []
Grows-nil (Bytes xs) = sym (append-nil xs)
Grows-nil Unknown = tt
Grows-nil Silent = tt

pub Grows-trans : (a b c : Held) (xs ys : List ℕ) → Grows a b xs → Grows b c ys → Grows a c (xs ++ ys)
Grows-trans Unknown b c xs ys p q = tt
Grows-trans Silent Silent Silent xs ys p q = tt
Grows-trans Silent Silent (Bytes z) xs ys p q = absurd q
Grows-trans Silent Silent Unknown xs ys p q = absurd q
Grows-trans Silent (Bytes y) c xs ys p q = absurd p
Grows-trans Silent Unknown c xs ys p q = absurd p
Grows-trans (Bytes x) Silent Silent xs ys p q = tt
Grows-trans (Bytes x) Silent (Bytes z) xs ys p q = absurd q
Grows-trans (Bytes x) Silent Unknown xs ys p q = absurd q
Grows-trans (Bytes x) (Bytes y) Silent xs ys p q = tt
Grows-trans (Bytes x) (Bytes y) Unknown xs ys p q = absurd q
Grows-trans (Bytes x) (Bytes y) (Bytes z) xs ys p q = q ∙ ap (λ l. l ++ ys) p ∙ append_assoc x xs ys
Grows-trans (Bytes x) Unknown c xs ys p q = absurd p

-- a write of the next bytes of a text
pub Grows-more : (a b c : Held) (text : List ℕ) (at n : ℕ)
    → Grows a b (take at text) → Grows b c (take n (drop at text)) → Grows a c (take (at + n) text)
Grows-more a b c text at n p q = subst (Grows a c) (sym (take-add at n text)) (Grows-trans a b c _ _ p q)
