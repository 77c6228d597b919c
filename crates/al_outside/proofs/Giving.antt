-- What a read from memory takes away.
use Rattle.std.proofs.Common.{ℕ, List, [], ◌≡◌, ◌++◌, ◌+◌, ◌≤◌, length, take, drop, sym, ap, ◌∙◌, arith, length-drop}
use Rattle.std.proofs.lemmas.List.{take_at, length-take-le, take-append-drop, drop-drop, drop_all}

-- the bytes given and the bytes that then follow are what was left
pub given_and_rest : (bytes into new : List ℕ) (at n : ℕ) → n ≤ length (drop at bytes)
    → new ≡ take n (drop at bytes) ++ into → drop at bytes ≡ take n new ++ drop (at + n) bytes
given_and_rest bytes into new at n h e =
    let left = drop at bytes in
    sym (take-append-drop n left)
    ∙ ap (λ l. l ++ drop n left) (sym (ap (take n) e ∙ take_at (take n left) into n (length-take-le n left h)))
    ∙ ap (λ l. take n new ++ l) (drop-drop n at bytes)

-- where nothing was left, nothing follows
pub none_follow : (bytes : List ℕ) (at n : ℕ) → length (drop at bytes) ≡ 0 → drop (at + n) bytes ≡ []
none_follow bytes at n h = drop_all (at + n) bytes (omega (arith, length-drop at bytes, h))
