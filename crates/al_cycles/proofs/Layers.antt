-- Rounds that find how far each session is from the end of a walk.
use Rattle.std.proofs.Common.{◌≡◌, ℕ, zero, suc, ◌+◌, ◌<◌, ◌≤◌, ⊎_elim, Bool, true, false, cond, not, List, [], ◌∷◌, refl, sym, ◌∙◌, ap, subst, arith, length, set, replicate, get_or, Option, Some, None, is_some}
use Rattle.std.specs.Option.{is_none}
use Rattle.std.proofs.lemmas.Bool.{eqb-true, eq-eqb, and_parts, and_from, cases_eq, both_ways}
use Rattle.std.proofs.lemmas.List.{length-set, length-replicate, get_or-replicate, get_or_past, get_or_read, get_or-set_same, get_or-set_other}
use Rattle.std.proofs.lemmas.List.Sums.{sum_by-set, count_by-le-length}
use Rattle.std.proofs.lemmas.Bool.{cases_lt}
use Rattle.al_cycles.specs.Blocks.{is_this}
use Rattle.al_cycles.specs.Cycles.{IsWalk}
use Rattle.al_cycles.specs.Rounds.{between_of, Walks, IsKnownWithin, AreRounds, AreMidRound, Reaches, IsDone, unknown, is_next}

-- ---- what is known of a session

pub known-some : (o : Option ℕ) (m : ℕ) → IsKnownWithin o m → (d : ℕ) × (o ≡ Some d) × (d ≤ m)
known-some None m h = absurd h
known-some (Some d) m h = (d, refl, h)

pub known-at : (o : Option ℕ) (m d : ℕ) → o ≡ Some d → IsKnownWithin o m → d ≤ m
known-at o m d e h = subst (λ (x : Option ℕ). IsKnownWithin x m) e h

pub within-at : (o : Option ℕ) (m d : ℕ) → o ≡ Some d → d ≤ m → IsKnownWithin o m
within-at o m d e h = subst (λ (x : Option ℕ). IsKnownWithin x m) (sym e) h

pub unknown-at : (o : Option ℕ) (m : ℕ) → o ≡ None → IsKnownWithin o m → ⊥
unknown-at o m e h = subst (λ (x : Option ℕ). IsKnownWithin x m) e h

this-some : (o : Option ℕ) (k : ℕ) → is_this o k ≡ true → o ≡ Some k
this-some None k h = absurd (cc)
this-some (Some d) k h = ap (λ (x : ℕ). Some x) (eqb-true d k h)

pub next-from : (blocks : ℕ → ℕ → Bool) (table : List (Option ℕ)) (s k o : ℕ) → between_of table o ≡ Some k → blocks s o ≡ true → is_next blocks table s k o ≡ true
next-from blocks table s k o e h = and_from (is_this (between_of table o) k) (blocks s o) (ap (λ (x : Option ℕ). is_this x k) e ∙ eq-eqb k k refl) h

pub next-parts : (blocks : ℕ → ℕ → Bool) (table : List (Option ℕ)) (s k o : ℕ) → is_next blocks table s k o ≡ true → (between_of table o ≡ Some k) × (blocks s o ≡ true)
next-parts blocks table s k o h =
    let both = and_parts (is_this (between_of table o) k) (blocks s o) h in (this-some (between_of table o) k both.0, both.1)

-- a walk with a session before it
pub longer : (blocks : ℕ → ℕ → Bool) (n end s u d : ℕ) → s < n → blocks s u ≡ true → Walks blocks n end u d → Walks blocks n end s (suc d)
longer blocks n end s u d less e w = record { others = u ∷ w.others; walk = (less, e, w.walk); count = ap suc w.count }

-- ---- one session of a round

pub reached : (blocks : ℕ → ℕ → Bool) (n end k i : ℕ) (table : List (Option ℕ)) (s : ℕ) → AreMidRound blocks n end k i table → s < n → Reaches blocks n end table s k → Walks blocks n end s k
reached blocks n end zero i table s amid less h = record { others = []; walk = (less, h, tt); count = refl }
reached blocks n end (suc k) i table s amid less h =
    let parts = next-parts blocks table s k h.0 h.2 in longer blocks n end s h.0 k less parts.1 (amid.sound h.0 k parts.0).1

pub unreached : (blocks : ℕ → ℕ → Bool) (n end k i : ℕ) (table : List (Option ℕ)) (s : ℕ) → AreMidRound blocks n end k i table → between_of table s ≡ None
    → (Reaches blocks n end table s k → ⊥) → (others : List ℕ) → IsWalk blocks n end (s ∷ others) → length others ≡ k → ⊥
unreached blocks n end k i table s amid none out [] w e = out (subst (λ (j : ℕ). Reaches blocks n end table s j) e w.1)
unreached blocks n end k i table s amid none out (o ∷ rest) w e =
    let found = known-some _ _ (amid.known o rest w.2 (omega (arith, e))) in
    ⊎_elim
    (λ same. out (subst (λ (j : ℕ). Reaches blocks n end table s j) e
    (o, w.2.0, next-from blocks table s (length rest) o (found.1 ∙ ap (λ (x : ℕ). Some x) same) w.1)))
    (λ apart. let near : Walks blocks n end s (suc found.0) = longer blocks n end s o found.0 w.0 w.1 (amid.sound o found.0 found.1).1 in
    let short : found.0 < length rest = let at_most = found.2 in omega (arith, apart) in
    unknown-at _ _ none (amid.known s near.others near.walk (omega (arith, near.count, short, e))))
    (cases_eq found.0 (length rest))

-- it is known already, or isn't reached
pub passed-on : (blocks : ℕ → ℕ → Bool) (n end k i : ℕ) (table : List (Option ℕ)) → AreMidRound blocks n end k i table
    → ((others : List ℕ) → IsWalk blocks n end (i ∷ others) → length others ≡ k → IsKnownWithin (between_of table i) k) → AreMidRound blocks n end k (i + 1) table
passed-on blocks n end k i table amid here = record {
  len = amid.len;
  sound = amid.sound;
  known = amid.known;
  now = λ s others less w e. ⊎_elim
      (λ same. subst (λ (x : ℕ). IsKnownWithin (between_of table x) k) (sym same) (here others (subst (λ (x : ℕ). IsWalk blocks n end (x ∷ others)) same w) e))
      (λ apart. amid.now s others (omega (arith, less, apart)) w e)
      (cases_eq s i);
}

pub already : (blocks : ℕ → ℕ → Bool) (n end k i : ℕ) (table : List (Option ℕ)) → AreMidRound blocks n end k i table → is_none (between_of table i) ≡ false
    → AreMidRound blocks n end k (i + 1) table
already blocks n end k i table amid e = passed-on blocks n end k i table amid (λ others w same. there (between_of table i) refl e) where
  there : (o : Option ℕ) → between_of table i ≡ o → is_none o ≡ false → IsKnownWithin (between_of table i) k
  there None f g = absurd (cc)
  there (Some d) f g = within-at _ k d f (amid.sound i d f).0

pub none-is : (o : Option ℕ) → is_none o ≡ true → o ≡ None
none-is None e = refl
none-is (Some d) e = absurd (cc)

pub left-out : (blocks : ℕ → ℕ → Bool) (n end k i : ℕ) (table : List (Option ℕ)) → AreMidRound blocks n end k i table → is_none (between_of table i) ≡ true
    → (Reaches blocks n end table i k → ⊥) → AreMidRound blocks n end k (i + 1) table
left-out blocks n end k i table amid e out =
    passed-on blocks n end k i table amid (λ others w same. absurd (unreached blocks n end k i table i amid (none-is _ e) out others w same))

-- it is reached
same-at : (table : List (Option ℕ)) (i : ℕ) (x : Option ℕ) (s : ℕ) → i < length table → s ≡ i → between_of (set table i x) s ≡ x
same-at table i x s less e = ap (λ (j : ℕ). between_of (set table i x) j) e ∙ get_or-set_same table i x None less

other-at : (table : List (Option ℕ)) (i : ℕ) (x : Option ℕ) (s : ℕ) → (s ≡ i → ⊥) → between_of (set table i x) s ≡ between_of table s
other-at table i x s apart = get_or-set_other table i s x None apart

pub placed : (blocks : ℕ → ℕ → Bool) (n end k i : ℕ) (table : List (Option ℕ)) → AreMidRound blocks n end k i table → i < n → is_none (between_of table i) ≡ true
    → Reaches blocks n end table i k → AreMidRound blocks n end k (i + 1) (set table i (Some k))
placed blocks n end k i table amid less e h = record {
  len = length-set table i (Some k) ∙ amid.len;
  sound = λ s d f. ⊎_elim
      (λ same. let at_k : k ≡ d = some-same k d (sym (same-at table i (Some k) s within same) ∙ f) in
      (omega (arith, at_k), subst (λ (x : ℕ). Walks blocks n end x d) (sym same) (subst (λ (x : ℕ). Walks blocks n end i x) at_k walk)))
      (λ apart. amid.sound s d (sym (other-at table i (Some k) s apart) ∙ f))
      (cases_eq s i);
  known = λ s others w short. ⊎_elim
      (λ same. absurd (unknown-at _ _ (none-is _ e) (amid.known i others (subst (λ (x : ℕ). IsWalk blocks n end (x ∷ others)) same w) short)))
      (λ apart. subst (λ (x : Option ℕ). IsKnownWithin x (length others)) (sym (other-at table i (Some k) s apart)) (amid.known s others w short))
      (cases_eq s i);
  now = λ s others below w count. ⊎_elim
      (λ same. within-at _ k k (same-at table i (Some k) s within same) (omega arith))
      (λ apart. subst (λ (x : Option ℕ). IsKnownWithin x k) (sym (other-at table i (Some k) s apart)) (amid.now s others (omega (arith, below, apart)) w count))
      (cases_eq s i);
} where
  some-same : (a b : ℕ) → Some a ≡ Some b → a ≡ b
  some-same a b f = cc

  within : i < length table
  within = let l = amid.len in omega (arith, l, less)

  walk : Walks blocks n end i k
  walk = reached blocks n end k i table i amid less h

abbrev counts : Option ℕ → ℕ
counts o = cond (is_none o) 1 0

pub fewer : (table : List (Option ℕ)) (i k : ℕ) → i < length table → is_none (between_of table i) ≡ true → unknown (set table i (Some k)) + 1 ≡ unknown table
fewer table i k less e =
    let one : counts (between_of table i) ≡ 1 = rw e refl in
    omega (arith, sum_by-set (λ (o : Option ℕ). cond (is_none o) 1 0) table i (Some k) None less, one)

-- ---- whole rounds

pub round-begins : (blocks : ℕ → ℕ → Bool) (n end k : ℕ) (table : List (Option ℕ)) → AreRounds blocks n end k table → AreMidRound blocks n end k 0 table
round-begins blocks n end k table are = record {
  len = are.len;
  sound = λ s d e. let h = are.sound s d e in (omega (arith, h.0), h.1);
  known = are.known;
  now = λ s others less w e. absurd (omega (arith, less));
}

pub round-ends : (blocks : ℕ → ℕ → Bool) (n end k : ℕ) (table : List (Option ℕ)) → AreMidRound blocks n end k n table → AreRounds blocks n end (k + 1) table
round-ends blocks n end k table amid = record {
  len = amid.len;
  sound = λ s d e. let h = amid.sound s d e in (omega (arith, h.0), h.1);
  known = λ s others w short. ⊎_elim
      (λ same. subst (λ (x : ℕ). IsKnownWithin (between_of table s) x) (sym same) (amid.now s others w.0 w same))
      (λ apart. amid.known s others w (omega (arith, short, apart)))
      (cases_eq (length others) k);
}

-- nothing is known before the first round
none-at : (n s : ℕ) → between_of (replicate n None) s ≡ None
none-at n s = ⊎_elim
    (λ less. get_or-replicate n s None None less)
    (λ past. get_or_past (replicate n None) s None (let l = length-replicate n (let x : Option ℕ = None in x) in omega (arith, l, past)))
    (cases_lt s n)

pub rounds-begin : (blocks : ℕ → ℕ → Bool) (n end : ℕ) (table : List (Option ℕ)) → table ≡ replicate n None → AreRounds blocks n end 0 table
rounds-begin blocks n end table e = rw e (record {
  len = length-replicate n None;
  sound = λ s d f. absurd (apart d (sym (none-at n s) ∙ f));
  known = λ s others w short. absurd (omega (arith, short));
}) where
  apart : (d : ℕ) → None ≡ Some d → ⊥
  apart d f = cc

pub all-unknown : (n : ℕ) (table : List (Option ℕ)) → length table ≡ n → unknown table ≤ n
all-unknown n table e = omega (arith, count_by-le-length (λ (o : Option ℕ). is_none o) table, e)

-- a round that finds nobody leaves nobody to be found
pub closed : (blocks : ℕ → ℕ → Bool) (n end k : ℕ) (table : List (Option ℕ)) → AreRounds blocks n end k table → AreRounds blocks n end (k + 1) table
    → (s : ℕ) (others : List ℕ) → IsWalk blocks n end (s ∷ others) → (d : ℕ) × (between_of table s ≡ Some d)
closed blocks n end k table before after s [] w =
    let found = known-some _ _ (after.known s [] w (omega arith)) in (found.0, found.1)
closed blocks n end k table before after s (o ∷ rest) w =
    let next = closed blocks n end k table before after o rest w.2 in
    let sure = before.sound o next.0 next.1 in
    let near : Walks blocks n end s (suc next.0) = longer blocks n end s o next.0 w.0 w.1 sure.1 in
    let found = known-some _ _ (after.known s near.others near.walk (omega (arith, near.count, sure.0))) in (found.0, found.1)

pub done-none : (blocks : ℕ → ℕ → Bool) (n end k : ℕ) (before table : List (Option ℕ)) → AreRounds blocks n end k before → AreRounds blocks n end (k + 1) table → table ≡ before
    → IsDone blocks n end table
done-none blocks n end k before table are after e = record {
  rounds = k + 1;
  are = after;
  closed = λ none others w.
      let found = closed blocks n end k table (subst (λ (t : List (Option ℕ)). AreRounds blocks n end k t) (sym e) are) after end others w in
      unlike found.0 (sym none ∙ found.1);
} where
  unlike : (d : ℕ) → None ≡ Some d → ⊥
  unlike d f = cc

pub done-known : (blocks : ℕ → ℕ → Bool) (n end k : ℕ) (table : List (Option ℕ)) → AreRounds blocks n end k table → is_none (between_of table end) ≡ false → IsDone blocks n end table
done-known blocks n end k table are e = record {
  rounds = k;
  are = are;
  closed = λ none others w. both_ways (is_none (between_of table end)) e (ap (λ (o : Option ℕ). is_none o) none);
}

-- ---- by what the calls say

-- what is read at a place of the table
pub read-known : (table : List (Option ℕ)) (i n : ℕ) (x : Option ℕ) (b : Bool) → length table ≡ n → i < n → x ≡ get_or table i x → is_some x ≡ b → is_none (between_of table i) ≡ not b
read-known table i n x b len less e h =
    let within : i < length table = omega (arith, len, less) in
    ap (λ (o : Option ℕ). is_none o) (sym (get_or_read table i x within e None)) ∙ ap not h

pub round-ends-at : (blocks : ℕ → ℕ → Bool) (n end k i : ℕ) (table : List (Option ℕ)) → i ≡ n → AreMidRound blocks n end k i table → AreRounds blocks n end (k + 1) table
round-ends-at blocks n end k i table e amid = round-ends blocks n end k table (subst (λ (j : ℕ). AreMidRound blocks n end k j table) e amid)

pub reaches-same : (blocks : ℕ → ℕ → Bool) (n end : ℕ) (slice table : List (Option ℕ)) (s k : ℕ) → slice ≡ table → Reaches blocks n end slice s k → Reaches blocks n end table s k
reaches-same blocks n end slice table s k e h = subst (λ (t : List (Option ℕ)). Reaches blocks n end t s k) e h
