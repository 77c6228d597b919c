-- The least of the shortest ways from a session to the end, and the cycle that it is.
use Rattle.std.proofs.Common.{◌≡◌, ℕ, suc, ◌-◌, ◌<◌, ◌≤◌, ◌⊎◌, inl, inr, ⊎_elim, Bool, true, false, ◌&&◌, List, [], ◌∷◌, ◌++◌, refl, sym, ◌∙◌, ap, subst, arith, length, Option, Some, None, append_assoc, nat_lt}
use Rattle.std.specs.Prelude.{◌==◌}
use Rattle.std.proofs.lemmas.Bool.{eqb-true, le-ltb, or_from, cases_eq, cases_lt, both_ways}
use Rattle.al_modes.specs.declared.edge.Edge.{Edge}
use Rattle.al_cycles.specs.Cycles.{IsWalk, IsCycle, HasNoCycle, IsShortest, IsLeast, comes_before, edges_of, sessions_of}
use Rattle.al_cycles.specs.Rounds.{between_of, Walks, AreRounds, is_next, IsFirst, AreAnswer}
use Rattle.al_cycles.proofs.Layers.{known-some, known-at, next-from, next-parts, longer}

-- a walk with so many between a session and the end, and no other with as many comes before it
pub record IsWay (blocks : ℕ → ℕ → Bool) (n end s k : ℕ) (others : List ℕ) : Type 0 where
  pub walk : IsWalk blocks n end (s ∷ others)
  pub count : length others ≡ k
  pub least : (rest : List ℕ) → IsWalk blocks n end (s ∷ rest) → length rest ≡ k → comes_before rest others ≡ false

-- the second of a walk with as few between as there can be is one nearer to the end
pub on-the-way : (blocks : ℕ → ℕ → Bool) (n end rounds : ℕ) (table : List (Option ℕ)) (s k o : ℕ) (rest : List ℕ) → AreRounds blocks n end rounds table
    → between_of table s ≡ Some (suc k) → IsWalk blocks n end (s ∷ o ∷ rest) → length rest ≡ k → is_next blocks table s k o ≡ true
on-the-way blocks n end rounds table s k o rest are e w count =
    let far = are.sound s (suc k) e in
    let found = known-some _ _ (are.known o rest w.2 (omega (arith, far.0, count))) in
    ⊎_elim
    (λ same. next-from blocks table s k o (found.1 ∙ ap (λ (x : ℕ). Some x) same) w.1)
    (λ apart. let near : Walks blocks n end s (suc found.0) = longer blocks n end s o found.0 w.0 w.1 (are.sound o found.0 found.1).1 in
    let short : found.0 < k = let at_most = found.2 in omega (arith, apart, at_most, count) in
    let least : suc k ≤ length near.others = known-at _ _ (suc k) e (are.known s near.others near.walk (omega (arith, near.count, short, far.0))) in
    absurd (omega (arith, least, near.count, short)))
    (cases_eq found.0 k)

second : (blocks : ℕ → ℕ → Bool) (n end s k : ℕ) (others : List ℕ) → IsWalk blocks n end (s ∷ others) → length others ≡ suc k
    → (o : ℕ) × (rest : List ℕ) × IsWalk blocks n end (s ∷ o ∷ rest) × (length rest ≡ k)
second blocks n end s k [] w e = absurd (omega (arith, e))
second blocks n end s k (o ∷ rest) w e = (o, rest, w, omega (arith, e))

-- there is a next session on the way
pub has-next : (blocks : ℕ → ℕ → Bool) (n end rounds : ℕ) (table : List (Option ℕ)) (s k : ℕ) → AreRounds blocks n end rounds table
    → between_of table s ≡ Some (suc k) → IsFirst (is_next blocks table s k) n None → ⊥
has-next blocks n end rounds table s k are e none =
    let far = are.sound s (suc k) e in
    let on = second blocks n end s k far.1.others far.1.walk far.1.count in
    both_ways (is_next blocks table s k on.0) (none on.0 on.2.2.0) (on-the-way blocks n end rounds table s k on.0 on.1 are e on.2 on.3)

-- the way from a session goes on from the least next one
least-after : (a b : ℕ) (rest others : List ℕ) → b ≤ a → (a ≡ b → comes_before rest others ≡ false) → comes_before (a ∷ rest) (b ∷ others) ≡ false
least-after a b rest others above same = or_from (nat_lt a b) ((a == b) && comes_before rest others) (le-ltb a b above) (by (a == b) refl) where
  by : (t : Bool) → (a == b) ≡ t → (t && comes_before rest others) ≡ false
  by true e = same (eqb-true a b e)
  by false e = refl

pub way-on : (blocks : ℕ → ℕ → Bool) (n end rounds : ℕ) (table : List (Option ℕ)) (s k next : ℕ) (others : List ℕ) → AreRounds blocks n end rounds table → s < n
    → between_of table s ≡ Some (suc k) → IsFirst (is_next blocks table s k) n (Some next) → IsWay blocks n end next k others → IsWay blocks n end s (suc k) (next ∷ others)
way-on blocks n end rounds table s k next others are within e first way = record {
  walk = (within, (next-parts blocks table s k next first.1).1, way.walk);
  count = ap suc way.count;
  least = λ rest w count. by rest w count;
} where
  by : (rest : List ℕ) → IsWalk blocks n end (s ∷ rest) → length rest ≡ suc k → comes_before rest (next ∷ others) ≡ false
  by [] w count = absurd (omega (arith, count))
  by (o ∷ rest) w count =
      let short : length rest ≡ k = omega (arith, count) in
      let on : is_next blocks table s k o ≡ true = on-the-way blocks n end rounds table s k o rest are e w short in
      let above : next ≤ o = ⊎_elim (λ less. absurd (both_ways (is_next blocks table s k o) (first.2 o less) on)) (λ more. more) (cases_lt o next) in
      least-after o next rest others above (λ same. way.least rest (subst (λ (x : ℕ). IsWalk blocks n end (x ∷ rest)) same w.2) short)

-- the last session of a way waits for the end
pub way-ends : (blocks : ℕ → ℕ → Bool) (n end rounds : ℕ) (table : List (Option ℕ)) (s : ℕ) → AreRounds blocks n end rounds table
    → between_of table s ≡ Some 0 → IsWay blocks n end s 0 []
way-ends blocks n end rounds table s are e =
    let last = (are.sound s 0 e).1 in record {
      walk = alone last.others last.walk last.count;
      count = refl;
      least = λ rest w count. none rest count;
    } where
      alone : (others : List ℕ) → IsWalk blocks n end (s ∷ others) → length others ≡ 0 → IsWalk blocks n end (s ∷ [])
      alone [] w count = w
      alone (o ∷ rest) w count = absurd (omega (arith, count))

      none : (rest : List ℕ) → length rest ≡ 0 → comes_before rest [] ≡ false
      none [] count = refl
      none (o ∷ rest) count = absurd (omega (arith, count))

-- ---- a way from a session to itself is a cycle

sessions-edges : (end : ℕ) (sessions : List ℕ) → sessions_of (edges_of end sessions) ≡ sessions
sessions-edges end [] = refl
sessions-edges end (s ∷ sessions) = ap (λ (xs : List ℕ). s ∷ xs) (sessions-edges end sessions)

way-shortest : (blocks : ℕ → ℕ → Bool) (n rounds : ℕ) (table : List (Option ℕ)) (s k : ℕ) (others : List ℕ) → AreRounds blocks n s rounds table
    → between_of table s ≡ Some k → length others ≡ k → (other : List ℕ) → IsCycle blocks n s other → length (s ∷ others) ≤ length other
way-shortest blocks n rounds table s k others are e count [] cycle = absurd cycle
way-shortest blocks n rounds table s k others are e count (first ∷ rest) cycle = by (cases_lt (length rest) rounds) where
  by : ((length rest < rounds) ⊎ (rounds ≤ length rest)) → suc (length others) ≤ suc (length rest)
  by (inl short) =
      let walk : IsWalk blocks n s (s ∷ rest) = subst (λ (x : ℕ). IsWalk blocks n s (x ∷ rest)) cycle.0 cycle.1 in
      let most : k ≤ length rest = known-at _ _ k e (are.known s rest walk short) in omega (arith, most, count)
  by (inr long) = let sure = are.sound s k e in omega (arith, sure.0, long, count)

way-least : (blocks : ℕ → ℕ → Bool) (n s k : ℕ) (others : List ℕ) → IsWay blocks n s s k others
    → (other : List ℕ) → IsCycle blocks n s other → length other ≡ length (s ∷ others) → comes_before other (s ∷ others) ≡ false
way-least blocks n s k others way [] cycle same = refl
way-least blocks n s k others way (first ∷ rest) cycle same =
    let walk : IsWalk blocks n s (s ∷ rest) = subst (λ (x : ℕ). IsWalk blocks n s (x ∷ rest)) cycle.0 cycle.1 in
    least-after first s rest others (let e = cycle.0 in omega (arith, e)) (λ e. way.least rest walk (let c = way.count in omega (arith, same, c)))

pub way-answers : (blocks : ℕ → ℕ → Bool) (n rounds : ℕ) (table : List (Option ℕ)) (s k : ℕ) (others : List ℕ) → AreRounds blocks n s rounds table
    → between_of table s ≡ Some k → IsWay blocks n s s k others → AreAnswer blocks n s (edges_of s (s ∷ others))
way-answers blocks n rounds table s k others are e way =
    let back : sessions_of (edges_of s (s ∷ others)) ≡ s ∷ others = sessions-edges s (s ∷ others) in record {
      edges = ap (edges_of s) (sym back);
      cycle = subst (λ (xs : List ℕ). IsCycle blocks n s xs) (sym back) (refl, way.walk);
      shortest = subst (λ (xs : List ℕ). IsShortest blocks n s xs) (sym back) (way-shortest blocks n rounds table s k others are e way.count);
      least = subst (λ (xs : List ℕ). IsLeast blocks n s xs) (sym back) (way-least blocks n s k others way);
    }

-- ---- the edges so far, and whatever way goes on from them

abbrev pub GoesOn : (ℕ → ℕ → Bool) → ℕ → ℕ → List Edge → ℕ → ℕ → Type 0
GoesOn blocks n end edges s k = (others : List ℕ) → IsWay blocks n end s k others → AreAnswer blocks n end (edges ++ edges_of end (s ∷ others))

pub goes-on : (blocks : ℕ → ℕ → Bool) (n end rounds : ℕ) (table : List (Option ℕ)) (edges more : List Edge) (s k next : ℕ) → AreRounds blocks n end rounds table → s < n
    → between_of table s ≡ Some (suc k) → IsFirst (is_next blocks table s k) n (Some next) → GoesOn blocks n end edges s (suc k)
    → more ≡ edges ++ record { session = s; by = next } ∷ [] → GoesOn blocks n end more next k
goes-on blocks n end rounds table edges more s k next are within e first goes same others way =
    let edge : Edge = record { session = s; by = next } in
    subst (λ (es : List Edge). AreAnswer blocks n end es)
    (sym (ap (λ (es : List Edge). es ++ edges_of end (next ∷ others)) same ∙ append_assoc edges (edge ∷ []) (edges_of end (next ∷ others))))
    (goes (next ∷ others) (way-on blocks n end rounds table s k next others are within e first way))

-- ---- by what the calls say

pub goes-first : (blocks : ℕ → ℕ → Bool) (n rounds : ℕ) (table : List (Option ℕ)) (edges : List Edge) (s k : ℕ) → AreRounds blocks n s rounds table
    → between_of table s ≡ Some k → edges ≡ [] → GoesOn blocks n s edges s k
goes-first blocks n rounds table edges s k are e none others way =
    subst (λ (es : List Edge). AreAnswer blocks n s (es ++ edges_of s (s ∷ others))) (sym none) (way-answers blocks n rounds table s k others are e way)

one-less : (left : ℕ) → 0 < left → left ≡ suc (left - 1)
one-less left some = omega (arith, some)

pub none-next : (blocks : ℕ → ℕ → Bool) (n end rounds : ℕ) (table : List (Option ℕ)) (s left : ℕ) (found : Option ℕ) → AreRounds blocks n end rounds table
    → 0 < left → between_of table s ≡ Some left → IsFirst (is_next blocks table s (left - 1)) n found → found ≡ None → ⊥
none-next blocks n end rounds table s left found are some e first none =
    has-next blocks n end rounds table s (left - 1) are (e ∙ ap (λ (x : ℕ). Some x) (one-less left some))
    (subst (λ (o : Option ℕ). IsFirst (is_next blocks table s (left - 1)) n o) none first)

pub next-goes : (blocks : ℕ → ℕ → Bool) (n end rounds : ℕ) (table : List (Option ℕ)) (edges more : List Edge) (s left next : ℕ) → AreRounds blocks n end rounds table → s < n
    → 0 < left → between_of table s ≡ Some left → IsFirst (is_next blocks table s (left - 1)) n (Some next) → GoesOn blocks n end edges s left
    → more ≡ edges ++ record { session = s; by = next } ∷ [] → GoesOn blocks n end more next (left - 1)
next-goes blocks n end rounds table edges more s left next are within some e first goes same =
    let less : left ≡ suc (left - 1) = one-less left some in
    goes-on blocks n end rounds table edges more s (left - 1) next are within (e ∙ ap (λ (x : ℕ). Some x) less) first
    (subst (λ (x : ℕ). GoesOn blocks n end edges s x) less goes) same

pub next-far : (blocks : ℕ → ℕ → Bool) (n : ℕ) (table : List (Option ℕ)) (s k next : ℕ) → IsFirst (is_next blocks table s k) n (Some next)
    → (next < n) × (between_of table next ≡ Some k)
next-far blocks n table s k next first = (first.0, (next-parts blocks table s k next first.1).0)

pub goes-last : (blocks : ℕ → ℕ → Bool) (n end rounds : ℕ) (table : List (Option ℕ)) (edges more : List Edge) (s left : ℕ) → AreRounds blocks n end rounds table
    → left ≡ 0 → between_of table s ≡ Some left → GoesOn blocks n end edges s left → more ≡ edges ++ record { session = s; by = end } ∷ [] → AreAnswer blocks n end more
goes-last blocks n end rounds table edges more s left are none e goes same =
    subst (λ (es : List Edge). AreAnswer blocks n end es) (sym same)
    (subst (λ (x : ℕ). GoesOn blocks n end edges s x) none goes [] (way-ends blocks n end rounds table s are (e ∙ ap (λ (x : ℕ). Some x) none)))

-- no way back is no cycle
pub no-cycle : (blocks : ℕ → ℕ → Bool) (n s : ℕ) → ((others : List ℕ) → IsWalk blocks n s (s ∷ others) → ⊥) → HasNoCycle blocks n s
no-cycle blocks n s none [] cycle = cycle
no-cycle blocks n s none (first ∷ rest) cycle = none rest (subst (λ (x : ℕ). IsWalk blocks n s (x ∷ rest)) cycle.0 cycle.1)
