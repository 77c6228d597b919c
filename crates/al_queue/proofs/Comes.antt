-- The requests that a walk grants can be granted one after the other, in the order in which they are named.
use Rattle.std.proofs.Common.{◌≡◌, ℕ, Bool, true, false, cond, ◌||◌, ◌==◌, List, [], ◌∷◌, ◌++◌, refl, sym, ap, ◌∙◌, subst, append_assoc, append-nil, fold, nat_lt}
use Rattle.std.specs.List.{list_any}
use Rattle.std.proofs.lemmas.Bool.{or_parts, or_from, eqb-true, eq-eqb, ne_eqb}
use Rattle.std.proofs.lemmas.List.Folds.{list_any-append}
use Rattle.al_modes.proofs.Table.{symmetric}
use Rattle.al_queue.specs.declared.grant.Grant.{Grant}
use Rattle.al_queue.specs.Locks.{Locks}
use Rattle.al_queue.specs.InWay.{is_in_way, held_up}
use Rattle.al_queue.specs.Walk.{placed, passed}
use Rattle.al_queue.specs.Settled.{IsNext, Come}

-- ---- tests of lists

-- a test that nothing passes, of two lists in a row
none-of_both : (test : Grant → Bool) (xs ys : List Grant) → list_any test xs ≡ false → list_any test ys ≡ false → list_any test (xs ++ ys) ≡ false
none-of_both test xs ys p q = list_any-append test xs ys ∙ or_from (list_any test xs) (list_any test ys) p q

none-of_parts : (test : Grant → Bool) (xs ys : List Grant) → list_any test (xs ++ ys) ≡ false → (list_any test xs ≡ false) × (list_any test ys ≡ false)
none-of_parts test xs ys e = or_parts (list_any test xs) (list_any test ys) (sym (list_any-append test xs ys) ∙ e)

any-swap : (a b c : Bool) → (a || (b || c)) ≡ (b || (a || c))
any-swap true true c = refl
any-swap true false c = refl
any-swap false b c = refl

any-turn : (a b : Bool) → (a || b) ≡ (b || a)
any-turn true true = refl
any-turn true false = refl
any-turn false true = refl
any-turn false false = refl

any-placed : (test : Grant → Bool) (xs : List Grant) (g : Grant) → list_any test (placed xs g) ≡ (test g || list_any test xs)
any-placed test [] g = refl
any-placed test (x ∷ xs) g = by_table (nat_lt g.table x.table) (any-placed test xs g) where
  by_table : (b : Bool) → list_any test (placed xs g) ≡ (test g || list_any test xs) → list_any test (cond b (g ∷ x ∷ xs) (x ∷ placed xs g)) ≡ (test g || (test x || list_any test xs))
  by_table true more = refl
  by_table false more = rw more (any-swap (test x) (test g) (list_any test xs))

-- ---- who is in whose way

turn : (a b : ℕ) → (a == b) ≡ (b == a)
turn a b = by_test (a == b) refl where
  by_test : (t : Bool) → (a == b) ≡ t → t ≡ (b == a)
  by_test true same = sym (eq-eqb b a (sym (eqb-true a b same)))
  by_test false other = sym (ne_eqb b a (λ e. let same : (a == b) ≡ true = eq-eqb a b (sym e) in absurd (cc)))

-- two requests are in each other's way, or neither is
in_way-turn : (r g : Grant) → is_in_way r g ≡ is_in_way g r
in_way-turn r g = rw (turn g.table r.table, turn g.session r.session, symmetric g.mode r.mode) refl

-- ---- requests that come one after the other

-- one more waits at the end
come-behind : (held waiting grants rest : List Grant) (r : Grant) → Come held waiting grants rest → Come held (waiting ++ r ∷ []) grants (rest ++ r ∷ [])
come-behind held waiting [] rest r come = ap (λ (xs : List Grant). xs ++ r ∷ []) come
come-behind held waiting (g ∷ grants) rest r come =
    let next : IsNext held waiting g = come.0 in (
      record { ahead = next.ahead; behind = next.behind ++ r ∷ []; waits = ap (λ (xs : List Grant). xs ++ r ∷ []) next.waits ∙ append_assoc next.ahead (g ∷ next.behind) (r ∷ []); free = next.free },
      subst (λ (xs : List Grant). Come (held ++ g ∷ []) xs grants (rest ++ r ∷ [])) (append_assoc next.ahead next.behind (r ∷ [])) (come-behind (held ++ g ∷ []) (next.ahead ++ next.behind) grants rest r come.1),
    )

-- a lock more, which is in nobody's way
abbrev HasMore : Grant → List Grant → List Grant → Type 0
HasMore r held more = (test : Grant → Bool) → list_any test more ≡ (test r || list_any test held)

more-push : (r g : Grant) (held more : List Grant) → HasMore r held more → HasMore r (held ++ g ∷ []) (more ++ g ∷ [])
more-push r g held more has test = rw (list_any-append test more (g ∷ []), list_any-append test held (g ∷ []), has test) (any-associate (test r) (list_any test held) (list_any test (g ∷ []))) where
  any-associate : (a b c : Bool) → ((a || b) || c) ≡ (a || (b || c))
  any-associate true b c = refl
  any-associate false b c = refl

come-more : (held more waiting grants rest : List Grant) (r : Grant) → HasMore r held more → list_any (is_in_way r) waiting ≡ false → Come held waiting grants rest → Come more waiting grants rest
come-more held more waiting [] rest r has clear come = come
come-more held more waiting (g ∷ grants) rest r has clear come =
    let next : IsNext held waiting g = come.0 in
    let clear_here : list_any (is_in_way r) (next.ahead ++ g ∷ next.behind) ≡ false = rw next.waits at clear in
    let split = none-of_parts (is_in_way r) next.ahead (g ∷ next.behind) clear_here in
    let later = or_parts (is_in_way r g) (list_any (is_in_way r) next.behind) split.1 in
    let free = or_parts (list_any (is_in_way g) held) (list_any (is_in_way g) next.ahead) next.free in
    let no_lock : list_any (is_in_way g) more ≡ false = has (is_in_way g) ∙ or_from (is_in_way g r) (list_any (is_in_way g) held) (in_way-turn g r ∙ later.0) free.0 in (
      record { ahead = next.ahead; behind = next.behind; waits = next.waits; free = or_from (list_any (is_in_way g) more) (list_any (is_in_way g) next.ahead) no_lock free.1 },
      come-more (held ++ g ∷ []) (more ++ g ∷ []) (next.ahead ++ next.behind) grants rest r (more-push r g held more has) (none-of_both (is_in_way r) next.ahead next.behind split.0 later.1) come.1,
    )

abbrev last-next : (held waiting : List Grant) (r : Grant) → list_any (is_in_way r) held ≡ false → list_any (is_in_way r) waiting ≡ false → IsNext held (waiting ++ r ∷ []) r
last-next held waiting r no_lock clear = record { ahead = waiting; behind = []; waits = refl; free = or_from (list_any (is_in_way r) held) (list_any (is_in_way r) waiting) no_lock clear }

-- one more at the end, which is granted
come-placed : (held waiting grants rest : List Grant) (r : Grant) → list_any (is_in_way r) held ≡ false → list_any (is_in_way r) waiting ≡ false
    → Come held waiting grants rest → Come held (waiting ++ r ∷ []) (placed grants r) rest
come-placed held waiting [] rest r no_lock clear come = (last-next held waiting r no_lock clear, come ∙ sym (append-nil waiting))
come-placed held waiting (g ∷ grants) rest r no_lock clear come = by_table (nat_lt r.table g.table) (come-placed (held ++ g ∷ []) (next.ahead ++ next.behind) grants rest r no_lock_then clear_then come.1) where
  next : IsNext held waiting g
  next = come.0

  split : (list_any (is_in_way r) next.ahead ≡ false) × (list_any (is_in_way r) (g ∷ next.behind) ≡ false)
  split = none-of_parts (is_in_way r) next.ahead (g ∷ next.behind) (rw next.waits at clear)

  later : (is_in_way r g ≡ false) × (list_any (is_in_way r) next.behind ≡ false)
  later = or_parts (is_in_way r g) (list_any (is_in_way r) next.behind) split.1

  clear_then : list_any (is_in_way r) (next.ahead ++ next.behind) ≡ false
  clear_then = none-of_both (is_in_way r) next.ahead next.behind split.0 later.1

  no_lock_then : list_any (is_in_way r) (held ++ g ∷ []) ≡ false
  no_lock_then = none-of_both (is_in_way r) held (g ∷ []) no_lock (or_from (is_in_way r g) false later.0 refl)

  has : HasMore r held (held ++ r ∷ [])
  has test = list_any-append test held (r ∷ []) ∙ last (test r) (list_any test held) where
    last : (a b : Bool) → (b || (a || false)) ≡ (a || b)
    last true true = refl
    last true false = refl
    last false true = refl
    last false false = refl

  by_table : (b : Bool) → Come (held ++ g ∷ []) ((next.ahead ++ next.behind) ++ r ∷ []) (placed grants r) rest → Come held (waiting ++ r ∷ []) (cond b (r ∷ g ∷ grants) (g ∷ placed grants r)) rest
  by_table true more = (
    last-next held waiting r no_lock clear,
    subst (λ (xs : List Grant). Come (held ++ r ∷ []) xs (g ∷ grants) rest) (sym (append-nil waiting)) (come-more held (held ++ r ∷ []) waiting (g ∷ grants) rest r has clear come),
  )
  by_table false more = (
    record { ahead = next.ahead; behind = next.behind ++ r ∷ []; waits = ap (λ (xs : List Grant). xs ++ r ∷ []) next.waits ∙ append_assoc next.ahead (g ∷ next.behind) (r ∷ []); free = next.free },
    subst (λ (xs : List Grant). Come (held ++ g ∷ []) xs (placed grants r) rest) (append_assoc next.ahead next.behind (r ∷ [])) more,
  )

-- what nothing passes of those that were granted or wait on, nothing passed of those that waited
come-none : (test : Grant → Bool) (held waiting grants rest : List Grant) → Come held waiting grants rest → list_any test grants ≡ false → list_any test rest ≡ false → list_any test waiting ≡ false
come-none test held waiting [] rest come none left = rw come at left
come-none test held waiting (g ∷ grants) rest come none left =
    let next : IsNext held waiting g = come.0 in
    let here = or_parts (test g) (list_any test grants) none in
    let others : list_any test (next.ahead ++ next.behind) ≡ false = come-none test (held ++ g ∷ []) (next.ahead ++ next.behind) grants rest come.1 here.1 left in
    let parts = none-of_parts test next.ahead next.behind others in
    rw next.waits (none-of_both test next.ahead (g ∷ next.behind) parts.0 (or_from (test g) (list_any test next.behind) here.0 parts.1))

-- ---- the walk

-- the walk has passed these requests, with these locks held before
record HasPassed (held queue : List Grant) (locks : Locks) : Type 0 where
  come : Come held queue locks.granted locks.waiting
  gained : (test : Grant → Bool) → list_any test locks.held ≡ (list_any test held || list_any test locks.granted)

passes : (held queue : List Grant) (locks : Locks) (r : Grant) → HasPassed held queue locks → HasPassed held (queue ++ r ∷ []) (passed locks r)
passes held queue locks r p = by_test (held_up locks.held locks.waiting r) refl where
  gains : (test : Grant → Bool) → list_any test (locks.held ++ r ∷ []) ≡ (list_any test held || list_any test (placed locks.granted r))
  gains test = rw (list_any-append test locks.held (r ∷ []), p.gained test, any-placed test locks.granted r) (last (list_any test held) (list_any test locks.granted) (test r)) where
    last : (a b c : Bool) → ((a || b) || (c || false)) ≡ (a || (c || b))
    last true b c = refl
    last false true true = refl
    last false true false = refl
    last false false true = refl
    last false false false = refl

  by_test : (b : Bool) → held_up locks.held locks.waiting r ≡ b
      → HasPassed held (queue ++ r ∷ []) (cond b (record { held = locks.held; waiting = locks.waiting ++ r ∷ []; granted = locks.granted }) (record { held = locks.held ++ r ∷ []; waiting = locks.waiting; granted = placed locks.granted r }))
  by_test true up = record { come = come-behind held queue locks.granted locks.waiting r p.come; gained = p.gained }
  by_test false free =
      let parts = or_parts (list_any (is_in_way r) locks.held) (list_any (is_in_way r) locks.waiting) free in
      let locks_clear = or_parts (list_any (is_in_way r) held) (list_any (is_in_way r) locks.granted) (sym (p.gained (is_in_way r)) ∙ parts.0) in
      let clear : list_any (is_in_way r) queue ≡ false = come-none (is_in_way r) held queue locks.granted locks.waiting p.come locks_clear.1 parts.1 in
      record { come = come-placed held queue locks.granted locks.waiting r locks_clear.0 clear p.come; gained = gains }

fold-passes : (held queue more : List Grant) (locks : Locks) → HasPassed held queue locks → HasPassed held (queue ++ more) (fold passed locks more)
fold-passes held queue [] locks p = rw append-nil p
fold-passes held queue (r ∷ more) locks p =
    subst (λ (xs : List Grant). HasPassed held xs (fold passed (passed locks r) more)) (append_assoc queue (r ∷ []) more) (fold-passes held (queue ++ r ∷ []) more (passed locks r) (passes held queue locks r p))

-- those that a walk grants come one after the other
pub walk-comes : (held queue : List Grant) → Come held queue (fold passed (record { held = held; waiting = []; granted = [] }) queue).granted (fold passed (record { held = held; waiting = []; granted = [] }) queue).waiting
walk-comes held queue = (fold-passes held [] queue (record { held = held; waiting = []; granted = [] }) (record { come = refl; gained = λ test. any-turn false (list_any test held) })).come
