-- What a walk of the queues keeps and makes.
use Rattle.std.proofs.Common.{◌≡◌, ℕ, ◌+◌, ◌≤◌, Bool, true, false, cond, not, List, [], ◌∷◌, ◌++◌, refl, subst, arith, append_assoc, append-nil, count_by, fold, nat_lt}
use Rattle.std.specs.List.{insert, position_or_len}
use Rattle.std.proofs.lemmas.Grind.{common_steps}
use Rattle.std.proofs.lemmas.Bool.{ltb-true, ltb-false}
use Rattle.std.proofs.lemmas.List.Folds.{list_any-append}
use Rattle.std.proofs.lemmas.List.Sums.{sum_by-cons, sum_by_push}
use Rattle.al_queue.specs.declared.grant.Grant.{Grant}
use Rattle.al_queue.specs.Locks.{Locks}
use Rattle.al_queue.specs.InWay.{is_in_way, held_up}
use Rattle.al_queue.specs.Walk.{placed, passed, walked}
use Rattle.al_queue.specs.Settled.{AllHeldUp, IsSettled, AscendsFrom, HandsOn}
use Rattle.al_queue.proofs.Comes.{walk-comes}

-- a grant is placed before the first of a table above its own
insert-placed_by : (x : Grant) (xs : List Grant) (g : Grant) (n : ℕ) (b : Bool) → insert xs n g ≡ placed xs g
    → insert (x ∷ xs) (cond (not b) (1 + n) 0) g ≡ cond b (g ∷ x ∷ xs) (x ∷ placed xs g)
insert-placed_by x xs g n true e = refl
insert-placed_by x xs g n false e = grind (arith, common_steps, e)

pub insert-placed : (xs : List Grant) (g : Grant) → insert xs (position_or_len (λ (other : Grant). nat_lt g.table other.table) xs) g ≡ placed xs g
insert-placed [] g = refl
insert-placed (x ∷ xs) g = insert-placed_by x xs g _ (nat_lt g.table x.table) (insert-placed xs g)

-- the tables still ascend
placed-ascends_by : (low : ℕ) (x : Grant) (xs : List Grant) (g : Grant) (b : Bool) → nat_lt g.table x.table ≡ b
    → low ≤ x.table → low ≤ g.table → AscendsFrom x.table xs → (x.table ≤ g.table → AscendsFrom x.table (placed xs g))
    → AscendsFrom low (cond b (g ∷ x ∷ xs) (x ∷ placed xs g))
placed-ascends_by low x xs g true e p q rest more = (q, (omega (arith, ltb-true g.table x.table e), rest))
placed-ascends_by low x xs g false e p q rest more = (p, more (ltb-false g.table x.table e))

pub placed-ascends : (low : ℕ) (xs : List Grant) (g : Grant) → low ≤ g.table → AscendsFrom low xs → AscendsFrom low (placed xs g)
placed-ascends low [] g q rest = (q, tt)
placed-ascends low (x ∷ xs) g q rest =
    placed-ascends_by low x xs g (nat_lt g.table x.table) refl rest.0 q rest.1 (λ p. placed-ascends x.table xs g p rest.1)

-- a list counts one more once a grant is placed
placed-counts_by : (test : Grant → Bool) (x : Grant) (xs : List Grant) (g : Grant) (b : Bool)
    → count_by test (placed xs g) ≡ count_by test xs + cond (test g) 1 0
    → count_by test (cond b (g ∷ x ∷ xs) (x ∷ placed xs g)) ≡ count_by test (x ∷ xs) + cond (test g) 1 0
placed-counts_by test x xs g true e =
    omega (arith, sum_by-cons (λ (y : Grant). cond (test y) 1 0) g (x ∷ xs))
placed-counts_by test x xs g false e =
    omega (arith, sum_by-cons (λ (y : Grant). cond (test y) 1 0) x xs, sum_by-cons (λ (y : Grant). cond (test y) 1 0) x (placed xs g), e)

pub placed-counts : (test : Grant → Bool) (xs : List Grant) (g : Grant) → count_by test (placed xs g) ≡ count_by test xs + cond (test g) 1 0
placed-counts test [] g = omega (arith, sum_by-cons (λ (y : Grant). cond (test y) 1 0) g [])
placed-counts test (x ∷ xs) g = placed-counts_by test x xs g (nat_lt g.table x.table) (placed-counts test xs g)

-- what is in the way stays so when a list grows
held_up-more_held : (held more ahead : List Grant) (r : Grant) → held_up held ahead r ≡ true → held_up (held ++ more) ahead r ≡ true
held_up-more_held held more ahead r e = grind (arith, common_steps, list_any-append (is_in_way r) held more)

pub all-more_held : (held more ahead q : List Grant) → AllHeldUp held ahead q → AllHeldUp (held ++ more) ahead q
all-more_held held more ahead [] h = tt
all-more_held held more ahead (r ∷ rs) h = (held_up-more_held held more ahead r h.0, all-more_held held more (ahead ++ r ∷ []) rs h.1)

-- a request at the end is held up by those before it, or waits for nobody
pub all-push : (held ahead q : List Grant) (r : Grant) → AllHeldUp held ahead q → held_up held (ahead ++ q) r ≡ true → AllHeldUp held ahead (q ++ r ∷ [])
all-push held ahead [] r h e = (rw append-nil at e, tt)
all-push held ahead (x ∷ xs) r h e = (h.0, all-push held (ahead ++ x ∷ []) xs r h.1 (rw (append_assoc ahead (x ∷ []) xs) e))

-- the walk leaves each waiting request held up
passed-settled_by : (locks : Locks) (r : Grant) (b : Bool) → held_up locks.held locks.waiting r ≡ b → IsSettled locks
    → IsSettled (cond b (record { held = locks.held; waiting = locks.waiting ++ r ∷ []; granted = locks.granted }) (record { held = locks.held ++ r ∷ []; waiting = locks.waiting; granted = placed locks.granted r }))
passed-settled_by locks r true e h = all-push locks.held [] locks.waiting r h e
passed-settled_by locks r false e h = all-more_held locks.held (r ∷ []) [] locks.waiting h

pub passed-settled : (locks : Locks) (r : Grant) → IsSettled locks → IsSettled (passed locks r)
passed-settled locks r h = passed-settled_by locks r (held_up locks.held locks.waiting r) refl h

pub fold-settled : (locks : Locks) (q : List Grant) → IsSettled locks → IsSettled (fold passed locks q)
fold-settled locks [] h = h
fold-settled locks (r ∷ rs) h = fold-settled (passed locks r) rs (passed-settled locks r h)

pub walked-settled : (locks : Locks) → IsSettled (walked locks)
walked-settled locks = fold-settled (record { held = locks.held; waiting = []; granted = [] }) locks.waiting tt

-- what a walk hands on
record Handed (before after : Locks) (q : List Grant) : Type 0 where
  once : (test : Grant → Bool) → count_by test after.granted + count_by test after.waiting ≡ count_by test before.granted + count_by test before.waiting + count_by test q
  gained : (test : Grant → Bool) → count_by test after.held + count_by test before.granted ≡ count_by test before.held + count_by test after.granted
  ascends : AscendsFrom 0 before.granted → AscendsFrom 0 after.granted

passed-handed_by : (locks : Locks) (r : Grant) (b : Bool)
    → Handed locks (cond b (record { held = locks.held; waiting = locks.waiting ++ r ∷ []; granted = locks.granted }) (record { held = locks.held ++ r ∷ []; waiting = locks.waiting; granted = placed locks.granted r })) (r ∷ [])
passed-handed_by locks r true = record {
  once = λ test. omega (arith, sum_by_push (λ (y : Grant). cond (test y) 1 0) locks.waiting r, sum_by-cons (λ (y : Grant). cond (test y) 1 0) r []);
  gained = λ test. refl;
  ascends = λ h. h;
}
passed-handed_by locks r false = record {
  once = λ test. omega (arith, placed-counts test locks.granted r, sum_by-cons (λ (y : Grant). cond (test y) 1 0) r []);
  gained = λ test. omega (arith, placed-counts test locks.granted r, sum_by_push (λ (y : Grant). cond (test y) 1 0) locks.held r);
  ascends = λ h. placed-ascends 0 locks.granted r (omega arith) h;
}

passed-handed : (locks : Locks) (r : Grant) → Handed locks (passed locks r) (r ∷ [])
passed-handed locks r = passed-handed_by locks r (held_up locks.held locks.waiting r)

fold-handed : (locks : Locks) (q : List Grant) → Handed locks (fold passed locks q) q
fold-handed locks [] = record { once = λ test. omega arith; gained = λ test. refl; ascends = λ h. h }
fold-handed locks (r ∷ rs) =
    let one : Handed locks (passed locks r) (r ∷ []) = passed-handed locks r in
    let rest : Handed (passed locks r) (fold passed (passed locks r) rs) rs = fold-handed (passed locks r) rs in
    record {
      once = λ test. omega (arith, one.once test, rest.once test, sum_by-cons (λ (y : Grant). cond (test y) 1 0) r rs, sum_by-cons (λ (y : Grant). cond (test y) 1 0) r []);
      gained = λ test. omega (arith, one.gained test, rest.gained test);
      ascends = λ h. rest.ascends (one.ascends h);
    }

pub walked-hands_on : (locks : Locks) → HandsOn locks (walked locks)
walked-hands_on locks =
    let all : Handed (record { held = locks.held; waiting = []; granted = [] }) (walked locks) locks.waiting = fold-handed (record { held = locks.held; waiting = []; granted = [] }) locks.waiting in
    record {
      once = λ test. omega (arith, all.once test);
      gained = λ test. omega (arith, all.gained test);
      ascends = all.ascends tt;
      rightly = walk-comes locks.held locks.waiting;
    }

-- the same of the locks that a walk is said to leave
pub settled-after : (before after : Locks) → walked before ≡ after → IsSettled after
settled-after before after e = subst IsSettled e (walked-settled before)

pub hands_on-after : (first before after : Locks) → before ≡ first → walked before ≡ after → HandsOn first after
hands_on-after first before after same e = subst (λ (l : Locks). HandsOn l after) same (subst (λ (l : Locks). HandsOn before l) e (walked-hands_on before))

-- a request that is granted at once leaves the others held up, and so does one that waits
pub settled-granted : (locks : Locks) (r : Grant) (held : List Grant) → IsSettled locks → held ≡ locks.held ++ r ∷ []
    → IsSettled (record locks { held = held })
settled-granted locks r held h e = rw e (all-more_held locks.held (r ∷ []) [] locks.waiting h)

pub settled-entered : (locks : Locks) (r : Grant) (waiting : List Grant) → IsSettled locks → held_up locks.held locks.waiting r ≡ true
    → waiting ≡ locks.waiting ++ r ∷ [] → IsSettled (record locks { waiting = waiting })
settled-entered locks r waiting h up e = rw e (all-push locks.held [] locks.waiting r h up)
