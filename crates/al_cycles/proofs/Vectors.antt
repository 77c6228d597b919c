-- Cases of the definitions, and wrong answers that they refuse.
use Rattle.std.proofs.Common.{◌≡◌, ℕ, ◌<◌, List, [], ◌∷◌, Bool, true, false, refl, Option, Some, None, lit<}
use Rattle.std.proofs.lemmas.Bool.{agree_below_at, both_ways}
use Rattle.al_modes.specs.declared.mode.Mode.TheVariants as modes
use Rattle.al_queue.specs.declared.grant.Grant.{Grant}
use Rattle.al_queue.specs.Locks.{Kept}
use Rattle.al_cycles.specs.Blocks.{blocks}
use Rattle.al_cycles.specs.Cycles.{IsWalk, IsCycle, HasNoCycle, comes_before, edges_of, sessions_of}

abbrev lock : ℕ → ℕ → Grant
lock session table = record { session = session; table = table; mode = modes.AccessExclusive }

abbrev kept : ℕ → List Grant → List Grant → Kept
kept sessions held waiting = record { sessions = sessions; locks = record { held = held; waiting = waiting; granted = [] } }

-- sessions 0 and 1 each hold what the other asks for
abbrev crossed : Kept
crossed = kept 2 (lock 0 0 ∷ lock 1 1 ∷ []) (lock 1 0 ∷ lock 0 1 ∷ [])

abbrev nobody : List (Option ℕ)
nobody = None ∷ None ∷ []

pub two_cycle : IsCycle (blocks crossed nobody) 2 0 (0 ∷ 1 ∷ [])
unfolding blocks
two_cycle = (refl, (lit< tt, refl, (lit< tt, refl, tt)))

pub its_edges : edges_of 0 (0 ∷ 1 ∷ []) ≡ record { session = 0; by = 1 } ∷ record { session = 1; by = 0 } ∷ []
its_edges = refl

pub its_sessions : sessions_of (edges_of 0 (0 ∷ 1 ∷ [])) ≡ 0 ∷ 1 ∷ []
its_sessions = refl

-- a list that leaves out the way back, one that begins elsewhere, and none
pub not_alone : IsCycle (blocks crossed nobody) 2 0 (0 ∷ []) → ⊥
unfolding blocks
not_alone cycle = both_ways false refl cycle.1.1

pub not_from_1 : IsCycle (blocks crossed nobody) 2 0 (1 ∷ 0 ∷ []) → ⊥
not_from_1 cycle = absurd (let e : 1 ≡ 0 = cycle.0 in cc)

pub not_empty : IsCycle (blocks crossed nobody) 2 0 [] → ⊥
not_empty cycle = cycle

-- session 1 waits for a lock of session 0, which waits for the end of session 1
abbrev one_lock : Kept
one_lock = kept 2 (lock 0 0 ∷ []) (lock 1 0 ∷ [])

pub lock_and_end : IsCycle (blocks one_lock (Some 1 ∷ None ∷ [])) 2 0 (0 ∷ 1 ∷ [])
unfolding blocks
lock_and_end = (refl, (lit< tt, refl, (lit< tt, refl, tt)))

pub not_the_other_end : IsCycle (blocks one_lock (None ∷ Some 0 ∷ [])) 2 0 (0 ∷ 1 ∷ []) → ⊥
unfolding blocks
not_the_other_end cycle = both_ways false refl cycle.1.1

-- who waits for a request ahead
pub behind_a_request : blocks (kept 3 (lock 0 0 ∷ []) (lock 1 0 ∷ lock 2 0 ∷ [])) [] 2 1 ≡ true
unfolding blocks
behind_a_request = refl

pub not_for_one_behind : blocks (kept 3 (lock 0 0 ∷ []) (lock 1 0 ∷ lock 2 0 ∷ [])) [] 1 2 ≡ false
unfolding blocks
not_for_one_behind = refl

-- a session for which nobody waits is on no cycle
unawaited-walk : (relation : ℕ → ℕ → Bool) (sessions end s : ℕ) (others : List ℕ) → ((t : ℕ) → t < sessions → relation t end ≡ false)
    → IsWalk relation sessions end (s ∷ others) → ⊥
unawaited-walk relation sessions end s [] none walk = both_ways (relation s end) (none s walk.0) walk.1
unawaited-walk relation sessions end s (o ∷ others) none walk = unawaited-walk relation sessions end o others none walk.2

unawaited : (relation : ℕ → ℕ → Bool) (sessions session : ℕ) → ((t : ℕ) → t < sessions → relation t session ≡ false) → HasNoCycle relation sessions session
unawaited relation sessions session none [] cycle = cycle
unawaited relation sessions session none (first ∷ others) cycle = unawaited-walk relation sessions session first others none cycle.1

-- session 2 waits for a lock of 1, which waits for a lock of 0
abbrev chain : Kept
chain = kept 3 (lock 0 0 ∷ lock 1 1 ∷ []) (lock 1 0 ∷ lock 2 1 ∷ [])

pub no_cycle_in_a_chain : HasNoCycle (blocks chain []) 3 2
unfolding blocks
no_cycle_in_a_chain = unawaited (blocks chain []) 3 2 (λ t less. agree_below_at (λ s. blocks chain [] s 2) (λ s. false) 3 t refl less)

-- lists are compared from the front
pub before_by_the_first : comes_before (0 ∷ 1 ∷ 4 ∷ []) (0 ∷ 2 ∷ 3 ∷ []) ≡ true
before_by_the_first = refl

pub not_before_by_the_last : comes_before (0 ∷ 2 ∷ 3 ∷ []) (0 ∷ 1 ∷ 4 ∷ []) ≡ false
not_before_by_the_last = refl

pub not_before_itself : comes_before (0 ∷ 1 ∷ []) (0 ∷ 1 ∷ []) ≡ false
not_before_itself = refl
