-- Cases of the definitions, and wrong answers that they refuse.
use Rattle.std.specs.Prelude.{◌≡◌, ℕ, [], ◌∷◌, true, false, refl}
use Rattle.al_modes.specs.declared.mode.Mode.{Mode}
use Rattle.al_modes.specs.declared.mode.Mode.TheVariants as modes
use Rattle.al_queue.specs.declared.grant.Grant.{Grant}
use Rattle.al_queue.specs.declared.grant.Asked.TheVariants.{Granted, Queued}
use Rattle.al_queue.specs.Locks.{Locks}
use Rattle.al_queue.specs.InWay.{held_up, answer}
use Rattle.al_queue.specs.Settled.{Come}
use Rattle.al_queue.specs.Waits.{blocked_by}
use Rattle.al_queue.specs.Walk.{walked, released, withdrawn}

abbrev pub lock : ℕ → ℕ → Mode → Grant
lock session table mode = record { session = session; table = table; mode = mode }

-- session 0 reads table 1, session 1 waits to rewrite it, and session 2 to change rows behind it
abbrev pub reader : Grant
reader = lock 0 1 modes.AccessShare

abbrev pub rewriter : Grant
rewriter = lock 1 1 modes.AccessExclusive

abbrev pub later : Grant
later = lock 2 1 modes.RowExclusive

abbrev pub queued : Locks
queued = record { held = reader ∷ []; waiting = rewriter ∷ later ∷ []; granted = [] }

-- it is granted beside, and queued behind a lock and behind a request
pub granted_beside : answer (record { held = reader ∷ []; waiting = []; granted = [] }) later ≡ Granted
granted_beside = refl

pub granted_to_itself : answer (record { held = reader ∷ []; waiting = []; granted = [] }) (lock 0 1 modes.AccessExclusive) ≡ Granted
granted_to_itself = refl

pub queued_behind_lock : answer (record { held = reader ∷ []; waiting = []; granted = [] }) rewriter ≡ Queued 0
queued_behind_lock = refl

pub queued_behind_request : answer (record { held = reader ∷ []; waiting = rewriter ∷ []; granted = [] }) later ≡ Queued 1
queued_behind_request = refl

pub not_past_request : answer (record { held = reader ∷ []; waiting = rewriter ∷ []; granted = [] }) later ≡ Granted → ⊥
not_past_request e = cc

-- who blocks whom
pub blocked_by_lock : blocked_by queued 1 0 ≡ true
blocked_by_lock = refl

pub blocked_by_request : blocked_by queued 2 1 ≡ true
blocked_by_request = refl

pub not_blocked : blocked_by queued 2 0 ≡ false
not_blocked = refl

pub not_blocked_by_later : blocked_by queued 1 2 ≡ false
not_blocked_by_later = refl

-- the front is granted when the lock is given up, and what it still holds up waits on
pub front_granted : walked (released queued 0) ≡ record { held = rewriter ∷ []; waiting = later ∷ []; granted = rewriter ∷ [] }
front_granted = refl

-- who gives up its locks leaves the queue too
pub leaves_queue : walked (released (record { held = reader ∷ lock 1 2 modes.Share ∷ []; waiting = rewriter ∷ later ∷ []; granted = [] }) 1)
    ≡ record { held = reader ∷ later ∷ []; waiting = []; granted = later ∷ [] }
leaves_queue = refl

-- two that one walk grants come one after the other; one that a lock is in the way of doesn't come
pub come_so : Come [] (rewriter ∷ lock 2 0 modes.RowExclusive ∷ later ∷ []) (lock 2 0 modes.RowExclusive ∷ rewriter ∷ []) (later ∷ [])
come_so = (record { ahead = rewriter ∷ []; behind = later ∷ []; waits = refl; free = refl }, (record { ahead = []; behind = later ∷ []; waits = refl; free = refl }, refl))

pub come_not_held_up : Come (reader ∷ []) (rewriter ∷ []) (rewriter ∷ []) [] → ⊥
come_not_held_up come = let up : held_up (reader ∷ []) come.0.ahead rewriter ≡ true = refl in absurd (cc (come.0.free))

-- one in the middle is taken back, and the one behind it is granted
pub withdrawn_from_middle : walked (withdrawn queued 1) ≡ record { held = reader ∷ later ∷ []; waiting = []; granted = later ∷ [] }
withdrawn_from_middle = refl

-- grants are named with their tables in ascending number
pub ascending : walked (released (record { held = lock 0 1 modes.Share ∷ lock 0 0 modes.Share ∷ []; waiting = rewriter ∷ lock 2 0 modes.RowExclusive ∷ []; granted = reader ∷ [] }) 0)
    ≡ record { held = rewriter ∷ lock 2 0 modes.RowExclusive ∷ []; waiting = []; granted = lock 2 0 modes.RowExclusive ∷ rewriter ∷ [] }
ascending = refl
