-- The tail of a statement that is done or refused, through the locks that its transaction's end frees.
use Rattle.std.proofs.Common.{◌≡◌, ℕ, List, [], ◌∷◌, refl, true, false, Bool, None, arith, ◌∙◌, inl}
use Rattle.al_statements.specs.declared.cause.Cause.{Cause}
use Rattle.al_statements.specs.declared.reply.Reply.{Reply}
use Rattle.al_history.specs.declared.entry.Entry.{Entry}
use Rattle.al_history.specs.declared.entry.Entry.TheVariants.{Done, Refuse}
use Rattle.al_history.specs.declared.statement.Terms.{Terms}
use Rattle.al_history.specs.Past.{Past}
use Rattle.al_history.specs.Made.{Extends, row_entries}
use Rattle.al_history.specs.Tail.{owed}
use Rattle.al_history.specs.Legal.{Legal, MayCome}
use Rattle.al_history.specs.Whole.{driver, IsLeast, IsTurn}
use Rattle.al_history.proofs.Turns.{Tail, extends_by, extends_on}
use Rattle.al_queue.specs.declared.grant.Grant.{Grant}
use Rattle.al_queue.specs.Locks.{Locks}
use Rattle.al_engine.specs.LockTie.{lock_by, locked_by, locks_of}
use Rattle.al_engine.proofs.Grants.{HaveCome, driven_then}
use Rattle.al_engine.proofs.LockLists.{LeavesSo, leaves_so, locked_is, locked_length, grants_of}
use Rattle.al_history.proofs.Pasts.{if_same}

-- ---- a tail begins

pub tail_by_done : (terms : Terms) (s : ℕ) (past : Past) (reply : Reply) → Legal terms past → owed terms past ≡ None → MayCome terms past (Done s reply) → Tail terms s past (Done s reply ∷ past) false (driver past) (IsLeast past s)
tail_by_done terms s past reply legal none comes = record {
  legal = (comes, legal);
  extends = extends_by s past (Done s reply) (inl refl);
  more = omega arith;
  hands = λ r. refl;
  closed_same = λ r. refl;
  driven = refl;
  failed = λ spec. refl;
  told = λ so. so;
  left_is = λ spec steps. refl;
  one_row = omega arith;
  in_turn = λ least driven. (rw none least, driven);
}

pub tail_by_refuse : (terms : Terms) (s : ℕ) (past : Past) (cause : Cause) → Legal terms past → MayCome terms past (Refuse s cause) → Tail terms s past (Refuse s cause ∷ past) true (driver past) (IsTurn (owed terms past) past s)
tail_by_refuse terms s past cause legal comes = record {
  legal = (comes, legal);
  extends = extends_by s past (Refuse s cause) (inl refl);
  more = omega arith;
  hands = λ r. refl;
  closed_same = λ r. refl;
  driven = refl;
  failed = λ spec. refl;
  told = λ so. rw (if_same s) refl;
  left_is = λ spec steps. refl;
  one_row = omega arith;
  in_turn = λ turn driven. (turn, driven);
}

-- ---- it goes on through locks that are granted

pub rows_granted : (xact : ℕ → ℕ) (grants : List Grant) (past : Past) → row_entries (locked_by xact grants past) ≡ row_entries past
rows_granted xact [] past = refl
rows_granted xact (g ∷ grants) past = rows_granted xact grants (lock_by xact g ∷ past)

pub extends_granted : (terms : Terms) (s : ℕ) (past : Past) (xact : ℕ → ℕ) (after : Locks) → HaveCome terms xact after.granted past after → Extends s past (locked_by xact after.granted past)
extends_granted terms s past xact after come = record {
  entries = locks_of xact after.granted;
  more = locked_is xact after.granted past;
  own = grants_of s (locks_of xact after.granted) past come.are_grants;
}

pub tail_granted : (terms : Terms) (s : ℕ) (old mid : Past) (refused : Bool) (drove : List Entry) (turn : Type 0) (xact : ℕ → ℕ) (after : Locks) → HaveCome terms xact after.granted mid after → Tail terms s old mid refused drove turn → Tail terms s old (locked_by xact after.granted mid) refused drove turn
tail_granted terms s old mid refused drove turn xact after come tail =
    let so : LeavesSo terms mid (locked_by xact after.granted mid) = leaves_so terms xact after.granted mid in
    record {
      legal = come.legal;
      extends = extends_on s old mid (locked_by xact after.granted mid) tail.extends (extends_granted terms s mid xact after come);
      more = omega (arith, locked_length xact after.granted mid, tail.more);
      hands = λ r. so.hands r ∙ tail.hands r;
      closed_same = λ r. so.closed_same r ∙ tail.closed_same r;
      driven = so.driven_so ∙ tail.driven;
      failed = λ spec. so.failed spec ∙ tail.failed spec;
      told = λ un. so.refused_same s ∙ tail.told un;
      left_is = λ spec steps. so.left_is spec steps ∙ tail.left_is spec steps;
      one_row = omega (arith, rows_granted xact after.granted mid, tail.one_row);
      in_turn = λ its driven. driven_then terms mid xact after come (tail.in_turn its driven);
    }
