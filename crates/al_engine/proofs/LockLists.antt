-- A list of locks that come one after the other: what it leaves as it was.
use Rattle.std.proofs.Common.{◌≡◌, ℕ, zero, suc, ◌+◌, List, [], ◌∷◌, ◌++◌, length, take, refl, sym, ap, true, false, Some, arith, ◌∙◌, append_assoc, inr, add-one}
use Rattle.std.specs.Prelude.{slice_get}
use Rattle.al_queue.specs.declared.grant.Grant.{Grant}
use Rattle.al_history.specs.declared.entry.Entry.{Entry}
use Rattle.al_history.specs.declared.entry.Entry.TheVariants.{Lock}
use Rattle.al_spec.specs.declared.spec.Spec.{Spec}
use Rattle.al_history.specs.declared.statement.Terms.{Terms}
use Rattle.al_history.specs.Past.{Past}
use Rattle.al_history.specs.Fate.{Standing, fate}
use Rattle.al_history.specs.Hand.{hand, dones, refused, xact_of, session_of, look_of, acts_of, block_state, closed}
use Rattle.al_history.specs.Locks.{is_grant}
use Rattle.al_history.specs.Made.{AreOf}
use Rattle.al_history.specs.Need.{makers}
use Rattle.al_history.specs.Store.{store}
use Rattle.al_history.specs.Tail.{owed}
use Rattle.al_history.specs.View.{view_by, latest, committed}
use Rattle.al_history.specs.Legal.{MayCome, Legal}
use Rattle.al_history.specs.Weight.{weight}
use Rattle.al_history.specs.Whole.{driver, failed_setup, Driven, left}
use Rattle.al_engine.specs.Ran.{AreGrants}
use Rattle.al_engine.specs.LockTie.{lock_by, locked_by, locks_of}

-- ---- a list of locks

pub locked_is : (xact : ℕ → ℕ) (grants : List Grant) (past : Past) → locked_by xact grants past ≡ locks_of xact grants ++ past
locked_is xact [] past = refl
locked_is xact (g ∷ grants) past = locked_is xact grants (lock_by xact g ∷ past) ∙ sym (append_assoc (locks_of xact grants) (lock_by xact g ∷ []) past)

pub grants_push : (entries : List Entry) (e : Entry) (past : Past) → AreGrants entries (e ∷ past) → is_grant past e ≡ true → AreGrants (entries ++ e ∷ []) past
grants_push [] e past are own = (own, tt)
grants_push (d ∷ entries) e past are own =
    (ap (λ (p : Past). is_grant p d) (append_assoc entries (e ∷ []) past) ∙ are.0, grants_push entries e past are.1 own)

-- locks of requests that waited come whenever they can: they are nobody's turn
pub driven_grants : (terms : Terms) (entries : List Entry) (past : Past) → AreGrants entries past → Driven terms past → Driven terms (entries ++ past)
driven_grants terms [] past are driven = driven
driven_grants terms (Lock x table mode ∷ entries) past are driven = (rw are.0 tt, driven_grants terms entries past are.1 driven)
driven_grants terms (e ∷ entries) past are driven = absurd (let wrong : false ≡ true = are.0 in cc)

-- they weigh nothing
pub weight_grants : (entries : List Entry) (past : Past) → AreGrants entries past → weight (entries ++ past) ≡ weight past
weight_grants [] past are = refl
weight_grants (Lock x table mode ∷ entries) past are = rw are.0 (weight_grants entries past are.1)
weight_grants (e ∷ entries) past are = absurd (let wrong : false ≡ true = are.0 in cc)

-- and they may come in anybody's turn
pub grants_of : (s : ℕ) (entries : List Entry) (past : Past) → AreGrants entries past → AreOf s entries past
grants_of s [] past are = tt
grants_of s (e ∷ entries) past are = (inr are.0, grants_of s entries past are.1)

-- the entries of the loop that notes them one by one
pub locked_next : (xact : ℕ → ℕ) (grants : List Grant) (past : Past) (i : ℕ) (g : Grant) → slice_get grants i ≡ Some g
    → locked_by xact (take (i + 1) grants) past ≡ lock_by xact g ∷ locked_by xact (take i grants) past
locked_next xact [] past zero g is = absurd cc
locked_next xact [] past (suc i) g is = absurd cc
locked_next xact (h ∷ grants) past zero g is = let same : h ≡ g = cc in rw same refl
locked_next xact (h ∷ grants) past (suc i) g is = rw add-one (rw add-one at (locked_next xact grants (lock_by xact h ∷ past) i g is))

legal_before : (terms : Terms) (xact : ℕ → ℕ) (grants : List Grant) (past : Past) → Legal terms (locked_by xact grants past) → Legal terms past
legal_before terms xact [] past legal = legal
legal_before terms xact (g ∷ grants) past legal = (legal_before terms xact grants (lock_by xact g ∷ past) legal).1

pub may_come_at : (terms : Terms) (xact : ℕ → ℕ) (grants : List Grant) (past : Past) (i : ℕ) (g : Grant) → slice_get grants i ≡ Some g
    → Legal terms (locked_by xact grants past) → MayCome terms (locked_by xact (take i grants) past) (lock_by xact g)
may_come_at terms xact [] past zero g is legal = absurd cc
may_come_at terms xact [] past (suc i) g is legal = absurd cc
may_come_at terms xact (h ∷ grants) past zero g is legal =
    let same : h ≡ g = cc in
    rw (← same) (legal_before terms xact grants (lock_by xact h ∷ past) legal).0
may_come_at terms xact (h ∷ grants) past (suc i) g is legal = may_come_at terms xact grants (lock_by xact h ∷ past) i g is legal

-- ---- what locks leave as it was

pub record LeavesSo (terms : Terms) (past after : Past) : Type 0 where
  pub hands : (s : ℕ) → hand after s ≡ hand past s
  pub dones_same : (s : ℕ) → dones after s ≡ dones past s
  pub refused_same : (s : ℕ) → refused after s ≡ refused past s
  pub xacts : (s : ℕ) → xact_of after s ≡ xact_of past s
  pub sessions : (x : ℕ) → session_of after x ≡ session_of past x
  pub looks : (s : ℕ) → look_of after s ≡ look_of past s
  pub acts : (s : ℕ) → acts_of after s ≡ acts_of past s
  pub blocks : (s : ℕ) → block_state after s ≡ block_state past s
  pub closed_same : (s : ℕ) → closed after s ≡ closed past s
  pub fates : (x : ℕ) → fate after x ≡ fate past x
  pub made : (name : List ℕ) → makers after name ≡ makers past name
  pub owes : owed terms after ≡ owed terms past
  pub driven_so : driver after ≡ driver past
  pub failed : (spec : Spec) → failed_setup spec after ≡ failed_setup spec past
  pub left_is : (spec : Spec) (steps : List ℕ) → left spec steps after ≡ left spec steps past
  pub stored : store terms after ≡ store terms past
  pub viewed : (stands : ℕ → Standing) → view_by terms stands after ≡ view_by terms stands past
  pub latest_same : (x : ℕ) → latest terms after x ≡ latest terms past x
  pub committed_same : committed terms after ≡ committed terms past

pub leaves_so : (terms : Terms) (xact : ℕ → ℕ) (grants : List Grant) (past : Past) → LeavesSo terms past (locked_by xact grants past)
leaves_so terms xact [] past = record {
  hands = λ s. refl;
  dones_same = λ s. refl;
  refused_same = λ s. refl;
  xacts = λ s. refl;
  sessions = λ x. refl;
  looks = λ s. refl;
  acts = λ s. refl;
  blocks = λ s. refl;
  closed_same = λ s. refl;
  fates = λ x. refl;
  made = λ name. refl;
  owes = refl;
  driven_so = refl;
  failed = λ spec. refl;
  left_is = λ spec steps. refl;
  stored = refl;
  viewed = λ stands. refl;
  latest_same = λ x. refl;
  committed_same = refl;
}
leaves_so terms xact (g ∷ grants) past =
    let more : LeavesSo terms (lock_by xact g ∷ past) (locked_by xact grants (lock_by xact g ∷ past)) = leaves_so terms xact grants (lock_by xact g ∷ past) in
    record {
      hands = more.hands;
      dones_same = more.dones_same;
      refused_same = more.refused_same;
      xacts = more.xacts;
      sessions = more.sessions;
      looks = more.looks;
      acts = more.acts;
      blocks = more.blocks;
      closed_same = more.closed_same;
      fates = more.fates;
      made = more.made;
      owes = more.owes;
      driven_so = more.driven_so;
      failed = more.failed;
      left_is = more.left_is;
      stored = more.stored;
      viewed = more.viewed;
      latest_same = more.latest_same;
      committed_same = more.committed_same;
    }

pub locked_length : (xact : ℕ → ℕ) (grants : List Grant) (past : Past) → length (locked_by xact grants past) ≡ length past + length grants
locked_length xact [] past = omega arith
locked_length xact (g ∷ grants) past = omega (arith, locked_length xact grants (lock_by xact g ∷ past))
