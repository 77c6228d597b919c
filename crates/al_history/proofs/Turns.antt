-- A turn of a session: a stage in which its statement goes on, and the tail that ends the statement.
use Rattle.std.proofs.Common.{◌≡◌, ℕ, ◌+◌, ◌<◌, ◌≤◌, List, [], ◌∷◌, ◌++◌, length, refl, sym, ap, append_assoc, cond, true, false, Bool, None, arith, ◌∙◌, inl, inr}
use Rattle.std.specs.Prelude.{◌==◌, ◌⊎◌, ◌&&◌, is_some, Option}
use Rattle.al_values.specs.declared.scalar.Value.{Value}
use Rattle.al_modes.specs.declared.level.Level.{Level}
use Rattle.al_modes.specs.declared.mode.Mode.{Mode}
use Rattle.al_statements.specs.declared.cause.Cause.{Cause}
use Rattle.al_statements.specs.declared.reply.Reply.{Reply}
use Rattle.al_history.specs.declared.entry.Rewritten.{Rewritten}
use Rattle.al_history.specs.declared.entry.Entry.{Entry}
use Rattle.al_history.specs.declared.entry.Entry.TheVariants.{Start, Wait, Lock, Look, Make, Add, Read, Alter, Done, Refuse, Commit, Abort, End}
use Rattle.al_history.specs.declared.entry.Want.{Want}
use Rattle.al_spec.specs.declared.spec.Spec.{Spec}
use Rattle.al_history.specs.declared.statement.Column.{Column}
use Rattle.al_history.specs.declared.statement.Terms.{Terms}
use Rattle.al_history.specs.Past.{Past}
use Rattle.al_history.specs.Fate.{fate}
use Rattle.al_history.specs.Hand.{hand, refused as told_refused, closed}
use Rattle.al_history.specs.Locks.{is_settled, is_grant}
use Rattle.al_history.specs.Made.{made_by, AreOf, Extends, row_entries}
use Rattle.al_history.specs.Tail.{owed}
use Rattle.al_history.specs.Waits.{can_go_on}
use Rattle.al_history.specs.Legal.{Legal, MayCome}
use Rattle.al_history.specs.Whole.{driver, failed_setup, or_else, of_setup, Task, closes, left, IsLeast, IsTurn, InTurn, Driven}
use Rattle.al_history.proofs.Doings.{Doing, doing, IsBy, made_so, others_stay}
use Rattle.al_history.proofs.Comes.{unless}
use Rattle.al_history.proofs.Pasts.{if_same}
use Rattle.al_history.proofs.Stays.{least_stays}

-- ---- how a journal goes on

are_of_more : (s : ℕ) (more entries : List Entry) (past : Past) → AreOf s more (entries ++ past) → AreOf s entries past → AreOf s (more ++ entries) past
are_of_more s [] entries past later own = own
are_of_more s (e ∷ more) entries past later own = (rw (append_assoc more entries past) later.0, are_of_more s more entries past later.1 own)

pub extends_on : (s : ℕ) (a b c : Past) → Extends s a b → Extends s b c → Extends s a c
extends_on s a b c first second = record {
  entries = second.entries ++ first.entries;
  more = second.more ∙ ap (λ (p : Past). second.entries ++ p) first.more ∙ sym (append_assoc second.entries first.entries a);
  own = are_of_more s second.entries first.entries a (rw first.more at second.own) first.own;
}

pub extends_by : (s : ℕ) (past : Past) (e : Entry) → (made_by past e ≡ s) ⊎ (is_grant past e ≡ true) → Extends s past (e ∷ past)
extends_by s past e own = record { entries = e ∷ []; more = refl; own = (own, tt) }

pub extends_none : (s : ℕ) (past : Past) → Extends s past past
extends_none s past = record { entries = []; more = refl; own = tt }

-- ---- a stage

-- an entry with which a statement goes on: it ends nothing and gives nothing
pub record IsStep (e : Entry) : Type 0 where
  pub hand_same : (past : Past) (r : ℕ) → hand (e ∷ past) r ≡ hand past r
  pub closed_same : (past : Past) (r : ℕ) → closed (e ∷ past) r ≡ closed past r
  pub fate_same : (past : Past) (y : ℕ) → fate (e ∷ past) y ≡ fate past y
  pub drives_not : (past : Past) → driver (e ∷ past) ≡ driver past
  pub fails_not : (spec : Spec) (past : Past) → failed_setup spec (e ∷ past) ≡ failed_setup spec past
  pub told_same : (past : Past) (r : ℕ) → told_refused (e ∷ past) r ≡ told_refused past r
  pub left_same : (spec : Spec) (steps : List ℕ) (past : Past) → left spec steps (e ∷ past) ≡ left spec steps past
  pub in_turn : (terms : Terms) (past : Past) → IsTurn (owed terms past) past (made_by past e) → InTurn terms past e

pub step_start : (s : ℕ) (level : Level) → IsStep (Start s level)
step_start s level = record { hand_same = λ past r. refl; closed_same = λ past r. refl; fate_same = λ past y. refl; drives_not = λ past. refl; fails_not = λ spec past. refl; told_same = λ past r. refl; left_same = λ spec steps past. refl; in_turn = λ terms past turn. turn }

pub step_wait : (x : ℕ) (want : Want) → IsStep (Wait x want)
step_wait x want = record { hand_same = λ past r. refl; closed_same = λ past r. refl; fate_same = λ past y. refl; drives_not = λ past. refl; fails_not = λ spec past. refl; told_same = λ past r. refl; left_same = λ spec steps past. refl; in_turn = λ terms past turn. turn }

pub step_lock : (x table : ℕ) (mode : Mode) → IsStep (Lock x table mode)
step_lock x table mode = record { hand_same = λ past r. refl; closed_same = λ past r. refl; fate_same = λ past y. refl; drives_not = λ past. refl; fails_not = λ spec past. refl; told_same = λ past r. refl; left_same = λ spec steps past. refl; in_turn = λ terms past turn. unless (is_grant past (Lock x table mode)) _ turn }

pub step_look : (x : ℕ) → IsStep (Look x)
step_look x = record { hand_same = λ past r. refl; closed_same = λ past r. refl; fate_same = λ past y. refl; drives_not = λ past. refl; fails_not = λ spec past. refl; told_same = λ past r. refl; left_same = λ spec steps past. refl; in_turn = λ terms past turn. turn }

pub step_make : (x table : ℕ) (name : List ℕ) (shape : List Column) → IsStep (Make x table name shape)
step_make x table name shape = record { hand_same = λ past r. refl; closed_same = λ past r. refl; fate_same = λ past y. refl; drives_not = λ past. refl; fails_not = λ spec past. refl; told_same = λ past r. refl; left_same = λ spec steps past. refl; in_turn = λ terms past turn. turn }

pub step_add : (x table : ℕ) (row : List Value) → IsStep (Add x table row)
step_add x table row = record { hand_same = λ past r. refl; closed_same = λ past r. refl; fate_same = λ past y. refl; drives_not = λ past. refl; fails_not = λ spec past. refl; told_same = λ past r. refl; left_same = λ spec steps past. refl; in_turn = λ terms past turn. turn }

pub step_read : (x : ℕ) (names : List (List ℕ)) (rows : List (List Value)) → IsStep (Read x names rows)
step_read x names rows = record { hand_same = λ past r. refl; closed_same = λ past r. refl; fate_same = λ past y. refl; drives_not = λ past. refl; fails_not = λ spec past. refl; told_same = λ past r. refl; left_same = λ spec steps past. refl; in_turn = λ terms past turn. turn }

pub step_alter : (x table statement : ℕ) (rewritten : List Rewritten) → IsStep (Alter x table statement rewritten)
step_alter x table statement rewritten = record { hand_same = λ past r. refl; closed_same = λ past r. refl; fate_same = λ past y. refl; drives_not = λ past. refl; fails_not = λ spec past. refl; told_same = λ past r. refl; left_same = λ spec steps past. refl; in_turn = λ terms past turn. turn }

-- From one past to another the session's statement went on, by so many entries of a row; nothing is owed, and it can go on.
pub record Stage (terms : Terms) (s : ℕ) (old new : Past) (rows : ℕ) : Type 0 where
  pub legal : Legal terms new
  pub settled : is_settled new ≡ true
  pub owed_is : owed terms new ≡ None
  pub extends : Extends s old new
  pub hands : (r : ℕ) → hand new r ≡ hand old r
  pub others : (r : ℕ) → (s == r) ≡ false → doing new r ≡ doing old r
  pub closed_same : (r : ℕ) → closed new r ≡ closed old r
  pub fates : (y : ℕ) → fate new y ≡ fate old y
  pub driven : driver new ≡ driver old
  pub failed : (spec : Spec) → failed_setup spec new ≡ failed_setup spec old
  pub told : (r : ℕ) → told_refused new r ≡ told_refused old r
  pub left_is : (spec : Spec) (steps : List ℕ) → left spec steps new ≡ left spec steps old
  pub rows_is : row_entries new ≡ row_entries old + rows
  pub least : IsLeast old s → IsLeast new s
  pub in_turn : IsLeast old s → Driven terms old → Driven terms new

pub stage_begins : (terms : Terms) (s : ℕ) (past : Past) → Legal terms past → is_settled past ≡ true → owed terms past ≡ None → Stage terms s past past 0
stage_begins terms s past legal settled none = record {
  legal = legal;
  settled = settled;
  owed_is = none;
  extends = extends_none s past;
  hands = λ r. refl;
  others = λ r other. refl;
  closed_same = λ r. refl;
  fates = λ y. refl;
  driven = refl;
  failed = λ spec. refl;
  told = λ r. refl;
  left_is = λ spec steps. refl;
  rows_is = omega arith;
  least = λ least. least;
  in_turn = λ least d. d;
}

-- one entry more, after which the session can go on
pub stage_on : (terms : Terms) (s : ℕ) (old mid : Past) (rows more : ℕ) (e : Entry) → Stage terms s old mid rows → IsStep e → IsBy mid s e → MayCome terms mid e → is_settled (e ∷ mid) ≡ true → owed terms (e ∷ mid) ≡ None → can_go_on (e ∷ mid) s ≡ true → row_entries (e ∷ mid) ≡ row_entries mid + more → Stage terms s old (e ∷ mid) (rows + more)
stage_on terms s old mid rows more e st step by comes settled none goes one =
    let others : (r : ℕ) → (s == r) ≡ false → doing (e ∷ mid) r ≡ doing mid r = λ r other. others_stay terms mid s r st.legal other e by in
    record {
      legal = (comes, st.legal);
      settled = settled;
      owed_is = none;
      extends = extends_on s old mid (e ∷ mid) st.extends (extends_by s mid e (inl (made_so mid s e by)));
      hands = λ r. step.hand_same mid r ∙ st.hands r;
      others = λ r other. others r other ∙ st.others r other;
      closed_same = λ r. step.closed_same mid r ∙ st.closed_same r;
      fates = λ y. step.fate_same mid y ∙ st.fates y;
      driven = step.drives_not mid ∙ st.driven;
      failed = λ spec. step.fails_not spec mid ∙ st.failed spec;
      told = λ r. step.told_same mid r ∙ st.told r;
      left_is = λ spec steps. step.left_same spec steps mid ∙ st.left_is spec steps;
      rows_is = omega (arith, one, st.rows_is);
      least = λ least. least_stays mid (e ∷ mid) settled (step.fate_same mid) s (λ r other. (ap (λ (d : Doing). d.hand) (others r other), ap (λ (d : Doing). d.wants) (others r other))) goes (st.least least);
      in_turn = λ least d. (step.in_turn terms mid (rw (st.owed_is, made_so mid s e by) (st.least least)), st.in_turn least d);
    }

-- ---- what a call did

-- what is left for the driver, after the step in hand of this block was or wasn't refused
abbrev pub left_after : Spec → Option ℕ → Bool → List Task → List Task
left_after spec block refused tasks = cond (refused && is_some (of_setup spec block)) (closes spec) tasks

-- From one past to another a call went on with the session's step: it tells whether the step was refused, and what the driver has
-- done by then.
pub record Went (terms : Terms) (s : ℕ) (old new : Past) (refused : Bool) (drove : List Entry) (turn : Type 0) : Type 0 where
  pub legal : Legal terms new
  pub extends : Extends s old new
  pub more : length old < length new
  pub hands : (r : ℕ) → (s == r) ≡ false → hand new r ≡ hand old r
  pub own : (hand new s ≡ None) ⊎ (hand new s ≡ hand old s)
  pub refused_ends : refused ≡ true → hand new s ≡ None
  pub closed_same : (r : ℕ) → closed new r ≡ closed old r
  pub driven : driver new ≡ drove
  pub failed : (spec : Spec) → failed_setup spec new ≡ cond refused (or_else (failed_setup spec old) (of_setup spec (hand old s))) (failed_setup spec old)
  pub told : told_refused old s ≡ false → told_refused new s ≡ refused
  pub left_is : (spec : Spec) (steps : List ℕ) → left spec steps new ≡ left_after spec (hand old s) refused (left spec steps old)
  pub one_row : row_entries new ≤ row_entries old + 1
  pub in_turn : turn → Driven terms old → Driven terms new

unrefused : ◌≡◌ {A = Bool} false true → ⊥
unrefused wrong = cc

-- a stage, of which the session's step is in hand still
pub stage_went : (terms : Terms) (s : ℕ) (old new : Past) (rows : ℕ) → Stage terms s old new rows → rows ≤ 1 → length old < length new → Went terms s old new false (driver old) (IsLeast old s)
stage_went terms s old new rows st few more = record {
  legal = st.legal;
  extends = st.extends;
  more = more;
  hands = λ r other. st.hands r;
  own = inr (st.hands s);
  refused_ends = λ wrong. absurd (unrefused wrong);
  closed_same = st.closed_same;
  driven = st.driven;
  failed = st.failed;
  told = λ so. st.told s ∙ so;
  left_is = st.left_is;
  one_row = omega (arith, st.rows_is, few);
  in_turn = st.in_turn;
}

-- a stage, and then a Wait
pub wait_went : (terms : Terms) (s : ℕ) (old mid : Past) (rows x : ℕ) (want : Want) → Stage terms s old mid rows → rows ≤ 1 → length old ≤ length mid → IsBy mid s (Wait x want) → MayCome terms mid (Wait x want) → Went terms s old (Wait x want ∷ mid) false (driver old) (IsLeast old s)
wait_went terms s old mid rows x want st few more by comes =
    let step = step_wait x want in
    record {
      legal = (comes, st.legal);
      extends = extends_on s old mid (Wait x want ∷ mid) st.extends (extends_by s mid (Wait x want) (inl by.session));
      more = omega (arith, more);
      hands = λ r other. st.hands r;
      own = inr (st.hands s);
      refused_ends = λ wrong. absurd (unrefused wrong);
      closed_same = st.closed_same;
      driven = st.driven;
      failed = st.failed;
      told = λ so. st.told s ∙ so;
      left_is = st.left_is;
      one_row = omega (arith, st.rows_is, few);
      in_turn = λ least d. (rw (st.owed_is, by.session) (st.least least), st.in_turn least d);
    }

-- ---- a tail

-- an entry of a tail: it gives nothing, drives nothing and refuses nothing
pub record IsTail (e : Entry) : Type 0 where
  pub closed_same : (past : Past) (r : ℕ) → closed (e ∷ past) r ≡ closed past r
  pub drives_not : (past : Past) → driver (e ∷ past) ≡ driver past
  pub fails_not : (spec : Spec) (past : Past) → failed_setup spec (e ∷ past) ≡ failed_setup spec past
  pub rows_not : (past : Past) → row_entries (e ∷ past) ≡ row_entries past
  pub told_same : (past : Past) (r : ℕ) → told_refused (e ∷ past) r ≡ told_refused past r
  pub left_same : (spec : Spec) (steps : List ℕ) (past : Past) → left spec steps (e ∷ past) ≡ left spec steps past

pub tail_done : (s : ℕ) (reply : Reply) → IsTail (Done s reply)
tail_done s reply = record { closed_same = λ past r. refl; drives_not = λ past. refl; fails_not = λ spec past. refl; rows_not = λ past. refl; told_same = λ past r. refl; left_same = λ spec steps past. refl }

pub tail_commit : (x : ℕ) → IsTail (Commit x)
tail_commit x = record { closed_same = λ past r. refl; drives_not = λ past. refl; fails_not = λ spec past. refl; rows_not = λ past. refl; told_same = λ past r. refl; left_same = λ spec steps past. refl }

pub tail_abort : (x : ℕ) → IsTail (Abort x)
tail_abort x = record { closed_same = λ past r. refl; drives_not = λ past. refl; fails_not = λ spec past. refl; rows_not = λ past. refl; told_same = λ past r. refl; left_same = λ spec steps past. refl }

pub tail_lock : (x table : ℕ) (mode : Mode) → IsTail (Lock x table mode)
tail_lock x table mode = record { closed_same = λ past r. refl; drives_not = λ past. refl; fails_not = λ spec past. refl; rows_not = λ past. refl; told_same = λ past r. refl; left_same = λ spec steps past. refl }

pub tail_end : (s : ℕ) → IsTail (End s)
tail_end s = record { closed_same = λ past r. refl; drives_not = λ past. refl; fails_not = λ spec past. refl; rows_not = λ past. refl; told_same = λ past r. refl; left_same = λ spec steps past. refl }

-- A call has come into the tail of the session's statement.
pub record Tail (terms : Terms) (s : ℕ) (old new : Past) (refused : Bool) (drove : List Entry) (turn : Type 0) : Type 0 where
  pub legal : Legal terms new
  pub extends : Extends s old new
  pub more : length old < length new
  pub hands : (r : ℕ) → hand new r ≡ hand old r
  pub closed_same : (r : ℕ) → closed new r ≡ closed old r
  pub driven : driver new ≡ drove
  pub failed : (spec : Spec) → failed_setup spec new ≡ cond refused (or_else (failed_setup spec old) (of_setup spec (hand old s))) (failed_setup spec old)
  pub told : told_refused old s ≡ false → told_refused new s ≡ refused
  pub left_is : (spec : Spec) (steps : List ℕ) → left spec steps new ≡ left_after spec (hand old s) refused (left spec steps old)
  pub one_row : row_entries new ≤ row_entries old + 1
  pub in_turn : turn → Driven terms old → Driven terms new

-- it begins by a Done, a Commit or an Abort after a stage
pub tail_begins : (terms : Terms) (s : ℕ) (old mid : Past) (rows : ℕ) (e : Entry) → Stage terms s old mid rows → rows ≤ 1 → length old ≤ length mid → IsTail e → ((past : Past) (r : ℕ) → hand (e ∷ past) r ≡ hand past r) → IsBy mid s e → MayCome terms mid e → (IsLeast mid s → InTurn terms mid e) → Tail terms s old (e ∷ mid) false (driver old) (IsLeast old s)
tail_begins terms s old mid rows e st few more tail hand_same by comes turn = record {
  legal = (comes, st.legal);
  extends = extends_on s old mid (e ∷ mid) st.extends (extends_by s mid e (inl (made_so mid s e by)));
  more = omega (arith, more);
  hands = λ r. hand_same mid r ∙ st.hands r;
  closed_same = λ r. tail.closed_same mid r ∙ st.closed_same r;
  driven = tail.drives_not mid ∙ st.driven;
  failed = λ spec. tail.fails_not spec mid ∙ st.failed spec;
  told = λ so. tail.told_same mid s ∙ st.told s ∙ so;
  left_is = λ spec steps. tail.left_same spec steps mid ∙ st.left_is spec steps;
  one_row = omega (arith, tail.rows_not mid, st.rows_is, few);
  in_turn = λ least d. (turn (st.least least), st.in_turn least d);
}

-- or by a Refuse
pub tail_refuses : (terms : Terms) (s : ℕ) (old mid : Past) (rows : ℕ) (cause : Cause) → Stage terms s old mid rows → rows ≤ 1 → length old ≤ length mid → MayCome terms mid (Refuse s cause) → Tail terms s old (Refuse s cause ∷ mid) true (driver old) (IsLeast old s)
tail_refuses terms s old mid rows cause st few more comes = record {
  legal = (comes, st.legal);
  extends = extends_on s old mid (Refuse s cause ∷ mid) st.extends (extends_by s mid (Refuse s cause) (inl refl));
  more = omega (arith, more);
  hands = st.hands;
  closed_same = st.closed_same;
  driven = st.driven;
  failed = λ spec. rw (st.failed spec, st.hands s) refl;
  told = λ so. rw (if_same s) refl;
  left_is = λ spec steps. rw (st.left_is spec steps, st.hands s) refl;
  one_row = omega (arith, st.rows_is, few);
  in_turn = λ least d. (rw st.owed_is (st.least least), st.in_turn least d);
}

-- it goes on by an entry of the session that is owed, or by a lock that is granted
pub tail_on : (terms : Terms) (s : ℕ) (old mid : Past) (refused : Bool) (drove : List Entry) (turn : Type 0) (e : Entry) → Tail terms s old mid refused drove turn → IsTail e → ((past : Past) (r : ℕ) → hand (e ∷ past) r ≡ hand past r) → (made_by mid e ≡ s) ⊎ (is_grant mid e ≡ true) → MayCome terms mid e → InTurn terms mid e → Tail terms s old (e ∷ mid) refused drove turn
tail_on terms s old mid refused drove turn e t tail hand_same by comes in_turn = record {
  legal = (comes, t.legal);
  extends = extends_on s old mid (e ∷ mid) t.extends (extends_by s mid e by);
  more = omega (arith, t.more);
  hands = λ r. hand_same mid r ∙ t.hands r;
  closed_same = λ r. tail.closed_same mid r ∙ t.closed_same r;
  driven = tail.drives_not mid ∙ t.driven;
  failed = λ spec. tail.fails_not spec mid ∙ t.failed spec;
  told = λ so. tail.told_same mid s ∙ t.told so;
  left_is = λ spec steps. tail.left_same spec steps mid ∙ t.left_is spec steps;
  one_row = omega (arith, tail.rows_not mid, t.one_row);
  in_turn = λ its d. (in_turn, t.in_turn its d);
}

-- and ends with the End of the step
pub tail_ends : (terms : Terms) (s : ℕ) (old mid : Past) (refused : Bool) (drove : List Entry) (turn : Type 0) → Tail terms s old mid refused drove turn → MayCome terms mid (End s) → InTurn terms mid (End s) → Went terms s old (End s ∷ mid) refused drove turn
tail_ends terms s old mid refused drove turn t comes in_turn =
    let same : (s == s) ≡ true = if_same s in
    record {
      legal = (comes, t.legal);
      extends = extends_on s old mid (End s ∷ mid) t.extends (extends_by s mid (End s) (inl refl));
      more = omega (arith, t.more);
      hands = λ r other. rw other (t.hands r);
      own = inl (rw same refl);
      refused_ends = λ so. rw same refl;
      closed_same = t.closed_same;
      driven = t.driven;
      failed = t.failed;
      told = t.told;
      left_is = t.left_is;
      one_row = t.one_row;
      in_turn = λ its d. (in_turn, t.in_turn its d);
    }

-- or goes on with the next statement
pub tail_goes : (terms : Terms) (s : ℕ) (old new : Past) (drove : List Entry) (turn : Type 0) → Tail terms s old new false drove turn → Went terms s old new false drove turn
tail_goes terms s old new drove turn t = record {
  legal = t.legal;
  extends = t.extends;
  more = t.more;
  hands = λ r other. t.hands r;
  own = inr (t.hands s);
  refused_ends = λ wrong. absurd (unrefused wrong);
  closed_same = t.closed_same;
  driven = t.driven;
  failed = t.failed;
  told = t.told;
  left_is = t.left_is;
  one_row = t.one_row;
  in_turn = t.in_turn;
}
