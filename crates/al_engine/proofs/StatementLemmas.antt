-- A statement of an open transaction goes on: what is known of it between two calls, after its Look and after its act.
use Rattle.std.proofs.Common.{◌≡◌, ℕ, ◌≤◌, [], ◌∷◌, length, refl, sym, ap, true, false, Bool, Option, Some, None, arith, ◌∙◌, slice_get, subst}
use Rattle.std.specs.Prelude.{◌&&◌, not, IsSome, is_some, option_and_then}
use Rattle.al_statements.specs.declared.cause.Cause.{Cause}
use Rattle.al_history.specs.declared.entry.Entry.{Entry}
use Rattle.al_history.specs.declared.entry.Entry.TheVariants.{Look}
use Rattle.al_statements.specs.declared.reply.Reply.{Reply}
use Rattle.al_spec.specs.declared.spec.Spec.{Spec}
use Rattle.al_history.specs.declared.statement.Statement.{Statement}
use Rattle.al_history.specs.declared.statement.Terms.{Terms}
use Rattle.al_history.specs.Past.{Past, past_of}
use Rattle.al_history.specs.Fate.{Open, fate}
use Rattle.al_history.specs.Hand.{BlockState, NoBlock, OpenBlock, FailedBlock, hand, statement_of, session_of, block_state, block_after}
use Rattle.al_history.specs.Locks.{held, waiting, is_settled}
use Rattle.al_history.specs.Made.{row_entries}
use Rattle.al_history.specs.Need.{has_place, need, first_lacking}
use Rattle.al_history.specs.Waits.{is_blocked, can_go_on}
use Rattle.al_history.specs.Weight.{weight}
use Rattle.al_history.specs.View.{latest}
use Rattle.al_history.specs.Cause.{block_cause, over, limit_cause, cause_at, cause_of}
use Rattle.al_history.specs.Store.{store, shown}
use Rattle.al_history.specs.Tail.{owed}
use Rattle.al_history.specs.Rules.{Answers, ActRule}
use Rattle.al_history.specs.Legal.{Legal, MayCome}
use Rattle.al_history.specs.Whole.{driver, failed_setup, or_else, of_setup, IsLeast, IsTurn}
use Rattle.al_history.proofs.Comes.{cause_free, lacking_in, comes_look, act_rule, goes}
use Rattle.al_history.proofs.Doings.{Doing, doing, acted, moved, IsXact, IsBy, own_moves}
use Rattle.al_history.proofs.Turns.{Stage, Went, stage_begins, stage_on, step_look, extends_on}
use Rattle.al_history.proofs.Xacts.{xact_is, turn}
use Rattle.al_engine.specs.declared.sessions.Session.{Session}
use Rattle.al_engine.specs.Listed.{AreControlled, Listed}
use Rattle.al_engine.specs.Kept.{listed_in, Parts, IsAmid, IsClear, IsKept, CanBeDone, CanBeRefused, over_by}
use Rattle.al_engine.specs.LockTie.{asks, IsTied}
use Rattle.al_engine.specs.Sessions.{IsMirror, IsUnderway, IsOutlined, MakesTable, state_of, IsCounted}
use Rattle.al_engine.specs.Stored.{all_kept, seen_by, TellsCommitted}
use Rattle.al_engine.proofs.FailedBlocks.{open_unfailed}
use Rattle.al_engine.proofs.StoredLemmas.{latest_kept}
use Rattle.al_engine.proofs.Wanted.{free_asks}
use Rattle.al_history.proofs.Implicit.{unfaulted}

in_step_by : (terms : Terms) (statement : Statement) (o : Option ℕ) (n : ℕ) → statement_of terms o n ≡ Some statement → IsSome o
in_step_by terms statement None n is = absurd cc
in_step_by terms statement (Some block) n is = refl

-- ---- what is known of it

-- what a session is doing whose statement in hand has done nothing yet
abbrev pub at_work : Session → ℕ → Option Past → Doing
at_work t x look = record { hand = t.hand; dones = t.done; refused = false; xact = Some x; look = look; acts = []; block = state_of t.block; closed = t.closed; wants = t.wants }

-- the statement in hand of an open transaction, with this Look, has done nothing yet, and nothing is owed
pub record Works (terms : Terms) (past : Past) (s : ℕ) (t : Session) (x : ℕ) (statement : Statement) (look : Option Past) : Type 0 where
  pub legal : Legal terms past
  pub settled : is_settled past ≡ true
  pub owed_is : owed terms past ≡ None
  pub doing_is : doing past s ≡ at_work t x look
  pub by : IsXact past s x
  pub in_xact : t.xact ≡ Some x
  pub statement_is : statement_of terms t.hand t.done ≡ Some statement
  pub counted : (block : ℕ) → t.hand ≡ Some block → IsCounted terms block t.done t.left
  pub unfailed : block_cause (state_of t.block) statement ≡ None

same_doing : (a b : Doing) → a.hand ≡ b.hand → a.dones ≡ b.dones → a.refused ≡ b.refused → a.xact ≡ b.xact → a.look ≡ b.look → a.acts ≡ b.acts → a.block ≡ b.block → a.closed ≡ b.closed → a.wants ≡ b.wants → a ≡ b
same_doing a b hand_is dones_is refused_is xact_is look_is acts_is block_is closed_is wants_is = rw (hand_is, dones_is, refused_is, xact_is, look_is, acts_is, block_is, closed_is, wants_is) refl

block_clear : (past : Past) (s : ℕ) (state : BlockState) (statement : Statement) → block_state past s ≡ state → ((r : ℕ) → block_state past s ≡ FailedBlock r → ⊥) → block_cause state statement ≡ None
block_clear past s NoBlock statement is never = refl
block_clear past s OpenBlock statement is never = refl
block_clear past s (FailedBlock r) statement is never = absurd (never r is)

-- between two calls
module _ (terms : Terms) (p : Parts) (s : ℕ) (t : Session) (x : ℕ) (statement : Statement) (kept : IsKept terms p) (state : slice_get p.sessions s ≡ Some t) (in_xact : t.xact ≡ Some x) (statement_is : statement_of terms t.hand t.done ≡ Some statement) where
  mirror : IsMirror terms (doing (past_of p.journal) s) t
  mirror = kept.mirrors s t state

  pub works_for : (o : Option ℕ) → t.hand ≡ o → Works terms (past_of p.journal) s t x statement (doing (past_of p.journal) s).look
  works_for None idle = absurd (let wrong : ◌≡◌ {A = Option Statement} None (Some statement) = rw idle at statement_is in cc)
  works_for (Some block) busy =
      let u : IsUnderway terms (doing (past_of p.journal) s) block t.done t.left t.looked = mirror.underway block busy in
      let o : IsOutlined (doing (past_of p.journal) s) t = mirror.outline in
      let own = xact_is terms (past_of p.journal) s x kept.sound.legal (o.xact_is ∙ in_xact) in
      record {
        legal = kept.sound.legal;
        settled = kept.clear.settled;
        owed_is = kept.clear.owed_is;
        doing_is = same_doing (doing (past_of p.journal) s) (at_work t x (doing (past_of p.journal) s).look) o.hand_is u.dones_is u.none_refused (o.xact_is ∙ in_xact) refl u.no_acts o.block_is o.closed_is o.wants_is;
        by = record { session = own.own; open_xact = o.xact_is ∙ in_xact };
        in_xact = in_xact;
        statement_is = statement_is;
        counted = λ b is. counted_by b is u.counted;
        unfailed = block_clear (past_of p.journal) s (state_of t.block) statement o.block_is (λ r failed. open_unfailed terms (past_of p.journal) s x r kept.sound.legal kept.clear.owed_is (o.xact_is ∙ in_xact) failed);
      } where
        counted_by : (b : ℕ) → t.hand ≡ Some b → IsCounted terms block t.done t.left → IsCounted terms b t.done t.left
        counted_by b is counted = let same : block ≡ b = cc in rw (← same) counted

  pub works : Works terms (past_of p.journal) s t x statement (doing (past_of p.journal) s).look
  works = works_for t.hand refl

  look_for : (o : Option ℕ) → t.hand ≡ o → is_some (doing (past_of p.journal) s).look ≡ t.looked
  look_for None idle = absurd (let wrong : ◌≡◌ {A = Option Statement} None (Some statement) = rw idle at statement_is in cc)
  look_for (Some block) busy = (mirror.underway block busy).look_is

  only_for : (o : Option ℕ) → t.hand ≡ o → t.looked ≡ true → MakesTable (Some statement)
  only_for None idle looked = absurd (let wrong : ◌≡◌ {A = Option Statement} None (Some statement) = rw idle at statement_is in cc)
  only_for (Some block) busy looked = subst (λ (o : Option Statement). MakesTable o) (ap (λ (h : Option ℕ). statement_of terms h t.done) (sym busy) ∙ statement_is) ((mirror.underway block busy).only_creates looked)

  -- it has looked just where the session's record says so
  pub look_is : is_some (doing (past_of p.journal) s).look ≡ t.looked
  look_is = look_for t.hand refl

  -- a CREATE TABLE alone has
  pub unlooked : (MakesTable (Some statement) → ⊥) → t.looked ≡ false
  unlooked other = by_looked t.looked (only_for t.hand refl) where
    by_looked : (b : Bool) → (b ≡ true → MakesTable (Some statement)) → b ≡ false
    by_looked true creates = absurd (other (creates refl))
    by_looked false creates = refl

  pub works_first : t.looked ≡ false → Works terms (past_of p.journal) s t x statement None
  works_first before = by_look (doing (past_of p.journal) s).look (look_is ∙ before) works where
    by_look : (o : Option Past) → is_some o ≡ false → Works terms (past_of p.journal) s t x statement o → Works terms (past_of p.journal) s t x statement None
    by_look None none w = w
    by_look (Some look) none w = absurd cc

  -- its transaction is open
  pub undecided : fate (past_of p.journal) x ≡ Open
  undecided = (xact_is terms (past_of p.journal) s x kept.sound.legal works.by.open_xact).undecided

  -- what it finds is what is kept of the tables
  pub latest_is : latest terms (past_of p.journal) x ≡ shown (seen_by (Some x) p.committed) (all_kept p.tables)
  latest_is = latest_kept terms (past_of p.journal) p.tables x p.committed kept.sound.legal undecided kept.sound.stored kept.sound.tells

  -- it has no request that waits
  pub asks_none : can_go_on (past_of p.journal) s ≡ true → asks s (waiting (past_of p.journal)) ≡ false
  asks_none goes_on = free_asks (past_of p.journal) s kept.wants_so kept.clear.settled (unblocked (is_some (hand (past_of p.journal) s)) (is_blocked (past_of p.journal) s) goes_on) where
    unblocked : (a b : Bool) → a && not b ≡ true → b ≡ false
    unblocked true true goes_on = absurd cc
    unblocked true false goes_on = refl
    unblocked false b goes_on = absurd cc

-- ---- by what it is doing

module _ (terms : Terms) (past : Past) (s : ℕ) (t : Session) (x : ℕ) (statement : Statement) (look : Option Past) (w : Works terms past s t x statement look) where
  -- the cause for which it has to be refused
  pub cause_so : cause_of terms past s ≡ cause_at terms past x statement [] look
  cause_so = cause_free terms past s (at_work t x look) w.legal w.doing_is w.settled w.owed_is ∙ rw (unfaulted terms t.hand t.done statement w.statement_is, w.statement_is, w.unfailed) refl

  -- the lock that it lacks
  pub lacking_so : lacking_in terms past s x (at_work t x look) ≡ first_lacking (held past) (need s statement (latest terms past x))
  lacking_so = rw w.statement_is refl

  -- it has to be refused
  pub can_be_refused : can_go_on past s ≡ true → (cause : Cause) → cause_at terms past x statement [] look ≡ Some cause → CanBeRefused terms past s t cause
  can_be_refused can cause is = record {
    hand_is = ap (λ (d : Doing). d.hand) w.doing_is;
    xact_is = ap (λ (d : Doing). d.xact) w.doing_is ∙ sym w.in_xact;
    block_is = ap (λ (d : Doing). d.block) w.doing_is;
    closed_is = ap (λ (d : Doing). d.closed) w.doing_is;
    in_step = in_step_by terms statement t.hand t.done w.statement_is;
    first_true = cause_so ∙ is;
    settled = w.settled;
    follows = rw w.owed_is tt;
    timely = rw w.owed_is can;
  }

  -- nobody blocks it, so its next entry may weigh what is left
  pub limit_so : is_blocked past s ≡ false → (next : Option ℕ) → limit_cause terms past x next ≡ option_and_then (over terms past) next
  limit_so free next = let here : is_blocked past (session_of past x) ≡ false = rw w.by.session free in rw here refl

  -- its next entry moves it
  pub act_may : IsSome look → first_lacking (held past) (need s statement (latest terms past x)) ≡ None → cause_at terms past x statement [] look ≡ None → ActRule terms past x
  act_may looked locked free = act_rule terms past s (at_work t x look) w.legal w.doing_is w.settled x w.by looked refl (lacking_so ∙ locked) (cause_so ∙ free)

  -- it can go on after an entry that ends nothing and asks for nothing
  pub goes_after : (e : Entry) → IsBy past s e → (moved past e (at_work t x look)).hand ≡ t.hand → (moved past e (at_work t x look)).wants ≡ None → is_settled (e ∷ past) ≡ true → MayCome terms past e → can_go_on (e ∷ past) s ≡ true
  goes_after e by hand_same free settled comes = by_hand t.hand w.statement_is refl where
    by_hand : (o : Option ℕ) → statement_of terms o t.done ≡ Some statement → t.hand ≡ o → can_go_on (e ∷ past) s ≡ true
    by_hand None is busy = absurd cc
    by_hand (Some block) is busy = goes terms (e ∷ past) s (moved past e (at_work t x look)) (comes, w.legal) (own_moves past s e by ∙ ap (moved past e) w.doing_is) settled block (hand_same ∙ busy) free

-- what fits is no cause, and what doesn't is one
pub fits_by : (terms : Terms) (past : Past) (next : ℕ) (cause : Option Cause) → cause ≡ over_by terms.weight (weight past) next → over terms past next ≡ cause
fits_by terms past next cause is = sym is

-- the Look
module _ (terms : Terms) (past : Past) (s : ℕ) (t : Session) (x : ℕ) (statement : Statement) (w : Works terms past s t x statement None) where
  pub look_may : has_place statement ≡ true → first_lacking (held past) (need s statement (latest terms past x)) ≡ None → cause_at terms past x statement [] None ≡ None → can_go_on past s ≡ true → MayCome terms past (Look x)
  look_may placed locked free can = comes_look terms past s (at_work t x None) w.legal w.doing_is w.settled x w.by statement w.statement_is placed refl (lacking_so terms past s t x statement None w ∙ locked) (cause_so terms past s t x statement None w ∙ free) w.owed_is can

  pub looks : MayCome terms past (Look x) → Works terms (Look x ∷ past) s (record t { wants = None }) x statement (Some past)
  looks comes = record {
    legal = (comes, w.legal);
    settled = w.settled;
    owed_is = refl;
    doing_is = own_moves past s (Look x) w.by ∙ ap (moved past (Look x)) w.doing_is;
    by = record { session = w.by.session; open_xact = w.by.open_xact };
    in_xact = w.in_xact;
    statement_is = w.statement_is;
    counted = w.counted;
    unfailed = w.unfailed;
  }

  pub stage_looks : MayCome terms past (Look x) → Stage terms s past (Look x ∷ past) 0
  stage_looks comes = stage_on terms s past past 0 0 (Look x) (stage_begins terms s past w.legal w.settled w.owed_is) (step_look x) w.by comes w.settled refl (goes_after terms past s t x statement None w (Look x) w.by refl refl w.settled comes) (omega arith)

-- the act
module _ (terms : Terms) (past : Past) (s : ℕ) (t : Session) (x : ℕ) (statement : Statement) (look : Option Past) (w : Works terms past s t x statement look) (e : Entry) (by : IsBy past s e) (acts : (d : Doing) → moved past e d ≡ acted past d) where
  moves_so : doing (e ∷ past) s ≡ acted past (at_work t x look)
  moves_so = own_moves past s e by ∙ (acts (doing past s) ∙ ap (acted past) w.doing_is)

  pub acted_goes : is_settled (e ∷ past) ≡ true → MayCome terms past e → can_go_on (e ∷ past) s ≡ true
  acted_goes settled comes = goes_after terms past s t x statement look w e by (ap (λ (d : Doing). d.hand) (acts (at_work t x look))) (ap (λ (d : Doing). d.wants) (acts (at_work t x look))) settled comes

  -- it can be done then
  pub can_be_done : can_go_on (e ∷ past) s ≡ true → (reply : Reply) → Answers (Some statement) (length past ∷ []) (Some x) (state_of t.block) reply → block_after reply (state_of t.block) ≡ state_of t.block → CanBeDone terms (e ∷ past) s t reply
  can_be_done can reply answers keeps = record {
    outline = record {
      hand_is = ap (λ (d : Doing). d.hand) moves_so;
      xact_is = ap (λ (d : Doing). d.xact) moves_so ∙ sym w.in_xact;
      block_is = ap (λ (d : Doing). d.block) moves_so;
      closed_is = ap (λ (d : Doing). d.closed) moves_so;
      wants_is = ap (λ (d : Doing). d.wants) moves_so;
    };
    in_step = in_step_by terms statement t.hand t.done w.statement_is;
    in_xact = rw w.in_xact refl;
    dones_is = ap (λ (d : Doing). d.dones) moves_so;
    counted = w.counted;
    none_refused = ap (λ (d : Doing). d.refused) moves_so;
    answers = rw (w.statement_is, w.in_xact, acts_so) answers;
    keeps_block = keeps;
    goes = can;
  } where
    acts_so : (doing (e ∷ past) s).acts ≡ length past ∷ []
    acts_so = ap (λ (d : Doing). d.acts) moves_so

-- ---- in the middle of its turn

-- its entries have left all parts but the journal and the tables as they were, and what was reserved is there still
pub record StaysBut (p q : Parts) : Type 0 where
  pub same : listed_in q ≡ listed_in p
  pub locks : q.locks ≡ p.locks
  pub committed : q.committed ≡ p.committed
  pub room : p.journal.room ≤ q.journal.room
  pub held_same : held (past_of q.journal) ≡ held (past_of p.journal)
  pub waiting_same : waiting (past_of q.journal) ≡ waiting (past_of p.journal)
  pub weighed : q.weight ≡ weight (past_of q.journal)

pub stays : (p q : Parts) (past : Past) → past_of q.journal ≡ past → listed_in q ≡ listed_in p → q.locks ≡ p.locks → q.committed ≡ p.committed → p.journal.room ≤ q.journal.room → held past ≡ held (past_of p.journal) → waiting past ≡ waiting (past_of p.journal) → q.weight ≡ weight past → StaysBut p q
stays p q past is sessions locks committed room held_same waiting_same weighed = record { same = sessions; locks = locks; committed = committed; room = room; held_same = rw is held_same; waiting_same = rw is waiting_same; weighed = rw is weighed }

module _ (terms : Terms) (p q : Parts) (s rows : ℕ) (kept : IsKept terms p) (st : Stage terms s (past_of p.journal) (past_of q.journal) rows) (still : StaysBut p q) where
  tells_still : TellsCommitted (past_of q.journal) q.committed
  tells_still y = rw (still.committed, st.fates y) (kept.sound.tells y)

  sessions_still : q.sessions ≡ p.sessions
  sessions_still = ap (λ (l : Listed). l.list) still.same

  tied_still : IsTied (past_of q.journal) q.locks.locks
  tied_still = rw still.locks (record { waits = rw still.waiting_same kept.sound.tied.waits; holds = λ test. rw still.held_same (kept.sound.tied.holds test); apart = rw still.waiting_same kept.sound.tied.apart })

  pub amid_after : all_kept q.tables ≡ store terms (past_of q.journal) → IsAmid terms q s 0
  amid_after stored = record {
    sound = record {
      legal = st.legal;
      count = rw sessions_still kept.sound.count;
      controlled = subst (λ (l : Listed). AreControlled terms l) (sym still.same) kept.sound.controlled;
      beyond = λ r le. st.hands r ∙ kept.sound.beyond r (rw sessions_still at le);
      stored = stored;
      tells = tells_still;
      marked = λ r y u there own. rw still.committed (kept.sound.marked r y u (rw sessions_still at there) own);
      table_count = rw still.locks kept.sound.table_count;
      tied = tied_still;
      queues = rw still.locks kept.sound.queues;
      weighed = still.weighed;
      reserved = rw (sessions_still, still.locks) (omega (arith, kept.sound.reserved, still.room));
    };
    others_want = λ c there other. ap (λ (d : Doing). d.wants) (st.others c.session (turn c.session s other)) ∙ kept.wants_so c (rw still.waiting_same at there);
    others = λ r u other there. rw (st.others r other) (kept.mirrors r u (rw sessions_still at there));
  }

  pub clear_after : IsClear terms (past_of q.journal)
  clear_after = record { owed_is = st.owed_is; settled = st.settled }

-- ---- what the turn did

module _ (terms : Terms) (s : ℕ) (old mid new : Past) where
  -- a stage, and then the statement was done
  pub done_went : (rows : ℕ) → Stage terms s old mid rows → rows ≤ 1 → length old ≤ length mid → row_entries new ≡ row_entries mid → Went terms s mid new false (driver mid) (IsLeast mid s) → Went terms s old new false (driver old) (IsLeast old s)
  done_went rows st few more same went = record {
    legal = went.legal;
    extends = extends_on s old mid new st.extends went.extends;
    more = omega (arith, more, went.more);
    hands = λ r other. went.hands r other ∙ st.hands r;
    own = rw (st.hands s) at went.own;
    refused_ends = went.refused_ends;
    closed_same = λ r. went.closed_same r ∙ st.closed_same r;
    driven = went.driven ∙ st.driven;
    failed = λ spec. went.failed spec ∙ st.failed spec;
    told = λ so. went.told (st.told s ∙ so);
    left_is = λ spec steps. went.left_is spec steps ∙ st.left_is spec steps;
    one_row = omega (arith, same, st.rows_is, few);
    in_turn = λ least d. went.in_turn (st.least least) (st.in_turn least d);
  }

  -- a stage without a row, and then it was refused
  pub refused_went : Stage terms s old mid 0 → length old ≤ length mid → Went terms s mid new true (driver mid) (IsTurn (owed terms mid) mid s) → Went terms s old new true (driver old) (IsLeast old s)
  refused_went st more went = record {
    legal = went.legal;
    extends = extends_on s old mid new st.extends went.extends;
    more = omega (arith, more, went.more);
    hands = λ r other. went.hands r other ∙ st.hands r;
    own = rw (st.hands s) at went.own;
    refused_ends = went.refused_ends;
    closed_same = λ r. went.closed_same r ∙ st.closed_same r;
    driven = went.driven ∙ st.driven;
    failed = λ spec. went.failed spec ∙ failed_so spec;
    told = λ so. went.told (st.told s ∙ so);
    left_is = λ spec steps. went.left_is spec steps ∙ rw (st.left_is spec steps, st.hands s) refl;
    one_row = omega (arith, st.rows_is, went.one_row);
    in_turn = λ least d. went.in_turn (rw st.owed_is (st.least least)) (st.in_turn least d);
  } where
    failed_so : (spec : Spec) → or_else (failed_setup spec mid) (of_setup spec (hand mid s)) ≡ or_else (failed_setup spec old) (of_setup spec (hand old s))
    failed_so spec = rw (st.failed spec, st.hands s) refl
