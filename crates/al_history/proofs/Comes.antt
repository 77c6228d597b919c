-- When an entry may come, by what its session is doing.
use Rattle.std.proofs.Common.{◌≡◌, ℕ, ◌<◌, List, [], ◌∷◌, length, refl, sym, ap, true, false, Bool, Option, Some, None, ◌∙◌, inl, inr, subst}
use Rattle.std.specs.Prelude.{◌⊎◌, IsSome, slice_get, option_map, option_and_then}
use Rattle.al_values.specs.declared.scalar.Value.{Value}
use Rattle.al_modes.specs.declared.level.Level.TheVariants as levels
use Rattle.al_statements.specs.declared.cause.Cause.{Cause}
use Rattle.al_history.specs.declared.entry.Entry.{Entry}
use Rattle.al_history.specs.declared.entry.Entry.TheVariants.{Give, Start, Wait, Lock, Look, Make, Add, Read, Alter, Done, Refuse, Commit, Abort, Cancel, End, Close}
use Rattle.al_statements.specs.declared.reply.Reply.{Reply}
use Rattle.al_history.specs.declared.entry.Want.TheVariants as wants
use Rattle.al_history.specs.declared.statement.Column.{Column}
use Rattle.al_history.specs.declared.statement.ScriptBlock.{ScriptBlock}
use Rattle.al_history.specs.declared.statement.Statement.{Statement}
use Rattle.al_history.specs.declared.statement.Statement.TheVariants as statements
use Rattle.al_history.specs.declared.statement.Terms.{Terms}
use Rattle.al_history.specs.Past.{Past}
use Rattle.al_history.specs.Hand.{NoBlock, hand, dones, refused, in_hand, statement_of, xact_of, implicit_of, if_no_block, session_of, look_of, acts_of, block_state, fault_of}
use Rattle.al_history.specs.Locks.{Claim, claim, held, grantable, is_settled, is_waiting, is_grant}
use Rattle.al_history.specs.Need.{has_place, need, first_lacking, lacking, name_taker, makers, first_open}
use Rattle.al_history.specs.Waits.{wanted_by, can_go_on}
use Rattle.al_history.specs.View.{latest}
use Rattle.al_history.specs.Cause.{first_of, block_cause, cause_at, cancel_cause, cause_of, text_cause}
use Rattle.al_history.specs.Tail.{owed, Follows}
use Rattle.al_history.specs.Rules.{starts, looked_at, Creates, Inserts, Selects, Alters, Answers, Rule, ActRule, HasNoMore}
use Rattle.al_history.specs.Legal.{Legal, MayCome, Unless, in_time, in_time_if_busy, comes_in_time}
use Rattle.al_history.proofs.Doings.{Doing, doing, IsXact}
use Rattle.al_history.proofs.Sole.{rule_alone}
use Rattle.std.proofs.lemmas.Bool.{or_right}

pub unless : (b : Bool) (P : Type 0) → P → Unless b P
unless true P p = tt
unless false P p = p

-- where nothing is owed, no step has just been cancelled
pub uncut : (terms : Terms) (past : Past) (s : ℕ) → owed terms past ≡ None → cancel_cause past s ≡ None
uncut terms [] s none = refl
uncut terms (Cancel r ∷ past) s none = absurd cc
uncut terms (e ∷ past) s none = refl

-- the cause that is judged, by what the session is doing
abbrev pub cause_in : Terms → Past → Doing → Option Cause
cause_in terms past d = first_of (text_cause (fault_of terms d.hand)) (option_and_then (λ statement. first_of (block_cause d.block statement) (option_and_then (λ x. cause_at terms past x statement d.acts d.look) d.xact)) (statement_of terms d.hand d.dones))

-- its step's text is a script of which no statement is left
pub record HasNoMoreIn (terms : Terms) (d : Doing) : Type 0 where
  pub is_script : fault_of terms d.hand ≡ None
  pub none_left : statement_of terms d.hand d.dones ≡ None

-- what is lacking, by what the session is doing
abbrev pub lacking_in : Terms → Past → ℕ → ℕ → Doing → Option Claim
lacking_in terms past s x d = option_and_then (λ statement. first_lacking (held past) (need s statement (latest terms past x))) (statement_of terms d.hand d.dones)

module _ (terms : Terms) (past : Past) (legal : Legal terms past) (settled : is_settled past ≡ true) where
  -- an entry may come that keeps its rule, is what is owed, and comes in time
  pub comes : (e : Entry) → Rule terms past e → Follows (owed terms past) e → comes_in_time terms past e ≡ true → MayCome terms past e
  comes e rule follows timely = record {
    timely = timely;
    rule = rule;
    settled = unless (is_grant past e) _ settled;
    follows = unless (is_grant past e) _ follows;
    alone = rule_alone terms past e legal rule (unless (is_grant past e) _ follows);
  }

module _ (terms : Terms) (past : Past) (s : ℕ) (d : Doing) (legal : Legal terms past) (is : doing past s ≡ d) (settled : is_settled past ≡ true) where
  pub in_hand_is : in_hand terms past s ≡ statement_of terms d.hand d.dones
  in_hand_is = ap (λ (e : Doing). statement_of terms e.hand e.dones) is

  pub cause_is : cause_of terms past s ≡ first_of (cancel_cause past s) (cause_in terms past d)
  cause_is = ap (λ (e : Doing). first_of (cancel_cause past s) (cause_in terms past e)) is

  pub cause_free : owed terms past ≡ None → cause_of terms past s ≡ cause_in terms past d
  cause_free none = cause_is ∙ rw (uncut terms past s none) refl

  pub goes : (block : ℕ) → d.hand ≡ Some block → d.wants ≡ None → can_go_on past s ≡ true
  goes block busy free =
      let hand_so : hand past s ≡ Some block = ap (λ (e : Doing). e.hand) is ∙ busy in
      let wants_so : wanted_by past s ≡ None = ap (λ (e : Doing). e.wants) is ∙ free in
      rw (hand_so, wants_so) refl

  -- ---- the session's own

  pub comes_give : (block : ℕ) → s < terms.scripts.sessions → option_map (λ (b : ScriptBlock). b.session) (slice_get terms.scripts.blocks block) ≡ Some s → d.closed ≡ false → d.hand ≡ None → owed terms past ≡ None → MayCome terms past (Give s block)
  comes_give block known of_session open_so idle none = comes terms past legal settled (Give s block) (record { known = known; of_session = of_session; not_closed = ap (λ (e : Doing). e.closed) is ∙ open_so; idle = ap (λ (e : Doing). e.hand) is ∙ idle }) (rw none tt) refl

  pub comes_start : (statement : Statement) → statement_of terms d.hand d.dones ≡ Some statement → starts d.block statement ≡ true → d.xact ≡ None → owed terms past ≡ None → can_go_on past s ≡ true → MayCome terms past (Start s levels.ReadCommitted)
  comes_start statement in_hand_so begins none_open none can =
      let block_so : block_state past s ≡ d.block = ap (λ (e : Doing). e.block) is in
      comes terms past legal settled (Start s levels.ReadCommitted) (record { statement = rw (in_hand_is, in_hand_so, block_so, begins) refl; none_open = ap (λ (e : Doing). e.xact) is ∙ none_open; read_committed = refl }) (rw none tt) (rw none can)

  pub comes_done : (reply : Reply) → Answers (statement_of terms d.hand d.dones) d.acts d.xact d.block reply → Follows (owed terms past) (Done s reply) → in_time (owed terms past) past s ≡ true → MayCome terms past (Done s reply)
  comes_done reply answers follows timely = comes terms past legal settled (Done s reply) (record { answers = subst (λ (e : Doing). Answers (statement_of terms e.hand e.dones) e.acts e.xact e.block reply) (sym is) answers }) follows timely

  pub comes_refuse : (cause : Cause) → cause_of terms past s ≡ Some cause → Follows (owed terms past) (Refuse s cause) → in_time (owed terms past) past s ≡ true → MayCome terms past (Refuse s cause)
  comes_refuse cause first_true follows timely = comes terms past legal settled (Refuse s cause) (record { first_true = first_true }) follows timely

  pub comes_cancel : (block : ℕ) → d.hand ≡ Some block → owed terms past ≡ None → MayCome terms past (Cancel s)
  comes_cancel block busy none =
      let hand_so : hand past s ≡ Some block = ap (λ (e : Doing). e.hand) is ∙ busy in
      comes terms past legal settled (Cancel s) (record { in_step = rw hand_so refl }) (rw none tt) refl

  pub comes_end : (block : ℕ) → d.hand ≡ Some block → HasNoMoreIn terms d ⊎ (d.refused ≡ true) → if_no_block d.block d.xact ≡ None → Follows (owed terms past) (End s) → in_time (owed terms past) past s ≡ true → MayCome terms past (End s)
  comes_end block busy over none_implicit follows timely =
      let hand_so : hand past s ≡ Some block = ap (λ (e : Doing). e.hand) is ∙ busy in
      let ended : HasNoMore terms past s ⊎ (refused past s ≡ true) = by_end over in
      comes terms past legal settled (End s) (record { in_step = rw hand_so refl; over = ended; none_implicit = ap (λ (e : Doing). if_no_block e.block e.xact) is ∙ none_implicit }) follows timely where
        by_end : HasNoMoreIn terms d ⊎ (d.refused ≡ true) → HasNoMore terms past s ⊎ (refused past s ≡ true)
        by_end (inl last) = inl (record { is_script = ap (λ (e : Doing). fault_of terms e.hand) is ∙ last.is_script; none_left = in_hand_is ∙ last.none_left })
        by_end (inr was) = inr (ap (λ (e : Doing). e.refused) is ∙ was)

  pub comes_close : s < terms.scripts.sessions → d.hand ≡ None → d.closed ≡ false → d.xact ≡ None → Follows (owed terms past) (Close s) → MayCome terms past (Close s)
  comes_close known idle open_so none_open follows = comes terms past legal settled (Close s) (record { known = known; idle = ap (λ (e : Doing). e.hand) is ∙ idle; not_closed = ap (λ (e : Doing). e.closed) is ∙ open_so; none_open = ap (λ (e : Doing). e.xact) is ∙ none_open }) follows refl

  -- ---- its transaction's

  module _ (x : ℕ) (by : IsXact past s x) where
    pub lacking_is : lacking terms past x ≡ lacking_in terms past s x d
    lacking_is = rw by.session (ap (λ (e : Doing). lacking_in terms past s x e) is)

    open_so : xact_of past (session_of past x) ≡ Some x
    open_so = rw by.session by.open_xact

    pub comes_lock : (c : Claim) → c.session ≡ s → grantable past c ≡ true → is_waiting past c ≡ false → lacking_in terms past s x d ≡ Some c → d.look ≡ None → cause_of terms past s ≡ None → owed terms past ≡ None → can_go_on past s ≡ true → MayCome terms past (Lock x c.table c.mode)
    comes_lock c own can_be unasked lacks before_look free none can =
        let is_claim : claim past x c.table c.mode ≡ c = rw (by.session, ← own) refl in
        let look_so : look_of past s ≡ None = ap (λ (e : Doing). e.look) is ∙ before_look in
        comes terms past legal settled (Lock x c.table c.mode) (record {
          open_xact = open_so;
          can_be = subst (λ (q : Claim). grantable past q ≡ true) (sym is_claim) can_be;
          asked = inr (record { not_waiting = subst (λ (q : Claim). is_waiting past q ≡ false) (sym is_claim) unasked; lacks = lacking_is ∙ lacks ∙ ap Some (sym is_claim); before_look = rw by.session look_so; not_refused = rw by.session free });
        }) (rw none tt) (or_right (is_grant past (Lock x c.table c.mode)) _ (rw (none, by.session) can))

    pub comes_wait : (c : Claim) (block : ℕ) → c.session ≡ s → grantable past c ≡ false → lacking_in terms past s x d ≡ Some c → d.look ≡ None → d.hand ≡ Some block → d.wants ≡ None → cause_of terms past s ≡ None → owed terms past ≡ None → MayCome terms past (Wait x (wants.Table c.table c.mode))
    comes_wait c block own cant_be lacks before_look busy unwaited free none =
        let is_claim : claim past x c.table c.mode ≡ c = rw (by.session, ← own) refl in
        let look_so : look_of past s ≡ None = ap (λ (e : Doing). e.look) is ∙ before_look in
        comes terms past legal settled (Wait x (wants.Table c.table c.mode)) (record {
          open_xact = open_so;
          in_step = rw by.session (goes block busy unwaited);
          waits_for = (rw by.session look_so, lacking_is ∙ lacks ∙ ap Some (sym is_claim), subst (λ (q : Claim). grantable past q ≡ false) (sym is_claim) cant_be);
          not_refused = rw by.session free;
        }) (rw none tt) (rw (none, by.session) (goes block busy unwaited))

    pub comes_wait_end : (y : ℕ) (statement : Statement) → can_go_on past s ≡ true → IsSome d.look → d.acts ≡ [] → statement_of terms d.hand d.dones ≡ Some statement → name_taker past x statement ≡ Some y → cause_of terms past s ≡ None → owed terms past ≡ None → MayCome terms past (Wait x (wants.Ends y))
    comes_wait_end y statement goes_on looked none_done in_hand_so taken free none =
        let look_so : IsSome (look_of past s) = subst (λ (e : Doing). IsSome e.look) (sym is) looked in
        let acts_so : acts_of past s ≡ [] = ap (λ (e : Doing). e.acts) is ∙ none_done in
        comes terms past legal settled (Wait x (wants.Ends y)) (record {
          open_xact = open_so;
          in_step = rw by.session goes_on;
          waits_for = (rw by.session look_so, rw (by.session, in_hand_is, in_hand_so) taken, rw by.session acts_so);
          not_refused = rw by.session free;
        }) (rw none tt) (rw (none, by.session) goes_on)

    pub comes_look : (statement : Statement) → statement_of terms d.hand d.dones ≡ Some statement → has_place statement ≡ true → d.look ≡ None → lacking_in terms past s x d ≡ None → cause_of terms past s ≡ None → owed terms past ≡ None → can_go_on past s ≡ true → MayCome terms past (Look x)
    comes_look statement in_hand_so placed before_look locked free none can =
        let look_so : look_of past s ≡ None = ap (λ (e : Doing). e.look) is ∙ before_look in
        comes terms past legal settled (Look x) (record {
          open_xact = open_so;
          statement = rw (by.session, in_hand_is, in_hand_so, placed) refl;
          first = rw by.session look_so;
          locked = lacking_is ∙ locked;
          not_refused = rw by.session free;
        }) (rw none tt) (rw (none, by.session) can)

    pub act_rule : IsSome d.look → d.acts ≡ [] → lacking_in terms past s x d ≡ None → cause_of terms past s ≡ None → ActRule terms past x
    act_rule looked none_done locked free =
        let look_so : IsSome (look_of past s) = subst (λ (e : Doing). IsSome e.look) (sym is) looked in
        let acts_so : acts_of past s ≡ [] = ap (λ (e : Doing). e.acts) is ∙ none_done in
        record { open_xact = open_so; looked = rw by.session look_so; first = rw by.session acts_so; locked = lacking_is ∙ locked; not_refused = rw by.session free }

    pub comes_make : (name : List ℕ) (shape : List Column) → ActRule terms past x → Creates (statement_of terms d.hand d.dones) name shape → first_open past x (makers past name) ≡ None → owed terms past ≡ None → can_go_on past s ≡ true → MayCome terms past (Make x (length past) name shape)
    comes_make name shape act creates free none can = comes terms past legal settled (Make x (length past) name shape) (record { act = act; free = free; creates = rw (by.session, in_hand_is) creates; number = refl }) (rw none tt) (rw (none, by.session) can)

    pub comes_add : (table : ℕ) (row : List Value) → ActRule terms past x → Inserts (statement_of terms d.hand d.dones) (latest terms past x) table row → owed terms past ≡ None → can_go_on past s ≡ true → MayCome terms past (Add x table row)
    comes_add table row act inserts none can = comes terms past legal settled (Add x table row) (record { act = act; inserts = rw (by.session, in_hand_is) inserts }) (rw none tt) (rw (none, by.session) can)

    pub comes_read : (names : List (List ℕ)) (rows : List (List Value)) → ActRule terms past x → Selects (statement_of terms d.hand d.dones) (looked_at terms d.look x) names rows → owed terms past ≡ None → can_go_on past s ≡ true → MayCome terms past (Read x names rows)
    comes_read names rows act selects none can =
        let look_so : look_of past s ≡ d.look = ap (λ (e : Doing). e.look) is in
        comes terms past legal settled (Read x names rows) (record { act = act; selects = rw (by.session, in_hand_is, look_so) selects }) (rw none tt) (rw (none, by.session) can)

    pub comes_alter : (table : ℕ) → ActRule terms past x → Alters (statement_of terms d.hand d.dones) (latest terms past x) table → owed terms past ≡ None → can_go_on past s ≡ true → MayCome terms past (Alter x table d.dones [])
    comes_alter table act alters none can =
        let dones_so : dones past s ≡ d.dones = ap (λ (e : Doing). e.dones) is in
        comes terms past legal settled (Alter x table d.dones []) (record { act = act; alters = rw (by.session, in_hand_is) alters; number = rw by.session (sym dones_so); none_rewritten = refl }) (rw none tt) (rw (none, by.session) can)

    pub comes_commit : (block : ℕ) → d.hand ≡ Some block → d.refused ≡ false → ((statement_of terms d.hand d.dones ≡ None) × (d.block ≡ NoBlock)) ⊎ (statement_of terms d.hand d.dones ≡ Some statements.Commit) → Follows (owed terms past) (Commit x) → in_time (owed terms past) past s ≡ true → MayCome terms past (Commit x)
    comes_commit block busy unrefused ends follows timely =
        let hand_so : hand past s ≡ Some block = ap (λ (e : Doing). e.hand) is ∙ busy in
        let refused_so : refused past s ≡ false = ap (λ (e : Doing). e.refused) is ∙ unrefused in
        comes terms past legal settled (Commit x) (record { open_xact = open_so; in_step = rw (by.session, hand_so) refl; none_refused = rw by.session refused_so; ends = by_end ends }) follows (rw by.session timely) where
          by_end : ((statement_of terms d.hand d.dones ≡ None) × (d.block ≡ NoBlock)) ⊎ (statement_of terms d.hand d.dones ≡ Some statements.Commit) → ((in_hand terms past (session_of past x) ≡ None) × (implicit_of past (session_of past x) ≡ Some x)) ⊎ (in_hand terms past (session_of past x) ≡ Some statements.Commit)
          by_end (inl last) =
              let block_so : block_state past s ≡ NoBlock = ap (λ (e : Doing). e.block) is ∙ last.1 in
              inl (rw (by.session, in_hand_is) last.0, rw (by.session, block_so, by.open_xact) refl)
          by_end (inr commit) = inr (rw (by.session, in_hand_is) commit)

    pub comes_abort : ((d.refused ≡ true) ⊎ (d.hand ≡ None)) ⊎ (statement_of terms d.hand d.dones ≡ Some statements.Rollback) → Follows (owed terms past) (Abort x) → in_time_if_busy d.hand (owed terms past) past s ≡ true → MayCome terms past (Abort x)
    comes_abort ends follows timely = comes terms past legal settled (Abort x) (record { open_xact = open_so; refused_or_idle = by_end ends }) follows (rw by.session (subst (λ (e : Doing). in_time_if_busy e.hand (owed terms past) past s ≡ true) (sym is) timely)) where
      by_end : ((d.refused ≡ true) ⊎ (d.hand ≡ None)) ⊎ (statement_of terms d.hand d.dones ≡ Some statements.Rollback) → ((refused past (session_of past x) ≡ true) ⊎ (hand past (session_of past x) ≡ None)) ⊎ (in_hand terms past (session_of past x) ≡ Some statements.Rollback)
      by_end (inl (inl was)) = let so : refused past s ≡ true = ap (λ (e : Doing). e.refused) is ∙ was in inl (inl (rw by.session so))
      by_end (inl (inr idle)) = let so : hand past s ≡ None = ap (λ (e : Doing). e.hand) is ∙ idle in inl (inr (rw by.session so))
      by_end (inr rollback) = inr (rw (by.session, in_hand_is) rollback)
