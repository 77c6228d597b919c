-- A turn that begins or ends a transaction: what is kept then, and what it did.
use Rattle.std.proofs.Common.{◌≡◌, ℕ, zero, suc, ◌+◌, ◌<◌, ◌≤◌, ◌-◌, List, [], ◌∷◌, ◌++◌, length, refl, ap, true, false, Bool, Option, Some, None, arith, ◌∙◌, inl, inr, slice_get, slice_set, replicate, option_map, append_assoc, cond, sym}
use Rattle.std.specs.Prelude.{◌==◌, ◌&&◌, ◌⊎◌, not, is_some, IsSome, option_and_then, Result, Ok, Err}
use Rattle.std.proofs.lemmas.Bool.{ne_eqb}
use Rattle.std.proofs.lemmas.List.{append-nil, length-append, length-replicate}
use Rattle.std.proofs.lemmas.Option.{slice_get_within}
use Rattle.al_modes.specs.declared.level.Level.TheVariants as levels
use Rattle.al_history.specs.declared.entry.Entry.{Entry}
use Rattle.al_history.specs.declared.entry.Entry.TheVariants.{Start, Give, End}
use Rattle.al_history.specs.declared.statement.Terms.{Terms}
use Rattle.al_statements.specs.declared.fault.SqlFault.{SqlFault}
use Rattle.al_history.specs.declared.statement.ScriptBlock.{ScriptBlock}
use Rattle.al_history.specs.declared.statement.Statement.{Statement}
use Rattle.al_history.specs.Past.{Past, past_of}
use Rattle.al_history.specs.Hand.{hand, statement_of, BlockState, statement_in}
use Rattle.al_history.specs.Locks.{waiting}
use Rattle.al_history.specs.Waits.{is_blocked, can_go_on}
use Rattle.al_history.specs.Rules.{starts}
use Rattle.al_history.specs.Legal.{MayCome, Legal}
use Rattle.al_history.specs.Whole.{driver, IsLeast}
use Rattle.al_history.proofs.Doings.{doing, moved, own_moves, others_stay}
use Rattle.al_history.proofs.Comes.{comes, goes}
use Rattle.al_history.proofs.Turns.{Went, stage_begins, stage_on, stage_went, step_start}
use Rattle.al_engine.specs.declared.sessions.Session.{Session}
use Rattle.al_engine.specs.LockTie.{asks}
use Rattle.al_engine.specs.Sessions.{IsUnderway, IsOutlined, IsMirror, state_of, light_of, light, IsCounted, length_in, length_at, script_length}
use Rattle.al_engine.specs.Stored.{TellsCommitted}
use Rattle.al_engine.specs.Listed.{KeepsControls}
use Rattle.al_engine.specs.Kept.{listed_in, Parts, IsSound, IsKept}
use Rattle.al_engine.proofs.SessionLemmas.{light_at, light_set, got_set, length_set}
use Rattle.al_engine.proofs.StoredLemmas.{tells_push}
use Rattle.al_engine.proofs.Wanted.{free_asks, others_still, wants_all}

-- ---- blocks

slice_get_beyond : {A : Type 0} (xs : List A) (n : ℕ) → length xs ≤ n → slice_get xs n ≡ None
slice_get_beyond [] n le = refl
slice_get_beyond (x ∷ xs) zero le = absurd (omega arith)
slice_get_beyond (x ∷ xs) (suc n) le = slice_get_beyond xs n (omega arith)

slice_get_some : {A : Type 0} (xs : List A) (n : ℕ) → n < length xs → IsSome (slice_get xs n)
slice_get_some [] n lt = absurd (omega arith)
slice_get_some (x ∷ xs) zero lt = refl
slice_get_some (x ∷ xs) (suc n) lt = slice_get_some xs n (omega arith)

-- a statement that is there is among those of its script
within_in : (script : Result (List Statement) SqlFault) (n : ℕ) (statement : Statement) → statement_in script n ≡ Some statement → n < length_in script
within_in (Ok script) n statement is = slice_get_within script n statement is
within_in (Err fault) n statement is = absurd cc

pub statement_within : (terms : Terms) (block n : ℕ) (statement : Statement) → statement_of terms (Some block) n ≡ Some statement → n < script_length terms block
statement_within terms block n statement is = by_block (slice_get terms.scripts.blocks block) is where
  by_block : (o : Option ScriptBlock) → option_and_then (λ (b : ScriptBlock). statement_in b.script n) o ≡ Some statement → n < length_at o
  by_block None is = absurd cc
  by_block (Some b) is = within_in b.script n statement is

-- past its end there is none
beyond_in : (script : Result (List Statement) SqlFault) (n : ℕ) → length_in script ≤ n → statement_in script n ≡ None
beyond_in (Ok script) n le = slice_get_beyond script n le
beyond_in (Err fault) n le = refl

pub statement_beyond : (terms : Terms) (block n : ℕ) → script_length terms block ≤ n → statement_of terms (Some block) n ≡ None
statement_beyond terms block n le = by_block (slice_get terms.scripts.blocks block) le where
  by_block : (o : Option ScriptBlock) → length_at o ≤ n → option_and_then (λ (b : ScriptBlock). statement_in b.script n) o ≡ None
  by_block None le = refl
  by_block (Some b) le = beyond_in b.script n le

-- before it there is one
some_in : (script : Result (List Statement) SqlFault) (n : ℕ) → n < length_in script → IsSome (statement_in script n)
some_in (Ok script) n lt = slice_get_some script n lt
some_in (Err fault) n lt = absurd (omega arith)

pub statement_some : (terms : Terms) (block n : ℕ) → n < script_length terms block → IsSome (statement_of terms (Some block) n)
statement_some terms block n lt = by_block (slice_get terms.scripts.blocks block) lt where
  by_block : (o : Option ScriptBlock) → n < length_at o → IsSome (option_and_then (λ (b : ScriptBlock). statement_in b.script n) o)
  by_block None lt = absurd (omega arith)
  by_block (Some b) lt = some_in b.script n lt

-- a block that was given is there
pub given_there : (terms : Terms) (past : Past) (s block : ℕ) → Legal terms past → hand past s ≡ Some block → IsSome (slice_get terms.scripts.blocks block)
given_there terms [] s block legal is = absurd cc
given_there terms (Give r given ∷ past) s block legal is = by_test (r == s) is (λ h. given_there terms past s block legal.1 h) where
  known : (o : Option ScriptBlock) → option_map (λ (b : ScriptBlock). b.session) o ≡ Some r → IsSome o
  known None e = absurd cc
  known (Some b) e = refl

  by_test : (b : Bool) → cond b (Some given) (hand past s) ≡ Some block → (hand past s ≡ Some block → IsSome (slice_get terms.scripts.blocks block)) → IsSome (slice_get terms.scripts.blocks block)
  by_test true is more = let same : given ≡ block = cc in rw (← same) (known (slice_get terms.scripts.blocks given) legal.0.rule.of_session)
  by_test false is more = more is
given_there terms (End r ∷ past) s block legal is = by_test (r == s) is (λ h. given_there terms past s block legal.1 h) where
  by_test : (b : Bool) → cond b None (hand past s) ≡ Some block → (hand past s ≡ Some block → IsSome (slice_get terms.scripts.blocks block)) → IsSome (slice_get terms.scripts.blocks block)
  by_test true is more = absurd cc
  by_test false is more = more is
given_there terms (e ∷ past) s block legal is = given_there terms past s block legal.1 is

-- ---- a session that can go on

-- what is known of it
pub record IsGoing (terms : Terms) (past : Past) (s : ℕ) (state : Session) : Type 0 where
  pub block : ℕ
  pub busy : state.hand ≡ Some block
  pub outline : IsOutlined (doing past s) state
  pub under : IsUnderway terms (doing past s) block state.done state.left state.looked
  pub free : asks s (waiting past) ≡ false

and_both : (a b : Bool) → (a && b) ≡ true → (a ≡ true) × (b ≡ true)
and_both true true both = (refl, refl)
and_both true false both = absurd cc
and_both false b both = absurd cc

not_not : (b : Bool) → not b ≡ true → b ≡ false
not_not true is = absurd cc
not_not false is = refl

pub going : (terms : Terms) (p : Parts) (s : ℕ) (state : Session) → IsKept terms p → slice_get p.sessions s ≡ Some state → can_go_on (past_of p.journal) s ≡ true → IsGoing terms (past_of p.journal) s state
going terms p s state kept there goes =
    let mirror : IsMirror terms (doing (past_of p.journal) s) state = kept.mirrors s state there in
    let both = and_both (is_some (hand (past_of p.journal) s)) (not (is_blocked (past_of p.journal) s)) goes in
    by_hand mirror state.hand refl (rw mirror.outline.hand_is at both.0) (free_asks (past_of p.journal) s kept.wants_so kept.clear.settled (not_not (is_blocked (past_of p.journal) s) both.1)) where
      by_hand : IsMirror terms (doing (past_of p.journal) s) state → (o : Option ℕ) → state.hand ≡ o → is_some o ≡ true → asks s (waiting (past_of p.journal)) ≡ false → IsGoing terms (past_of p.journal) s state
      by_hand mirror None busy some free = absurd cc
      by_hand mirror (Some block) busy some free = record { block = block; busy = busy; outline = mirror.outline; under = mirror.underway block busy; free = free }

-- ---- a transaction begins

tells_more : (past : Past) (committed : List Bool) (n : ℕ) → TellsCommitted past committed → TellsCommitted past (committed ++ replicate n false)
tells_more past committed zero tells = rw (append-nil committed) tells
tells_more past committed (suc n) tells = rw (← append_assoc committed (false ∷ []) (replicate n false)) (tells_more past (committed ++ false ∷ []) n (tells_push past committed tells))

-- the list reaches so far by now
reached : (committed : List Bool) (n : ℕ) → n ≤ length (committed ++ replicate (n - length committed) false)
reached committed n = omega (arith, length-append committed (replicate (n - length committed) false), length-replicate (n - length committed) false)

abbrev begun : ℕ → Session → Session
begun x state = record state { xact = Some x; wants = None }

light_begins : (x : ℕ) (state : Session) (block : ℕ) → state.hand ≡ Some block → state.xact ≡ None → 0 < state.left → light_of (begun x state) + 1 ≡ light_of state
light_begins x state block busy none some = rw (busy, none) (omega arith)

-- a statement that is in hand is left
pub some_left : (terms : Terms) (block done left : ℕ) (statement : Statement) → IsCounted terms block done left → statement_of terms (Some block) done ≡ Some statement → 0 < left
some_left terms block done left statement counted is = let lt : done < script_length terms block = statement_within terms block done statement is in omega (arith, counted.all)

starting : (state : BlockState) (o : Option Statement) → option_map (starts state) o ≡ Some true → (statement : Statement) × (o ≡ Some statement)
starting state None is = absurd cc
starting state (Some statement) is = (statement, refl)

module _ (terms : Terms) (p : Parts) (s x : ℕ) (state : Session) (kept : IsKept terms p) (there : slice_get p.sessions s ≡ Some state) (can : can_go_on (past_of p.journal) s ≡ true) (needs : option_map (starts (state_of state.block)) (statement_of terms state.hand state.done) ≡ Some true) (none_open : state.xact ≡ None) where
  abbrev old : Past
  old = past_of p.journal

  abbrev e : Entry
  e = Start s levels.ReadCommitted

  going_so : IsGoing terms old s state
  going_so = going terms p s state kept there can

  begins_some : 0 < state.left
  begins_some =
      let g : IsGoing terms old s state = going_so in
      let there_is = starting (state_of state.block) (statement_of terms state.hand state.done) needs in
      some_left terms g.block state.done state.left there_is.0 g.under.counted (ap (λ (h : Option ℕ). statement_of terms h state.done) (sym g.busy) ∙ there_is.1)

  pub begins_room : 0 < p.journal.room
  begins_room =
      let g : IsGoing terms old s state = going_so in
      let some : 0 < state.left = begins_some in
      let reserved : light p.sessions + length p.locks.locks.waiting ≤ p.journal.room + 0 = kept.sound.reserved in
      omega (arith, reserved, light_at p.sessions s state there, light_begins x state g.block g.busy none_open some)

  start_comes : MayCome terms old e
  start_comes =
      let g : IsGoing terms old s state = going_so in
      comes terms old kept.sound.legal kept.clear.settled e (record { statement = rw (g.outline.block_is, g.outline.hand_is, g.under.dones_is) needs; none_open = g.outline.xact_is ∙ none_open; read_committed = refl }) (rw kept.clear.owed_is tt) (rw kept.clear.owed_is can)

  own_begins : doing (e ∷ old) s ≡ moved old e (doing old s)
  own_begins = own_moves old s e refl

  goes_then : can_go_on (e ∷ old) s ≡ true
  goes_then =
      let g : IsGoing terms old s state = going_so in
      goes terms (e ∷ old) s (moved old e (doing old s)) (start_comes, kept.sound.legal) own_begins kept.clear.settled g.block (g.outline.hand_is ∙ g.busy) refl

  pub begins_went : (new : Past) → new ≡ e ∷ old → Went terms s old new false (driver old) (IsLeast old s)
  begins_went new noted = rw noted (stage_went terms s old (e ∷ old) 0 (stage_on terms s old old 0 0 e (stage_begins terms s old kept.sound.legal kept.clear.settled kept.clear.owed_is) (step_start s levels.ReadCommitted) refl start_comes kept.clear.settled refl goes_then (omega arith)) (omega arith) (omega arith))

  module _ (q : Parts) (noted : past_of q.journal ≡ e ∷ old) (at : x ≡ length old) (room : q.journal.room + 1 ≡ p.journal.room) (sessions : q.sessions ≡ slice_set p.sessions s (begun x state)) (tables : q.tables ≡ p.tables) (locks : q.locks ≡ p.locks) (marks : q.committed ≡ p.committed ++ replicate (x + 1 - length p.committed) false) (weight_same : q.weight ≡ p.weight) (controls_kept : KeepsControls (listed_in p) (listed_in q)) where
    length_so : length q.sessions ≡ length p.sessions
    length_so = rw sessions (length_set p.sessions s (begun x state))

    other_so : (r : ℕ) → length p.sessions ≤ r → (s == r) ≡ false
    other_so r le = let within : s < length p.sessions = slice_get_within p.sessions s state there in ne_eqb s r (λ (same : s ≡ r). omega arith)

    marked_so : (r y : ℕ) (t : Session) → slice_get q.sessions r ≡ Some t → t.xact ≡ Some y → y < length q.committed
    marked_so r y t is own = by_place (got_set p.sessions s r (begun x state) t (rw sessions at is)) where
      far : x + 1 ≤ length q.committed
      far = rw marks (reached p.committed (x + 1))

      more : length p.committed ≤ length q.committed
      more = rw marks (omega (arith, length-append p.committed (replicate (x + 1 - length p.committed) false)))

      by_place : ((s ≡ r) × (begun x state ≡ t)) ⊎ (((s == r) ≡ false) × (slice_get p.sessions r ≡ Some t)) → y < length q.committed
      by_place (inl here) =
          let its : Some x ≡ Some y = ap (λ (u : Session). u.xact) here.1 ∙ own in
          let same : x ≡ y = cc in
          omega (arith, far)
      by_place (inr away) = omega (arith, more, kept.sound.marked r y t away.1 own)

    mirrors_so : (r : ℕ) (t : Session) → slice_get q.sessions r ≡ Some t → IsMirror terms (doing (e ∷ old) r) t
    mirrors_so r t is = by_place (got_set p.sessions s r (begun x state) t (rw sessions at is)) where
      own : IsMirror terms (doing (e ∷ old) s) (begun x state)
      own =
          let was : IsMirror terms (doing old s) state = kept.mirrors s state there in
          rw (own_begins, at) (record {
            outline = record { hand_is = was.outline.hand_is; xact_is = refl; block_is = was.outline.block_is; closed_is = was.outline.closed_is; wants_is = refl };
            underway = λ block busy. let u : IsUnderway terms (doing old s) block state.done state.left state.looked = was.underway block busy in record { dones_is = u.dones_is; counted = u.counted; none_refused = u.none_refused; no_acts = u.no_acts; look_is = u.look_is; only_creates = u.only_creates };
          })

      by_place : ((s ≡ r) × (begun x state ≡ t)) ⊎ (((s == r) ≡ false) × (slice_get p.sessions r ≡ Some t)) → IsMirror terms (doing (e ∷ old) r) t
      by_place (inl here) = rw (← here.0, ← here.1) own
      by_place (inr away) = rw (others_stay terms old s r kept.sound.legal away.0 e refl) (kept.mirrors r t away.1)

    reserved_so : light q.sessions + length q.locks.locks.waiting ≤ q.journal.room + 0
    reserved_so =
        let g : IsGoing terms old s state = going_so in
        let reserved : light p.sessions + length p.locks.locks.waiting ≤ p.journal.room + 0 = kept.sound.reserved in
        let set : light q.sessions + light_of state ≡ light p.sessions + light_of (begun x state) = rw sessions (light_set p.sessions s state (begun x state) there) in
        let less : light_of (begun x state) + 1 ≡ light_of state = light_begins x state g.block g.busy none_open begins_some in
        rw locks (omega (arith, reserved, set, less, room))

    sound_so : IsSound terms q 0
    sound_so = record {
      legal = rw noted (start_comes, kept.sound.legal);
      count = length_so ∙ kept.sound.count;
      controlled = controls_kept terms kept.sound.controlled;
      beyond = λ r le. rw noted (kept.sound.beyond r (let n : length q.sessions ≡ length p.sessions = length_so in omega arith));
      stored = rw (tables, noted) kept.sound.stored;
      tells = rw (noted, marks) (tells_more old p.committed (x + 1 - length p.committed) kept.sound.tells);
      marked = marked_so;
      table_count = rw locks kept.sound.table_count;
      tied = rw (noted, locks) (record { waits = kept.sound.tied.waits; holds = kept.sound.tied.holds; apart = kept.sound.tied.apart });
      queues = rw locks kept.sound.queues;
      weighed = rw noted (weight_same ∙ kept.sound.weighed);
      reserved = reserved_so;
    }

    pub begins_kept : IsKept terms q
    begins_kept =
        let g : IsGoing terms old s state = going_so in
        record {
          sound = sound_so;
          wants_so = rw noted (wants_all (e ∷ old) s g.free (others_still old s e refl refl (λ r. refl) (λ c there other. kept.wants_so c there)));
          mirrors = rw noted mirrors_so;
          clear = rw noted (record { owed_is = refl; settled = kept.clear.settled });
        }

-- ---- whose statement is in hand

-- its step is of one of the blocks
pub block_there : (terms : Terms) (p : Parts) (s : ℕ) (state : Session) → IsKept terms p → slice_get p.sessions s ≡ Some state → can_go_on (past_of p.journal) s ≡ true → IsSome (option_and_then (λ (block : ℕ). slice_get terms.scripts.blocks block) state.hand)
block_there terms p s state kept there can =
    let g : IsGoing terms (past_of p.journal) s state = going terms p s state kept there can in
    let busy : hand (past_of p.journal) s ≡ Some g.block = g.outline.hand_is ∙ g.busy in
    rw g.busy (given_there terms (past_of p.journal) s g.block kept.sound.legal busy)
