-- A statement that uses a table: it isn't there, or its lock is lacking, or the statement looks and acts.
use Rattle.std.proofs.Common.{◌≡◌, ℕ, ◌<◌, ◌≤◌, List, [], ◌∷◌, length, refl, sym, ap, cond, true, false, Bool, Option, Some, None, arith, ◌∙◌, slice_get, option_map, subst}
use Rattle.std.specs.Prelude.{◌+◌, is_some, get_or, option_and_then, not}
use Rattle.std.proofs.lemmas.Option.{slice_get_read}
use Rattle.al_modes.specs.declared.mode.Mode.{Mode}
use Rattle.al_queue.specs.Waits.{holds}
use Rattle.al_statements.specs.declared.cause.Cause.{Cause}
use Rattle.al_statements.specs.declared.cause.Cause.TheVariants as causes
use Rattle.al_history.specs.declared.entry.Entry.TheVariants.{Look}
use Rattle.al_statements.specs.declared.reply.Reply.{Reply}
use Rattle.al_history.specs.declared.statement.Statement.{Statement}
use Rattle.al_history.specs.declared.statement.Statement.TheVariants as statements
use Rattle.al_history.specs.declared.statement.Terms.{Terms}
use Rattle.al_history.specs.Past.{Past, past_of}
use Rattle.al_history.specs.Database.{Table, Database, named}
use Rattle.al_history.specs.Hand.{statement_of}
use Rattle.al_history.specs.Locks.{Claim, held, is_held}
use Rattle.al_history.specs.Need.{has_place, lock_of, need, first_lacking, lacking, name_taker}
use Rattle.al_history.specs.Waits.{is_blocked, can_go_on}
use Rattle.al_history.specs.View.{latest}
use Rattle.al_history.specs.Cause.{used_name, name_cause, look_cause, weight_before, weight_after, first_of, over, limit_cause, cause_at, tables_cause, tables_made}
use Rattle.al_history.specs.Store.{shown_table, shown}
use Rattle.al_history.specs.Rules.{ActRule}
use Rattle.al_history.specs.Legal.{MayCome}
use Rattle.al_history.proofs.Comes.{lacking_is}
use Rattle.al_history.proofs.Doings.{Doing}
use Rattle.al_history.proofs.Turns.{Stage}
use Rattle.al_engine.specs.declared.sessions.Session.{Session}
use Rattle.al_engine.specs.declared.stored.StoredTable.{StoredTable}
use Rattle.al_engine.specs.Kept.{Parts, IsAmid, IsClear, IsKept, CanBeDone, CanBeRefused, Lacks, over_by, used_by}
use Rattle.al_engine.specs.Using.{mode_of, Uses, IsLocked}
use Rattle.al_engine.specs.Stored.{kept_of, all_kept, seen_by}
use Rattle.al_history.proofs.Unblocked.{goes_unblocked}
use Rattle.al_engine.proofs.StatementLemmas.{limit_so, goes_after, at_work, Works, works_first, unlooked, latest_is, cause_so, lacking_so, can_be_refused, act_may, look_may, looks, stage_looks, StaysBut, amid_after}
use Rattle.al_engine.proofs.StoredLemmas.{named_there}
use Rattle.al_engine.proofs.Ties.{same_holds}
use Rattle.al_engine.specs.Sessions.{MakesTable}

-- a machine whose statement in hand has acted, after so many entries of a row
pub record HasActed (terms : Terms) (p q : Parts) (s : ℕ) (t : Session) (reply : Reply) (rows : ℕ) : Type 0 where
  pub amid : IsAmid terms q s 0
  pub clear : IsClear terms (past_of q.journal)
  pub done : CanBeDone terms (past_of q.journal) s t reply
  pub stage : Stage terms s (past_of p.journal) (past_of q.journal) rows
  pub more : length (past_of p.journal) ≤ length (past_of q.journal)

-- a machine whose statement in hand has to be refused
pub record HasFailed (terms : Terms) (p q : Parts) (s : ℕ) (t : Session) (cause : Cause) : Type 0 where
  pub amid : IsAmid terms q s (used_by cause)
  pub refused : CanBeRefused terms (past_of q.journal) s t cause
  pub stage : Stage terms s (past_of p.journal) (past_of q.journal) 0
  pub more : length (past_of p.journal) ≤ length (past_of q.journal)

-- what is no CREATE TABLE makes no table
makes_none : (statement : Statement) (taker : Option ℕ) (made : ℕ) → (MakesTable (Some statement) → ⊥) → tables_cause statement [] taker made ≡ None
makes_none (statements.CreateTable name columns) taker made other = absurd (other tt)
makes_none statement taker made other = refl

-- what is kept of a session's wait says nothing of how its statement ends
pub done_still : (terms : Terms) (past : Past) (s : ℕ) (t : Session) (reply : Reply) → CanBeDone terms past s (record t { wants = None }) reply → CanBeDone terms past s t reply
done_still terms past s t reply d = record { outline = d.outline; in_step = d.in_step; in_xact = d.in_xact; dones_is = d.dones_is; counted = d.counted; none_refused = d.none_refused; answers = d.answers; keeps_block = d.keeps_block; goes = d.goes }

pub refused_still : (terms : Terms) (past : Past) (s : ℕ) (t : Session) (cause : Cause) → CanBeRefused terms past s (record t { wants = None }) cause → CanBeRefused terms past s t cause
refused_still terms past s t cause r = record { hand_is = r.hand_is; xact_is = r.xact_is; block_is = r.block_is; closed_is = r.closed_is; in_step = r.in_step; first_true = r.first_true; settled = r.settled; follows = r.follows; timely = r.timely }

-- what was found at a place of the tables
pub found_of : (p : Parts) (x : ℕ) (name : List ℕ) (tables : List StoredTable) (committed : List Bool) (at : ℕ) → tables ≡ p.tables → committed ≡ p.committed → option_map (λ (v : StoredTable). shown_table (seen_by (Some x) committed) (kept_of v)) (slice_get tables at) ≡ named (shown (seen_by (Some x) committed) (all_kept tables)) name → option_map (λ (v : StoredTable). shown_table (seen_by (Some x) p.committed) (kept_of v)) (slice_get p.tables at) ≡ named (shown (seen_by (Some x) p.committed) (all_kept p.tables)) name
found_of p x name tables committed at tables_are committed_is found = rw (tables_are, committed_is) at found

pub there_of : (tables all : List StoredTable) (at : ℕ) (t : StoredTable) → tables ≡ all → at < length tables → t ≡ get_or all at t → slice_get all at ≡ Some t
there_of tables all at t same lt is = slice_get_read all (length all) at t refl (rw same at lt) is

pub none_of : (p : Parts) (x : ℕ) (name : List ℕ) (tables : List StoredTable) (committed : List Bool) → tables ≡ p.tables → committed ≡ p.committed → named (shown (seen_by (Some x) committed) (all_kept tables)) name ≡ None → named (shown (seen_by (Some x) p.committed) (all_kept p.tables)) name ≡ None
none_of p x name tables committed tables_are committed_is none = rw (tables_are, committed_is) at none

-- the table at this place is locked
pub record HasTable (terms : Terms) (p : Parts) (s : ℕ) (t : Session) (x : ℕ) (statement : Statement) (name : List ℕ) (mode : Mode) (at : ℕ) (table : StoredTable) : Type 0 where
  pub uses : Uses terms p s t x statement name mode
  pub found : option_map (λ (v : StoredTable). shown_table (seen_by (Some x) p.committed) (kept_of v)) (slice_get p.tables at) ≡ named (shown (seen_by (Some x) p.committed) (all_kept p.tables)) name
  pub there : slice_get p.tables at ≡ Some table
  pub locked : holds p.locks.locks s table.number mode ≡ true
  pub looks : over_by terms.weight p.weight 1 ≡ None

pub has_table : (terms : Terms) (p : Parts) (s : ℕ) (t : Session) (x : ℕ) (statement : Statement) (name : List ℕ) (at : ℕ) (table : StoredTable) → IsLocked terms p s t x statement at → used_name statement ≡ Some name → table ≡ get_or p.tables at table → HasTable terms p s t x statement name (mode_of statement) at table
has_table terms p s t x statement name at table l name_is is =
    let both : ◌≡◌ {A = Option (List ℕ)} (Some l.name) (Some name) = sym l.name_is ∙ name_is in
    let same : l.name ≡ name = cc in
    let there : slice_get p.tables at ≡ Some table = slice_get_read p.tables (length p.tables) at table refl l.within is in
    record {
      uses = subst (λ (n : List ℕ). Uses terms p s t x statement n (mode_of statement)) same l.uses;
      found = l.found ∙ ap (λ (n : List ℕ). named (shown (seen_by (Some x) p.committed) (all_kept p.tables)) n) same;
      there = there;
      locked = l.locked table there;
      looks = l.fits;
    }

-- the first of two causes
pub first_told : (first second : Option Cause) (cause : Cause) → Some cause ≡ first → Some cause ≡ first_of first second
first_told first second cause is = rw (← is) refl

pub second_told : (first second told : Option Cause) → first ≡ None → told ≡ second → told ≡ first_of first second
second_told first second told none is = rw none is

-- a limit, by what the code has worked out
pub over_so : (limit a b m n : ℕ) (cause : Option Cause) → cause ≡ over_by limit a b → a ≡ m → b ≡ n → cause ≡ over_by limit m n
over_so limit a b m n cause is one two = rw (one, two) at is

-- a lock is held or not
pub not_held : (b : Bool) → not b ≡ true → b ≡ false
not_held true is = absurd cc
not_held false is = refl

pub is_held_so : (b : Bool) → not b ≡ false → b ≡ true
is_held_so true is = refl
is_held_so false is = absurd cc

-- one place has one table
pub one_table : (tables : List StoredTable) (at : ℕ) (a b : StoredTable) (P : StoredTable → Type 0) → slice_get tables at ≡ Some a → slice_get tables at ≡ Some b → P a → P b
one_table tables at a b P there also p =
    let both : ◌≡◌ {A = Option StoredTable} (Some a) (Some b) = sym there ∙ also in
    let same : a ≡ b = cc in
    subst P same p

limit_only : (first cause : Option Cause) → first ≡ None → first_of first cause ≡ cause
limit_only first cause none = rw none refl

first_held : (claims : List Claim) (c : Claim) (b : Bool) → is_held claims c ≡ b → first_lacking claims (c ∷ []) ≡ cond b None (Some c)
first_held claims c b is = rw is refl

module _ (terms : Terms) (p : Parts) (s : ℕ) (t : Session) (x : ℕ) (statement : Statement) (name : List ℕ) (mode : Mode) (u : Uses terms p s t x statement name mode) where
  first_works : Works terms (past_of p.journal) s t x statement None
  first_works = works_first terms p s t x statement u.kept u.state u.in_xact u.statement_is (unlooked terms p s t x statement u.kept u.state u.in_xact u.statement_is u.other)

  named_so : (o : Option Table) → named (shown (seen_by (Some x) p.committed) (all_kept p.tables)) name ≡ o → named (latest terms (past_of p.journal) x) name ≡ o
  named_so o is = ap (λ (db : Database). named db name) (latest_is terms p s t x statement u.kept u.state u.in_xact u.statement_is) ∙ is

  -- it isn't there
  pub missing : named (shown (seen_by (Some x) p.committed) (all_kept p.tables)) name ≡ None → CanBeRefused terms (past_of p.journal) s t (causes.NoTable name)
  missing none = can_be_refused terms (past_of p.journal) s t x statement None first_works u.goes (causes.NoTable name) (ap (λ (o : Option Cause). first_of o (limit_cause terms (past_of p.journal) x (weight_before (past_of p.journal) (has_place statement) (lacking terms (past_of p.journal) x)))) (u.names (latest terms (past_of p.journal) x) ∙ missing_so (named (latest terms (past_of p.journal) x) name) (named_so None none))) where
    missing_so : (o : Option Table) → o ≡ None → cond (is_some o) None (Some (causes.NoTable name)) ≡ Some (causes.NoTable name)
    missing_so o none = rw none refl

  -- it is there
  module _ (at : ℕ) (table : StoredTable) (found : option_map (λ (v : StoredTable). shown_table (seen_by (Some x) p.committed) (kept_of v)) (slice_get p.tables at) ≡ named (shown (seen_by (Some x) p.committed) (all_kept p.tables)) name) (there : slice_get p.tables at ≡ Some table) where
    pub found_so : named (latest terms (past_of p.journal) x) name ≡ Some (shown_table (seen_by (Some x) p.committed) (kept_of table))
    found_so = named_so _ (named_there (seen_by (Some x) p.committed) p.tables at table name found there)

    named_clear : name_cause statement (latest terms (past_of p.journal) x) ≡ None
    named_clear = u.names (latest terms (past_of p.journal) x) ∙ there_so (named (latest terms (past_of p.journal) x) name) found_so where
      there_so : (o : Option Table) → o ≡ Some (shown_table (seen_by (Some x) p.committed) (kept_of table)) → cond (is_some o) None (Some (causes.NoTable name)) ≡ None
      there_so o is = rw is refl

    needs_so : need s statement (latest terms (past_of p.journal) x) ≡ record { session = s; table = table.number; mode = mode } ∷ []
    needs_so = u.needs (latest terms (past_of p.journal) x) ∙ ap (λ (o : Option Table). lock_of s mode o) found_so

    lacking_by : (b : Bool) → holds p.locks.locks s table.number mode ≡ b → first_lacking (held (past_of p.journal)) (need s statement (latest terms (past_of p.journal) x)) ≡ cond b None (Some (record { session = s; table = table.number; mode = mode }))
    lacking_by b is = ap (λ (claims : List Claim). first_lacking (held (past_of p.journal)) claims) needs_so ∙ first_held (held (past_of p.journal)) (record { session = s; table = table.number; mode = mode }) b (sym (same_holds (past_of p.journal) p.locks.locks s table.number mode u.kept.sound.tied) ∙ is)

    lacking_at : (b : Bool) → holds p.locks.locks s table.number mode ≡ b → lacking terms (past_of p.journal) x ≡ cond b None (Some (record { session = s; table = table.number; mode = mode }))
    lacking_at b is = lacking_is terms (past_of p.journal) s (at_work t x None) first_works.legal first_works.doing_is first_works.settled x first_works.by ∙ (lacking_so terms (past_of p.journal) s t x statement None first_works ∙ lacking_by b is)

    -- what it weighs to go on comes first of all that may refuse it
    caused_by : (o : Option Claim) → lacking terms (past_of p.journal) x ≡ o → cause_at terms (past_of p.journal) x statement [] None ≡ option_and_then (over terms (past_of p.journal)) (weight_before (past_of p.journal) true o)
    caused_by o is =
        limit_only (name_cause statement (latest terms (past_of p.journal) x)) _ named_clear
        ∙ (ap (λ (b : Bool). limit_cause terms (past_of p.journal) x (weight_before (past_of p.journal) b (lacking terms (past_of p.journal) x))) u.placed
        ∙ (ap (λ (c : Option Claim). limit_cause terms (past_of p.journal) x (weight_before (past_of p.journal) true c)) is
        ∙ limit_so terms (past_of p.journal) s t x statement None first_works (goes_unblocked (past_of p.journal) s u.goes) (weight_before (past_of p.journal) true o)))

    -- its lock is lacking
    pub lacks_lock : holds p.locks.locks s table.number mode ≡ false → Lacks terms p s t x (record { session = s; table = table.number; mode = mode })
    lacks_lock none = record {
      kept = u.kept;
      state = u.state;
      goes = u.goes;
      in_xact = u.in_xact;
      before_look = ap (λ (d : Doing). d.look) first_works.doing_is;
      own = refl;
      lacks = lacking_at false none;
      judged = cause_so terms (past_of p.journal) s t x statement None first_works ∙ caused_by (Some (record { session = s; table = table.number; mode = mode })) (lacking_at false none);
    }

    -- it is locked
    module _ (locked : holds p.locks.locks s table.number mode ≡ true) where
      look_judged : cause_at terms (past_of p.journal) x statement [] None ≡ over_by terms.weight p.weight 1
      look_judged = caused_by None (lacking_at true locked) ∙ rw u.kept.sound.weighed refl

      -- the journal has no place for its Look
      pub look_refused : (cause : Cause) → Some cause ≡ over_by terms.weight p.weight 1 → CanBeRefused terms (past_of p.journal) s t cause
      look_refused cause is = can_be_refused terms (past_of p.journal) s t x statement None first_works u.goes cause (look_judged ∙ sym is)

      module _ (fits : over_by terms.weight p.weight 1 ≡ None) where
        pub may_look : MayCome terms (past_of p.journal) (Look x)
        may_look = look_may terms (past_of p.journal) s t x statement first_works u.placed (lacking_by true locked) (look_judged ∙ fits) u.goes

        pub looked_works : Works terms (Look x ∷ past_of p.journal) s (record t { wants = None }) x statement (Some (past_of p.journal))
        looked_works = looks terms (past_of p.journal) s t x statement first_works may_look

        pub looked_stage : Stage terms s (past_of p.journal) (Look x ∷ past_of p.journal) 0
        looked_stage = stage_looks terms (past_of p.journal) s t x statement first_works may_look

        -- it can go on then
        pub looked_goes : can_go_on (Look x ∷ past_of p.journal) s ≡ true
        looked_goes = goes_after terms (past_of p.journal) s t x statement None first_works (Look x) first_works.by refl refl first_works.settled may_look

        looked_free : is_blocked (Look x ∷ past_of p.journal) s ≡ false
        looked_free = goes_unblocked (Look x ∷ past_of p.journal) s looked_goes

        -- what it does is judged by its Look, and then by what it weighs
        pub judged_after : (found : Option Cause) (next : ℕ) → look_cause statement [] (name_taker (Look x ∷ past_of p.journal) x statement) (latest terms (Look x ∷ past_of p.journal) x) (latest terms (past_of p.journal) x) ≡ found
            → weight_after statement [] (name_taker (Look x ∷ past_of p.journal) x statement) (latest terms (Look x ∷ past_of p.journal) x) (latest terms (past_of p.journal) x) ≡ Some next
            → cause_at terms (Look x ∷ past_of p.journal) x statement [] (Some (past_of p.journal)) ≡ first_of found (over_by terms.weight (p.weight + 1) next)
        judged_after found next look_is weight_is =
            ap (λ (o : Option Cause). first_of o (first_of (tables_cause statement [] (name_taker (Look x ∷ past_of p.journal) x statement) (tables_made (Look x ∷ past_of p.journal))) (limit_cause terms (Look x ∷ past_of p.journal) x (weight_after statement [] (name_taker (Look x ∷ past_of p.journal) x statement) (latest terms (Look x ∷ past_of p.journal) x) (latest terms (past_of p.journal) x))))) look_is
            ∙ (ap (λ (o : Option Cause). first_of found (first_of o (limit_cause terms (Look x ∷ past_of p.journal) x (weight_after statement [] (name_taker (Look x ∷ past_of p.journal) x statement) (latest terms (Look x ∷ past_of p.journal) x) (latest terms (past_of p.journal) x))))) (makes_none statement (name_taker (Look x ∷ past_of p.journal) x statement) (tables_made (Look x ∷ past_of p.journal)) u.other)
            ∙ (ap (λ (o : Option ℕ). first_of found (limit_cause terms (Look x ∷ past_of p.journal) x o)) weight_is
            ∙ (ap (λ (o : Option Cause). first_of found o) (limit_so terms (Look x ∷ past_of p.journal) s (record t { wants = None }) x statement (Some (past_of p.journal)) looked_works looked_free (Some next))
            ∙ ap (λ (n : ℕ). first_of found (over_by terms.weight (n + 1) next)) (sym u.kept.sound.weighed))))

        pub acts_by : cause_at terms (Look x ∷ past_of p.journal) x statement [] (Some (past_of p.journal)) ≡ None → ActRule terms (Look x ∷ past_of p.journal) x
        acts_by free = act_may terms (Look x ∷ past_of p.journal) s (record t { wants = None }) x statement (Some (past_of p.journal)) looked_works refl (lacking_by true locked) free

        -- what its Look finds refuses it
        pub look_fails : (cause : Cause) (q : Parts) → used_by cause ≡ 0 → cause_at terms (Look x ∷ past_of p.journal) x statement [] (Some (past_of p.journal)) ≡ Some cause → StaysBut p q → q.tables ≡ p.tables → past_of q.journal ≡ Look x ∷ past_of p.journal → HasFailed terms p q s t cause
        look_fails cause q uncut is stays tables past_is = record {
          amid = rw uncut (amid_after terms p q s 0 u.kept (rw past_is looked_stage) stays (rw (tables, past_is) u.kept.sound.stored));
          refused = rw past_is (refused_still terms (Look x ∷ past_of p.journal) s t cause (can_be_refused terms (Look x ∷ past_of p.journal) s (record t { wants = None }) x statement (Some (past_of p.journal)) looked_works looked_goes cause is));
          stage = rw past_is looked_stage;
          more = rw past_is (omega arith);
        }

-- a statement that uses a table, in the hand of an open transaction
pub uses_of : (terms : Terms) (p : Parts) (s : ℕ) (t : Session) (x : ℕ) (statement : Statement) (name : List ℕ) → IsKept terms p → slice_get p.sessions s ≡ Some t → can_go_on (past_of p.journal) s ≡ true → t.xact ≡ Some x → statement_of terms t.hand t.done ≡ Some statement → used_name statement ≡ Some name → Uses terms p s t x statement name (mode_of statement)
uses_of terms p s t x (statements.Insert table values) name kept state goes in_xact is names =
    let same : table ≡ name = cc in
    record { kept = kept; state = state; goes = goes; in_xact = in_xact; statement_is = is; other = λ h. h; placed = refl; needs = λ db. rw same refl; names = λ db. rw same refl }
uses_of terms p s t x (statements.Select table) name kept state goes in_xact is names =
    let same : table ≡ name = cc in
    record { kept = kept; state = state; goes = goes; in_xact = in_xact; statement_is = is; other = λ h. h; placed = refl; needs = λ db. rw same refl; names = λ db. rw same refl }
uses_of terms p s t x (statements.AddColumn table column) name kept state goes in_xact is names =
    let same : table ≡ name = cc in
    record { kept = kept; state = state; goes = goes; in_xact = in_xact; statement_is = is; other = λ h. h; placed = refl; needs = λ db. rw same refl; names = λ db. rw same refl }
uses_of terms p s t x statement name kept state goes in_xact is names = absurd cc
