-- CREATE TABLE: it looks, unless it has, and then it is refused, or waits for the end of another's transaction, or makes its table.
use Rattle.std.proofs.Common.{◌≡◌, ℕ, suc, zero, ◌+◌, ◌≤◌, List, [], ◌∷◌, ◌++◌, length, get_or, refl, sym, ap, cond, true, false, Bool, Option, Some, None, arith, ◌∙◌, slice_get, slice_set}
use Rattle.std.specs.Prelude.{is_some, nat_le, reverse, nat_lt}
use Rattle.std.proofs.lemmas.Bool.{leb-true}
use Rattle.al_statements.specs.declared.cause.Cause.{Cause}
use Rattle.al_statements.specs.declared.cause.Cause.TheVariants as causes
use Rattle.al_history.specs.declared.entry.Entry.TheVariants.{Look, Make, Wait, Add, Alter}
use Rattle.al_history.specs.declared.entry.Entry.{Entry}
use Rattle.al_statements.specs.declared.cause.RunLimit.TheVariants as limits
use Rattle.al_history.specs.declared.entry.Want.{Want}
use Rattle.al_history.specs.declared.entry.Want.TheVariants as wants
use Rattle.al_statements.specs.declared.reply.Reply.{Reply}
use Rattle.al_statements.specs.declared.reply.Reply.TheVariants as replies
use Rattle.al_statements.specs.declared.reply.Tag.TheVariants as tags
use Rattle.al_history.specs.declared.statement.Statement.TheVariants as statements
use Rattle.al_history.specs.declared.statement.Terms.{Terms}
use Rattle.al_history.specs.Kept.{Kept as KeptJournal}
use Rattle.al_history.specs.Past.{Past, past_of}
use Rattle.al_history.specs.Cause.{create_cause, columns_cause, tables_cause, tables_made, is_among as is_among_names, first_of, limit_cause, weight_before, weight_after, cause_at}
use Rattle.al_history.specs.Change.{shape_of}
use Rattle.al_history.specs.Database.{Database, named}
use Rattle.al_history.specs.Hand.{xact_of, statement_of}
use Rattle.al_history.specs.Locks.{Claim, held, waiting}
use Rattle.al_history.specs.Need.{lacking, name_taker}
use Rattle.al_history.specs.Store.{KeptTable, store, slots_of, with_kept}
use Rattle.al_history.specs.View.{latest}
use Rattle.al_history.specs.Waits.{can_go_on}
use Rattle.al_history.specs.Weight.{weight}
use Rattle.al_history.specs.Legal.{MayCome}
use Rattle.al_history.specs.Whole.{driver, IsLeast}
use Rattle.al_history.proofs.Comes.{lacking_is, comes_make, comes_wait_end}
use Rattle.al_history.proofs.Doings.{Doing, doing, moved, own_moves, others_stay}
use Rattle.al_history.proofs.Turns.{Stage, Went, stage_begins, stage_on, step_make, wait_went}
use Rattle.al_history.proofs.Weights.{weighs}
use Rattle.al_history.proofs.Xacts.{turn}
use Rattle.al_engine.specs.declared.sessions.Session.{Session}
use Rattle.al_engine.specs.Creating.{taker_in, seen_in, look_past, limit_in}
use Rattle.al_engine.specs.Listed.{KeepsControls}
use Rattle.al_engine.specs.Kept.{listed_in, Parts, IsKept, IsAmid, CanBeDone, CanBeRefused, used_by, over_by}
use Rattle.al_engine.specs.LockTie.{OthersWant, WantsSo, asks}
use Rattle.al_engine.specs.Sessions.{IsMirror, IsUnderway, xacts_in}
use Rattle.al_engine.specs.Stored.{all_kept}
use Rattle.al_engine.specs.Using.{create_weight}
use Rattle.al_engine.proofs.Amid.{amid_begins}
use Rattle.al_engine.proofs.SessionLemmas.{light_set, length_set, mirrors_set, marked_set, past_end, none_past, xact_known}
use Rattle.al_history.proofs.Unblocked.{goes_unblocked}
use Rattle.al_engine.proofs.AskLemmas.{over_uncut, first_uncut}
use Rattle.al_engine.proofs.StatementLemmas.{at_work, Works, works, works_first, look_is, latest_is, asks_none, cause_so, lacking_so, limit_so, can_be_refused, act_may, look_may, looks, stage_looks, goes_after, acted_goes, can_be_done, StaysBut, stays, amid_after, clear_after}
use Rattle.al_engine.proofs.StoredLemmas.{taker_is, among_open}
use Rattle.al_engine.proofs.UseLemmas.{HasActed, HasFailed}
use Rattle.al_engine.proofs.Wanted.{others_wait_on, wants_all}
use Rattle.al_history.specs.Limits.{most_tables, most_columns}
use Rattle.std.proofs.lemmas.List.{length-append}
use Rattle.al_engine.specs.declared.stored.StoredTable.{StoredTable}

-- ---- why it is refused

columns_uncut : (before names : List (List ℕ)) (cause : Cause) → Some cause ≡ columns_cause before names → used_by cause ≡ 0
columns_uncut before [] cause is = absurd cc
columns_uncut before (name ∷ names) cause is = by_test (is_among_names before name) (nat_lt (length before) most_columns) is (λ h. columns_uncut (before ++ name ∷ []) names cause h) where
  by_test : (a b : Bool) → Some cause ≡ cond a (Some (causes.TwiceColumn name)) (cond b (columns_cause (before ++ name ∷ []) names) (Some (causes.Limit limits.Columns (length before + 1)))) → (Some cause ≡ columns_cause (before ++ name ∷ []) names → used_by cause ≡ 0) → used_by cause ≡ 0
  by_test true b is more = let one : cause ≡ causes.TwiceColumn name = cc in rw one refl
  by_test false true is more = more is
  by_test false false is more = let one : cause ≡ causes.Limit limits.Columns (length before + 1) = cc in rw one refl

create_uncut : (name : List ℕ) (columns : List (List ℕ)) (taker : Option ℕ) (db : Database) (cause : Cause) → Some cause ≡ create_cause name columns taker db → used_by cause ≡ 0
create_uncut name columns (Some taker) db cause is = columns_uncut [] columns cause is
create_uncut name columns None db cause is = by_test (is_some (named db name)) is where
  by_test : (b : Bool) → Some cause ≡ cond b (Some (causes.TwiceTable name)) (columns_cause [] columns) → used_by cause ≡ 0
  by_test true is = let one : cause ≡ causes.TwiceTable name = cc in rw one refl
  by_test false is = columns_uncut [] columns cause is

none_second : (found limit : Option Cause) → first_of found limit ≡ None → limit ≡ None
none_second None limit none = none
none_second (Some found) limit none = absurd cc

over_none : (limit so_far next : ℕ) → over_by limit so_far next ≡ None → so_far + next ≤ limit
over_none limit so_far next none = by_test (nat_le (so_far + next) limit) refl none where
  by_test : (b : Bool) → nat_le (so_far + next) limit ≡ b → cond b None (Some (causes.Limit limits.Journal (so_far + next))) ≡ None → so_far + next ≤ limit
  by_test true is none = leb-true (so_far + next) limit is
  by_test false is none = absurd cc

-- as many tables are kept as were made
with_counted : (number : ℕ) (f : KeptTable → KeptTable) (tables : List KeptTable) → length (with_kept number f tables) ≡ length tables
with_counted number f [] = refl
with_counted number f (t ∷ tables) = ap suc (with_counted number f tables)

store_counted : (terms : Terms) (past : Past) → length (store terms past) ≡ tables_made past
store_counted terms [] = refl
store_counted terms (Make x table name shape ∷ past) = omega (arith, length-append (store terms past) (record { number = table; maker = x; name = name; slots = slots_of x shape; rows = [] } ∷ []), store_counted terms past)
store_counted terms (Add x table row ∷ past) = with_counted table _ (store terms past) ∙ store_counted terms past
store_counted terms (Alter x table statement rewritten ∷ past) = with_counted table _ (store terms past) ∙ store_counted terms past
store_counted terms (e ∷ past) = store_counted terms past

kept_length : (tables : List StoredTable) → length (all_kept tables) ≡ length tables
kept_length [] = refl
kept_length (t ∷ tables) = ap suc (kept_length tables)

-- why it is refused once it has looked, by what is kept
abbrev pub refusal_in : Terms → Parts → Bool → ℕ → List ℕ → List (List ℕ) → Option Cause
refusal_in terms p looked x name columns = first_of (create_cause name columns (taker_in p x name) (seen_in p x)) (limit_in terms.weight (p.weight + cond looked 0 1) (length p.tables) name columns (taker_in p x name))

tables_uncut : (name : List ℕ) (columns : List (List ℕ)) (taker : Option ℕ) (made : ℕ) (cause : Cause) → Some cause ≡ tables_cause (statements.CreateTable name columns) [] taker made → used_by cause ≡ 0
tables_uncut name columns (Some other) made cause is = absurd cc
tables_uncut name columns None made cause is = by_test (nat_lt made most_tables) is where
  by_test : (b : Bool) → Some cause ≡ cond b None (Some (causes.Limit limits.Tables (made + 1))) → used_by cause ≡ 0
  by_test true is = absurd cc
  by_test false is = let one : cause ≡ causes.Limit limits.Tables (made + 1) = cc in rw one refl

limit_uncut : (limit so_far made : ℕ) (name : List ℕ) (columns : List (List ℕ)) (taker : Option ℕ) (cause : Cause) → Some cause ≡ limit_in limit so_far made name columns taker → used_by cause ≡ 0
limit_uncut limit so_far made name columns taker cause is = first_uncut (tables_cause (statements.CreateTable name columns) [] taker made) (over_by limit so_far (create_weight columns taker)) cause (λ c above. tables_uncut name columns taker made c above) (λ c above. over_uncut limit so_far (create_weight columns taker) c above) is

refusal_uncut : (terms : Terms) (p : Parts) (looked : Bool) (x : ℕ) (name : List ℕ) (columns : List (List ℕ)) (cause : Cause) → Some cause ≡ refusal_in terms p looked x name columns → used_by cause ≡ 0
refusal_uncut terms p looked x name columns cause is =
    first_uncut (create_cause name columns (taker_in p x name) (seen_in p x)) (limit_in terms.weight (p.weight + cond looked 0 1) (length p.tables) name columns (taker_in p x name)) cause
    (λ c found. create_uncut name columns (taker_in p x name) (seen_in p x) c found)
    (λ c above. limit_uncut terms.weight (p.weight + cond looked 0 1) (length p.tables) name columns (taker_in p x name) c above) is

-- where it isn't refused, its next entry fits
refusal_fits : (terms : Terms) (p : Parts) (looked : Bool) (x : ℕ) (name : List ℕ) (columns : List (List ℕ)) → refusal_in terms p looked x name columns ≡ None → p.weight + cond looked 0 1 + create_weight columns (taker_in p x name) ≤ terms.weight
refusal_fits terms p looked x name columns none = over_none terms.weight (p.weight + cond looked 0 1) (create_weight columns (taker_in p x name)) (none_second (tables_cause (statements.CreateTable name columns) [] (taker_in p x name) (length p.tables)) _ (none_second (create_cause name columns (taker_in p x name) (seen_in p x)) _ none))

-- what its next entry weighs
weight_next : (name : List ℕ) (columns : List (List ℕ)) (taker : Option ℕ) (now looked : Database) → weight_after (statements.CreateTable name columns) [] taker now looked ≡ Some (create_weight columns taker)
weight_next name columns None now looked = refl
weight_next name columns (Some other) now looked = refl

shape_length : (columns : List (List ℕ)) → length (shape_of columns) ≡ length columns
shape_length [] = refl
shape_length (name ∷ columns) = ap suc (shape_length columns)

-- what is kept of a session's wait says nothing of how its statement ends
done_so : (terms : Terms) (past : Past) (s : ℕ) (t : Session) (want : Option Want) (reply : Reply) → CanBeDone terms past s (record t { wants = want }) reply → CanBeDone terms past s t reply
done_so terms past s t want reply d = record { outline = d.outline; in_step = d.in_step; in_xact = d.in_xact; dones_is = d.dones_is; counted = d.counted; none_refused = d.none_refused; answers = d.answers; keeps_block = d.keeps_block; goes = d.goes }

refused_so : (terms : Terms) (past : Past) (s : ℕ) (t : Session) (want : Option Want) (cause : Cause) → CanBeRefused terms past s (record t { wants = want }) cause → CanBeRefused terms past s t cause
refused_so terms past s t want cause r = record { hand_is = r.hand_is; xact_is = r.xact_is; block_is = r.block_is; closed_is = r.closed_is; in_step = r.in_step; first_true = r.first_true; settled = r.settled; follows = r.follows; timely = r.timely }

-- ---- the open transactions

xacts_at : (sessions : List Session) (r : ℕ) (o : Option ℕ) → (slice_get sessions r ≡ None → o ≡ None) → ((t : Session) → slice_get sessions r ≡ Some t → t.xact ≡ o) → get_or (xacts_in sessions) r None ≡ o
xacts_at [] r o none some = sym (none refl)
xacts_at (t ∷ sessions) zero o none some = some t refl
xacts_at (t ∷ sessions) (suc r) o none some = xacts_at sessions r o none some

xacts_so : (terms : Terms) (p : Parts) → IsKept terms p → (r : ℕ) → get_or (xacts_in p.sessions) r None ≡ xact_of (past_of p.journal) r
xacts_so terms p kept r = xacts_at p.sessions r (xact_of (past_of p.journal) r) past_them (λ t there. sym (kept.mirrors r t there).outline.xact_is) where
  past_them : slice_get p.sessions r ≡ None → xact_of (past_of p.journal) r ≡ None
  past_them none =
      let le : length p.sessions ≤ r = past_end p.sessions r none in
      none_past terms r (xact_of (past_of p.journal) r) (λ x is. xact_known terms (past_of p.journal) r x kept.sound.legal is) (rw kept.sound.count at le)

-- ---- it has looked

-- A CREATE TABLE that has looked, before or just now, and goes on.
record HasLooked (terms : Terms) (p : Parts) (s : ℕ) (t : Session) (x : ℕ) (name : List ℕ) (columns : List (List ℕ)) (past : Past) : Type 0 where
  look : Past
  want : Option Want
  works : Works terms past s (record t { wants = want }) x (statements.CreateTable name columns) (Some look)
  goes : can_go_on past s ≡ true
  stage : Stage terms s (past_of p.journal) past 0
  held_same : held past ≡ held (past_of p.journal)
  waiting_same : waiting past ≡ waiting (past_of p.journal)
  latest_so : latest terms past x ≡ seen_in p x
  taken_so : name_taker past x (statements.CreateTable name columns) ≡ taker_in p x name
  store_so : all_kept p.tables ≡ store terms past
  weighs_so : p.weight + cond t.looked 0 1 ≡ weight past
  more : length (past_of p.journal) ≤ length past

module _ (terms : Terms) (p : Parts) (s : ℕ) (t : Session) (x : ℕ) (name : List ℕ) (columns : List (List ℕ)) (kept : IsKept terms p) (state : slice_get p.sessions s ≡ Some t) (goes_on : can_go_on (past_of p.journal) s ≡ true) (in_xact : t.xact ≡ Some x) (statement_is : statement_of terms t.hand t.done ≡ Some (statements.CreateTable name columns)) where
  -- before its Look it lacks no lock, so that the limit of the journal alone can refuse it
  before_so : t.looked ≡ false → cause_at terms (past_of p.journal) x (statements.CreateTable name columns) [] None ≡ over_by terms.weight p.weight 1
  before_so before =
      let w = works_first terms p s t x (statements.CreateTable name columns) kept state in_xact statement_is before in
      let none : lacking terms (past_of p.journal) x ≡ None = lacking_is terms (past_of p.journal) s (at_work t x None) w.legal w.doing_is w.settled x w.by ∙ lacking_so terms (past_of p.journal) s t x (statements.CreateTable name columns) None w in
      ap (λ (lacks : Option Claim). limit_cause terms (past_of p.journal) x (weight_before (past_of p.journal) true lacks)) none ∙ (limit_so terms (past_of p.journal) s t x (statements.CreateTable name columns) None w (goes_unblocked (past_of p.journal) s goes_on) (Some 1) ∙ rw kept.sound.weighed refl)

  looked_just : t.looked ≡ false → over_by terms.weight p.weight 1 ≡ None → HasLooked terms p s t x name columns (Look x ∷ past_of p.journal)
  looked_just before fits =
      let w = works_first terms p s t x (statements.CreateTable name columns) kept state in_xact statement_is before in
      let comes : MayCome terms (past_of p.journal) (Look x) = look_may terms (past_of p.journal) s t x (statements.CreateTable name columns) w refl refl (before_so before ∙ fits) goes_on in
      let after = looks terms (past_of p.journal) s t x (statements.CreateTable name columns) w comes in
      record {
        look = past_of p.journal;
        want = None;
        works = after;
        goes = goes_after terms (past_of p.journal) s t x (statements.CreateTable name columns) None w (Look x) w.by refl refl w.settled comes;
        stage = stage_looks terms (past_of p.journal) s t x (statements.CreateTable name columns) w comes;
        held_same = refl;
        waiting_same = refl;
        latest_so = latest_is terms p s t x (statements.CreateTable name columns) kept state in_xact statement_is;
        taken_so = sym (taker_is terms (Look x ∷ past_of p.journal) p.tables x (xacts_in p.sessions) name after.legal kept.sound.stored (among_open terms (Look x ∷ past_of p.journal) (xacts_in p.sessions) after.legal (xacts_so terms p kept)));
        store_so = kept.sound.stored;
        weighs_so = rw (before, kept.sound.weighed) refl;
        more = omega arith;
      }

  looked_before : t.looked ≡ true → HasLooked terms p s t x name columns (past_of p.journal)
  looked_before before = by_look (doing (past_of p.journal) s).look (look_is terms p s t x (statements.CreateTable name columns) kept state in_xact statement_is ∙ before) (works terms p s t x (statements.CreateTable name columns) kept state in_xact statement_is) where
    by_look : (o : Option Past) → is_some o ≡ true → Works terms (past_of p.journal) s t x (statements.CreateTable name columns) o → HasLooked terms p s t x name columns (past_of p.journal)
    by_look None some w = absurd cc
    by_look (Some look) some w = record {
      look = look;
      want = t.wants;
      works = w;
      goes = goes_on;
      stage = stage_begins terms s (past_of p.journal) kept.sound.legal kept.clear.settled kept.clear.owed_is;
      held_same = refl;
      waiting_same = refl;
      latest_so = latest_is terms p s t x (statements.CreateTable name columns) kept state in_xact statement_is;
      taken_so = sym (taker_is terms (past_of p.journal) p.tables x (xacts_in p.sessions) name kept.sound.legal kept.sound.stored (among_open terms (past_of p.journal) (xacts_in p.sessions) kept.sound.legal (xacts_so terms p kept)));
      store_so = kept.sound.stored;
      weighs_so = rw (before, kept.sound.weighed) (omega arith);
      more = omega arith;
    }

  looked_by : (b : Bool) → t.looked ≡ b → cond b None (over_by terms.weight p.weight 1) ≡ None → HasLooked terms p s t x name columns (look_past b x (past_of p.journal))
  looked_by true before fits = looked_before before
  looked_by false before fits = looked_just before fits

  has_looked : cond t.looked None (over_by terms.weight p.weight 1) ≡ None → HasLooked terms p s t x name columns (look_past t.looked x (past_of p.journal))
  has_looked fits = looked_by t.looked refl fits

  -- the journal has no place for its Look
  pub look_refused : (cause : Cause) → Some cause ≡ cond t.looked None (over_by terms.weight p.weight 1) → CanBeRefused terms (past_of p.journal) s t cause
  look_refused cause is = by_looked t.looked refl is where
    by_looked : (b : Bool) → t.looked ≡ b → Some cause ≡ cond b None (over_by terms.weight p.weight 1) → CanBeRefused terms (past_of p.journal) s t cause
    by_looked true before is = absurd cc
    by_looked false before is = can_be_refused terms (past_of p.journal) s t x (statements.CreateTable name columns) None (works_first terms p s t x (statements.CreateTable name columns) kept state in_xact statement_is before) goes_on cause (before_so before ∙ sym is)

  pub look_amid : (cause : Cause) → Some cause ≡ cond t.looked None (over_by terms.weight p.weight 1) → IsAmid terms p s (used_by cause)
  look_amid cause is = by_looked t.looked is where
    by_looked : (b : Bool) → Some cause ≡ cond b None (over_by terms.weight p.weight 1) → IsAmid terms p s (used_by cause)
    by_looked true is = absurd cc
    by_looked false is = rw (over_uncut terms.weight p.weight 1 cause is) (amid_begins terms p s kept)

-- ---- it goes on

module _ (terms : Terms) (p : Parts) (s : ℕ) (t : Session) (x : ℕ) (name : List ℕ) (columns : List (List ℕ)) (past : Past) (kept : IsKept terms p) (h : HasLooked terms p s t x name columns past) where
  limit_found : (taker : Option ℕ) (now looked : Database) → limit_cause terms past x (weight_after (statements.CreateTable name columns) [] taker now looked) ≡ over_by terms.weight (p.weight + cond t.looked 0 1) (create_weight columns taker)
  limit_found taker now looked = ap (λ (next : Option ℕ). limit_cause terms past x next) (weight_next name columns taker now looked) ∙ (limit_so terms past s (record t { wants = h.want }) x (statements.CreateTable name columns) (Some h.look) h.works (goes_unblocked past s h.goes) (Some (create_weight columns taker)) ∙ rw h.weighs_so refl)

  tables_counted : tables_made past ≡ length p.tables
  tables_counted = sym (store_counted terms past) ∙ (ap (λ (tables : List KeptTable). length tables) (sym h.store_so) ∙ kept_length p.tables)

  cause_found : cause_at terms past x (statements.CreateTable name columns) [] (Some h.look) ≡ refusal_in terms p t.looked x name columns
  cause_found = by_parts (name_taker past x (statements.CreateTable name columns)) (latest terms past x) h.taken_so h.latest_so where
    by_parts : (taker : Option ℕ) (now : Database) → taker ≡ taker_in p x name → now ≡ seen_in p x → first_of (create_cause name columns taker now) (first_of (tables_cause (statements.CreateTable name columns) [] taker (tables_made past)) (limit_cause terms past x (weight_after (statements.CreateTable name columns) [] taker now (latest terms h.look x)))) ≡ refusal_in terms p t.looked x name columns
    by_parts taker now taken found = rw (limit_found taker now (latest terms h.look x), tables_counted, taken, found) refl

  fails : (cause : Cause) (q : Parts) → Some cause ≡ refusal_in terms p t.looked x name columns → StaysBut p q → q.tables ≡ p.tables → past_of q.journal ≡ past → HasFailed terms p q s t cause
  fails cause q is stays tables past_is =
      let stage : Stage terms s (past_of p.journal) (past_of q.journal) 0 = rw past_is h.stage in
      let uncut : used_by cause ≡ 0 = refusal_uncut terms p t.looked x name columns cause is in
      record {
        amid = rw uncut (amid_after terms p q s 0 kept stage stays (rw (tables, past_is) h.store_so));
        refused = rw past_is (refused_so terms past s t h.want cause (can_be_refused terms past s (record t { wants = h.want }) x (statements.CreateTable name columns) (Some h.look) h.works h.goes cause (cause_found ∙ sym is)));
        stage = stage;
        more = rw past_is h.more;
      }

  module _ (free : refusal_in terms p t.looked x name columns ≡ None) where
    -- it makes its table
    make_may : taker_in p x name ≡ None → MayCome terms past (Make x (length past) name (shape_of columns))
    make_may untaken = comes_make terms past s (at_work (record t { wants = h.want }) x (Some h.look)) h.works.legal h.works.doing_is h.works.settled x h.works.by name (shape_of columns)
        (act_may terms past s (record t { wants = h.want }) x (statements.CreateTable name columns) (Some h.look) h.works refl refl (cause_found ∙ free))
        (rw h.works.statement_is (refl, refl)) (h.taken_so ∙ untaken) h.works.owed_is h.goes

    makes : (number : ℕ) (q : Parts) → taker_in p x name ≡ None → number ≡ length past → StaysBut p q → all_kept q.tables ≡ all_kept p.tables ++ record { number = number; maker = x; name = name; slots = slots_of x (shape_of columns); rows = [] } ∷ [] → past_of q.journal ≡ Make x number name (shape_of columns) ∷ past → HasActed terms p q s t (replies.Tag tags.CreateTable 0) 0
    makes number q untaken place stays tables past_is =
        let comes : MayCome terms past (Make x number name (shape_of columns)) = rw place (make_may untaken) in
        let stage : Stage terms s (past_of p.journal) (past_of q.journal) 0 = rw past_is (stage_on terms s (past_of p.journal) past 0 0 (Make x number name (shape_of columns)) h.stage (step_make x number name (shape_of columns)) h.works.by comes h.works.settled refl
        (acted_goes terms past s (record t { wants = h.want }) x (statements.CreateTable name columns) (Some h.look) h.works (Make x number name (shape_of columns)) h.works.by (λ d. refl) h.works.settled comes) (omega arith)) in
        record {
          amid = amid_after terms p q s 0 kept stage stays (rw (tables, past_is, h.store_so) refl);
          clear = clear_after terms p q s 0 kept stage stays;
          done = rw past_is (done_so terms _ s t h.want _ (can_be_done terms past s (record t { wants = h.want }) x (statements.CreateTable name columns) (Some h.look) h.works (Make x number name (shape_of columns)) h.works.by (λ d. refl) (acted_goes terms past s (record t { wants = h.want }) x (statements.CreateTable name columns) (Some h.look) h.works (Make x number name (shape_of columns)) h.works.by (λ d. refl) h.works.settled comes) (replies.Tag tags.CreateTable 0) refl refl));
          stage = stage;
          more = rw past_is (omega (arith, h.more));
        }

    -- it waits
    module _ (other : ℕ) (taken : taker_in p x name ≡ Some other) where
      end_may : MayCome terms past (Wait x (wants.Ends other))
      end_may = comes_wait_end terms past s (at_work (record t { wants = h.want }) x (Some h.look)) h.works.legal h.works.doing_is h.works.settled x h.works.by other (statements.CreateTable name columns) h.goes refl refl h.works.statement_is (h.taken_so ∙ taken) (cause_so terms past s (record t { wants = h.want }) x (statements.CreateTable name columns) (Some h.look) h.works ∙ (cause_found ∙ free)) h.works.owed_is

      waits_went : Went terms s (past_of p.journal) (Wait x (wants.Ends other) ∷ past) false (driver (past_of p.journal)) (IsLeast (past_of p.journal) s)
      waits_went = wait_went terms s (past_of p.journal) past 0 x (wants.Ends other) h.stage (omega arith) h.more h.works.by end_may

      waits_mirror : IsMirror terms (doing (Wait x (wants.Ends other) ∷ past) s) (record t { looked = true; wants = Some (wants.Ends other) })
      waits_mirror = rw (own_moves past s (Wait x (wants.Ends other)) h.works.by ∙ ap (moved past (Wait x (wants.Ends other))) h.works.doing_is) (record {
        outline = record { hand_is = refl; xact_is = sym h.works.in_xact; block_is = refl; closed_is = refl; wants_is = refl };
        underway = λ block busy. waits_underway block busy;
      }) where
        waits_underway : (block : ℕ) → t.hand ≡ Some block → IsUnderway terms (moved past (Wait x (wants.Ends other)) (at_work (record t { wants = h.want }) x (Some h.look))) block t.done t.left true
        waits_underway block busy =
            let in_hand_so : statement_of terms (Some block) t.done ≡ Some (statements.CreateTable name columns) = rw busy at h.works.statement_is in
            record {
              dones_is = refl;
              counted = h.works.counted block busy;
              none_refused = refl;
              no_acts = refl;
              look_is = refl;
              only_creates = λ looked. rw in_hand_so tt;
            }

      waits_want : asks s (waiting (past_of p.journal)) ≡ false → WantsSo (Wait x (wants.Ends other) ∷ past)
      waits_want none = wants_all (Wait x (wants.Ends other) ∷ past) s (rw h.waiting_same none) (others_wait_on past s x other h.works.by.session others_want) where
        others_want : OthersWant s past
        others_want c there apart = ap (λ (d : Doing). d.wants) (h.stage.others c.session (turn c.session s apart)) ∙ kept.wants_so c (rw h.waiting_same at there)

      waits_kept : (q : Parts) → slice_get p.sessions s ≡ Some t → asks s (waiting (past_of p.journal)) ≡ false → q.sessions ≡ slice_set p.sessions s (record t { looked = true; wants = Some (wants.Ends other) }) → KeepsControls (listed_in p) (listed_in q) → q.tables ≡ p.tables → q.locks ≡ p.locks → q.committed ≡ p.committed → p.journal.room ≤ q.journal.room → q.weight ≡ p.weight + cond t.looked 0 1 + 2 → past_of q.journal ≡ Wait x (wants.Ends other) ∷ past → IsKept terms q
      waits_kept q state none sessions controls_kept tables locks committed room weighed past_is = record {
        sound = record {
          legal = rw past_is (end_may, h.works.legal);
          count = rw sessions (length_set p.sessions s (record t { looked = true; wants = Some (wants.Ends other) }) ∙ kept.sound.count);
          controlled = controls_kept terms kept.sound.controlled;
          beyond = λ r le. rw past_is (h.stage.hands r ∙ kept.sound.beyond r (rw (sessions, length_set p.sessions s (record t { looked = true; wants = Some (wants.Ends other) })) at le));
          stored = rw (tables, past_is) h.store_so;
          tells = λ y. rw (committed, past_is, h.stage.fates y) (kept.sound.tells y);
          marked = λ r y u there own. rw committed (marked_set p.sessions s (length p.committed) (record t { looked = true; wants = Some (wants.Ends other) }) kept.sound.marked (λ z has. kept.sound.marked s z t state has) r y u (rw sessions at there) own);
          table_count = rw locks kept.sound.table_count;
          tied = rw (locks, past_is) (record { waits = rw h.waiting_same kept.sound.tied.waits; holds = λ test. rw h.held_same (kept.sound.tied.holds test); apart = rw h.waiting_same kept.sound.tied.apart });
          queues = rw locks kept.sound.queues;
          weighed = rw past_is (weighed ∙ rw h.weighs_so refl);
          reserved = rw (sessions, locks) (omega (arith, kept.sound.reserved, room, light_set p.sessions s t (record t { looked = true; wants = Some (wants.Ends other) }) state));
        };
        wants_so = rw past_is (waits_want none);
        mirrors = λ r u there. rw past_is (mirrors_set terms (past_of p.journal) (Wait x (wants.Ends other) ∷ past) p.sessions s (record t { looked = true; wants = Some (wants.Ends other) }) (λ v w apart is. kept.mirrors v w is) (λ v apart. others_stay terms past s v h.works.legal apart (Wait x (wants.Ends other)) h.works.by ∙ h.stage.others v apart) waits_mirror r u (rw sessions at there));
        clear = rw past_is (record { owed_is = refl; settled = h.works.settled });
      }

-- ---- what the calls tell

-- why it is refused, by the names and the taker that were handed on
pub refusal_of : (terms : Terms) (p : Parts) (looked : Bool) (x : ℕ) (name : List ℕ) (columns written : List (List ℕ)) (taker : Option ℕ) (refusal : Option Cause) → refusal ≡ first_of (create_cause name written taker (seen_in p x)) (limit_in terms.weight (p.weight + cond looked 0 1) (length p.tables) name written taker) → written ≡ columns → taker ≡ taker_in p x name → refusal ≡ refusal_in terms p looked x name columns
refusal_of terms p looked x name columns written taker refusal is columns_are taker_is = rw (columns_are, taker_is) at is

-- what it has noted, in a journal in which places were reserved
pub looked_past : (looked : Bool) (x : ℕ) (new : Past) (reserved old : KeptJournal) → new ≡ look_past looked x (past_of reserved) → reserved.entries ≡ old.entries → new ≡ look_past looked x (past_of old)
looked_past looked x new reserved old is same = is ∙ ap (λ (entries : List Entry). look_past looked x (reverse entries)) same

pub made_past : (looked : Bool) (x : ℕ) (name : List ℕ) (columns written : List (List ℕ)) (new : Past) (reserved old : KeptJournal) → new ≡ Make x (length (look_past looked x (past_of reserved))) name (shape_of written) ∷ look_past looked x (past_of reserved) → reserved.entries ≡ old.entries → written ≡ columns → new ≡ Make x (length (look_past looked x (past_of old))) name (shape_of columns) ∷ look_past looked x (past_of old)
made_past looked x name columns written new reserved old is same columns_are = (rw columns_are at is) ∙ ap (λ (entries : List Entry). Make x (length (look_past looked x (reverse entries))) name (shape_of columns) ∷ look_past looked x (reverse entries)) same

-- the tables with the new one
pub made_tables : (looked : Bool) (x : ℕ) (name : List ℕ) (columns written : List (List ℕ)) (new tables : List KeptTable) (reserved old : KeptJournal) → new ≡ tables ++ record { number = length (look_past looked x (past_of reserved)); maker = x; name = name; slots = slots_of x (shape_of written); rows = [] } ∷ [] → reserved.entries ≡ old.entries → written ≡ columns → new ≡ tables ++ record { number = length (look_past looked x (past_of old)); maker = x; name = name; slots = slots_of x (shape_of columns); rows = [] } ∷ []
made_tables looked x name columns written new tables reserved old is same columns_are = (rw columns_are at is) ∙ ap (λ (entries : List Entry). tables ++ record { number = length (look_past looked x (reverse entries)); maker = x; name = name; slots = slots_of x (shape_of columns); rows = [] } ∷ []) same

-- where it makes its table, that fits
pub make_fits : (terms : Terms) (p : Parts) (looked : Bool) (x : ℕ) (name : List ℕ) (columns : List (List ℕ)) → refusal_in terms p looked x name columns ≡ None → taker_in p x name ≡ None → p.weight + cond looked 0 1 + (1 + length columns) ≤ terms.weight
make_fits terms p looked x name columns free untaken = rw untaken at (refusal_fits terms p looked x name columns free)

-- what is noted so far and a Look can be counted
pub look_room : (terms : Terms) (p : Parts) (looked : Bool) → IsKept terms p → p.weight + cond looked 0 1 ≤ terms.weight + 1
look_room terms p true kept = omega (arith, weighs terms (past_of p.journal) kept.sound.legal, kept.sound.weighed)
look_room terms p false kept = omega (arith, weighs terms (past_of p.journal) kept.sound.legal, kept.sound.weighed)

-- the statement, in the hand of an open transaction, where the journal has a place for its Look
module _ (terms : Terms) (p : Parts) (s : ℕ) (t : Session) (x : ℕ) (name : List ℕ) (columns : List (List ℕ)) (kept : IsKept terms p) (state : slice_get p.sessions s ≡ Some t) (goes_on : can_go_on (past_of p.journal) s ≡ true) (in_xact : t.xact ≡ Some x) (statement_is : statement_of terms t.hand t.done ≡ Some (statements.CreateTable name columns)) (fits : cond t.looked None (over_by terms.weight p.weight 1) ≡ None) where
  abbrev now_looked : HasLooked terms p s t x name columns (look_past t.looked x (past_of p.journal))
  now_looked = has_looked terms p s t x name columns kept state goes_on in_xact statement_is fits

  -- what it leaves as it was
  create_stays : (q : Parts) (past : Past) → past_of q.journal ≡ past → listed_in q ≡ listed_in p → q.locks ≡ p.locks → q.committed ≡ p.committed → p.journal.room ≤ q.journal.room → q.weight ≡ weight past → held past ≡ held (look_past t.looked x (past_of p.journal)) → waiting past ≡ waiting (look_past t.looked x (past_of p.journal)) → StaysBut p q
  create_stays q past is sessions locks committed room weighed held_same waiting_same = stays p q past is sessions locks committed room (held_same ∙ now_looked.held_same) (waiting_same ∙ now_looked.waiting_same) weighed

  pub create_fails : (cause : Cause) (q : Parts) → Some cause ≡ refusal_in terms p t.looked x name columns → past_of q.journal ≡ look_past t.looked x (past_of p.journal) → p.journal.room ≤ q.journal.room → q.weight ≡ p.weight + cond t.looked 0 1 → listed_in q ≡ listed_in p → q.tables ≡ p.tables → q.locks ≡ p.locks → q.committed ≡ p.committed → HasFailed terms p q s t cause
  create_fails cause q is past_is room weighed sessions tables locks committed = fails terms p s t x name columns (look_past t.looked x (past_of p.journal)) kept now_looked cause q is (create_stays q _ past_is sessions locks committed room (weighed ∙ now_looked.weighs_so) refl refl) tables past_is

  module _ (free : refusal_in terms p t.looked x name columns ≡ None) where
    pub create_makes : (number : ℕ) (q : Parts) → taker_in p x name ≡ None → number ≡ length (look_past t.looked x (past_of p.journal)) → past_of q.journal ≡ Make x number name (shape_of columns) ∷ look_past t.looked x (past_of p.journal) → p.journal.room ≤ q.journal.room → q.weight ≡ p.weight + cond t.looked 0 1 + (1 + length columns) → listed_in q ≡ listed_in p → all_kept q.tables ≡ all_kept p.tables ++ record { number = number; maker = x; name = name; slots = slots_of x (shape_of columns); rows = [] } ∷ [] → q.locks ≡ p.locks → q.committed ≡ p.committed → HasActed terms p q s t (replies.Tag tags.CreateTable 0) 0
    create_makes number q untaken place past_is room weighed sessions tables locks committed = makes terms p s t x name columns (look_past t.looked x (past_of p.journal)) kept now_looked free number q untaken place (create_stays q _ past_is sessions locks committed room (weighed ∙ rw (now_looked.weighs_so, shape_length columns) refl) refl refl) tables past_is

    pub create_waits : (other : ℕ) (q : Parts) → taker_in p x name ≡ Some other → past_of q.journal ≡ Wait x (wants.Ends other) ∷ look_past t.looked x (past_of p.journal) → p.journal.room ≤ q.journal.room → q.weight ≡ p.weight + cond t.looked 0 1 + 2 → q.sessions ≡ slice_set p.sessions s (record t { looked = true; wants = Some (wants.Ends other) }) → KeepsControls (listed_in p) (listed_in q) → q.tables ≡ p.tables → q.locks ≡ p.locks → q.committed ≡ p.committed → IsKept terms q
    create_waits other q taken past_is room weighed sessions controls_kept tables locks committed = waits_kept terms p s t x name columns (look_past t.looked x (past_of p.journal)) kept now_looked free other taken q state (asks_none terms p s t x (statements.CreateTable name columns) kept state in_xact statement_is goes_on) sessions controls_kept tables locks committed room weighed past_is

    pub create_waits_went : (other : ℕ) (new : Past) → taker_in p x name ≡ Some other → new ≡ Wait x (wants.Ends other) ∷ look_past t.looked x (past_of p.journal) → Went terms s (past_of p.journal) new false (driver (past_of p.journal)) (IsLeast (past_of p.journal) s)
    create_waits_went other new taken is = rw is (waits_went terms p s t x name columns (look_past t.looked x (past_of p.journal)) kept now_looked free other taken)
