-- Laws of the tables that are kept, and of what a reader sees of them.
use Rattle.std.proofs.Common.{◌≡◌, ℕ, suc, zero, ◌+◌, ◌<◌, ◌≤◌, List, [], ◌∷◌, ◌++◌, length, drop, get_or, refl, sym, ap, true, false, Bool, cond, Option, Some, None, IfSome, arith, add-one, ◌∙◌, map, slice_get, slice_set, option_map, append_assoc, drop-cons}
use Rattle.std.specs.Prelude.{◌==◌, ◌||◌}
use Rattle.std.proofs.lemmas.Bool.{eq-eqb, eqb-true, ne_eqb}
use Rattle.std.proofs.lemmas.List.{map-append}
use Rattle.std.proofs.lemmas.Option.{slice_get_read}
use mathlib.Core.Path.{fun_ext}
use Rattle.al_values.specs.declared.scalar.Value.{Value}
use Rattle.al_history.specs.declared.entry.Entry.TheVariants.{Make, Add, Alter, Commit, Abort}
use Rattle.al_history.specs.declared.entry.Rewritten.{Rewritten}
use Rattle.al_history.specs.declared.statement.Column.{Column}
use Rattle.al_history.specs.declared.statement.Statement.TheVariants as statements
use Rattle.al_history.specs.declared.statement.Terms.{Terms}
use Rattle.al_history.specs.Past.{Past}
use Rattle.al_history.specs.Database.{Table, named, same_name}
use Rattle.al_history.specs.Fate.{Fate, Open, Committed, Aborted, fate, is_that}
use Rattle.al_history.specs.Hand.{hand, session_of, xact_of, statement_of}
use Rattle.al_history.specs.View.{latest}
use Rattle.al_history.specs.Waits.{is_open}
use Rattle.al_history.specs.Need.{makers, first_open}
use Rattle.al_history.specs.Cause.{count_cause, alter_cause}
use Rattle.al_history.specs.Legal.{Legal}
use Rattle.al_history.specs.Store.{Slot, KeptTable, shown_values, shown_table, shown, is_committed, sees, spread, with_kept, kept_row, kept_slot, slots_of, store}
use Rattle.al_history.proofs.Pasts.{if_same}
use Rattle.al_history.proofs.Xacts.{is_start, xact_is, open_own}
use Rattle.al_history.proofs.Stores.{latest_shown}
use Rattle.al_history.proofs.Suffices.{locks_suffice}
use Rattle.al_history.proofs.Makers.{Each, each_more, Ascend, store_ascends, AreMade, Began, makers_began, makers_among, makers_stored}
use Rattle.al_engine.specs.declared.stored.StoredColumn.{StoredColumn}
use Rattle.al_engine.specs.declared.stored.StoredRow.{StoredRow}
use Rattle.al_engine.specs.declared.stored.StoredTable.{StoredTable}
use Rattle.al_engine.specs.Stored.{slot_of, kept_of, all_kept, seen_by, TellsCommitted, of_columns, with_stored_row, with_stored_column, makers_in, is_among, first_among}

-- ---- what a reader finds

-- the table at a place, where the reader sees it and it has the name, and none before it is found so
pub named_at : (f : ℕ → Bool) (tables : List StoredTable) (at : ℕ) (t : StoredTable) (name : List ℕ) → at < length tables → t ≡ get_or tables at t → f t.maker ≡ true → same_name t.name name ≡ true → named (shown f (all_kept tables)) name ≡ named (shown f (all_kept (drop at tables))) name → option_map (λ (u : StoredTable). shown_table f (kept_of u)) (slice_get tables at) ≡ named (shown f (all_kept tables)) name
named_at f tables at t name lt is seen same past = here tables at lt is ∙ sym past where
  here : (tables : List StoredTable) (at : ℕ) → at < length tables → t ≡ get_or tables at t → option_map (λ (u : StoredTable). shown_table f (kept_of u)) (slice_get tables at) ≡ named (shown f (all_kept (drop at tables))) name
  here [] at lt is = absurd (omega arith)
  here (u ∷ tables) zero lt is = let e : t ≡ u = is in rw (← e, seen, same) refl
  here (u ∷ tables) (suc at) lt is = here tables at (omega arith) is

pub seen_at : (f : ℕ → Bool) (tables : List StoredTable) (at : ℕ) (t : StoredTable) → at < length tables → t ≡ get_or tables at t → f t.maker ≡ true → IfSome (slice_get tables at) (λ u. f u.maker ≡ true)
seen_at f tables at t lt is seen = rw (slice_get_read tables (length tables) at t refl lt is) seen

-- a value for a slot, from a place of a row on
values_from : (f : ℕ → Bool) (slot : Slot) (slots : List Slot) (values : List Value) (at : ℕ) → shown_values f (slot ∷ slots) (drop at values) ≡ cond (f slot.maker) (get_or values at slot.column.default ∷ shown_values f slots (drop (suc at) values)) (shown_values f slots (drop (suc at) values))
values_from f slot slots [] zero = refl
values_from f slot slots [] (suc at) = refl
values_from f slot slots (v ∷ values) zero = refl
values_from f slot slots (v ∷ values) (suc at) = values_from f slot slots values at

module _ (f : ℕ → Bool) (columns : List StoredColumn) (values front whole : List Value) (at : ℕ) (column : StoredColumn) where
  columns_from : at < length columns → column ≡ get_or columns at column → shown_values f (map slot_of (drop at columns)) (drop at values) ≡ cond (f column.maker) (get_or values at column.column.default ∷ shown_values f (map slot_of (drop (suc at) columns)) (drop (suc at) values)) (shown_values f (map slot_of (drop (suc at) columns)) (drop (suc at) values))
  columns_from lt is = rw (drop-cons columns at column, ← is) (values_from f (slot_of column) (map slot_of (drop (suc at) columns)) values at)

  pub value_seen : (v : Value) → at < length columns → column ≡ get_or columns at column → f column.maker ≡ true → v ≡ get_or values at column.column.default → front ++ shown_values f (map slot_of (drop at columns)) (drop at values) ≡ whole → (front ++ v ∷ []) ++ shown_values f (map slot_of (drop (at + 1) columns)) (drop (at + 1) values) ≡ whole
  value_seen v lt is seen value so_far = rw (add-one, append_assoc, value) (ap (λ (rest : List Value). front ++ rest) (sym (columns_from lt is ∙ rw seen refl)) ∙ so_far)

  pub value_unseen : at < length columns → column ≡ get_or columns at column → f column.maker ≡ false → front ++ shown_values f (map slot_of (drop at columns)) (drop at values) ≡ whole → front ++ shown_values f (map slot_of (drop (at + 1) columns)) (drop (at + 1) values) ≡ whole
  value_unseen lt is seen so_far = rw add-one (ap (λ (rest : List Value). front ++ rest) (sym (columns_from lt is ∙ rw seen refl)) ∙ so_far)

-- what is refused of a table hangs on its columns alone
pub counts_by_columns : (columns : List Column) (got : ℕ) (t : Table) → columns ≡ t.columns → count_cause got (Some (of_columns columns)) ≡ count_cause got (Some t)
counts_by_columns columns got t is = rw is refl

pub alters_by_columns : (columns : List Column) (column : Column) (t : Table) → columns ≡ t.columns → alter_cause column (Some (of_columns columns)) ≡ alter_cause column (Some t)
alters_by_columns columns column t is = rw is refl

-- a table that a reader finds by its name is one of those that are kept, and the reader sees its maker
pub record IsSeenTable (f : ℕ → Bool) (tables : List StoredTable) (u : Table) : Type 0 where
  pub at : ℕ
  pub t : StoredTable
  pub there : slice_get tables at ≡ Some t
  pub seen : f t.maker ≡ true
  pub is : shown_table f (kept_of t) ≡ u

seen_behind : (f : ℕ → Bool) (tables : List StoredTable) (other : StoredTable) (u : Table) → IsSeenTable f tables u → IsSeenTable f (other ∷ tables) u
seen_behind f tables other u found = record { at = suc found.at; t = found.t; there = found.there; seen = found.seen; is = found.is }

pub named_seen : (f : ℕ → Bool) (tables : List StoredTable) (name : List ℕ) (u : Table) → named (shown f (all_kept tables)) name ≡ Some u → IsSeenTable f tables u
named_seen f [] name u found = absurd cc
named_seen f (t ∷ tables) name u found = by_seen (f t.maker) refl found (λ rest. seen_behind f tables t u (named_seen f tables name u rest)) where
  by_name : (b : Bool) → f t.maker ≡ true → cond b (Some (shown_table f (kept_of t))) (named (shown f (all_kept tables)) name) ≡ Some u → (named (shown f (all_kept tables)) name ≡ Some u → IsSeenTable f (t ∷ tables) u) → IsSeenTable f (t ∷ tables) u
  by_name true seen found behind = record { at = zero; t = t; there = refl; seen = seen; is = cc }
  by_name false seen found behind = behind found

  by_seen : (b : Bool) → f t.maker ≡ b → named (cond b (shown_table f (kept_of t) ∷ shown f (all_kept tables)) (shown f (all_kept tables))) name ≡ Some u → (named (shown f (all_kept tables)) name ≡ Some u → IsSeenTable f (t ∷ tables) u) → IsSeenTable f (t ∷ tables) u
  by_seen true seen found behind = by_name (same_name t.name name) seen found behind
  by_seen false seen found behind = behind found

-- what stands at a place that was found
pub named_there : (f : ℕ → Bool) (tables : List StoredTable) (at : ℕ) (t : StoredTable) (name : List ℕ) → option_map (λ (u : StoredTable). shown_table f (kept_of u)) (slice_get tables at) ≡ named (shown f (all_kept tables)) name → slice_get tables at ≡ Some t → named (shown f (all_kept tables)) name ≡ Some (shown_table f (kept_of t))
named_there f tables at t name found there = sym found ∙ rw there refl

-- ---- who reads

-- a reader sees what the journal says
pub seen_is : (past : Past) (x : ℕ) (committed : List Bool) → TellsCommitted past committed → seen_by (Some x) committed ≡ sees past (Some x)
seen_is past x committed tells = fun_ext (λ y. ap (λ (b : Bool). is_that (Some x) y || b) (tells y))

-- what a transaction finds is what it sees of the tables that are kept
pub latest_kept : (terms : Terms) (past : Past) (tables : List StoredTable) (x : ℕ) (committed : List Bool) → Legal terms past → fate past x ≡ Open → all_kept tables ≡ store terms past → TellsCommitted past committed → latest terms past x ≡ shown (seen_by (Some x) committed) (all_kept tables)
latest_kept terms past tables x committed legal undecided is tells = latest_shown terms past x (locks_suffice terms past legal) undecided ∙ ap (λ (f : ℕ → Bool). shown f (store terms past)) (sym (seen_is past x committed tells)) ∙ ap (λ (all : List KeptTable). shown (seen_by (Some x) committed) all) (sym is)

pub tells_none : TellsCommitted [] []
tells_none y = refl

-- a place more
pub tells_push : (past : Past) (committed : List Bool) → TellsCommitted past committed → TellsCommitted past (committed ++ false ∷ [])
tells_push past committed tells y = none_at committed y ∙ tells y where
  none_at : (bs : List Bool) (at : ℕ) → get_or (bs ++ false ∷ []) at false ≡ get_or bs at false
  none_at [] zero = refl
  none_at [] (suc at) = refl
  none_at (b ∷ bs) zero = refl
  none_at (b ∷ bs) (suc at) = none_at bs at

pub tells_commit : (past : Past) (committed : List Bool) (x : ℕ) → x < length committed → TellsCommitted past committed → TellsCommitted (Commit x ∷ past) (slice_set committed x true)
tells_commit past committed x lt tells y = by_test (x == y) refl where
  same_at : (bs : List Bool) (x : ℕ) → x < length bs → get_or (slice_set bs x true) x false ≡ true
  same_at [] x lt = absurd (omega arith)
  same_at (b ∷ bs) zero lt = refl
  same_at (b ∷ bs) (suc x) lt = same_at bs x (omega arith)

  other_at : (bs : List Bool) (x y : ℕ) → (x ≡ y → ⊥) → get_or (slice_set bs x true) y false ≡ get_or bs y false
  other_at [] x y ne = refl
  other_at (b ∷ bs) zero zero ne = absurd (ne refl)
  other_at (b ∷ bs) zero (suc y) ne = refl
  other_at (b ∷ bs) (suc x) zero ne = refl
  other_at (b ∷ bs) (suc x) (suc y) ne = other_at bs x y (λ e. ne (ap suc e))

  by_test : (b : Bool) → (x == y) ≡ b → get_or (slice_set committed x true) y false ≡ is_committed (cond b Committed (fate past y))
  by_test true here = rw (← eqb-true x y here) (same_at committed x lt)
  by_test false here = other_at committed x y (λ e. let both : true ≡ false = sym (eq-eqb x y e) ∙ here in cc) ∙ tells y

pub tells_abort : (past : Past) (committed : List Bool) (x : ℕ) → fate past x ≡ Open → TellsCommitted past committed → TellsCommitted (Abort x ∷ past) committed
tells_abort past committed x undecided tells y = tells y ∙ by_test (x == y) (eqb-true x y) where
  by_test : (b : Bool) → (b ≡ true → x ≡ y) → is_committed (fate past y) ≡ is_committed (cond b Aborted (fate past y))
  by_test true same = let e : fate past y ≡ Open = cc (same refl) in rw e refl
  by_test false same = refl

-- ---- how it grows

pub kept_push : (tables : List StoredTable) (t : StoredTable) → all_kept (tables ++ t ∷ []) ≡ all_kept tables ++ kept_of t ∷ []
kept_push tables t = map-append kept_of tables (t ∷ [])

-- the numbers from a place on
number_from : (low next : ℕ) (tables : List StoredTable) (at : ℕ) (t : StoredTable) → Ascend low next (all_kept tables) → slice_get tables at ≡ Some t → low ≤ t.number
number_from low next [] at t up is = absurd cc
number_from low next (u ∷ tables) zero t up is = let e : u ≡ t = cc in rw (← e) up.0
number_from low next (u ∷ tables) (suc at) t up is = let above : u.number + 1 ≤ t.number = number_from (u.number + 1) next tables at t up.2 is in omega (arith, up.0)

-- no table from there on has a number below
none_with : (low next number : ℕ) (h : KeptTable → KeptTable) (tables : List KeptTable) → number < low → Ascend low next tables → with_kept number h tables ≡ tables
none_with low next number h [] lt up = refl
none_with low next number h (t ∷ tables) lt up =
    let other : (t.number == number) ≡ false = ne_eqb t.number number (λ e. omega (arith, up.0)) in
    rw other (ap (λ (rest : List KeptTable). t ∷ rest) (none_with (t.number + 1) next number h tables (omega (arith, up.0)) up.2))

-- a table changed at its place is the table of its number changed
pub kept_set : (low next : ℕ) (tables : List StoredTable) (at : ℕ) (t changed : StoredTable) (h : KeptTable → KeptTable) → Ascend low next (all_kept tables) → slice_get tables at ≡ Some t → kept_of changed ≡ h (kept_of t) → all_kept (slice_set tables at changed) ≡ with_kept t.number h (all_kept tables)
kept_set low next [] at t changed h up is same = absurd cc
kept_set low next (u ∷ tables) zero t changed h up is same =
    let e : u ≡ t = cc in
    rw (e, if_same t.number, same) (ap (λ (rest : List KeptTable). h (kept_of t) ∷ rest) (sym (none_with (u.number + 1) next t.number h (all_kept tables) (rw e (omega arith)) up.2)))
kept_set low next (u ∷ tables) (suc at) t changed h up is same =
    let above : u.number + 1 ≤ t.number = number_from (u.number + 1) next tables at t up.2 is in
    let other : (u.number == t.number) ≡ false = ne_eqb u.number t.number (λ e. omega arith) in
    rw (other, kept_set (u.number + 1) next tables at t changed h up.2 is same) refl

pub kept_row_set : (next : ℕ) (tables : List StoredTable) (at : ℕ) (t : StoredTable) (r : StoredRow) (x : ℕ) (f : ℕ → Bool) (row : List Value) → Ascend 0 next (all_kept tables) → slice_get tables at ≡ Some t → r.maker ≡ x → r.values ≡ spread f (map slot_of t.columns) row → all_kept (slice_set tables at (with_stored_row r t)) ≡ with_kept t.number (kept_row r.number x f row) (all_kept tables)
kept_row_set next tables at t r x f row up is maker values = kept_set 0 next tables at t (with_stored_row r t) (kept_row r.number x f row) up is (rw (map-append, values, maker) refl)

pub kept_slot_set : (next : ℕ) (tables : List StoredTable) (at : ℕ) (t : StoredTable) (c : StoredColumn) (x : ℕ) (name : List ℕ) (column : Column) → Ascend 0 next (all_kept tables) → slice_get tables at ≡ Some t → c.maker ≡ x → c.column ≡ column → all_kept (slice_set tables at (with_stored_column c t)) ≡ with_kept t.number (kept_slot (Some (statements.AddColumn name column)) x) (all_kept tables)
kept_slot_set next tables at t c x name column up is maker column_is = kept_set 0 next tables at t (with_stored_column c t) (kept_slot (Some (statements.AddColumn name column)) x) up is (rw (map-append, maker, column_is) refl)

-- ---- the tables that are kept are the one list of the journal, after each entry that makes something

module _ (terms : Terms) (past : Past) (tables : List StoredTable) (x : ℕ) where
  pub store_after_make : (number : ℕ) (name : List ℕ) (shape : List Column) (t : StoredTable) → all_kept tables ≡ store terms past → kept_of t ≡ record { number = number; maker = x; name = name; slots = slots_of x shape; rows = [] } → all_kept (tables ++ t ∷ []) ≡ store terms (Make x number name shape ∷ past)
  store_after_make number name shape t is table_is = rw (kept_push tables t, is, table_is) refl

  pub store_after_add : (at : ℕ) (t : StoredTable) (r : StoredRow) (row : List Value) → Legal terms past → all_kept tables ≡ store terms past → slice_get tables at ≡ Some t → r.number ≡ length past → r.maker ≡ x → r.values ≡ spread (sees past (Some x)) (map slot_of t.columns) row → all_kept (slice_set tables at (with_stored_row r t)) ≡ store terms (Add x t.number row ∷ past)
  store_after_add at t r row legal is there number maker values =
      let up : Ascend 0 (length past) (all_kept tables) = rw is (store_ascends terms past legal) in
      kept_row_set (length past) tables at t r x (sees past (Some x)) row up there maker values ∙ rw (number, is) refl

  -- the same, where the row is spread by what the list tells of who is committed
  pub store_after_insert : (committed : List Bool) (at : ℕ) (t : StoredTable) (r : StoredRow) (row : List Value) → Legal terms past → all_kept tables ≡ store terms past → TellsCommitted past committed → slice_get tables at ≡ Some t → r.number ≡ length past → r.maker ≡ x → r.values ≡ spread (seen_by (Some x) committed) (map slot_of t.columns) row → all_kept (slice_set tables at (with_stored_row r t)) ≡ store terms (Add x t.number row ∷ past)
  store_after_insert committed at t r row legal is tells there number maker values = store_after_add at t r row legal is there number maker (values ∙ ap (λ (f : ℕ → Bool). spread f (map slot_of t.columns) row) (seen_is past x committed tells))

  pub store_after_alter : (at : ℕ) (t : StoredTable) (c : StoredColumn) (statement : ℕ) (rewritten : List Rewritten) (name : List ℕ) (column : Column) → Legal terms past → all_kept tables ≡ store terms past → slice_get tables at ≡ Some t → statement_of terms (hand past (session_of past x)) statement ≡ Some (statements.AddColumn name column) → c.maker ≡ x → c.column ≡ column → all_kept (slice_set tables at (with_stored_column c t)) ≡ store terms (Alter x t.number statement rewritten ∷ past)
  store_after_alter at t c statement rewritten name column legal is there in_hand maker column_is =
      let up : Ascend 0 (length past) (all_kept tables) = rw is (store_ascends terms past legal) in
      kept_slot_set (length past) tables at t c x name column up there maker column_is ∙ rw (in_hand, is) refl

-- ---- who is in the way of a name

pub makers_kept : (tables : List StoredTable) (name : List ℕ) → makers_in tables name ≡ makers_among (all_kept tables) name
makers_kept [] name = refl
makers_kept (t ∷ tables) name = rw (makers_kept tables name) refl

-- the first that is open, by the list of open ones and by the journal, where these agree on each
pub first_agrees : (past : Past) (x : ℕ) (xacts : List (Option ℕ)) (ys : List ℕ) → Each (λ (y : ℕ). is_among xacts y ≡ is_open (fate past y)) ys → first_among x xacts ys ≡ first_open past x ys
first_agrees past x xacts [] each = refl
first_agrees past x xacts (y ∷ ys) each = rw (each.0, first_agrees past x xacts ys each.1) refl

-- all makers of tables of a name are transactions
makers_all : (P : ℕ → Type 0) (tables : List KeptTable) (name : List ℕ) → Each (AreMade P) tables → Each P (makers_among tables name)
makers_all P [] name each = tt
makers_all P (t ∷ tables) name each = by_test (same_name t.name name) (makers_all P tables name each.1) where
  by_test : (b : Bool) → Each P (makers_among tables name) → Each P (cond b (t.maker ∷ makers_among tables name) (makers_among tables name))
  by_test true rest = (each.0.0, rest)
  by_test false rest = rest

pub makers_began_of : (terms : Terms) (past : Past) (name : List ℕ) → Legal terms past → Each (Began past) (makers past name)
makers_began_of terms past name legal = rw (makers_stored terms past name) (makers_all (Began past) (store terms past) name (makers_began terms past legal))

-- what is found among the open transactions is what is in the way of the name
pub taker_is : (terms : Terms) (past : Past) (tables : List StoredTable) (x : ℕ) (xacts : List (Option ℕ)) (name : List ℕ) → Legal terms past → all_kept tables ≡ store terms past → ((y : ℕ) → is_start past y ≡ true → is_among xacts y ≡ is_open (fate past y)) → first_among x xacts (makers_in tables name) ≡ first_open past x (makers past name)
taker_is terms past tables x xacts name legal is agree =
    let kept : makers_in tables name ≡ makers past name = makers_kept tables name ∙ rw is (sym (makers_stored terms past name)) in
    let began : Each (Began past) (makers past name) = makers_began_of terms past name legal in
    rw kept (first_agrees past x xacts (makers past name) (each_more (Began past) (λ (y : ℕ). is_among xacts y ≡ is_open (fate past y)) (makers past name) agree began))

-- ---- which transactions are open

among_at : (xacts : List (Option ℕ)) (s y : ℕ) → get_or xacts s None ≡ Some y → is_among xacts y ≡ true
among_at [] s y is = absurd cc
among_at (own ∷ xacts) zero y is = rw (is, if_same y) refl
among_at (own ∷ xacts) (suc s) y is = rw (among_at xacts s y is) (or_true (is_that own y)) where
  or_true : (b : Bool) → b || true ≡ true
  or_true true = refl
  or_true false = refl

among_none : (xacts : List (Option ℕ)) (y : ℕ) → ((s : ℕ) → get_or xacts s None ≡ Some y → ⊥) → is_among xacts y ≡ false
among_none [] y not_at = refl
among_none (own ∷ xacts) y not_at = rw (other own (not_at zero), among_none xacts y (λ s. not_at (suc s))) refl where
  other : (own : Option ℕ) → (own ≡ Some y → ⊥) → is_that own y ≡ false
  other None not_own = refl
  other (Some z) not_own = ne_eqb z y (λ e. not_own (ap Some e))

-- the sessions' transactions are the open ones
pub among_open : (terms : Terms) (past : Past) (xacts : List (Option ℕ)) → Legal terms past → ((s : ℕ) → get_or xacts s None ≡ xact_of past s) → (y : ℕ) → is_start past y ≡ true → is_among xacts y ≡ is_open (fate past y)
among_open terms past xacts legal mirrors y began = by_fate (fate past y) refl where
  not_its : (F : Fate) → fate past y ≡ F → (F ≡ Open → ⊥) → is_among xacts y ≡ false
  not_its F is not_open = among_none xacts y (λ s its. not_open (sym is ∙ (xact_is terms past s y legal (sym (mirrors s) ∙ its)).undecided))

  by_fate : (F : Fate) → fate past y ≡ F → is_among xacts y ≡ is_open F
  by_fate Open is = among_at xacts (session_of past y) y (mirrors (session_of past y) ∙ open_own terms past y legal began is)
  by_fate Committed is = not_its Committed is (λ (e : ◌≡◌ {A = Fate} Committed Open). cc)
  by_fate Aborted is = not_its Aborted is (λ (e : ◌≡◌ {A = Fate} Aborted Open). cc)
