-- What the parts show to a sight: who sees a transaction that has a table quiet finds there what it finds.
use Rattle.std.proofs.Common.{◌≡◌, ℕ, suc, ◌≤◌, List, [], ◌∷◌, ◌++◌, length, refl, sym, ap, subst, cond, true, false, Bool, Option, Some, None, arith, ◌∙◌}
use Rattle.std.specs.Prelude.{◌==◌, ◌||◌, is_some}
use Rattle.std.proofs.lemmas.Bool.{ne_eqb, eq-eqb, eqb-true}
use Rattle.al_values.specs.declared.scalar.Value.{Value}
use Rattle.al_modes.specs.declared.mode.Mode.TheVariants.{RowExclusive, AccessExclusive}
use Rattle.al_history.specs.declared.entry.Rewritten.{Rewritten}
use Rattle.al_history.specs.declared.entry.Entry.TheVariants.{Make, Add, Alter, Commit, Abort}
use Rattle.al_history.specs.declared.statement.Statement.{Statement}
use Rattle.al_history.specs.declared.statement.Statement.TheVariants as statements
use Rattle.al_history.specs.declared.statement.Terms.{Terms}
use Rattle.al_history.specs.Past.{Past}
use Rattle.al_history.specs.Database.{Database}
use Rattle.al_history.specs.Fate.{Fate, Open, Committed, Aborted, fate, Inside, Outside, Absent}
use Rattle.al_history.specs.Hand.{hand, session_of, statement_of, in_hand}
use Rattle.al_history.specs.View.{for_both, for_inside, latest}
use Rattle.al_history.specs.Store.{sees}
use Rattle.al_history.specs.Quiet.{IsSettled, IsQuietIn, IsQuiet}
use Rattle.al_history.specs.Parts.{RowVersions, Generation, Description, TableEntry, TableParts, Sight, stands_in, seen_description, seen_generation, slot_of, described, stored_in, new_table, in_generation, new_row, with_new_row, altered_by, with_new_entry, with_parts, parts}
use Rattle.al_history.specs.Rules.{AddRule, AlterRule}
use Rattle.al_history.specs.Legal.{Legal}
use Rattle.al_history.proofs.Needs.{IsInsertion, insertion, IsAddition, addition, lock_held}
use Rattle.al_history.proofs.Owners.{alter_held}
use Rattle.al_history.proofs.PartRows.{RowsShort, rows_more, short_push, slots_push, length_stored, below_push}
use Rattle.al_history.proofs.PartTables.{EachOf, each_of, each_more, each_push, each_with, GenerationsBelow, generations_more, AreSound, sound_more, sound_push, sound_with, named_has}
use Rattle.al_history.proofs.Quiets.{locked_quiet}
use Rattle.al_history.proofs.Xacts.{xact_is}

-- ---- sights

-- who sees these transactions sees all that are committed, none that is aborted, and rows of none but these
pub record IsSight (past : Past) (f : Sight) : Type 0 where
  pub committed : (x : ℕ) → fate past x ≡ Committed → f.catalogue x ≡ true
  pub aborted : (x : ℕ) → fate past x ≡ Aborted → f.catalogue x ≡ false
  pub fewer : (x : ℕ) → f.rows x ≡ true → f.catalogue x ≡ true

pub still : (past after : Past) (f : Sight) → ((z : ℕ) → fate after z ≡ fate past z) → IsSight after f → IsSight past f
still past after f same can = record { committed = λ z e. can.committed z (same z ∙ e); aborted = λ z e. can.aborted z (same z ∙ e); fewer = can.fewer }

pub before_commit : (past : Past) (x : ℕ) (f : Sight) → fate past x ≡ Open → IsSight (Commit x ∷ past) f → IsSight past f
before_commit past x f undecided can = record {
  committed = λ z e. can.committed z (rw e (by_test (x == z)));
  aborted = λ z e. let other : (x == z) ≡ false = ne_eqb x z (λ (same : x ≡ z). let both : ◌≡◌ {A = Fate} Open Aborted = sym undecided ∙ rw same e in cc) in can.aborted z (rw other e);
  fewer = can.fewer;
} where
  by_test : (b : Bool) → cond b Committed Committed ≡ Committed
  by_test true = refl
  by_test false = refl

pub before_abort : (past : Past) (x : ℕ) (f : Sight) → fate past x ≡ Open → IsSight (Abort x ∷ past) f → IsSight past f
before_abort past x f undecided can = record {
  committed = λ z e. let other : (x == z) ≡ false = ne_eqb x z (λ (same : x ≡ z). let both : ◌≡◌ {A = Fate} Open Committed = sym undecided ∙ rw same e in cc) in can.committed z (rw other e);
  aborted = λ z e. can.aborted z (rw e (by_test (x == z)));
  fewer = can.fewer;
} where
  by_test : (b : Bool) → cond b Aborted Aborted ≡ Aborted
  by_test true = refl
  by_test false = refl

-- an open transaction's own
abbrev pub own_sight : Past → ℕ → Sight
own_sight past x = record { catalogue = sees past (Some x); rows = sees past (Some x) }

pub own_is : (past : Past) (x : ℕ) → fate past x ≡ Open → IsSight past (own_sight past x)
own_is past x undecided = record {
  committed = λ z e. rw e (or_true (x == z));
  aborted = λ z e. let other : (x == z) ≡ false = ne_eqb x z (λ (same : x ≡ z). let both : ◌≡◌ {A = Fate} Open Aborted = sym undecided ∙ rw same e in cc) in rw (other, e) refl;
  fewer = λ z e. e;
} where
  or_true : (b : Bool) → (b || true) ≡ true
  or_true true = refl
  or_true false = refl

pub both_is : (f : Sight) (x : ℕ) (new old : Database) → (f.rows x ≡ true → f.catalogue x ≡ true) → for_both (stands_in f x) new old ≡ cond (f.catalogue x) new old
both_is f x new old fewer = by_rows (f.rows x) (f.catalogue x) fewer where
  by_rows : (r c : Bool) → (r ≡ true → c ≡ true) → for_both (cond r Inside (cond c Outside Absent)) new old ≡ cond c new old
  by_rows true c fewer = rw (fewer refl) refl
  by_rows false true fewer = refl
  by_rows false false fewer = refl

pub inside_is : (f : Sight) (x : ℕ) (new old : Database) → for_inside (stands_in f x) new old ≡ cond (f.rows x) new old
inside_is f x new old = by_rows (f.rows x) (f.catalogue x) where
  by_rows : (r c : Bool) → for_inside (cond r Inside (cond c Outside Absent)) new old ≡ cond r new old
  by_rows true c = refl
  by_rows false true = refl
  by_rows false false = refl

-- ---- what an open transaction and who sees it see alike

-- who sees x sees of settled makers what x sees
agree : (past : Past) (f : Sight) (x m : ℕ) → IsSight past f → fate past x ≡ Open → f.catalogue x ≡ true → IsSettled past x m → f.catalogue m ≡ sees past (Some x) m
agree past f x m can undecided seen settled = by_fate (fate past m) refl where
  or_true : (b : Bool) → true ≡ (b || true)
  or_true true = refl
  or_true false = refl

  by_fate : (b : Fate) → fate past m ≡ b → f.catalogue m ≡ sees past (Some x) m
  by_fate Open is = let same : m ≡ x = settled is in rw (same, seen, eq-eqb x x refl) refl
  by_fate Committed is = rw (can.committed m is, is) (or_true (x == m))
  by_fate Aborted is = let other : (x == m) ≡ false = ne_eqb x m (λ (same : x ≡ m). let both : ◌≡◌ {A = Fate} Open Aborted = sym undecided ∙ rw same is in cc) in rw (can.aborted m is, is, other) refl

abbrev pub EntriesSettled : Past → ℕ → List TableEntry → Type 0
EntriesSettled past x [] = Unit {0}
EntriesSettled past x (e ∷ entries) = IsSettled past x e.maker × EntriesSettled past x entries

abbrev pub GenerationsSettled : Past → ℕ → List Generation → Type 0
GenerationsSettled past x [] = Unit {0}
GenerationsSettled past x (g ∷ generations) = IsSettled past x g.maker × GenerationsSettled past x generations

pub entries_agree : (past : Past) (f : Sight) (x : ℕ) (entries : List TableEntry) → IsSight past f → fate past x ≡ Open → f.catalogue x ≡ true → EntriesSettled past x entries → seen_description f.catalogue entries ≡ seen_description (sees past (Some x)) entries
entries_agree past f x [] can undecided seen settled = refl
entries_agree past f x (e ∷ entries) can undecided seen settled = rw (agree past f x e.maker can undecided seen settled.0, entries_agree past f x entries can undecided seen settled.1) refl

abbrev pub has_generation : (ℕ → Bool) → List Generation → Bool
has_generation sees [] = false
has_generation sees (g ∷ generations) = cond (sees g.maker) true (has_generation sees generations)

-- who sees x finds a change of rows in the generation that it sees
pub generation_seen : (past : Past) (f : Sight) (x : ℕ) (k : List RowVersions → List RowVersions) (generations : List Generation) → IsSight past f → fate past x ≡ Open → f.catalogue x ≡ true → GenerationsSettled past x generations → has_generation (sees past (Some x)) generations ≡ true → seen_generation f.catalogue (in_generation (sees past (Some x)) k generations) ≡ k (seen_generation f.catalogue generations)
generation_seen past f x k [] can undecided seen settled there = absurd cc
generation_seen past f x k (g ∷ generations) can undecided seen settled there = by_test (sees past (Some x) g.maker) (agree past f x g.maker can undecided seen settled.0) there (λ h. generation_seen past f x k generations can undecided seen settled.1 h) where
  by_test : (b : Bool) → f.catalogue g.maker ≡ b → cond b true (has_generation (sees past (Some x)) generations) ≡ true → (has_generation (sees past (Some x)) generations ≡ true → seen_generation f.catalogue (in_generation (sees past (Some x)) k generations) ≡ k (seen_generation f.catalogue generations)) → seen_generation f.catalogue (cond b (record g { rows = k g.rows } ∷ generations) (g ∷ in_generation (sees past (Some x)) k generations)) ≡ k (seen_generation f.catalogue (g ∷ generations))
  by_test true is there more = rw is refl
  by_test false is there more = rw is (more there)

-- what a change of rows keeps in all generations it keeps in the one that is seen
pub generation_keeps : (P : List RowVersions → Type 0) (s c : ℕ → Bool) (k : List RowVersions → List RowVersions) (generations : List Generation) → ((rows : List RowVersions) → P rows → P (k rows)) → P (seen_generation c generations) → P (seen_generation c (in_generation s k generations))
generation_keeps P s c k [] keeps is = is
generation_keeps P s c k (g ∷ generations) keeps is = by_test (s g.maker) is (λ h. generation_keeps P s c k generations keeps h) where
  by_seen : (d : Bool) → P (cond d g.rows (seen_generation c generations)) → P (cond d (k g.rows) (seen_generation c generations))
  by_seen true is = keeps g.rows is
  by_seen false is = is

  by_other : (d : Bool) → P (cond d g.rows (seen_generation c generations)) → (P (seen_generation c generations) → P (seen_generation c (in_generation s k generations))) → P (cond d g.rows (seen_generation c (in_generation s k generations)))
  by_other true is more = is
  by_other false is more = more is

  by_test : (b : Bool) → P (cond (c g.maker) g.rows (seen_generation c generations)) → (P (seen_generation c generations) → P (seen_generation c (in_generation s k generations))) → P (seen_generation c (cond b (record g { rows = k g.rows } ∷ generations) (g ∷ in_generation s k generations)))
  by_test true is more = by_seen (c g.maker) is
  by_test false is more = by_other (c g.maker) is more

-- ---- what is quiet is settled

abbrev pub IsSettledTable : Past → ℕ → TableParts → Type 0
IsSettledTable past x t = EntriesSettled past x t.entries × GenerationsSettled past x t.generations

generations_stay : (past : Past) (x : ℕ) (s : ℕ → Bool) (k : List RowVersions → List RowVersions) (generations : List Generation) → GenerationsSettled past x generations → GenerationsSettled past x (in_generation s k generations)
generations_stay past x s k [] settled = tt
generations_stay past x s k (g ∷ generations) settled = by_test (s g.maker) (generations_stay past x s k generations settled.1) where
  by_test : (b : Bool) → GenerationsSettled past x (in_generation s k generations) → GenerationsSettled past x (cond b (record g { rows = k g.rows } ∷ generations) (g ∷ in_generation s k generations))
  by_test true more = settled
  by_test false more = (settled.0, more)

pub settled_by_quiet : (terms : Terms) (whole past : Past) (x table : ℕ) → IsQuietIn whole past x table → EachOf table (IsSettledTable whole x) (parts terms past)
settled_by_quiet terms whole [] x table quiet = tt
settled_by_quiet terms whole (Make y other name columns ∷ past) x table quiet = each_push table (IsSettledTable whole x) (parts terms past) (new_table y other name columns) (settled_by_quiet terms whole past x table quiet.1) (λ same. (((quiet.0 same), tt), ((quiet.0 same), tt)))
settled_by_quiet terms whole (Add y other row ∷ past) x table quiet = each_with table other (IsSettledTable whole x) (with_new_row (sees past (Some y)) (length past) y row) (parts terms past) (λ t. refl) (λ t same settled. (settled.0, generations_stay whole x (sees past (Some y)) _ t.generations settled.1)) (settled_by_quiet terms whole past x table quiet)
settled_by_quiet terms whole (Alter y other statement rewritten ∷ past) x table quiet = each_with table other (IsSettledTable whole x) (with_new_entry (sees past (Some y)) y (statement_of terms (hand past (session_of past y)) statement)) (parts terms past) (λ t. refl) (λ t same settled. ((quiet.0 same, settled.0), settled.1)) (settled_by_quiet terms whole past x table quiet.1)
settled_by_quiet terms whole (e ∷ past) x table quiet = settled_by_quiet terms whole past x table quiet

pub add_quiet : (terms : Terms) (past : Past) (x table : ℕ) (row : List Value) → Legal terms past → AddRule terms past x table row → IsQuiet past x table
add_quiet terms past x table row legal rule =
    let is : IsInsertion (in_hand terms past (session_of past x)) (latest terms past x) table row = insertion (in_hand terms past (session_of past x)) (latest terms past x) table row rule.inserts in
    rw is.number (locked_quiet terms past (session_of past x) x is.t.number RowExclusive legal rule.act.open_xact (named_has (latest terms past x) is.name is.t is.found) (lock_held terms past x (statements.Insert is.name is.written) is.name is.t rule.act.locked is.is refl is.found))

pub alter_quiet : (terms : Terms) (past : Past) (x table statement : ℕ) (rewritten : List Rewritten) → Legal terms past → AlterRule terms past x table statement rewritten → IsQuiet past x table
alter_quiet terms past x table statement rewritten legal rule =
    let is : IsAddition (in_hand terms past (session_of past x)) (latest terms past x) table = addition (in_hand terms past (session_of past x)) (latest terms past x) table rule.alters in
    locked_quiet terms past (session_of past x) x table AccessExclusive legal rule.act.open_xact (rw is.number (named_has (latest terms past x) is.name is.t is.found)) (alter_held terms past x table statement rewritten rule)

-- ---- numbers

generations_push : (next : ℕ) (s : ℕ → Bool) (x : ℕ) (stored : List Value) (generations : List Generation) → GenerationsBelow next generations → GenerationsBelow (suc next) (in_generation s (λ rows. rows ++ new_row next x stored ∷ []) generations)
generations_push next s x stored [] below = tt
generations_push next s x stored (g ∷ generations) below = by_test (s g.maker) (generations_push next s x stored generations below.1) (generations_more next (suc next) (g ∷ generations) (omega arith) below) where
  by_test : (b : Bool) → GenerationsBelow (suc next) (in_generation s (λ rows. rows ++ new_row next x stored ∷ []) generations) → GenerationsBelow (suc next) (g ∷ generations) → GenerationsBelow (suc next) (cond b (record g { rows = g.rows ++ new_row next x stored ∷ [] } ∷ generations) (g ∷ in_generation s (λ rows. rows ++ new_row next x stored ∷ []) generations))
  by_test true more own = (below_push (suc next) g.rows (new_row next x stored) (omega arith) own.0, own.1)
  by_test false more own = (own.0, more)

pub parts_sound : (terms : Terms) (past : Past) → Legal terms past → AreSound 0 (length past) (parts terms past)
parts_sound terms [] legal = tt
parts_sound terms (Make x table name columns ∷ past) legal = sound_push 0 (length past) (suc (length past)) (parts terms past) (new_table x table name columns) (omega arith) legal.0.rule.number (omega arith) (tt, tt) (parts_sound terms past legal.1)
parts_sound terms (Add x table row ∷ past) legal = sound_with 0 (length past) (suc (length past)) table (with_new_row (sees past (Some x)) (length past) x row) (parts terms past) (omega arith) (λ t. refl) (λ t below. generations_push (length past) (sees past (Some x)) x _ t.generations below) (parts_sound terms past legal.1)
parts_sound terms (Alter x table statement rewritten ∷ past) legal = sound_with 0 (length past) (suc (length past)) table (with_new_entry (sees past (Some x)) x (statement_of terms (hand past (session_of past x)) statement)) (parts terms past) (omega arith) (λ t. refl) (λ t below. generations_more (length past) (suc (length past)) t.generations (omega arith) below) (parts_sound terms past legal.1)
parts_sound terms (e ∷ past) legal = sound_more 0 (length past) (suc (length past)) (parts terms past) (omega arith) (parts_sound terms past legal.1)

-- ---- no row that is seen is longer than the slots that are seen

abbrev ShortAt : (ℕ → Bool) → Option Description → List RowVersions → Type 0
ShortAt r None rows = Unit {0}
ShortAt r (Some d) rows = RowsShort r (length d.layout.slots) rows

abbrev pub IsShortTable : Sight → TableParts → Type 0
IsShortTable f t = ShortAt f.rows (seen_description f.catalogue t.entries) (seen_generation f.catalogue t.generations)

abbrev pub AllShort : Sight → List TableParts → Type 0
AllShort f [] = Unit {0}
AllShort f (t ∷ tables) = IsShortTable f t × AllShort f tables

all_push : (f : Sight) (tables : List TableParts) (t : TableParts) → IsShortTable f t → AllShort f tables → AllShort f (tables ++ t ∷ [])
all_push f [] t one all = (one, tt)
all_push f (u ∷ tables) t one all = (all.0, all_push f tables t one all.1)

all_with : (f : Sight) (number : ℕ) (h : TableParts → TableParts) (tables : List TableParts) → EachOf number (λ t. IsShortTable f t → IsShortTable f (h t)) tables → AllShort f tables → AllShort f (with_parts number h tables)
all_with f number h [] each all = tt
all_with f number h (t ∷ tables) each all = by_test (t.number == number) (eqb-true t.number number) (all_with f number h tables each.1 all.1) where
  by_test : (b : Bool) → (b ≡ true → t.number ≡ number) → AllShort f (with_parts number h tables) → AllShort f (cond b (h t) t ∷ with_parts number h tables)
  by_test true is more = (each.0 (is refl) all.0, more)
  by_test false is more = (all.0, more)

pub each_short : (f : Sight) (number : ℕ) (tables : List TableParts) → AllShort f tables → EachOf number (IsShortTable f) tables
each_short f number [] all = tt
each_short f number (t ∷ tables) all = ((λ is. all.0), each_short f number tables all.1)

altered_short : (r : ℕ → Bool) (statement : Option Statement) (o : Option Description) (rows : List RowVersions) → ShortAt r o rows → ShortAt r (altered_by statement o) rows
altered_short r statement None rows short = tt
altered_short r (Some (statements.AddColumn name column)) (Some d) rows short = rows_more r (length d.layout.slots) (length (d.layout.slots ++ slot_of column ∷ [])) rows (omega (arith, slots_push d.layout.slots (slot_of column))) short
altered_short r statement (Some d) rows short = short

added_short : (r : ℕ → Bool) (number x : ℕ) (row : List Value) (o own : Option Description) (rows : List RowVersions) → (r x ≡ true → o ≡ own) → ShortAt r o rows → ShortAt r o (rows ++ new_row number x (stored_in own row) ∷ [])
added_short r number x row None own rows same short = tt
added_short r number x row (Some d) own rows same short = short_push r (length d.layout.slots) rows (new_row number x (stored_in own row)) ((λ is. subst (λ (p : Option Description). length (stored_in p row) ≤ length d.layout.slots) (same is) (omega (arith, length_stored d.layout.slots row))), tt) short

pub parts_short : (terms : Terms) (past : Past) (f : Sight) → Legal terms past → IsSight past f → AllShort f (parts terms past)
parts_short terms [] f legal can = tt
parts_short terms (Make x table name columns ∷ past) f legal can = all_push f (parts terms past) (new_table x table name columns) (by_seen (f.catalogue x)) (parts_short terms past f legal.1 (still past _ f (λ z. refl) can)) where
  by_seen : (b : Bool) → ShortAt f.rows (cond b (Some (described name columns)) None) (cond b [] [])
  by_seen true = tt
  by_seen false = tt
parts_short terms (Add x table row ∷ past) f legal can =
    let c : IsSight past f = still past _ f (λ z. refl) can in
    let undecided : fate past x ≡ Open = (xact_is terms past (session_of past x) x legal.1 legal.0.rule.act.open_xact).undecided in
    all_with f table (with_new_row (sees past (Some x)) (length past) x row) (parts terms past) (each_more table _ _ (parts terms past) (λ t settled short. generation_keeps (ShortAt f.rows (seen_description f.catalogue t.entries)) (sees past (Some x)) f.catalogue _ t.generations (λ rows is. added_short f.rows (length past) x row (seen_description f.catalogue t.entries) (seen_description (sees past (Some x)) t.entries) rows (λ own. entries_agree past f x t.entries c undecided (c.fewer x own) settled.0) is) short) (settled_by_quiet terms past past x table (add_quiet terms past x table row legal.1 legal.0.rule))) (parts_short terms past f legal.1 c)
parts_short terms (Alter x table statement rewritten ∷ past) f legal can =
    let c : IsSight past f = still past _ f (λ z. refl) can in
    let undecided : fate past x ≡ Open = (xact_is terms past (session_of past x) x legal.1 legal.0.rule.act.open_xact).undecided in
    all_with f table (with_new_entry (sees past (Some x)) x (statement_of terms (hand past (session_of past x)) statement)) (parts terms past) (each_more table _ _ (parts terms past) (λ t settled short. by_seen (f.catalogue x) refl t settled short c undecided) (settled_by_quiet terms past past x table (alter_quiet terms past x table statement rewritten legal.1 legal.0.rule))) (parts_short terms past f legal.1 c) where
      by_seen : (b : Bool) → f.catalogue x ≡ b → (t : TableParts) → IsSettledTable past x t → IsShortTable f t → IsSight past f → fate past x ≡ Open → ShortAt f.rows (cond b (altered_by (statement_of terms (hand past (session_of past x)) statement) (seen_description (sees past (Some x)) t.entries)) (seen_description f.catalogue t.entries)) (seen_generation f.catalogue t.generations)
      by_seen true seen t settled short c undecided = altered_short f.rows (statement_of terms (hand past (session_of past x)) statement) (seen_description (sees past (Some x)) t.entries) (seen_generation f.catalogue t.generations) (subst (λ (o : Option Description). ShortAt f.rows o (seen_generation f.catalogue t.generations)) (entries_agree past f x t.entries c undecided seen settled.0) short)
      by_seen false seen t settled short c undecided = short
parts_short terms (Commit x ∷ past) f legal can = parts_short terms past f legal.1 (before_commit past x f (xact_is terms past (session_of past x) x legal.1 legal.0.rule.open_xact).undecided can)
parts_short terms (Abort x ∷ past) f legal can = parts_short terms past f legal.1 (before_abort past x f (xact_is terms past (session_of past x) x legal.1 legal.0.rule.open_xact).undecided can)
parts_short terms (e ∷ past) f legal can = parts_short terms past f legal.1 (still past _ f (λ z. refl) can)

-- ---- who sees a description sees a generation

abbrev pub IsFoundTable : (ℕ → Bool) → TableParts → Type 0
IsFoundTable c t = is_some (seen_description c t.entries) ≡ true → has_generation c t.generations ≡ true

abbrev pub AllFound : (ℕ → Bool) → List TableParts → Type 0
AllFound c [] = Unit {0}
AllFound c (t ∷ tables) = IsFoundTable c t × AllFound c tables

found_push : (c : ℕ → Bool) (tables : List TableParts) (t : TableParts) → IsFoundTable c t → AllFound c tables → AllFound c (tables ++ t ∷ [])
found_push c [] t one all = (one, tt)
found_push c (u ∷ tables) t one all = (all.0, found_push c tables t one all.1)

found_with : (c : ℕ → Bool) (number : ℕ) (h : TableParts → TableParts) (tables : List TableParts) → EachOf number (λ t. IsFoundTable c t → IsFoundTable c (h t)) tables → AllFound c tables → AllFound c (with_parts number h tables)
found_with c number h [] each all = tt
found_with c number h (t ∷ tables) each all = by_test (t.number == number) (eqb-true t.number number) (found_with c number h tables each.1 all.1) where
  by_test : (b : Bool) → (b ≡ true → t.number ≡ number) → AllFound c (with_parts number h tables) → AllFound c (cond b (h t) t ∷ with_parts number h tables)
  by_test true is more = (each.0 (is refl) all.0, more)
  by_test false is more = (all.0, more)

pub each_found : (c : ℕ → Bool) (number : ℕ) (tables : List TableParts) → AllFound c tables → EachOf number (IsFoundTable c) tables
each_found c number [] all = tt
each_found c number (t ∷ tables) all = ((λ is. all.0), each_found c number tables all.1)

generation_stays : (c s : ℕ → Bool) (k : List RowVersions → List RowVersions) (generations : List Generation) → has_generation c (in_generation s k generations) ≡ has_generation c generations
generation_stays c s k [] = refl
generation_stays c s k (g ∷ generations) = by_test (s g.maker) (generation_stays c s k generations) where
  by_test : (b : Bool) → has_generation c (in_generation s k generations) ≡ has_generation c generations → has_generation c (cond b (record g { rows = k g.rows } ∷ generations) (g ∷ in_generation s k generations)) ≡ has_generation c (g ∷ generations)
  by_test true more = refl
  by_test false more = rw more refl

some_before : (statement : Option Statement) (o : Option Description) → is_some (altered_by statement o) ≡ true → is_some o ≡ true
some_before statement None there = there
some_before statement (Some d) there = refl

pub parts_found : (terms : Terms) (past : Past) (f : Sight) → Legal terms past → IsSight past f → AllFound f.catalogue (parts terms past)
parts_found terms [] f legal can = tt
parts_found terms (Make x table name columns ∷ past) f legal can = found_push f.catalogue (parts terms past) (new_table x table name columns) (by_seen (f.catalogue x)) (parts_found terms past f legal.1 (still past _ f (λ z. refl) can)) where
  by_seen : (b : Bool) → is_some (cond b (Some (described name columns)) None) ≡ true → cond b true false ≡ true
  by_seen true there = refl
  by_seen false there = there
parts_found terms (Add x table row ∷ past) f legal can = found_with f.catalogue table (with_new_row (sees past (Some x)) (length past) x row) (parts terms past) (each_of table _ (parts terms past) (λ t found there. generation_stays f.catalogue (sees past (Some x)) _ t.generations ∙ found there)) (parts_found terms past f legal.1 (still past _ f (λ z. refl) can))
parts_found terms (Alter x table statement rewritten ∷ past) f legal can =
    let c : IsSight past f = still past _ f (λ z. refl) can in
    let undecided : fate past x ≡ Open = (xact_is terms past (session_of past x) x legal.1 legal.0.rule.act.open_xact).undecided in
    found_with f.catalogue table (with_new_entry (sees past (Some x)) x (statement_of terms (hand past (session_of past x)) statement)) (parts terms past) (each_more table _ _ (parts terms past) (λ t settled found there. by_seen (f.catalogue x) refl t settled found there c undecided) (settled_by_quiet terms past past x table (alter_quiet terms past x table statement rewritten legal.1 legal.0.rule))) (parts_found terms past f legal.1 c) where
      by_seen : (b : Bool) → f.catalogue x ≡ b → (t : TableParts) → IsSettledTable past x t → IsFoundTable f.catalogue t → is_some (cond b (altered_by (statement_of terms (hand past (session_of past x)) statement) (seen_description (sees past (Some x)) t.entries)) (seen_description f.catalogue t.entries)) ≡ true → IsSight past f → fate past x ≡ Open → has_generation f.catalogue t.generations ≡ true
      by_seen true seen t settled found there c undecided = found (ap is_some (entries_agree past f x t.entries c undecided seen settled.0) ∙ some_before (statement_of terms (hand past (session_of past x)) statement) (seen_description (sees past (Some x)) t.entries) there)
      by_seen false seen t settled found there c undecided = found there
parts_found terms (Commit x ∷ past) f legal can = parts_found terms past f legal.1 (before_commit past x f (xact_is terms past (session_of past x) x legal.1 legal.0.rule.open_xact).undecided can)
parts_found terms (Abort x ∷ past) f legal can = parts_found terms past f legal.1 (before_abort past x f (xact_is terms past (session_of past x) x legal.1 legal.0.rule.open_xact).undecided can)
parts_found terms (e ∷ past) f legal can = parts_found terms past f legal.1 (still past _ f (λ z. refl) can)
