-- While a transaction has locked a table, no other open one has made or altered it.
use Rattle.std.proofs.Common.{◌≡◌, ℕ, suc, ◌<◌, ◌≤◌, List, [], ◌∷◌, ◌++◌, length, refl, sym, ap, cond, true, false, Bool, Option, Some, arith, ◌∙◌, ◌⊎◌, inl, inr}
use Rattle.std.specs.Prelude.{◌==◌, ◌||◌, is_some}
use Rattle.std.proofs.lemmas.Bool.{eq-eqb, eqb-true, or_cases}
use Rattle.al_modes.specs.declared.mode.Mode.{Mode}
use Rattle.al_history.specs.declared.entry.Entry.TheVariants.{Start, Lock, Make, Add, Alter, Commit, Abort}
use Rattle.al_history.specs.declared.statement.Column.{Column}
use Rattle.al_history.specs.declared.statement.Statement.{Statement}
use Rattle.al_history.specs.declared.statement.Statement.TheVariants as statements
use Rattle.al_history.specs.declared.statement.Terms.{Terms}
use Rattle.al_history.specs.Past.{Past}
use Rattle.al_history.specs.Database.{Table, Database, named, has_table, with_table}
use Rattle.al_history.specs.Change.{made, with_row, alteration, after_alteration, altered}
use Rattle.al_history.specs.Fate.{Open, fate, Standing, Inside, Outside, Absent, standing}
use Rattle.al_history.specs.Hand.{hand, session_of, xact_of, statement_of}
use Rattle.al_history.specs.Locks.{claim, held, is_held}
use Rattle.al_history.specs.View.{for_both, for_inside, view_by, latest}
use Rattle.al_history.specs.Quiet.{IsQuietIn, IsQuiet}
use Rattle.al_history.specs.Legal.{Legal}
use Rattle.al_history.proofs.Claims.{alone_held}
use Rattle.al_history.proofs.Makers.{Began, began_more}
use Rattle.al_history.proofs.Names.{Keeps, row_keeps, column_keeps}
use Rattle.al_history.proofs.Owners.{sole_claim, IsOwned, owned_start, owned_lock, owned_commit, owned_abort, alter_held}
use Rattle.al_history.proofs.Xacts.{xact_is, open_own}

-- ---- who has altered a table has it alone

-- a transaction has begun, and while it is open it has the table alone
abbrev HasAlone : Past → ℕ → ℕ → Type 0
HasAlone past table y = Began past y × IsOwned past table (suc y) y

abbrev AltersHeld : Past → Past → Type 0
AltersHeld past [] = Unit {0}
AltersHeld past (Alter y table statement rewritten ∷ entries) = HasAlone past table y × AltersHeld past entries
AltersHeld past (e ∷ entries) = AltersHeld past entries

held_later : (past after entries : Past) → ((table y : ℕ) → HasAlone past table y → HasAlone after table y) → AltersHeld past entries → AltersHeld after entries
held_later past after [] later held = tt
held_later past after (Alter y table statement rewritten ∷ entries) later held = (later table y held.0, held_later past after entries later held.1)
held_later past after (e ∷ entries) later held = held_later past after entries later held

alters_held : (terms : Terms) (past : Past) → Legal terms past → AltersHeld past past
alters_held terms [] legal = tt
alters_held terms (Start r level ∷ past) legal = held_later past (Start r level ∷ past) past (λ table y has. (began_more (length past) _ y has.0, owned_start past r (length past) table (suc y) y refl has.0 has.1)) (alters_held terms past legal.1)
alters_held terms (Lock x table mode ∷ past) legal = held_later past (Lock x table mode ∷ past) past (λ n y has. (has.0, owned_lock past (claim past x table mode) n (suc y) y has.1)) (alters_held terms past legal.1)
alters_held terms (Commit x ∷ past) legal = held_later past (Commit x ∷ past) past (λ n y has. (has.0, owned_commit terms past x n (suc y) y legal.1 legal.0.rule.open_xact has.0 has.1)) (alters_held terms past legal.1)
alters_held terms (Abort x ∷ past) legal = held_later past (Abort x ∷ past) past (λ n y has. (has.0, owned_abort terms past x n (suc y) y legal.1 legal.0.rule.open_xact has.0 has.1)) (alters_held terms past legal.1)
alters_held terms (Alter x table statement rewritten ∷ past) legal =
    (((xact_is terms past (session_of past x) x legal.1 legal.0.rule.act.open_xact).began, λ undecided. inr (alter_held terms past x table statement rewritten legal.0.rule)), held_later past (Alter x table statement rewritten ∷ past) past (λ n y has. has) (alters_held terms past legal.1))
alters_held terms (e ∷ past) legal = held_later past (e ∷ past) past (λ n y has. has) (alters_held terms past legal.1)

-- ---- who finds a table sees its maker

has_with : (n number : ℕ) (g : Table → Table) (db : Database) → Keeps g → has_table (with_table number g db) n ≡ has_table db n
has_with n number g [] keeps = refl
has_with n number g (t ∷ db) keeps = by_test (t.number == number) (has_with n number g db keeps) where
  by_test : (b : Bool) → has_table (with_table number g db) n ≡ has_table db n → has_table (cond b (g t ∷ db) (t ∷ with_table number g db)) n ≡ has_table (t ∷ db) n
  by_test true more = rw (keeps.number t) refl
  by_test false more = ap (λ (b : Bool). (t.number == n) || b) more

has_push : (n : ℕ) (db : Database) (t : Table) → has_table (db ++ t ∷ []) n ≡ (has_table db n || (t.number == n))
has_push n [] t = or_false (t.number == n) where
  or_false : (b : Bool) → (b || false) ≡ b
  or_false true = refl
  or_false false = refl
has_push n (u ∷ db) t = by_test (u.number == n) (has_push n db t) where
  by_test : (b : Bool) → has_table (db ++ t ∷ []) n ≡ (has_table db n || (t.number == n)) → (b || has_table (db ++ t ∷ []) n) ≡ ((b || has_table db n) || (t.number == n))
  by_test true more = refl
  by_test false more = more

-- a new table is there, or all was there before
has_made : (n number : ℕ) (name : List ℕ) (columns : List Column) (db : Database) → has_table (made number name columns db) n ≡ true → (has_table db n ≡ true) ⊎ (number ≡ n)
has_made n number name columns db has = by_test (has_table db number || is_some (named db name)) has where
  by_case : (has_table db n ≡ true) ⊎ ((number == n) ≡ true) → (has_table db n ≡ true) ⊎ (number ≡ n)
  by_case (inl was) = inl was
  by_case (inr new) = inr (eqb-true number n new)

  by_test : (b : Bool) → has_table (cond b db (db ++ record { number = number; name = name; columns = columns; constraints = []; rows = [] } ∷ [])) n ≡ true → (has_table db n ≡ true) ⊎ (number ≡ n)
  by_test true has = inl has
  by_test false has = by_case (or_cases (has_table db n) (number == n) (sym (has_push n db (record { number = number; name = name; columns = columns; constraints = []; rows = [] })) ∙ has))

has_altered : (n : ℕ) (o : Option Statement) (number : ℕ) (db : Database) → has_table (altered o number db) n ≡ has_table db n
has_altered n (Some (statements.AddColumn name column)) number db = has_with n number (λ t. after_alteration (alteration column t) t) db (column_keeps column)
has_altered n o number db = refl

-- what holds in both databases holds in the one that counts
has_both : (n : ℕ) (st : Standing) (new old : Database) (P : Type 0) → (has_table new n ≡ true → P) → (has_table old n ≡ true → P) → has_table (for_both st new old) n ≡ true → P
has_both n Inside new old P of_new of_old has = of_new has
has_both n Outside new old P of_new of_old has = of_new has
has_both n Absent new old P of_new of_old has = of_old has

has_inside : (n : ℕ) (st : Standing) (new old : Database) (P : Type 0) → (has_table new n ≡ true → P) → (has_table old n ≡ true → P) → has_table (for_inside st new old) n ≡ true → P
has_inside n Inside new old P of_new of_old has = of_new has
has_inside n Outside new old P of_new of_old has = of_old has
has_inside n Absent new old P of_new of_old has = of_old has

-- tables are numbered by places before
pub table_below : (terms : Terms) (stands : ℕ → Standing) (past : Past) (n : ℕ) → Legal terms past → has_table (view_by terms stands past) n ≡ true → n < length past
table_below terms stands [] n legal has = absurd cc
table_below terms stands (Make x table name columns ∷ past) n legal has = has_both n (stands x) _ _ (n < suc (length past)) (λ h. by_case (λ k. table_below terms stands past n legal.1 k) (has_made n table name columns (view_by terms stands past) h)) (λ h. let lt : n < length past = table_below terms stands past n legal.1 h in omega (arith, lt)) has where
  by_case : (has_table (view_by terms stands past) n ≡ true → n < length past) → (has_table (view_by terms stands past) n ≡ true) ⊎ (table ≡ n) → n < suc (length past)
  by_case below (inl was) = let lt : n < length past = below was in omega (arith, lt)
  by_case below (inr new) = let number : table ≡ length past = legal.0.rule.number in omega (arith, number, new)
table_below terms stands (Add x table row ∷ past) n legal has = has_inside n (stands x) _ _ (n < suc (length past)) (λ h. let lt : n < length past = table_below terms stands past n legal.1 (sym (has_with n table (with_row (length past) row) (view_by terms stands past) (row_keeps (length past) row)) ∙ h) in omega (arith, lt)) (λ h. let lt : n < length past = table_below terms stands past n legal.1 h in omega (arith, lt)) has
table_below terms stands (Alter x table statement rewritten ∷ past) n legal has = has_both n (stands x) _ _ (n < suc (length past)) (λ h. let lt : n < length past = table_below terms stands past n legal.1 (sym (has_altered n (statement_of terms (hand past (session_of past x)) statement) table (view_by terms stands past)) ∙ h) in omega (arith, lt)) (λ h. let lt : n < length past = table_below terms stands past n legal.1 h in omega (arith, lt)) has
table_below terms stands (e ∷ past) n legal has = let lt : n < length past = table_below terms stands past n legal.1 has in omega (arith, lt)

-- among these entries: who made the table isn't absent
abbrev MakersStand : (ℕ → Standing) → ℕ → Past → Type 0
MakersStand stands n [] = Unit {0}
MakersStand stands n (Make x table name columns ∷ past) = (table ≡ n → stands x ≡ Absent → ⊥) × MakersStand stands n past
MakersStand stands n (e ∷ past) = MakersStand stands n past

-- a number to come is of no table that was made
none_made : (terms : Terms) (stands : ℕ → Standing) (n : ℕ) (past : Past) → Legal terms past → length past ≤ n → MakersStand stands n past
none_made terms stands n [] legal le = tt
none_made terms stands n (Make x table name columns ∷ past) legal le = let number : table ≡ length past = legal.0.rule.number in ((λ same absent. absurd (omega (arith, number, same, le))), none_made terms stands n past legal.1 (omega (arith, le)))
none_made terms stands n (e ∷ past) legal le = none_made terms stands n past legal.1 (omega (arith, le))

makers_stand : (terms : Terms) (stands : ℕ → Standing) (n : ℕ) (past : Past) → Legal terms past → has_table (view_by terms stands past) n ≡ true → MakersStand stands n past
makers_stand terms stands n [] legal has = tt
makers_stand terms stands n (Make x table name columns ∷ past) legal has = by_number (table == n) refl (λ h. makers_stand terms stands n past legal.1 h) where
  by_standing : (st : Standing) → table ≡ n → has_table (for_both st (made table name columns (view_by terms stands past)) (view_by terms stands past)) n ≡ true → st ≡ Absent → ⊥
  by_standing Inside same has absent = absurd cc
  by_standing Outside same has absent = absurd cc
  by_standing Absent same has absent = let lt : n < length past = table_below terms stands past n legal.1 has in let number : table ≡ length past = legal.0.rule.number in absurd (omega (arith, lt, number, same))

  by_new : (table == n) ≡ false → (has_table (view_by terms stands past) n ≡ true) ⊎ (table ≡ n) → has_table (view_by terms stands past) n ≡ true
  by_new other (inl was) = was
  by_new other (inr new) = let same : (table == n) ≡ true = eq-eqb table n new in absurd cc

  by_number : (b : Bool) → (table == n) ≡ b → (has_table (view_by terms stands past) n ≡ true → MakersStand stands n past) → (table ≡ n → stands x ≡ Absent → ⊥) × MakersStand stands n past
  by_number true same more = let number : table ≡ length past = legal.0.rule.number in let here : table ≡ n = eqb-true table n same in ((λ e absent. by_standing (stands x) e has absent), none_made terms stands n past legal.1 (omega (arith, number, here)))
  by_number false other more = ((λ e absent. let same : (table == n) ≡ true = eq-eqb table n e in absurd cc), more (has_both n (stands x) _ _ (has_table (view_by terms stands past) n ≡ true) (λ h. by_new other (has_made n table name columns (view_by terms stands past) h)) (λ h. h) has))
makers_stand terms stands n (Add x table row ∷ past) legal has = makers_stand terms stands n past legal.1 (has_inside n (stands x) _ _ (has_table (view_by terms stands past) n ≡ true) (λ h. sym (has_with n table (with_row (length past) row) (view_by terms stands past) (row_keeps (length past) row)) ∙ h) (λ h. h) has)
makers_stand terms stands n (Alter x table statement rewritten ∷ past) legal has = makers_stand terms stands n past legal.1 (has_both n (stands x) _ _ (has_table (view_by terms stands past) n ≡ true) (λ h. sym (has_altered n (statement_of terms (hand past (session_of past x)) statement) table (view_by terms stands past)) ∙ h) (λ h. h) has)
makers_stand terms stands n (e ∷ past) legal has = makers_stand terms stands n past legal.1 has

-- ---- the law

-- a transaction that finds a table and has locked it has it quiet
pub locked_quiet : (terms : Terms) (past : Past) (s x table : ℕ) (mode : Mode) → Legal terms past → xact_of past s ≡ Some x → has_table (latest terms past x) table ≡ true → is_held (held past) (record { session = s; table = table; mode = mode }) ≡ true → IsQuiet past x table
locked_quiet terms past s x table mode legal own has lock = quiet past (alters_held terms past legal) (makers_stand terms (standing past past (Some x)) table past legal has) where
  of_alter : (y other : ℕ) → HasAlone past other y → other ≡ table → fate past y ≡ Open → y ≡ x
  of_alter y other alone same undecided = by_case (alone.1 undecided) where
    by_case : (y ≡ suc y) ⊎ (is_held (held past) (sole_claim (session_of past y) other) ≡ true) → y ≡ x
    by_case (inl wrong) = absurd (omega (arith, wrong))
    by_case (inr sole) =
        let of_s : session_of past y ≡ s = alone_held terms past legal (sole_claim (session_of past y) other) (record { session = s; table = table; mode = mode }) sole lock refl same in
        let its : xact_of past (session_of past y) ≡ Some y = open_own terms past y legal alone.0 undecided in
        let its_too : xact_of past (session_of past y) ≡ Some x = rw of_s own in
        cc

  of_make : (y : ℕ) → (standing past past (Some x) y ≡ Absent → ⊥) → fate past y ≡ Open → y ≡ x
  of_make y stands undecided = by_own (x == y) refl where
    by_own : (b : Bool) → (x == y) ≡ b → y ≡ x
    by_own true same = sym (eqb-true x y same)
    by_own false other = absurd (stands (rw (other, undecided) refl))

  quiet : (entries : Past) → AltersHeld past entries → MakersStand (standing past past (Some x)) table entries → IsQuietIn past entries x table
  quiet [] alters makes = tt
  quiet (Make y other name columns ∷ entries) alters makes = ((λ same undecided. of_make y (makes.0 same) undecided), quiet entries alters makes.1)
  quiet (Alter y other statement rewritten ∷ entries) alters makes = ((λ same undecided. of_alter y other alters.0 same undecided), quiet entries alters.1 makes)
  quiet (e ∷ entries) alters makes = quiet entries alters makes
