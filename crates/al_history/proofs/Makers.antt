-- Who made what is stored, and where.
use Rattle.std.proofs.Common.{◌≡◌, ℕ, ◌+◌, ◌<◌, ◌≤◌, List, [], ◌∷◌, ◌++◌, length, refl, sym, cond, true, false, Bool, Option, Some, arith, ◌∙◌}
use Rattle.std.specs.Prelude.{◌==◌}
use Rattle.std.proofs.lemmas.Bool.{eqb-true}
use Rattle.al_history.specs.declared.entry.Entry.TheVariants.{Start, Make, Add, Alter}
use Rattle.al_history.specs.declared.statement.Column.{Column}
use Rattle.al_history.specs.declared.statement.Statement.{Statement}
use Rattle.al_history.specs.declared.statement.Statement.TheVariants as statements
use Rattle.al_history.specs.declared.statement.Terms.{Terms}
use Rattle.al_history.specs.Past.{Past}
use Rattle.al_history.specs.Database.{same_name}
use Rattle.al_history.specs.Hand.{hand, session_of, statement_of}
use Rattle.al_history.specs.Need.{makers}
use Rattle.al_history.specs.Store.{Slot, KeptRow, KeptTable, sees, with_kept, kept_row, kept_slot, slots_of, store}
use Rattle.al_history.specs.Legal.{Legal}
use Rattle.al_history.proofs.Xacts.{is_start, xact_is}

-- ---- each of a list

abbrev pub Each : {A : Type 0} → (A → Type 0) → List A → Type 0
Each P [] = Unit {0}
Each P (x ∷ xs) = P x × Each P xs

pub each_push : {A : Type 0} (P : A → Type 0) (xs : List A) (x : A) → Each P xs → P x → Each P (xs ++ x ∷ [])
each_push P [] x each own = (own, tt)
each_push P (y ∷ xs) x each own = (each.0, each_push P xs x each.1 own)

pub each_more : {A : Type 0} (P Q : A → Type 0) (xs : List A) → ((x : A) → P x → Q x) → Each P xs → Each Q xs
each_more P Q [] more each = tt
each_more P Q (x ∷ xs) more each = (more x each.0, each_more P Q xs more each.1)

-- tables of a number change, the others stay
pub each_with : (P Q : KeptTable → Type 0) (number : ℕ) (h : KeptTable → KeptTable) (tables : List KeptTable) → ((t : KeptTable) → P t → Q t) → ((t : KeptTable) → t.number ≡ number → P t → Q (h t)) → Each P tables → Each Q (with_kept number h tables)
each_with P Q number h [] stays changes each = tt
each_with P Q number h (t ∷ tables) stays changes each = (by_test (t.number == number) refl, each_with P Q number h tables stays changes each.1) where
  by_test : (b : Bool) → (t.number == number) ≡ b → Q (cond b (h t) t)
  by_test true here = changes t (eqb-true t.number number here) each.0
  by_test false here = stays t each.0

-- ---- numbers

-- the tables' numbers ascend from the one and stay below the other
abbrev pub Ascend : ℕ → ℕ → List KeptTable → Type 0
Ascend low next [] = Unit {0}
Ascend low next (t ∷ tables) = (low ≤ t.number) × (t.number < next) × Ascend (t.number + 1) next tables

ascend_more : (low next later : ℕ) (tables : List KeptTable) → next ≤ later → Ascend low next tables → Ascend low later tables
ascend_more low next later [] le up = tt
ascend_more low next later (t ∷ tables) le up = (up.0, omega (arith, up.1), ascend_more (t.number + 1) next later tables le up.2)

ascend_push : (low next later : ℕ) (tables : List KeptTable) (t : KeptTable) → low ≤ next → t.number ≡ next → next < later → Ascend low next tables → Ascend low later (tables ++ t ∷ [])
ascend_push low next later [] t le number lt up = (omega arith, omega arith, tt)
ascend_push low next later (u ∷ tables) t le number lt up = (up.0, omega (arith, up.1), ascend_push (u.number + 1) next later tables t (omega (arith, up.1)) number lt up.2)

ascend_with : (low next later number : ℕ) (h : KeptTable → KeptTable) (tables : List KeptTable) → next ≤ later → ((t : KeptTable) → (h t).number ≡ t.number) → Ascend low next tables → Ascend low later (with_kept number h tables)
ascend_with low next later number h [] le same up = tt
ascend_with low next later number h (t ∷ tables) le same up = by_test (t.number == number) (ascend_with (t.number + 1) next later number h tables le same up.2) where
  by_test : (b : Bool) → Ascend (t.number + 1) later (with_kept number h tables) → Ascend low later (cond b (h t) t ∷ with_kept number h tables)
  by_test true rest = (rw (same t) up.0, rw (same t) (omega (arith, up.1)), rw (same t) rest)
  by_test false rest = (up.0, omega (arith, up.1), rest)

-- a new column leaves the table's number, name, maker and rows
pub record IsSlotAdded (t after : KeptTable) : Type 0 where
  pub number : after.number ≡ t.number
  pub maker : after.maker ≡ t.maker
  pub name : after.name ≡ t.name
  pub rows : after.rows ≡ t.rows

pub slot_added : (o : Option Statement) (x : ℕ) (t : KeptTable) → IsSlotAdded t (kept_slot o x t)
slot_added (Some (statements.AddColumn name column)) x t = record { number = refl; maker = refl; name = refl; rows = refl }
slot_added o x t = record { number = refl; maker = refl; name = refl; rows = refl }

-- the column is the transaction's
pub slot_each : (P : Slot → Type 0) (o : Option Statement) (x : ℕ) (t : KeptTable) → Each P t.slots → ((column : Column) → P (record { maker = x; column = column })) → Each P (kept_slot o x t).slots
slot_each P (Some (statements.AddColumn name column)) x t each own = each_push P t.slots _ each (own column)
slot_each P o x t each own = each

-- the numbers of the tables that are stored ascend, and are places before
pub store_ascends : (terms : Terms) (past : Past) → Legal terms past → Ascend 0 (length past) (store terms past)
store_ascends terms [] legal = tt
store_ascends terms (Make x table name shape ∷ past) legal = ascend_push 0 (length past) _ _ _ (omega arith) legal.0.rule.number (omega arith) (store_ascends terms past legal.1)
store_ascends terms (Add x table row ∷ past) legal = ascend_with 0 (length past) _ table _ _ (omega arith) (λ t. refl) (store_ascends terms past legal.1)
store_ascends terms (Alter x table statement rewritten ∷ past) legal =
    let o : Option Statement = statement_of terms (hand past (session_of past x)) statement in
    ascend_with 0 (length past) _ table (kept_slot o x) _ (omega arith) (λ t. (slot_added o x t).number) (store_ascends terms past legal.1)
store_ascends terms (e ∷ past) legal = ascend_more 0 (length past) _ _ (omega arith) (store_ascends terms past legal.1)

-- ---- makers

-- what a table is made by: the table itself, its columns and its rows
abbrev pub AreMade : (ℕ → Type 0) → KeptTable → Type 0
AreMade P t = P t.maker × Each (λ (slot : Slot). P slot.maker) t.slots × Each (λ (r : KeptRow). P r.maker) t.rows

made_more : (P Q : ℕ → Type 0) → ((z : ℕ) → P z → Q z) → (t : KeptTable) → AreMade P t → AreMade Q t
made_more P Q more t made = (more t.maker made.0, each_more (λ (slot : Slot). P slot.maker) (λ (slot : Slot). Q slot.maker) t.slots (λ slot. more slot.maker) made.1, each_more (λ (r : KeptRow). P r.maker) (λ (r : KeptRow). Q r.maker) t.rows (λ r. more r.maker) made.2)

made_slots : (P : ℕ → Type 0) (x : ℕ) (columns : List Column) → P x → Each (λ (slot : Slot). P slot.maker) (slots_of x columns)
made_slots P x [] own = tt
made_slots P x (c ∷ columns) own = (own, made_slots P x columns own)

abbrev pub Began : Past → ℕ → Type 0
Began past z = is_start past z ≡ true

pub began_more : (place : ℕ) (b : Bool) (z : ℕ) → b ≡ true → cond (place == z) true b ≡ true
began_more place b z began = by_test (place == z) where
  by_test : (c : Bool) → cond c true b ≡ true
  by_test true = refl
  by_test false = began

-- all that is stored was made by transactions
pub makers_began : (terms : Terms) (past : Past) → Legal terms past → Each (AreMade (Began past)) (store terms past)
makers_began terms [] legal = tt
makers_began terms (Start r level ∷ past) legal = each_more (AreMade (Began past)) (AreMade (Began (Start r level ∷ past))) _ (made_more (Began past) (Began (Start r level ∷ past)) (λ z began. began_more (length past) _ z began)) (makers_began terms past legal.1)
makers_began terms (Make x table name shape ∷ past) legal =
    let own : Began past x = (xact_is terms past (session_of past x) x legal.1 legal.0.rule.act.open_xact).began in
    each_push (AreMade (Began past)) (store terms past) _ (makers_began terms past legal.1) (own, made_slots (Began past) x shape own, tt)
makers_began terms (Add x table row ∷ past) legal =
    let own : Began past x = (xact_is terms past (session_of past x) x legal.1 legal.0.rule.act.open_xact).began in
    each_with (AreMade (Began past)) (AreMade (Began past)) table (kept_row (length past) x (sees past (Some x)) row) (store terms past) (λ t made. made) (λ t here made. (made.0, made.1, each_push (λ (r : KeptRow). Began past r.maker) t.rows _ made.2 own)) (makers_began terms past legal.1)
makers_began terms (Alter x table statement rewritten ∷ past) legal =
    let own : Began past x = (xact_is terms past (session_of past x) x legal.1 legal.0.rule.act.open_xact).began in
    let o : Option Statement = statement_of terms (hand past (session_of past x)) statement in
    each_with (AreMade (Began past)) (AreMade (Began past)) table (kept_slot o x) (store terms past) (λ t made. made) (λ t here made. (rw (slot_added o x t).maker made.0, slot_each (λ (slot : Slot). Began past slot.maker) o x t made.1 (λ column. own), rw (slot_added o x t).rows made.2)) (makers_began terms past legal.1)
makers_began terms (e ∷ past) legal = makers_began terms past legal.1

-- the makers of the tables of this name, in order
abbrev pub makers_among : List KeptTable → List ℕ → List ℕ
makers_among [] name = []
makers_among (t ∷ tables) name = cond (same_name t.name name) (t.maker ∷ makers_among tables name) (makers_among tables name)

among_push : (tables : List KeptTable) (t : KeptTable) (name : List ℕ) → makers_among (tables ++ t ∷ []) name ≡ cond (same_name t.name name) (makers_among tables name ++ t.maker ∷ []) (makers_among tables name)
among_push [] t name = by_test (same_name t.name name) where
  by_test : (b : Bool) → cond b (t.maker ∷ []) [] ≡ cond b (t.maker ∷ []) []
  by_test b = refl
among_push (u ∷ tables) t name = rw (among_push tables t name) (by_test (same_name u.name name) (same_name t.name name)) where
  by_test : (b c : Bool) → cond b (u.maker ∷ cond c (makers_among tables name ++ t.maker ∷ []) (makers_among tables name)) (cond c (makers_among tables name ++ t.maker ∷ []) (makers_among tables name)) ≡ cond c (cond b (u.maker ∷ makers_among tables name) (makers_among tables name) ++ t.maker ∷ []) (cond b (u.maker ∷ makers_among tables name) (makers_among tables name))
  by_test true true = refl
  by_test true false = refl
  by_test false true = refl
  by_test false false = refl

among_with : (number : ℕ) (h : KeptTable → KeptTable) (tables : List KeptTable) (name : List ℕ) → ((t : KeptTable) → (h t).maker ≡ t.maker) → ((t : KeptTable) → (h t).name ≡ t.name) → makers_among (with_kept number h tables) name ≡ makers_among tables name
among_with number h [] name maker called = refl
among_with number h (t ∷ tables) name maker called = by_test (t.number == number) (among_with number h tables name maker called) where
  by_test : (b : Bool) → makers_among (with_kept number h tables) name ≡ makers_among tables name → makers_among (cond b (h t) t ∷ with_kept number h tables) name ≡ makers_among (t ∷ tables) name
  by_test true rest = rw (maker t, called t, rest) refl
  by_test false rest = rw rest refl

-- the transactions that made a table of a name are the makers of those that are stored
pub makers_stored : (terms : Terms) (past : Past) (name : List ℕ) → makers past name ≡ makers_among (store terms past) name
makers_stored terms [] name = refl
makers_stored terms (Make x table other shape ∷ past) name = rw (makers_stored terms past name) (sym (among_push (store terms past) _ name))
makers_stored terms (Add x table row ∷ past) name = makers_stored terms past name ∙ sym (among_with table (kept_row (length past) x (sees past (Some x)) row) (store terms past) name (λ t. refl) (λ t. refl))
makers_stored terms (Alter x table statement rewritten ∷ past) name =
    let o : Option Statement = statement_of terms (hand past (session_of past x)) statement in
    makers_stored terms past name ∙ sym (among_with table (kept_slot o x) (store terms past) name (λ t. (slot_added o x t).maker) (λ t. (slot_added o x t).name))
makers_stored terms (e ∷ past) name = makers_stored terms past name
