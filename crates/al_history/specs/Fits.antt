-- When the one list serves a reader: what has to be known of its past.
use Rattle.std.specs.Prelude.{◌≡◌, ℕ, List, [], ◌∷◌, Bool, true, false, length, Some, None, is_some}
use Rattle.al_values.specs.declared.scalar.Value.{Value}
use Rattle.al_history.specs.declared.entry.Entry.TheVariants.{Make, Add, Alter, Commit, Abort}
use Rattle.al_history.specs.declared.statement.Column.{Column}
use Rattle.al_history.specs.declared.statement.Statement.TheVariants as statements
use Rattle.al_history.specs.declared.statement.Terms.{Terms}
use Rattle.al_history.specs.Past.{Past}
use Rattle.al_history.specs.Database.{named}
use Rattle.al_history.specs.Fate.{Open, Committed, Aborted, fate}
use Rattle.al_history.specs.Hand.{hand, session_of, statement_of}
use Rattle.al_history.specs.Store.{Slot, KeptTable, shown_columns, shown, sees, store}
use Rattle.al_history.specs.Change.{column_cause}

-- a set of transactions that a reader may see: all that are committed, and none that is aborted
pub record CanSee (past : Past) (f : ℕ → Bool) : Type 0 where
  pub committed : (x : ℕ) → fate past x ≡ Committed → f x ≡ true
  pub aborted : (x : ℕ) → fate past x ≡ Aborted → f x ≡ false

-- two readers see the same of these slots
abbrev pub Agree : (ℕ → Bool) → (ℕ → Bool) → List Slot → Type 0
Agree f g [] = Unit {0}
Agree f g (slot ∷ slots) = (f slot.maker ≡ g slot.maker) × Agree f g slots

-- the tables of this number
abbrev pub EachOf : ℕ → (KeptTable → Type 0) → List KeptTable → Type 0
EachOf number P [] = Unit {0}
EachOf number P (t ∷ tables) = (t.number ≡ number → P t) × EachOf number P tables

-- a new table has a number and a name that nobody sees yet who sees its maker
pub record MakeFits (terms : Terms) (past : Past) (x table : ℕ) (name : List ℕ) : Type 0 where
  pub number : table ≡ length past
  pub unnamed : (f : ℕ → Bool) → CanSee past f → f x ≡ true → is_some (named (shown f (store terms past)) name) ≡ false

-- who sees a new row sees the columns that its maker saw
pub record AddFits (terms : Terms) (past : Past) (x table : ℕ) (row : List Value) : Type 0 where
  pub fits : (f : ℕ → Bool) → CanSee past f → f x ≡ true → EachOf table (λ t. f t.maker ≡ true → Agree f (sees past (Some x)) t.slots × (length row ≡ length (shown_columns f t.slots))) (store terms past)

-- who sees a new column sees no other of its name
pub record AlterFits (terms : Terms) (past : Past) (x table statement : ℕ) : Type 0 where
  pub absent : (f : ℕ → Bool) → CanSee past f → f x ≡ true → (name : List ℕ) (column : Column) → statement_of terms (hand past (session_of past x)) statement ≡ Some (statements.AddColumn name column) → EachOf table (λ t. f t.maker ≡ true → column_cause column.name (shown_columns f t.slots) ≡ None) (store terms past)

abbrev pub Fits : Terms → Past → Type 0
Fits terms [] = Unit {0}
Fits terms (Make x table name shape ∷ past) = MakeFits terms past x table name × Fits terms past
Fits terms (Add x table row ∷ past) = AddFits terms past x table row × Fits terms past
Fits terms (Alter x table statement rewritten ∷ past) = AlterFits terms past x table statement × Fits terms past
Fits terms (Commit x ∷ past) = (fate past x ≡ Open) × Fits terms past
Fits terms (Abort x ∷ past) = (fate past x ≡ Open) × Fits terms past
Fits terms (e ∷ past) = Fits terms past
