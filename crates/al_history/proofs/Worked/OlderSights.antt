-- What the parts show to readers, also to those with an older snapshot.
use Rattle.std.specs.Prelude.{◌≡◌, List, [], ◌∷◌, ◌++◌, Some, None, reverse, refl}
use Rattle.al_history.specs.declared.entry.Entry.{Entry}
use Rattle.al_history.specs.declared.entry.Entry.TheVariants.{Alter, Abort}
use Rattle.al_history.specs.Database.{VersionedRow}
use Rattle.al_history.specs.Parts.{seen_in, parts}
use Rattle.al_history.specs.Readers.{sight}
use Rattle.al_history.proofs.Worked.Journals.{int, terms, acted_create, ended_create, acted_insert, ended_insert, looked_alter, ended_alter}
use Rattle.al_history.proofs.Worked.Views.{narrow, wide}

abbrev with_row : List VersionedRow
with_row = record { number = 11; version = 11; values = int 1 ∷ int 5 ∷ [] } ∷ []

-- who has seen all finds the row, and the column that was added after it
all_shown : seen_in (sight (reverse ended_alter) (reverse ended_alter) None) (parts terms (reverse ended_alter)) ≡ wide with_row ∷ []
all_shown = refl

-- A column that was committed after the snapshot is there, with its default,
column_after : seen_in (sight (reverse ended_alter) (reverse ended_insert) None) (parts terms (reverse ended_alter)) ≡ wide with_row ∷ []
column_after = refl

-- a row that was isn't,
row_after : seen_in (sight (reverse ended_alter) (reverse ended_create) None) (parts terms (reverse ended_alter)) ≡ wide [] ∷ []
row_after = refl

-- and a table that was is, without rows.
table_after : seen_in (sight (reverse ended_alter) [] None) (parts terms (reverse ended_alter)) ≡ wide [] ∷ []
table_after = refl

-- an open transaction's table is shown to it alone
open_table : seen_in (sight (reverse acted_create) (reverse acted_create) (Some 1)) (parts terms (reverse acted_create)) ≡ narrow [] ∷ []
open_table = refl

hidden_table : seen_in (sight (reverse acted_create) (reverse acted_create) None) (parts terms (reverse acted_create)) ≡ []
hidden_table = refl

-- so is its row
open_row : seen_in (sight (reverse acted_insert) (reverse acted_insert) (Some 8)) (parts terms (reverse acted_insert)) ≡ narrow (record { number = 11; version = 11; values = int 1 ∷ [] } ∷ []) ∷ []
open_row = refl

hidden_row : seen_in (sight (reverse acted_insert) (reverse acted_insert) None) (parts terms (reverse acted_insert)) ≡ narrow [] ∷ []
hidden_row = refl

-- and its column, which an abort takes back
abbrev altered : List Entry
altered = looked_alter ++ Alter 16 3 0 [] ∷ []

abbrev taken_back : List Entry
taken_back = altered ++ Abort 16 ∷ []

open_column : seen_in (sight (reverse altered) (reverse altered) (Some 16)) (parts terms (reverse altered)) ≡ wide with_row ∷ []
open_column = refl

hidden_column : seen_in (sight (reverse altered) (reverse altered) None) (parts terms (reverse altered)) ≡ narrow (record { number = 11; version = 11; values = int 1 ∷ [] } ∷ []) ∷ []
hidden_column = refl

aborted_column : seen_in (sight (reverse taken_back) (reverse taken_back) None) (parts terms (reverse taken_back)) ≡ narrow (record { number = 11; version = 11; values = int 1 ∷ [] } ∷ []) ∷ []
aborted_column = refl
