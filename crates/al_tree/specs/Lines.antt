-- How links are kept: a line for each table that has a parent or a child, with its children.
use Rattle.std.specs.Prelude.{◌≡◌, ℕ, List, [], ◌∷◌, ◌++◌, Bool, true, ◌==◌, nat_lt, if◌then◌else◌}
use Rattle.al_tree.specs.declared.line.Line.{Line}
use Rattle.al_tree.specs.Ascending.{Ascends, is_among}
use Rattle.al_tree.specs.Links.{Inherits}

abbrev pub links_of : ℕ → List ℕ → List Inherits
links_of parent [] = []
links_of parent (child ∷ children) = record { child = child; parent = parent } ∷ links_of parent children

-- the links, by ascending parent
abbrev pub links_in : List Line → List Inherits
links_in [] = []
links_in (line ∷ lines) = links_of line.table line.children ++ links_in lines

abbrev pub tables_of : List Line → List ℕ
tables_of [] = []
tables_of (line ∷ lines) = line.table ∷ tables_of lines

-- the children of a table
abbrev pub children_in : List Line → ℕ → List ℕ
children_in [] table = []
children_in (line ∷ lines) table = if line.table == table then line.children else children_in lines table

abbrev pub has_line : List Line → ℕ → Bool
has_line lines table = is_among table (tables_of lines)

abbrev pub AllAscend : List Line → Type 0
AllAscend [] = Unit {0}
AllAscend (line ∷ lines) = Ascends line.children × AllAscend lines

-- the lines ascend, so do the children of each, and each child has a line
pub record AreLines (lines : List Line) : Type 0 where
  pub tables : Ascends (tables_of lines)
  pub children : AllAscend lines
  pub known : (c p : ℕ) → is_among c (children_in lines p) ≡ true → has_line lines c ≡ true

-- a line more
abbrev pub put_line : Line → List Line → List Line
put_line line [] = line ∷ []
put_line line (other ∷ lines) =
    if nat_lt line.table other.table then line ∷ other ∷ lines else other ∷ put_line line lines

-- a table's children changed
abbrev pub with_children : ℕ → (List ℕ → List ℕ) → List Line → List Line
with_children table change [] = []
with_children table change (line ∷ lines) =
    if line.table == table then record line { children = change line.children } ∷ lines
    else line ∷ with_children table change lines
