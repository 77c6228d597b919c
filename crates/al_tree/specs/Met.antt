-- Tables that a search through the links has met.
use Rattle.std.specs.Prelude.{ℕ, ◌+◌, ◌*◌, List, [], ◌∷◌, ◌++◌, if◌then◌else◌, length}
use Rattle.al_tree.specs.declared.line.Line.{Line}
use Rattle.al_tree.specs.Ascending.{is_among, put}

-- what was met, by ascending number, and the tables whose children haven't been looked at
pub record Search : Type 0 where
  pub met : List ℕ
  pub todo : List ℕ

-- a table is come to
abbrev pub found : Search → ℕ → Search
found search table =
    if is_among table search.met then search else record { met = put table search.met; todo = search.todo ++ table ∷ [] }

-- how many tables with a line weren't met
abbrev pub unmet : List Line → List ℕ → ℕ
unmet [] met = 0
unmet (line ∷ lines) met = if is_among line.table met then unmet lines met else unmet lines met + 1

-- what is left to do
abbrev pub work : List Line → List ℕ → List ℕ → ℕ
work lines met todo = 2 * unmet lines met + length todo
