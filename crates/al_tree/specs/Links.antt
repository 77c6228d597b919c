-- Which table inherits from which (the manual, 5.10).
use Rattle.std.specs.Prelude.{◌≡◌, ℕ, List, [], ◌∷◌, Bool, true, false, not, ◌==◌, ◌&&◌, ◌||◌, ◌⊎◌, ◌↔◌, if◌then◌else◌, Option, Some, None, Result, Ok, Err}
use Rattle.std.specs.List.{list_any}
use Rattle.al_values.specs.declared.cant.Cant.{Cant}
use Rattle.al_values.specs.declared.cant.Cant.TheVariants as cants
use Rattle.al_tree.specs.declared.fault.LinkFault.{LinkFault}
use Rattle.al_tree.specs.declared.fault.LinkFault.TheVariants as faults
use Rattle.al_tree.specs.Ascending.{Ascends, is_among}

-- a table that inherits from another
pub record Inherits : Type 0 where
  pub child : ℕ
  pub parent : ℕ

abbrev pub is_link : ℕ → ℕ → Inherits → Bool
is_link child parent link = (link.child == child) && (link.parent == parent)

-- whether a table inherits from another
abbrev pub has_link : List Inherits → ℕ → ℕ → Bool
has_link links child parent = list_any (is_link child parent) links

-- the children of a table, in the order of the links
abbrev pub children_of : List Inherits → ℕ → List ℕ
children_of [] table = []
children_of (link ∷ links) table =
    if link.parent == table then link.child ∷ children_of links table else children_of links table

-- a descendant of a table: a child of it, or a child of a descendant
pub data Descends (links : List Inherits) (table : ℕ) : ℕ → Type 0 where
  child_of : (t : ℕ) → has_link links t table ≡ true → Descends links table t
  child_below : (t middle : ℕ) → Descends links table middle → has_link links t middle ≡ true → Descends links table t

-- a family: the table, then its descendants by ascending number, each once
pub record IsFamily (links : List Inherits) (table : ℕ) (family : List ℕ) : Type 0 where
  pub others : List ℕ
  pub first : family ≡ table ∷ others
  pub ascends : Ascends others
  pub members : (t : ℕ) → (is_among t others ≡ true) ↔ (Descends links table t × (t ≡ table → ⊥))

-- a link would close a circle: the parent is the child itself, or descends from it
abbrev pub ClosesCircle : List Inherits → ℕ → ℕ → Type 0
ClosesCircle links child parent = (parent ≡ child) ⊎ Descends links child parent

-- no table descends from itself
abbrev pub HasNoCircle : List Inherits → Type 0
HasNoCircle links = (t : ℕ) → Descends links t t → ⊥

-- why a new link is refused, by whether it closes a circle and whether it is there already
abbrev pub fault_of : Bool → Bool → Option LinkFault
fault_of true there = Some faults.Circle
fault_of false true = Some faults.Twice
fault_of false false = None

-- what a new link is answered; want of memory is the one free answer
abbrev pub IsAnswer : {T : Type 0} → List Inherits → ℕ → ℕ → Result T (Cant LinkFault) → Type 0
IsAnswer links child parent (Ok done) = (ClosesCircle links child parent → ⊥) × (has_link links child parent ≡ false)
IsAnswer links child parent (Err (cants.Why faults.Circle)) = ClosesCircle links child parent
IsAnswer links child parent (Err (cants.Why faults.Twice)) = (ClosesCircle links child parent → ⊥) × (has_link links child parent ≡ true)
IsAnswer links child parent (Err cants.NoMemory) = Unit {0}

-- the links are these and one more
abbrev pub HasOneMore : List Inherits → List Inherits → ℕ → ℕ → Type 0
HasOneMore before after child parent =
    (c p : ℕ) → has_link after c p ≡ (has_link before c p || ((child == c) && (parent == p)))

-- the links are these without one
abbrev pub HasOneLess : List Inherits → List Inherits → ℕ → ℕ → Type 0
HasOneLess before after child parent =
    (c p : ℕ) → has_link after c p ≡ (has_link before c p && not ((child == c) && (parent == p)))

-- the same links, turned round
abbrev pub AreTurned : List Inherits → List Inherits → Type 0
AreTurned links turned = (c p : ℕ) → has_link turned p c ≡ has_link links c p
