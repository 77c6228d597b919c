-- Links that are kept both ways.
use Rattle.std.proofs.Common.{◌≡◌, ℕ, Bool, true, ◌↔◌, List, sym, ◌∙◌, subst, Result, Ok, Err, IfOk}
use Rattle.al_tree.specs.Links.{Inherits, Descends, AreTurned}
use Rattle.al_tree.proofs.Circles.{below-below}

turned-back : (links turned : List Inherits) → AreTurned links turned → AreTurned turned links
turned-back links turned both c p = sym (both p c)

turned-down : (links turned : List Inherits) → AreTurned links turned → (a t : ℕ) → Descends turned a t → Descends links t a
turned-down links turned both a t (Descends.child_of _ h) = Descends.child_of a (sym (both a t) ∙ h)
turned-down links turned both a t (Descends.child_below _ m d h) =
    below-below links t m a (Descends.child_of m (sym (both m t) ∙ h)) (turned-down links turned both a m d)

-- a table descends from another exactly where that is met from it by the turned links
pub ancestor-turned : {E : Type 0} (links down turned : List Inherits) (table of : ℕ) (r : Result Bool E) → down ≡ links → AreTurned down turned
    → IfOk r (λ below. (below ≡ true) ↔ Descends turned of table) → IfOk r (λ above. (above ≡ true) ↔ Descends links table of)
ancestor-turned links down turned table of (Err e) view both h = tt
ancestor-turned links down turned table of (Ok b) view both h =
    let same = subst (λ (ls : List Inherits). AreTurned ls turned) view both in (
      λ found. turned-down links turned same of table (h.0 found),
      λ d. h.1 (turned-down turned links (turned-back links turned same) table of d),
    )
