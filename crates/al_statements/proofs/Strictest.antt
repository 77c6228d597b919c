-- The strictest of subcommands is the mode of one of them, and none is stricter.
use Rattle.std.proofs.Common.{◌≡◌, ◌≤◌, ◌<◌, Bool, true, false, List, [], ◌∷◌, length, refl, sym, ap, ◌∙◌, arith, nat_lt, if◌then◌else◌, suc, ◌⊎◌, inl, inr}
use Rattle.std.specs.List.{All, Any}
use Rattle.al_modes.specs.declared.mode.Mode.{Mode}
use Rattle.al_modes.specs.declared.mode.Mode.TheVariants as modes
use Rattle.al_modes.specs.Conflicts.{strictness}
use Rattle.al_statements.specs.declared.alter.Sub.{Sub}
use Rattle.al_statements.specs.Levels.{level_is, stricter_of, strictest_from, strictest_of, IsStrictest}
use Rattle.std.proofs.lemmas.List.Elements.{All-cons, All-nil}

abbrev Within : Mode → Sub → Type 0
Within mode sub = strictness (level_is sub) ≤ strictness mode

record Stricter (a b c : Mode) : Type 0 where
  left : strictness a ≤ strictness c
  right : strictness b ≤ strictness c
  one : (c ≡ a) ⊎ (c ≡ b)

stricter_by : (a b : Mode) (t : Bool) → nat_lt (strictness a) (strictness b) ≡ t → Stricter a b (if t then b else a)
stricter_by a b true e = let less : strictness a < strictness b = grind (arith, e) in record { left = omega arith; right = omega arith; one = inr refl }
stricter_by a b false e = let most : strictness b ≤ strictness a = grind (arith, e) in record { left = omega arith; right = omega arith; one = inl refl }

stricter_is : (a b : Mode) → Stricter a b (stricter_of a b)
stricter_is a b = stricter_by a b (nat_lt (strictness a) (strictness b)) refl

record Strictest (mode : Mode) (all : List Sub) (found : Mode) : Type 0 where
  from : strictness mode ≤ strictness found
  most : All (Within found) all
  some : (found ≡ mode) ⊎ Any (λ sub. level_is sub ≡ found) all

any_first : (found : Mode) (sub : Sub) (more : List Sub) → level_is sub ≡ found → Any (λ s. level_is s ≡ found) (sub ∷ more)
any_first found sub more e = (0, sub, omega arith, refl, e)

any_later : (found : Mode) (sub : Sub) (more : List Sub) → Any (λ s. level_is s ≡ found) more → Any (λ s. level_is s ≡ found) (sub ∷ more)
any_later found sub more h = (suc h.0, h.1, omega (arith, h.2), h.3, h.4)

some_of : (mode : Mode) (sub : Sub) (more : List Sub) (next found : Mode) → Stricter mode (level_is sub) next → (found ≡ next) ⊎ Any (λ s. level_is s ≡ found) more
    → (found ≡ mode) ⊎ Any (λ s. level_is s ≡ found) (sub ∷ more)
some_of mode sub more next found step (inr h) = inr (any_later found sub more h)
some_of mode sub more next found step (inl e) = elim step.one [ inl a ↦ inl (e ∙ a) | inr b ↦ inr (any_first found sub more (sym (e ∙ b))) ]

strictest_is : (mode : Mode) (all : List Sub) → Strictest mode all (strictest_from mode all)
strictest_is mode [] = record { from = omega arith; most = All-nil (Within mode); some = inl refl }
strictest_is mode (sub ∷ more) =
    let step = stricter_is mode (level_is sub) in
    let rest = strictest_is (stricter_of mode (level_is sub)) more in
    record {
      from = omega (arith, step.left, rest.from);
      most = All-cons (Within (strictest_from mode (sub ∷ more))) sub more (omega (arith, step.right, rest.from)) rest.most;
      some = some_of mode sub more _ _ step rest.some;
    }

weakest : (mode : Mode) → strictness mode ≤ 1 → mode ≡ modes.AccessShare
weakest modes.AccessShare h = refl
weakest mode h = absurd (omega (arith, h))

of_some : (sub : Sub) (more : List Sub) (found : Mode) → Strictest modes.AccessShare (sub ∷ more) found → (found ≡ modes.AccessShare) ⊎ Any (λ s. level_is s ≡ found) (sub ∷ more)
    → IsStrictest (sub ∷ more) found
of_some sub more found h (inr some) = record { some = some; most = h.most }
of_some sub more found h (inl e) =
    let first : strictness (level_is sub) ≤ strictness found = h.most 0 sub (omega arith) in
    let one : strictness found ≡ 1 = ap strictness e in
    record { some = any_first found sub more (weakest (level_is sub) (omega (arith, first, one)) ∙ sym e); most = h.most }

pub is_strictest : (all : List Sub) → 0 < length all → IsStrictest all (strictest_of all)
is_strictest [] h = absurd (omega (arith, h))
is_strictest (sub ∷ more) h =
    let s = strictest_is modes.AccessShare (sub ∷ more) in
    of_some sub more _ s s.some
