-- A row of steps that ends well: each of its steps did.
use Rattle.std.proofs.Common.{◌≡◌, ℕ, Option, Some, None, Result, Ok, Err, refl}
use Rattle.al_values.specs.declared.kinds.Kind.{Kind}
use Rattle.al_expr.specs.declared.kinds.Typed.{Typed}
use Rattle.al_expr.specs.declared.kinds.Typed.TheVariants as types
use Rattle.al_expr.specs.Then.{◌>>=◌}
use Rattle.al_expr.specs.Typing.{ruled}

pub opened : {A B E : Type 0} (first : Result A E) (next : A → Result B E) (end : B) → (first >>= next) ≡ Ok end →
    (a : A) × (first ≡ Ok a) × (next a ≡ Ok end)
opened (Ok a) next end is = (a, refl, is)
opened (Err fault) next end is = absurd cc

pub ruled_is : (place : ℕ) (found : Option Kind) (typed : Typed) → ruled place found ≡ Ok typed →
    (kind : Kind) × (found ≡ Some kind) × (types.Known kind ≡ typed)
ruled_is place (Some kind) typed is = (kind, refl, cc)
ruled_is place None typed is = absurd cc
