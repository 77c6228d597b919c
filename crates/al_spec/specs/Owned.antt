-- A text that the file lends, or that was made from it.
use Rattle.std.specs.Prelude.{ℕ, List}
use Rattle.al_spec.specs.declared.lent.Owner.{Owner}
use Rattle.al_spec.specs.declared.lent.Owner.TheVariants as owners

abbrev pub owned : Owner → List ℕ
owned (owners.File text) = text.now
owned (owners.Own text) = text
