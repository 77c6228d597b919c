use Rattle.std.proofs.Common.{rules, not, ◌==◌, ℕ}
use Rattle.std.proofs.lemmas.Fn.{filter_same}
use Rattle.al_catalogue.proofs.places.Places.cut.Goals as goal

pub returns : goal.returns
returns c =
    rw (← c.self.view_is) (filter_same _ (λ (place : ℕ). not (place == c.args.at)) _ (λ x b g h. search rules) _ _ c.retain.ensures.filtered)
