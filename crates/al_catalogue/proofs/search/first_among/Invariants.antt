use Rattle.std.proofs.Common.{◌≡◌, fold, take, None}
use Rattle.al_catalogue.specs.Indexed.{is_sought, nearer}
use Rattle.al_catalogue.proofs.search.first_among.Given as goal

abbrev pub invariant-loop-at : goal.invariant-loop-at
invariant-loop-at l = l.found ≡ fold (nearer (is_sought l.sought l.name l.x) l.tables) None (take l.at-index l.places)
