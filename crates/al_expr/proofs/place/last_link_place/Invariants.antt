use Rattle.std.proofs.Common.{◌≡◌, drop}
use Rattle.al_expr.specs.Places.{last_link_place}
use Rattle.al_expr.proofs.place.last_link_place.Given as goal

abbrev pub invariant-loop-link : goal.invariant-loop-link
invariant-loop-link l = last_link_place l.fn.before l.links ≡ last_link_place l.place (drop l.link-index l.links)
