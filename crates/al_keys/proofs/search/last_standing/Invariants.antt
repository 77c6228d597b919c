use Rattle.std.proofs.Common.{◌≡◌, ◌≤◌, length}
use Rattle.al_keys.specs.Keys.{last_below, is_standing, standing}
use Rattle.al_keys.proofs.search.last_standing.Given as goal

abbrev pub invariant-loop-end : goal.invariant-loop-end
invariant-loop-end l = record {
  within : l.end ≤ length l.versions;
  rest : standing l.xacts.transactions l.versions l.row ≡ last_below (is_standing l.xacts.transactions l.row) l.versions l.end;
}

abbrev pub decreases-loop-end : goal.decreases-loop-end
decreases-loop-end l = l.end
