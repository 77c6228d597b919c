use Rattle.std.proofs.Common.{◌≡◌, ◌≤◌, ◌∷◌, [], length}
use Rattle.al_sql.specs.Queries.{keys_from}
use Rattle.al_sql.proofs.sorting.more_keys.Given as goal

abbrev pub invariant-keys : goal.invariant-keys
invariant-keys l = record {
  read : keys_from (l.fn.first ∷ []) l.fn.tokens ≡ keys_from l.all l.rest;
  shorter : length l.rest ≤ length l.fn.tokens;
}

abbrev pub decreases-keys : goal.decreases-keys
decreases-keys l = length l.rest
