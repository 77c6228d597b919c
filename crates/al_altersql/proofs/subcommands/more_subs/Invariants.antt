use Rattle.std.proofs.Common.{◌≡◌, ◌≤◌, ◌∷◌, [], length}
use Rattle.al_altersql.specs.Alter.{subs_from}
use Rattle.al_altersql.proofs.subcommands.more_subs.Given as goal

abbrev pub invariant-subs : goal.invariant-subs
invariant-subs l = record {
  read : subs_from l.fn.depth (l.fn.first ∷ []) l.fn.tokens ≡ subs_from l.fn.depth l.all l.rest;
  shorter : length l.rest ≤ length l.fn.tokens;
}

abbrev pub decreases-subs : goal.decreases-subs
decreases-subs l = length l.rest
