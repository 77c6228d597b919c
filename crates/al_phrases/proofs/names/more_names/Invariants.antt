use Rattle.std.proofs.Common.{◌≡◌, ◌≤◌, ◌∷◌, [], length}
use Rattle.al_phrases.specs.Words.{names_from}
use Rattle.al_phrases.proofs.names.more_names.Given as goal

abbrev pub invariant-names : goal.invariant-names
invariant-names l = record {
  read : names_from (l.fn.first ∷ []) l.fn.tokens ≡ names_from l.all l.rest;
  shorter : length l.rest ≤ length l.fn.tokens;
}

abbrev pub decreases-names : goal.decreases-names
decreases-names l = length l.rest
