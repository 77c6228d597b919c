use Rattle.std.proofs.Common.{◌≡◌, ◌≤◌, length}
use Rattle.al_phrases.specs.Columns.{none_seen, clauses_from}
use Rattle.al_phrases.proofs.columns.more_clauses.Given as goal

abbrev pub invariant-clauses : goal.invariant-clauses
invariant-clauses l = record {
  read : clauses_from l.fn.depth none_seen l.fn.first l.fn.tokens ≡ clauses_from l.fn.depth l.seen l.definition l.rest;
  shorter : length l.rest ≤ length l.fn.tokens;
}

abbrev pub decreases-clauses : goal.decreases-clauses
decreases-clauses l = length l.rest
