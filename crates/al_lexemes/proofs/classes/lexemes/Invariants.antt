use Rattle.std.proofs.Common.{◌≡◌, ◌++◌, false, length}
use Rattle.al_tokens.specs.Tokens.{Spans}
use Rattle.al_lexemes.specs.Classes.{classed}
use Rattle.al_lexemes.proofs.classes.lexemes.Given as goal

abbrev pub invariant-loop-rest : goal.invariant-loop-rest
invariant-loop-rest l = record {
  spans : Spans l.text 0 l.rest;
  same : l.all ++ classed l.text l.rest false ≡ classed l.text l.tokens false;
}

abbrev pub decreases-loop-rest : goal.decreases-loop-rest
decreases-loop-rest l = length l.rest
