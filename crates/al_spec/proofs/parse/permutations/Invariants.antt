use Rattle.std.proofs.Common.{◌≡◌, ◌≤◌, ◌-◌, length}
use Rattle.al_grammar.specs.Rules.{many}
use Rattle.al_grammar.specs.Skim.{skim}
use Rattle.al_spec.specs.Grammar.{kind_of, permutation}
use Rattle.al_spec.proofs.Syntax.{from_on}
use Rattle.al_spec.proofs.parse.permutations.Given as goal

abbrev pub invariant-loop-from : goal.invariant-loop-from
invariant-loop-from l = record {
  within : l.from ≤ length l.tokens;
  goes_on : skim ((many kind_of permutation).reads l.tokens) ≡ skim ((many kind_of permutation).reads (from_on l.tokens l.from));
}

abbrev pub decreases-loop-from : goal.decreases-loop-from
decreases-loop-from l = length l.tokens - l.from
