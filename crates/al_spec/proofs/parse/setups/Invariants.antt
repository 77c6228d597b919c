use Rattle.std.proofs.Common.{◌≡◌, ◌≤◌, ◌-◌, length}
use Rattle.al_grammar.specs.Rules.{many}
use Rattle.al_grammar.specs.Skim.{skim}
use Rattle.al_spec.specs.declared.kinds.Kind.TheVariants as kinds
use Rattle.al_spec.specs.Grammar.{kind_of, block_after}
use Rattle.al_spec.proofs.Syntax.{from_on}
use Rattle.al_spec.proofs.parse.setups.Given as goal

abbrev pub invariant-loop-from : goal.invariant-loop-from
invariant-loop-from l = record {
  within : l.from ≤ length l.tokens;
  goes_on : skim ((many kind_of (block_after kinds.Setup)).reads l.tokens) ≡ skim ((many kind_of (block_after kinds.Setup)).reads (from_on l.tokens l.from));
}

abbrev pub decreases-loop-from : goal.decreases-loop-from
decreases-loop-from l = length l.tokens - l.from
