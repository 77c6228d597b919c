use Rattle.std.proofs.Common.{◌≡◌, ◌++◌, drop, take, map, vec_len}
use Rattle.al_schema.specs.Constraints.{with_rule_renamed}
use Rattle.al_schema.proofs.shape.rename_in_rules.Given as goal

abbrev pub invariant-loop-at : goal.invariant-loop-at
invariant-loop-at l = record {
  renamed : l.constraints.items ≡ map (with_rule_renamed l.from l.to) (take l.at l.initial.constraints.items) ++ drop l.at l.initial.constraints.items;
  len : vec_len l.constraints ≡ vec_len l.initial.constraints;
}
