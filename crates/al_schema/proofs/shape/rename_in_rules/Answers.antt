use Rattle.std.proofs.Common.{◌≡◌, ◌∙◌, ◌<◌, ap, subst, sym, arith, length, slice_set}
use Rattle.std.proofs.lemmas.List.Edits.{map_over_more}
use Rattle.al_schema.specs.declared.constraint.Constraint.{Constraint}
use Rattle.al_schema.specs.Constraints.{with_rule_renamed}
use Rattle.al_schema.proofs.shape.rename_in_rules.Goals as goal

pub loop-at-preserved : goal.loop-at-preserved
loop-at-preserved c =
    let within : c.loop-at.at < length c.args.constraints.now.items = let o = c.args.constraints.now.ok in let e = c.len-at-end.ensures in let t = c.loop-at-test.true in omega arith in
    record {
      renamed = ap (λ (x : Constraint). slice_set c.loop-at.constraints.items c.loop-at.at x) c.in_ok-rename_in_rule.ensures
          ∙ map_over_more (with_rule_renamed c.args.from.now c.args.to.now) _ _ c.loop-at.at c.index_mut.result.now within c.loop-at.invariant.renamed c.index_mut.ensures.value;
      len = c.loop-at.invariant.len;
    }
