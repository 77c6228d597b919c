use Rattle.std.proofs.Common.{◌∙◌, sym, ap, subst}
use Rattle.al_tree.specs.Ascending.{Ascends, is_among}
use Rattle.al_tree.proofs.Sorted.{put-ascends}
use Rattle.al_tree.proofs.search.find.Goals as goal

pub returns-in_ok-push-clause-ascends : goal.returns-in_ok-push-clause-ascends
returns-in_ok-push-clause-ascends c =
    subst Ascends (sym c.in_ok-put.ensures.ok)
    (put-ascends c.args.table c.args.met.now.items (ap (is_among c.args.table) (sym c.deref.ensures.value) ∙ sym c.is_among.ensures ∙ c.if-not-is_among.true) c.requires)
