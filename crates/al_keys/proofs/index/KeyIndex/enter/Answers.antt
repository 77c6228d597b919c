use Rattle.std.proofs.Common.{◌≡◌, true, sym, ap, ◌∙◌}
use Rattle.al_keys.specs.Order.{has_null}
use Rattle.al_keys.specs.Keys.{with_version, made}
use Rattle.al_keys.proofs.Bisection.{changes-null}
use Rattle.al_keys.proofs.index.KeyIndex.enter.Goals as goal

pub returns-then-has_null-clause-ok : goal.returns-then-has_null-clause-ok
returns-then-has_null-clause-ok c =
    let null : has_null c.args.key ≡ true = ap has_null (sym c.as_slice.ensures) ∙ sym c.has_null.ensures ∙ c.if-has_null.true in
    changes-null c.args.self.now c.args.key (with_version (made c.args.row c.args.place c.args.x)) null
