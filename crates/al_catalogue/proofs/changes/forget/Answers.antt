use Rattle.std.proofs.Common.{◌∙◌, sym, subst, Option}
use Rattle.al_catalogue.specs.declared.entry.TableEntry.{TableEntry}
use Rattle.al_catalogue.specs.Indexed.{AreExactBut, named_in}
use Rattle.al_catalogue.proofs.Indexing.{named-cut}
use Rattle.al_catalogue.proofs.Exact.{exact-cut}
use Rattle.al_catalogue.proofs.changes.forget.Goals as goal

pub returns-then-not-has_name_at-clause-named : goal.returns-then-not-has_name_at-clause-named
returns-then-not-has_name_at-clause-named c =
    named-cut c.args.tables.now (named_in c.args.names.now) (named_in c.cut_name.new.names) c.in-Some.entry.name c.args.at c.cut_name.ensures.places
    (sym c.has_name_at.ensures ∙ c.if-not-has_name_at.true)

pub returns-then-not-has_name_at-clause-exact : goal.returns-then-not-has_name_at-clause-exact
returns-then-not-has_name_at-clause-exact c = λ but.
    exact-cut c.args.tables.now (named_in c.args.names.now) (named_in c.cut_name.new.names) c.in-Some.entry c.args.at c.cut_name.ensures.places
    (sym c.has_name_at.ensures ∙ c.if-not-has_name_at.true)
    (subst (λ (o : Option TableEntry). AreExactBut c.args.tables.now (named_in c.args.names.now) c.args.at o) c.in-Some.is but)
