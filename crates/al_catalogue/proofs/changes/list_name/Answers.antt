use Rattle.std.proofs.Common.{◌≡◌, sym, subst, Option, true}
use Rattle.std.proofs.lemmas.Result.{on_ok_weaker}
use Rattle.al_catalogue.specs.declared.entry.TableEntry.{TableEntry}
use Rattle.al_catalogue.specs.Names.{is_called}
use Rattle.al_catalogue.specs.Indexed.{ListsMore, named_in}
use Rattle.al_catalogue.proofs.Indexing.{named-there, named-keeps, either-keeps}
use Rattle.al_catalogue.proofs.Exact.{lists-more}
use Rattle.al_catalogue.proofs.changes.list_name.Goals as goal

pub returns-in-Some-clause-keeps : goal.returns-in-Some-clause-keeps
returns-in-Some-clause-keeps c =
    either-keeps c.add_name.result (named_in c.args.names.now) (named_in c.add_name.new.names) _ c.add_name.ensures.ok c.add_name.ensures.err
    (λ e. named-keeps _ _ c.in-Some.entry.name c.args.at e)

pub returns-in-Some-clause-there : goal.returns-in-Some-clause-there
returns-in-Some-clause-there c =
    on_ok_weaker c.add_name.result
    (λ e name called. named-there _ _ c.in-Some.entry.name name c.args.at e (subst (λ (o : Option TableEntry). is_called name o ≡ true) c.in-Some.is called)) c.add_name.ensures.ok

pub returns-in-Some-clause-listed : goal.returns-in-Some-clause-listed
returns-in-Some-clause-listed c =
    on_ok_weaker c.add_name.result
    (λ e. subst (λ (o : Option TableEntry). ListsMore (named_in c.args.names.now) (named_in c.add_name.new.names) c.args.at o) (sym c.in-Some.is)
    (lists-more (named_in c.args.names.now) (named_in c.add_name.new.names) c.in-Some.entry c.args.at e)) c.add_name.ensures.ok
