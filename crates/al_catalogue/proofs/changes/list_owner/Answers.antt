use Rattle.std.proofs.Common.{◌≡◌, subst, ℕ, true}
use Rattle.std.proofs.lemmas.Result.{on_ok_weaker}
use Rattle.al_catalogue.specs.Indexed.{owned_in, is_listed}
use Rattle.al_catalogue.proofs.Indexing.{owned-keeps, owned-there, either-keeps}
use Rattle.al_catalogue.proofs.changes.list_owner.Goals as goal

pub returns-clause-keeps : goal.returns-clause-keeps
returns-clause-keeps c =
    either-keeps c.add_owned.result (owned_in c.args.owners.now.entries) (owned_in c.add_owned.new.owners.entries) _ c.add_owned.ensures.ok c.add_owned.ensures.err
    (λ e. owned-keeps _ _ c.number.result c.args.at e)

pub returns-clause-there : goal.returns-clause-there
returns-clause-there c =
    on_ok_weaker c.add_owned.result
    (λ e out. subst (λ (x : ℕ). is_listed c.args.at (owned_in c.add_owned.new.owners.entries x) ≡ true) c.number.ensures (owned-there _ _ c.number.result c.args.at e)) c.add_owned.ensures.ok
