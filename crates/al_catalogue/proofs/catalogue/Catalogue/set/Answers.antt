use Rattle.std.proofs.Common.{◌∙◌, sym}
use Rattle.std.proofs.lemmas.Result.{on_ok_weaker}
use Rattle.std.proofs.lemmas.Option.{slice_get_within}
use Rattle.al_catalogue.proofs.Found.{changed-at, changed-new, place-within}
use Rattle.al_catalogue.proofs.catalogue.Catalogue.set.Goals as goal

pub returns-in-Some-clause-ok : goal.returns-in-Some-clause-ok
returns-in-Some-clause-ok c =
    on_ok_weaker c.change.result (λ e. e ∙ changed-at c.args.table c.args.x c.args.entry c.args.self.now c.in-Some.at (sym c.place_of.ensures ∙ c.in-Some.is)) c.change.ensures.ok

pub returns-in-None-clause-ok : goal.returns-in-None-clause-ok
returns-in-None-clause-ok c =
    on_ok_weaker c.add.result (λ e. e ∙ changed-new c.args.table c.args.x c.args.entry c.args.self.now (sym c.place_of.ensures ∙ c.in-None.is)) c.add.ensures.ok

pub change-requires : goal.change-requires
change-requires c =
    let p = place-within c.args.table c.args.self.now c.in-Some.at (sym c.place_of.ensures ∙ c.in-Some.is) in
    slice_get_within c.args.self.now c.in-Some.at p.0 p.1
