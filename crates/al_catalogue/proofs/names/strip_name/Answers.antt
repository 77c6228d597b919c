use Rattle.std.proofs.Common.{◌≡◌, ◌∙◌, ap, rules, subst, true, List, ℕ, Some, unwrap_or, Option, []}
use Rattle.std.specs.Str.{bytes_eq}
use Rattle.indexmap.specs.IndexMap.{get_by_text}
use Rattle.al_catalogue.specs.Indexed.{named_in, without_place}
use Rattle.al_catalogue.proofs.Indexing.{changes-named}
use Rattle.al_catalogue.proofs.Exact.{bare-stripped}
use Rattle.al_catalogue.proofs.names.strip_name.Goals as goal

pub returns-in-Some-clause-places : goal.returns-in-Some-clause-places
returns-in-Some-clause-places c =
    let w : List ℕ = c.cut.new.self in
    let v : Some c.in-Some.places.now ≡ get_by_text c.args.names.now c.as_str.result.now = c.in-Some.ensures.value in
    let got : c.in-Some.places.now ≡ named_in c.args.names.now c.args.name.now = ap (λ (o : Option (List ℕ)). unwrap_or o []) v ∙ ap (named_in c.args.names.now) c.as_str.ensures in
    changes-named c.as_str.result.now c.args.name.now c.args.names.now (c.get_mut.follows.lender w) (Some w) (without_place c.args.at) c.as_str.ensures
    ((c.get_mut.follows.holds w).3 (search rules)) (c.cut.ensures ∙ ap (without_place c.args.at) got)

pub returns-in-Some-clause-bare : goal.returns-in-Some-clause-bare
returns-in-Some-clause-bare c = λ filled asked e.
    let w : List ℕ = c.cut.new.self in
    subst (λ (bs : List ℕ). (c.is_empty.result ≡ true) × (bytes_eq bs asked ≡ true)) c.as_str.ensures
    (bare-stripped c.as_str.result.now c.args.names.now (c.get_mut.follows.lender w) w c.is_empty.result ((c.get_mut.follows.holds w).3 (search rules)) c.is_empty.ensures.1 filled asked e)
