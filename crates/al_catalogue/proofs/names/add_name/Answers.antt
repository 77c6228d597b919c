use Rattle.std.proofs.Common.{◌≡◌, ◌∙◌, sym, ap, rules, List, ℕ, Some, None, unwrap_or, Option, [], string_bytes, refl}
use Rattle.std.proofs.lemmas.Result.{on_ok_weaker, on_err_weaker, IfOk-at_ok}
use Rattle.indexmap.specs.IndexMap.{get_by_text}
use Rattle.al_catalogue.specs.Indexed.{named_in, with_place}
use Rattle.al_catalogue.proofs.Indexing.{changes-named, changes-none}
use Rattle.al_catalogue.proofs.Exact.{filled-after, filled-new}
use Rattle.al_catalogue.proofs.names.add_name.Goals as goal

pub returns-in-Some-clause-ok : goal.returns-in-Some-clause-ok
returns-in-Some-clause-ok c =
    let w : List ℕ = c.add.new.self in
    let v : Some c.in-Some.places.now ≡ get_by_text c.args.names.now c.as_str.result.now = c.in-Some.ensures.value in
    let got : c.in-Some.places.now ≡ named_in c.args.names.now c.args.name.now = ap (λ (o : Option (List ℕ)). unwrap_or o []) v ∙ ap (named_in c.args.names.now) c.as_str.ensures in
    on_ok_weaker c.add.result
    (λ e. changes-named c.as_str.result.now c.args.name.now c.args.names.now (c.get_mut.follows.lender w) (Some w) (with_place c.args.at) c.as_str.ensures
    ((c.get_mut.follows.holds w).3 (search rules)) (e ∙ ap (with_place c.args.at) got)) c.add.ensures.ok

pub returns-in-Some-clause-err : goal.returns-in-Some-clause-err
returns-in-Some-clause-err c =
    let w : List ℕ = c.add.new.self in
    let v : Some c.in-Some.places.now ≡ get_by_text c.args.names.now c.as_str.result.now = c.in-Some.ensures.value in
    let got : c.in-Some.places.now ≡ named_in c.args.names.now c.args.name.now = ap (λ (o : Option (List ℕ)). unwrap_or o []) v ∙ ap (named_in c.args.names.now) c.as_str.ensures in
    on_err_weaker c.add.result
    (λ e. changes-none (named_in c.args.names.now) (named_in (c.get_mut.follows.lender w)) c.args.name.now
    (changes-named c.as_str.result.now c.args.name.now c.args.names.now (c.get_mut.follows.lender w) (Some w) (λ (places : List ℕ). places) c.as_str.ensures
    ((c.get_mut.follows.holds w).3 (search rules)) (e ∙ got))) c.add.ensures.err

pub returns-in_ok-insert-in-None-clause-ok : goal.returns-in_ok-insert-in-None-clause-ok
returns-in_ok-insert-in-None-clause-ok c =
    let h = c.get_mut.follows.holds-at-none in
    let v : None ≡ get_by_text c.args.names.now c.as_str.result.now = c.in-None.ensures.value in
    let none : [] ≡ named_in c.args.names.now c.args.name.now = ap (λ (o : Option (List ℕ)). unwrap_or o []) v ∙ ap (named_in c.args.names.now) c.as_str.ensures in
    let key_is : string_bytes c.in_ok-from_str-in-None.field-0 ≡ c.args.name.now = IfOk-at_ok (λ s. string_bytes s ≡ c.as_str-in-None.result.now) c.in_ok-from_str-in-None.was c.from_str.ensures.ok ∙ c.as_str-in-None.ensures in
    let same : named_in c.get_mut.follows.lender-at-none c.args.name.now ≡ named_in c.args.names.now c.args.name.now = rw h refl in
    rw (← h)
    (changes-named (string_bytes c.in_ok-from_str-in-None.field-0) c.args.name.now c.get_mut.follows.lender-at-none c.insert.new.self (Some c.add-in-None.new.self) (with_place c.args.at) key_is
    c.in_ok-insert-in-None.ensures.updates (c.in_ok-add-in-None.ensures.ok ∙ ap (with_place c.args.at) (c.new-places.ensures ∙ none ∙ sym same)))

pub returns-in-Some-clause-filled : goal.returns-in-Some-clause-filled
returns-in-Some-clause-filled c =
    let w : List ℕ = c.add.new.self in
    filled-after c.as_str.result.now c.args.names.now (c.get_mut.follows.lender w) c.add.result c.args.at c.in-Some.places.now w ((c.get_mut.follows.holds w).3 (search rules))
    c.in-Some.ensures.value c.add.ensures.ok c.add.ensures.err

pub returns-in_ok-insert-in-None-clause-filled : goal.returns-in_ok-insert-in-None-clause-filled
returns-in_ok-insert-in-None-clause-filled c =
    let h = c.get_mut.follows.holds-at-none in
    rw (← h)
    (filled-new (string_bytes c.in_ok-from_str-in-None.field-0) c.get_mut.follows.lender-at-none c.insert.new.self c.args.at [] c.add-in-None.new.self
    c.in_ok-insert-in-None.ensures.updates (c.in_ok-add-in-None.ensures.ok ∙ ap (with_place c.args.at) c.new-places.ensures))
