use Rattle.std.proofs.Common.{◌∙◌, ap, List, ℕ}
use Rattle.std.specs.List.{list_any}
use Rattle.std.specs.Option.{is_some}
use Rattle.indexmap.specs.IndexMap.{get_by_text}
use Rattle.al_catalogue.specs.declared.entry.Kept.{Kept}
use Rattle.al_catalogue.specs.Indexed.{has_name}
use Rattle.al_catalogue.proofs.Exact.{kept-name}
use Rattle.al_catalogue.proofs.catalogue.Catalogue.keeps_name.Goals as goal

pub returns : goal.returns
returns c =
    let i = c.self.inside in
    c.contains_key.ensures ∙ ap (λ (bs : List ℕ). is_some (get_by_text i.names bs)) c.as_str.ensures
    ∙ kept-name i.names i.tables.items c.args.name.now c.self.invariant.1 c.self.invariant.2 ∙ ap (λ (ts : List Kept). list_any (has_name c.args.name.now) ts) c.self.view_is
