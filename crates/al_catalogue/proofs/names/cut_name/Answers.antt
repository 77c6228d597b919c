use Rattle.std.proofs.Common.{◌∙◌, sym, ap, List, ℕ, None}
use Rattle.std.specs.Str.{bytes_eq}
use Rattle.al_catalogue.specs.Indexed.{named_in}
use Rattle.al_catalogue.proofs.Indexing.{changes-named, changes-none}
use Rattle.al_catalogue.proofs.Exact.{filled-cut}
use Rattle.al_catalogue.proofs.names.cut_name.Goals as goal

pub returns-then-strip_name-clause-places : goal.returns-then-strip_name-clause-places
returns-then-strip_name-clause-places c = λ asked.
    changes-none (named_in c.strip_name.new.names) (named_in c.swap_remove.new.self) c.args.name.now
    (changes-named c.as_str.result.now c.args.name.now c.strip_name.new.names c.swap_remove.new.self None (λ (places : List ℕ). places) c.as_str.ensures
    c.swap_remove.ensures.updates (sym (c.strip_name.ensures.empty c.if-strip_name.true))) asked
    ∙ c.strip_name.ensures.places asked

pub returns-then-strip_name-clause-filled : goal.returns-then-strip_name-clause-filled
returns-then-strip_name-clause-filled c = λ filled.
    filled-cut c.as_str.result.now c.strip_name.new.names c.swap_remove.new.self c.swap_remove.ensures.updates
    (λ asked e. ap (λ (bs : List ℕ). bytes_eq bs asked) c.as_str.ensures ∙ (c.strip_name.ensures.bare filled asked e).1)
