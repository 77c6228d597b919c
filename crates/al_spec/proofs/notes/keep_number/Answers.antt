use Rattle.std.proofs.Common.{◌≡◌, ℕ, List, Some, None, false, sym, ap, ◌∙◌}
use Rattle.std.specs.Prelude.{bytes_eq, string_bytes, is_some}
use Rattle.std.specs.HashMap.{get_by_text}
use Rattle.std.specs.Map.{update}
use Rattle.std.proofs.lemmas.Map.Text.{hash_map_updates_text}
use Rattle.al_spec.proofs.Kept.{kept, not_some}
use Rattle.al_spec.proofs.notes.keep_number.Goals as goal

pub returns : goal.returns
returns c = λ asked.
    let name : string_bytes c.in_ok-from_str.field-0 ≡ c.args.name.now = c.in_ok-from_str.ensures.ok ∙ c.as_str-2.ensures in
    let absent : is_some (get_by_text c.args.numbers.now c.as_str.result.now) ≡ false = sym c.contains_key.ensures ∙ c.if-contains_key.false in
    let none : get_by_text c.args.numbers.now c.args.name.now ≡ None = ap (λ (n : List ℕ). get_by_text c.args.numbers.now n) (sym c.as_str.ensures) ∙ not_some _ absent in
    hash_map_updates_text (string_bytes c.in_ok-from_str.field-0) c.args.numbers.now c.insert.new.self (Some c.args.number) c.in_ok-insert.ensures.updates asked
    ∙ ap (λ (n : List ℕ). update bytes_eq (get_by_text c.args.numbers.now) n (Some c.args.number) asked) name
    ∙ kept (get_by_text c.args.numbers.now) c.args.name.now asked c.args.number none
