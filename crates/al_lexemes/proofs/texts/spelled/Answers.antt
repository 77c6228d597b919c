use Rattle.std.proofs.Common.{ℕ, ◌-◌, List, get_or, take, sym, ap, ◌∙◌}
use Rattle.std.proofs.lemmas.List.{take_all}
use Rattle.al_values.specs.Reading.{digits_value}
use Rattle.al_lexemes.proofs.Numbers.{capped, digits_more, capped_more, no_digits}
use Rattle.al_lexemes.proofs.texts.spelled.Goals as goal

pub loop-digit-init : goal.loop-digit-init
loop-digit-init c = sym no_digits

pub loop-digit-preserved : goal.loop-digit-preserved
loop-digit-preserved c =
    let text = c.args.digits.now in
    let i = c.loop-digit.digit-index in
    let more = digits_more text i c.loop-digit-test.true in
    let cap = capped_more (digits_value (take i text)) (get_or text i 0 - 48) in
    cc

pub returns : goal.returns
returns c = c.loop-digit.invariant ∙ ap (λ (t : List ℕ). capped (digits_value t)) (take_all c.loop-digit.digit-index c.args.digits.now c.loop-digit-test.false)
