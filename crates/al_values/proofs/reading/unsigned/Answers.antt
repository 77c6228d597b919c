use Rattle.std.proofs.Common.{◌≡◌, ◌-◌, refl, sym, ◌∙◌, get_or, take, true}
use Rattle.al_values.specs.Reading.{digits_value, is_digit}
use Rattle.al_values.proofs.Digits.{no_digits, all_digits, not_all_digits, still_digits, digits_more, capped_more}
use Rattle.al_values.proofs.reading.unsigned.Goals as goal

pub returns-then-is_empty : goal.returns-then-is_empty
returns-then-is_empty c = no_digits c.args.digits.now (sym c.is_empty.ensures ∙ c.if-is_empty.true)

pub loop-byte-init : goal.loop-byte-init
unfolding digits_value
loop-byte-init c = (refl, refl)

pub loop-byte-preserved : goal.loop-byte-preserved
loop-byte-preserved c =
    let text = c.args.digits.now in
    let i = c.loop-byte.byte-index in
    let is : is_digit (get_or text i 0) ≡ true = sym c.is_digit.ensures ∙ c.if-not-is_digit.false in
    let more = digits_more text i c.loop-byte-test.true in
    let cap = capped_more (digits_value (take i text)) (get_or text i 0 - 48) in
    (still_digits text i c.loop-byte-test.true c.loop-byte.invariant.0 is, cc)

pub returns-then-not-is_digit : goal.returns-then-not-is_digit
returns-then-not-is_digit c = not_all_digits c.args.digits.now c.loop-byte.byte-index c.loop-byte-test.true (sym c.is_digit.ensures ∙ c.if-not-is_digit.true)

pub returns : goal.returns
returns c =
    let whole = all_digits c.args.digits.now c.loop-byte.byte-index (sym c.is_empty.ensures ∙ c.if-is_empty.false) c.loop-byte-test.false c.loop-byte.invariant.0 in
    cc
