use Rattle.std.proofs.Common.{◌≡◌, pos, ◌≤ℤ◌, FitsSigned, w16, w64, arith, ◌∙◌}
use Rattle.std.proofs.lemmas.Int.{to_z-of_z, ints}
use Rattle.jiff_core.specs.Date.{epoch_day}
use Rattle.jiff_core.proofs.SignedLemmas.{signed_arith}
use Rattle.al_values.proofs.DayNumbers.{within_years, parts_of, told}
use Rattle.al_values.proofs.days.civil.Goals as goal

pub returns : goal.returns
returns c =
    let date = c.in_ok-date.date in
    let number = c.args.number in
    let fits : FitsSigned w16 date.year = omega (arith, signed_arith, date.year_in) in
    let year = to_z-of_z w16 date.year fits in
    let is : epoch_day date ≡ number =
    told c.from_unix_epoch_day.result date _ c.in_ok-date.ensures.value c.from_unix_epoch_day.ensures.value ∙ to_z-of_z w64 number c.ranges.number in
    let late : pos 1 ≤ℤ date.year = grind (arith, ints) in
    let parts = parts_of date number is late in
    (rw (← is) (within_years date late), rw year parts.0, parts.1, parts.2)
