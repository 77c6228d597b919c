use Rattle.std.proofs.Common.{◌++◌, ap, ◌∙◌, sym, string_bytes}
use Rattle.al_app.specs.Report.{place_text, entries_text}
use Rattle.al_app.proofs.ReportLemmas.{texts_grow, appended_two}
use Rattle.al_app.proofs.report.blocks.push_entries.Goals as goal

pub loop-place-preserved : goal.loop-place-preserved
loop-place-preserved c =
    let spec = c.args.spec.now in
    let journal = c.args.journal.now in
    let from = c.args.from in
    let place = c.loop-place.place in
    let both = appended_two _ _ _ (entries_text spec journal from place) (place_text spec journal place) c.loop-place.invariant c.in_ok-push_place.ensures.ok in
    both ∙ ap (λ x. string_bytes c.args.text.now ++ x) (sym (texts_grow (place_text spec journal) from place c.loop-place.auto.place))
