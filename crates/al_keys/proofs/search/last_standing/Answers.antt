use Rattle.std.proofs.Common.{◌≡◌, ◌-◌, ◌<◌, length, refl, sym, ◌∙◌, arith, false, Some, slice_get}
use Rattle.std.proofs.lemmas.Option.{slice_get_read}
use Rattle.al_keys.specs.declared.version.KeyVersion.{KeyVersion}
use Rattle.al_keys.specs.Keys.{is_standing}
use Rattle.al_keys.proofs.SoughtLaws.{last-step}
use Rattle.al_keys.proofs.search.last_standing.Goals as goal

pub loop-end-preserved : goal.loop-end-preserved
loop-end-preserved c =
    let vs = c.args.versions.now in
    let v : KeyVersion = c.index-versions-end.result in
    let got : slice_get vs (c.loop-end.end - 1) ≡ Some v = slice_get_read vs (length vs) (c.loop-end.end - 1) v refl (omega arith) c.index-versions-end.is in
    record {
      within = omega arith;
      rest = c.loop-end.invariant.rest ∙ last-step (is_standing c.args.xacts.now.transactions c.args.row) vs c.loop-end.end (c.loop-end.end - 1) v (omega arith) got (sym c.is_standing.ensures ∙ c.if-is_standing.false);
    }
