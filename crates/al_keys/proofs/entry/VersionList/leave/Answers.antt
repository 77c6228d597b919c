use Rattle.std.proofs.Common.{◌≡◌, ◌<◌, length, refl, sym, ap, ◌∙◌, arith, List, Some, slice_get}
use Rattle.std.proofs.lemmas.Option.{slice_get_read}
use Rattle.al_keys.specs.declared.version.KeyVersion.{KeyVersion}
use Rattle.al_keys.specs.Keys.{standing, is_standing}
use Rattle.al_keys.proofs.SoughtLaws.{place-below, left-said}
use Rattle.al_keys.proofs.entry.VersionList.leave.Goals as goal

pub index_mut-version-requires : goal.index_mut-version-requires
index_mut-version-requires c =
    let vs = c.self.inside.items.items in
    let found : standing c.args.xacts.now.transactions vs c.args.row ≡ Some c.in-Some.place = sym (rw c.deref.ensures.value at c.last_standing.ensures) ∙ c.in-Some.is in
    omega (arith, place-below (is_standing c.args.xacts.now.transactions c.args.row) vs (length vs) c.in-Some.place found)

pub returns-in-Some : goal.returns-in-Some
returns-in-Some c =
    let vs = c.self.inside.items.items in
    let v : KeyVersion = c.index_mut-version.result.now in
    let found : standing c.args.xacts.now.transactions vs c.args.row ≡ Some c.in-Some.place = sym (rw c.deref.ensures.value at c.last_standing.ensures) ∙ c.in-Some.is in
    let got : slice_get vs c.in-Some.place ≡ Some v = slice_get_read vs (length vs) c.in-Some.place v refl (place-below (is_standing c.args.xacts.now.transactions c.args.row) vs (length vs) c.in-Some.place found) c.index_mut-version.ensures.value in
    rw (← c.self.view_is, c.note_remover.ensures) (sym (left-said c.args.xacts.now.transactions c.args.x c.args.row vs c.in-Some.place v found got))
