use Rattle.std.proofs.Common.{◌≡◌, sym, ◌∙◌, List}
use Rattle.al_keys.specs.declared.version.KeyVersion.{KeyVersion}
use Rattle.al_keys.specs.Keys.{with_version, made}
use Rattle.al_keys.specs.Kept.{StandsAt, WouldStandAt}
use Rattle.al_keys.proofs.Bisection.{stands-in, would-in, stands-set, would-insert, kept-either, on_ok}
use Rattle.al_keys.proofs.index.enter_in.Goals as goal

pub returns-in-Ok-clause-ok : goal.returns-in-Ok-clause-ok
returns-in-Ok-clause-ok c =
    let es = c.args.entries.now.items in
    let stands : StandsAt es c.args.key c.in-Ok.at = stands-in es c.deref.result.now c.args.key c.as_slice.result.now c.in-Ok.at c.deref.ensures.value c.as_slice.ensures c.in-Ok.ensures in
    on_ok c.add_at.result _ _ c.add_at.ensures.ok (λ h. (stands-set es c.add_at.new.entries.items c.args.key c.in-Ok.at (with_version (made c.args.row c.args.place c.args.x)) c.requires.kept stands h).1)

pub returns-in-Ok-clause-kept : goal.returns-in-Ok-clause-kept
returns-in-Ok-clause-kept c =
    let es = c.args.entries.now.items in
    let stands : StandsAt es c.args.key c.in-Ok.at = stands-in es c.deref.result.now c.args.key c.as_slice.result.now c.in-Ok.at c.deref.ensures.value c.as_slice.ensures c.in-Ok.ensures in
    kept-either c.add_at.result _ es c.add_at.new.entries.items c.add_at.ensures.ok c.add_at.ensures.err c.requires.kept (λ h. (stands-set es c.add_at.new.entries.items c.args.key c.in-Ok.at (with_version (made c.args.row c.args.place c.args.x)) c.requires.kept stands h).0)

pub returns-in_ok-insert-in-Err-clause-ok : goal.returns-in_ok-insert-in-Err-clause-ok
returns-in_ok-insert-in-Err-clause-ok c =
    let es = c.args.entries.now.items in
    let would : WouldStandAt es c.args.key c.in-Err.at = would-in es c.deref.result.now c.args.key c.as_slice.result.now c.in-Err.at c.deref.ensures.value c.as_slice.ensures c.in-Err.ensures in
    (would-insert es c.insert.new.self.items c.args.key c.in-Err.at c.in_ok-versions-in-Err.versions (made c.args.row c.args.place c.args.x) c.requires.kept would c.requires.whole c.in_ok-versions-in-Err.ensures c.in_ok-insert-in-Err.ensures.items).1

pub returns-in_ok-insert-in-Err-clause-kept : goal.returns-in_ok-insert-in-Err-clause-kept
returns-in_ok-insert-in-Err-clause-kept c =
    let es = c.args.entries.now.items in
    let would : WouldStandAt es c.args.key c.in-Err.at = would-in es c.deref.result.now c.args.key c.as_slice.result.now c.in-Err.at c.deref.ensures.value c.as_slice.ensures c.in-Err.ensures in
    (would-insert es c.insert.new.self.items c.args.key c.in-Err.at c.in_ok-versions-in-Err.versions (made c.args.row c.args.place c.args.x) c.requires.kept would c.requires.whole c.in_ok-versions-in-Err.ensures c.in_ok-insert-in-Err.ensures.items).0
