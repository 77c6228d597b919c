use Rattle.std.proofs.Common.{◌≡◌, sym, ap, ◌∙◌, List}
use Rattle.al_keys.specs.declared.entry.Entry.{Entry}
use Rattle.al_keys.specs.Kept.{StandsAt, WouldStandAt}
use Rattle.al_keys.proofs.Bisection.{stands-entry, stands-in, would-in, versions-at, versions-none}
use Rattle.al_keys.proofs.index.KeyIndex.versions_of.Goals as goal

pub returns-in-Ok : goal.returns-in-Ok
returns-in-Ok c =
    let es = c.self.inside.entries.items in
    let stands : StandsAt es c.args.key.now c.in-Ok.at = stands-in es c.deref.result.now c.args.key.now c.as_slice.result.now c.in-Ok.at c.deref.ensures.value c.as_slice.ensures c.in-Ok.ensures in
    let e : Entry = c.index.result.now in
    let there = stands-entry es c.args.key.now c.in-Ok.at e stands c.index.ensures in
    rw (← c.self.view_is) (c.as_slice-in-Ok.ensures ∙ sym (versions-at es c.args.key.now c.in-Ok.at e c.self.invariant there.0 there.1))

pub returns-in-Err : goal.returns-in-Err
returns-in-Err c =
    let es = c.self.inside.entries.items in
    let would : WouldStandAt es c.args.key.now c.in-Err.field-0 = would-in es c.deref.result.now c.args.key.now c.as_slice.result.now c.in-Err.field-0 c.deref.ensures.value c.as_slice.ensures c.in-Err.ensures in
    rw (← c.self.view_is) (sym (versions-none es c.args.key.now c.in-Err.field-0 would))
