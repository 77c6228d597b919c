use Rattle.std.proofs.Common.{◌≡◌, refl, List}
use Rattle.al_keys.specs.Keys.{left_by}
use Rattle.al_keys.specs.Kept.{StandsAt, WouldStandAt}
use Rattle.al_keys.proofs.Bisection.{stands-in, would-in, stands-set, changes-none}
use Rattle.al_keys.proofs.index.leave_in.Goals as goal

pub returns-in-Ok-clause-left : goal.returns-in-Ok-clause-left
returns-in-Ok-clause-left c =
    let es = c.args.entries.now.items in
    let stands : StandsAt es c.args.key.now c.in-Ok.at = stands-in es c.deref.result.now c.args.key.now c.as_slice.result.now c.in-Ok.at c.deref.ensures.value c.as_slice.ensures c.in-Ok.ensures in
    (stands-set es c.leave_at.new.entries.items c.args.key.now c.in-Ok.at (left_by c.args.xacts.now.transactions c.args.x c.args.row) c.requires stands c.leave_at.ensures).1

pub returns-in-Ok-clause-kept : goal.returns-in-Ok-clause-kept
returns-in-Ok-clause-kept c =
    let es = c.args.entries.now.items in
    let stands : StandsAt es c.args.key.now c.in-Ok.at = stands-in es c.deref.result.now c.args.key.now c.as_slice.result.now c.in-Ok.at c.deref.ensures.value c.as_slice.ensures c.in-Ok.ensures in
    (stands-set es c.leave_at.new.entries.items c.args.key.now c.in-Ok.at (left_by c.args.xacts.now.transactions c.args.x c.args.row) c.requires stands c.leave_at.ensures).0

pub returns-in-Err-clause-left : goal.returns-in-Err-clause-left
returns-in-Err-clause-left c =
    let es = c.args.entries.now.items in
    let would : WouldStandAt es c.args.key.now c.in-Err.field-0 = would-in es c.deref.result.now c.args.key.now c.as_slice.result.now c.in-Err.field-0 c.deref.ensures.value c.as_slice.ensures c.in-Err.ensures in
    changes-none es c.args.key.now c.in-Err.field-0 (left_by c.args.xacts.now.transactions c.args.x c.args.row) would refl
