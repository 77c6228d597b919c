use Rattle.std.proofs.Common.{◌≡◌, take}
use Rattle.al_keys.specs.Sought.{least_row, is_visible}
use Rattle.al_keys.proofs.verdict.least_visible.Given as goal

abbrev pub invariant-loop-version : goal.invariant-loop-version
invariant-loop-version l = l.least ≡ least_row (is_visible l.snapshot l.xacts.transactions) (take l.version-index l.versions)
