use Rattle.std.proofs.Common.{◌≡◌, take}
use Rattle.al_keys.specs.Sought.{least_row, is_in_way}
use Rattle.al_keys.proofs.verdict.least_in_way.Given as goal

abbrev pub invariant-loop-version : goal.invariant-loop-version
invariant-loop-version l = l.least ≡ least_row (is_in_way l.xacts.transactions l.x) (take l.version-index l.versions)
