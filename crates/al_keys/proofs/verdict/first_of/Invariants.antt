use Rattle.std.proofs.Common.{◌≡◌, drop}
use Rattle.al_keys.specs.Sought.{first_of}
use Rattle.al_keys.proofs.verdict.first_of.Given as goal

abbrev pub invariant-loop-version : goal.invariant-loop-version
invariant-loop-version l = first_of l.xacts.transactions l.x l.row l.versions ≡ first_of l.xacts.transactions l.x l.row (drop l.version-index l.versions)
