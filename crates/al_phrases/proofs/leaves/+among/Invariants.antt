use Rattle.std.proofs.Common.{length}
use Rattle.al_phrases.proofs.leaves.+among.Given as goal

abbrev pub decreases-among : goal.decreases-among
decreases-among l = length l.kinds.now
