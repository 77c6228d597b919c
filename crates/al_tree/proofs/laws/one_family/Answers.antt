use Rattle.al_tree.proofs.Families.{one_family}
use Rattle.al_tree.proofs.laws.one_family.Goals as goal

pub returns : goal.returns
returns c = one_family
