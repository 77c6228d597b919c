use Rattle.al_tokens.proofs.Starts.{digits_rise}
use Rattle.al_tokens.proofs.read.number.Goals as goal

pub returns-then-not-is_of-clause-rises : goal.returns-then-not-is_of-clause-rises
returns-then-not-is_of-clause-rises c = digits_rise _ _ _ c.requires.inside c.requires.digit c.run_end-digits.ensures
