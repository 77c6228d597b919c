use Rattle.al_tokens.proofs.Unique.{empty_name}
use Rattle.al_tokens.proofs.read.quoted_name.Goals as goal

pub returns-then-end-place-clause-stops : goal.returns-then-end-place-clause-stops
returns-then-end-place-clause-stops c = empty_name _ _ _ c.requires.inside c.requires.quote c.in-Some.ensures.some c.if-end-place.true
