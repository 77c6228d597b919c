use Rattle.al_tokens.proofs.Runs.{none_after, found_after}
use Rattle.al_tokens.proofs.bytes.seek.Goals as goal

pub returns-in-None : goal.returns-in-None
returns-in-None c = none_after c.args.byte c.args.text.now c.args.from c.requires c.in-None.ensures

pub returns-in-Some : goal.returns-in-Some
returns-in-Some c = found_after c.args.byte c.args.text.now c.args.from c.requires _ c.in-Some.ensures.0.high c.in-Some.ensures.0.before c.in-Some.ensures.1
