use Rattle.al_spec.proofs.Runs.{none_after, found_after}
use Rattle.al_spec.proofs.bytes.seek.Goals as goal

pub returns-in-None : goal.returns-in-None
returns-in-None c = none_after c.args.byte c.args.text.now c.args.from c.args.to c.requires.rises c.requires.within c.in-None.ensures

pub returns-in-Some : goal.returns-in-Some
returns-in-Some c = found_after c.args.byte c.args.text.now c.args.from c.args.to c.requires.rises c.requires.within _ c.in-Some.ensures.0.high c.in-Some.ensures.0.before c.in-Some.ensures.1
