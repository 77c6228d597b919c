use Rattle.std.proofs.Common.{arith}
use Rattle.al_lexemes.proofs.answers.trial.Goals as goal

pub returns-in-None : goal.returns-in-None
returns-in-None c =
    let none = (c.in-None.ensures {u = tt}).cases in
    absurd (omega (arith, none.0, c.truncate.ensures.len, c.if-place-len.false, c.len-2.ensures))
