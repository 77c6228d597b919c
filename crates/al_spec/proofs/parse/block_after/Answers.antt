use Rattle.std.proofs.lemmas.Result.{err_from_is_err_and}
use Rattle.al_spec.proofs.Readers.{block_after_on, block_after_off}
use Rattle.al_spec.proofs.parse.block_after.Goals as goal

pub returns-in_err-rest : goal.returns-in_err-rest
returns-in_err-rest c =
    let p = err_from_is_err_and c.from_residual.result c.from_residual.ensures.1 in
    rw (p.1, p.2) (block_after_off c.args.word _ _ c.in_err-rest.ensures)

pub returns : goal.returns
returns c = rw (block_after_on c.args.word c.args.tokens.now c.in_ok-rest.rest.now c.in_ok-rest.ensures) c.take-2.ensures
