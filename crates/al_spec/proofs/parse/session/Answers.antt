use Rattle.std.proofs.lemmas.Result.{err_from_is_err_and}
use Rattle.al_spec.proofs.Readers.{session_on, session_off_word, session_off_name}
use Rattle.al_spec.proofs.parse.session.Goals as goal

pub returns-in_err-named : goal.returns-in_err-named
returns-in_err-named c =
    let p = err_from_is_err_and c.from_residual.result c.from_residual.ensures.1 in
    rw (p.1, p.2) (session_off_word _ _ c.in_err-named.ensures)

pub returns-in_err-rest : goal.returns-in_err-rest
returns-in_err-rest c =
    let p = err_from_is_err_and c.from_residual-in_err-rest.result c.from_residual-in_err-rest.ensures.1 in
    rw (p.1, p.2) (session_off_name _ _ _ c.in_ok-named.ensures c.in_err-rest.ensures)

pub returns : goal.returns
returns c = rw (session_on c.args.tokens.now c.in_ok-named.named.now c.in_ok-rest.rest.now c.in_ok-named.ensures c.in_ok-rest.ensures) c.session_parts.ensures
