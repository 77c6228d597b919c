use Rattle.std.proofs.Common.{List, refl, sym, ap, ◌∙◌, arith}
use Rattle.std.proofs.lemmas.Result.{err_from_is_err_and}
use Rattle.al_grammar.specs.Rules.{many}
use Rattle.al_grammar.specs.Skim.{skim}
use Rattle.al_grammar.proofs.Skims.{skim_more, skim_fault, skim_none, skim_shorter}
use Rattle.al_spec.specs.declared.kinds.Token.{Token}
use Rattle.al_spec.specs.Grammar.{kind_of, session_shape, session}
use Rattle.al_spec.proofs.FileLaws.{lawful_session}
use Rattle.al_spec.proofs.Syntax.{from_on, from_on_size, left_of}
use Rattle.al_spec.proofs.parse.more_sessions.Goals as goal

pub overflow_sub-from : goal.overflow_sub-from
overflow_sub-from c =
    let fewer = skim_shorter _ _ session_shape kind_of session lawful_session refl (from_on c.args.tokens.now c.loop-from.from) _ c.in_ok-rest.ensures in
    omega (arith, fewer, from_on_size Token c.args.tokens.now c.loop-from.from, c.loop-from.invariant.within)

pub loop-from-preserved : goal.loop-from-preserved
loop-from-preserved c = record {
  within = omega arith;
  goes_on = c.loop-from.invariant.goes_on
      ∙ skim_more _ _ session_shape kind_of session lawful_session refl (from_on c.args.tokens.now c.loop-from.from) _ (sym c.starts.ensures ∙ c.loop-from-test.true) c.in_ok-rest.ensures
      ∙ ap (λ (l : List Token). skim ((many kind_of session).reads l)) (left_of _ _ session_shape kind_of session lawful_session c.args.tokens.now c.loop-from.from _ c.loop-from.invariant.within c.in_ok-rest.ensures);
}

pub loop-from-smaller : goal.loop-from-smaller
loop-from-smaller c =
    let fewer = skim_shorter _ _ session_shape kind_of session lawful_session refl (from_on c.args.tokens.now c.loop-from.from) _ c.in_ok-rest.ensures in
    omega (arith, fewer, from_on_size Token c.args.tokens.now c.loop-from.from, c.loop-from.invariant.within)

pub returns-in_err-rest : goal.returns-in_err-rest
returns-in_err-rest c =
    let p = err_from_is_err_and c.from_residual.result c.from_residual.ensures.1 in
    rw (p.1, p.2) (c.loop-from.invariant.goes_on ∙ skim_fault _ _ session_shape kind_of session lawful_session refl (from_on c.args.tokens.now c.loop-from.from) _ (sym c.starts.ensures ∙ c.loop-from-test.true) c.in_err-rest.ensures)

pub returns : goal.returns
returns c = c.loop-from.invariant.goes_on ∙ skim_none _ _ session_shape kind_of session lawful_session refl (from_on c.args.tokens.now c.loop-from.from) (sym c.starts.ensures ∙ c.loop-from-test.false)
