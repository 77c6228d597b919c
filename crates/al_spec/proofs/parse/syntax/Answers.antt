use Rattle.std.proofs.Common.{length, sym, ap, ◌∙◌}
use Rattle.std.proofs.lemmas.Bool.{eqb-true, eq-eqb}
use Rattle.al_grammar.proofs.FirstTokens.{clash}
use Rattle.al_spec.specs.declared.kinds.Token.{Token}
use Rattle.al_spec.specs.Grammar.{file, File}
use Rattle.al_spec.proofs.Syntax.{whole_if, none_left, left_if, fault_if, left_bound}
use Rattle.al_spec.proofs.parse.syntax.Goals as goal

pub returns-then-is_empty-clause-whole : goal.returns-then-is_empty-clause-whole
returns-then-is_empty-clause-whole c = whole_if _ _ (file.reads c.args.tokens.now) c.in-Ok.rest.now c.in-Ok.ensures (none_left Token File c.in-Ok.rest.now (eqb-true (length c.in-Ok.rest.now) 0 (sym c.is_empty.ensures ∙ c.if-is_empty.true)))

pub returns-in-Err-clause-bound : goal.returns-in-Err-clause-bound
returns-in-Err-clause-bound c = left_bound c.args.tokens.now _ (fault_if _ _ (file.reads c.args.tokens.now) _ c.in-Err.ensures)

pub returns-else-is_empty-clause-bound : goal.returns-else-is_empty-clause-bound
returns-else-is_empty-clause-bound c = left_bound c.args.tokens.now _ (left_if _ _ (file.reads c.args.tokens.now) c.in-Ok.rest.now c.in-Ok.ensures (λ e. clash (eq-eqb (length c.in-Ok.rest.now) 0 (ap length e)) (sym c.is_empty.ensures ∙ c.if-is_empty.false)))
