use Rattle.std.proofs.Common.{sym, ◌∙◌}
use Rattle.al_lexemes.proofs.Walks.{spans_at}
use Rattle.al_lexemes.proofs.answers.fault_at.Goals as goal

pub is_outside-requires-clause-is : goal.is_outside-requires-clause-is
is_outside-requires-clause-is c = (spans_at c.args.text.now 0 c.args.tokens.now _ c.in-Some.token c.requires.spans (sym c.token_at.ensures ∙ c.in-Some.is)).is

pub is_outside-requires-clause-rises : goal.is_outside-requires-clause-rises
is_outside-requires-clause-rises c = (spans_at c.args.text.now 0 c.args.tokens.now _ c.in-Some.token c.requires.spans (sym c.token_at.ensures ∙ c.in-Some.is)).rises

pub is_outside-requires-clause-within : goal.is_outside-requires-clause-within
is_outside-requires-clause-within c = (spans_at c.args.text.now 0 c.args.tokens.now _ c.in-Some.token c.requires.spans (sym c.token_at.ensures ∙ c.in-Some.is)).within
