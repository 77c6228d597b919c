use Rattle.std.proofs.Common.{[], ◌≡◌, inl, inr, subst, length, sym, ap, ◌∙◌}
use Rattle.std.proofs.lemmas.Bool.{eqb-true}
use Rattle.al_spec.specs.Tokens.{open_name, bad_name, IsQuote}
use Rattle.al_spec.specs.declared.lex.Quote.{Quote}
use Rattle.al_spec.specs.declared.lex.Quote.TheVariants as quotes
use Rattle.al_spec.proofs.Pieces.{empty_name, no_bytes}
use Rattle.al_spec.proofs.lex.quoted_piece.Goals as goal

pub returns-then-is_empty-clause-is : goal.returns-then-is_empty-clause-is
returns-then-is_empty-clause-is c =
    let q : IsQuote c.args.text.now c.args.place (quotes.Closed c.in-Closed.name c.in-Closed.end) = subst (λ (q : Quote). IsQuote c.args.text.now c.args.place q) c.in-Closed.is c.in_ok-quoted.ensures in
    let size : length c.as_str.result.now ≡ 0 = eqb-true (length c.as_str.result.now) 0 (sym c.is_empty.ensures ∙ c.if-is_empty.true) in
    let none : c.in-Closed.name ≡ [] = no_bytes _ (sym (ap length c.as_str.ensures) ∙ size) in
    bad_name (record { begins = c.requires.begins; bad = inl (empty_name _ _ _ _ none q.0) })

pub returns-in-Open-clause-is : goal.returns-in-Open-clause-is
returns-in-Open-clause-is c =
    let q : IsQuote c.args.text.now c.args.place quotes.Open = subst (λ (q : Quote). IsQuote c.args.text.now c.args.place q) c.in-Open.is c.in_ok-quoted.ensures in
    open_name (record { begins = c.requires.begins; no_close = q.0; no_feed = q.1 })

pub returns-in-Broken-clause-is : goal.returns-in-Broken-clause-is
returns-in-Broken-clause-is c =
    let q : IsQuote c.args.text.now c.args.place quotes.Broken = subst (λ (q : Quote). IsQuote c.args.text.now c.args.place q) c.in-Broken.is c.in_ok-quoted.ensures in
    bad_name (record { begins = c.requires.begins; bad = inr (q.0, q.1) })
