use Rattle.std.proofs.Common.{arith, ap, ◌∙◌, ◌≡◌, List, ℕ, length, get_or, ◌<◌, sym}
use Rattle.std.proofs.lemmas.Str.{IsCharBoundary-after_ascii}
use Rattle.al_lexemes.proofs.texts.past_second.Goals as goal

pub range_from-requires : goal.range_from-requires
range_from-requires c = λ some.
    let first : get_or c.args.text.now 0 0 ≡ c.args.quote = sym (ap (λ (t : List ℕ). get_or t 0 0) c.as_bytes.ensures.value) ∙ c.if-first-quote.true in
    let long : 0 < length c.args.text.now = omega (arith, c.in-len1-up.len_at_least, ap length c.as_bytes.ensures.value) in
    IsCharBoundary-after_ascii c.args.text.now 0 c.utf8.text long (omega (arith, first, c.requires.small))
