use Rattle.std.proofs.Common.{◌≡◌, ◌+◌, ◌<◌, length, sym, ◌∙◌, refl, arith}
use Rattle.al_tokens.specs.Bytes.{closes, doubled, at}
use Rattle.al_tokens.proofs.Runs.{past_end, over_doubled, to_first, from_first, byte_within}
use Rattle.al_tokens.proofs.bytes.closed.Goals as goal

pub returns-then-found-text-clause-none : goal.returns-then-found-text-clause-none
returns-then-found-text-clause-none c = λ end h. past_end _ _ end _ c.requires.byte (omega arith) (to_first _ _ end _ _ c.seek-found.ensures (c.loop-place.invariant.back end h))

pub returns-then-at-quote-clause-some : goal.returns-then-at-quote-clause-some
returns-then-at-quote-clause-some c =
    let s = c.seek-found.ensures in
    c.loop-place.invariant.to _ (from_first _ _ _ _ _ s (closes _ (s.is (omega (arith, s.within))) (λ e. c.if-at-quote.true (c.at.ensures ∙ e)) refl))

pub loop-place-preserved : goal.loop-place-preserved
loop-place-preserved c =
    let s = c.seek-found.ensures in
    let here : at c.args.text.now c.seek-found.result ≡ c.args.quote = s.is (omega (arith, s.within)) in
    let next : at c.args.text.now (c.seek-found.result + 1) ≡ c.args.quote = sym c.at.ensures ∙ c.if-at-quote.false in
    let inside : c.seek-found.result + 1 < length c.args.text.now = byte_within _ _ _ c.requires.byte next in
    record {
      rises = omega (arith, s.rises);
      within = omega (arith, inside);
      to = λ end h. c.loop-place.invariant.to end (from_first _ _ end _ _ s (doubled _ here next h));
      back = λ end h. over_doubled _ _ end _ here next (to_first _ _ end _ _ s (c.loop-place.invariant.back end h));
    }

pub returns-clause-none : goal.returns-clause-none
returns-clause-none c = λ end h. past_end _ _ end _ c.requires.byte (omega arith) (c.loop-place.invariant.back end h)
