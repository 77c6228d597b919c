use Rattle.std.proofs.Common.{◌≡◌, ◌+◌, ◌++◌, ◌-◌, ℕ, List, take, drop, true, sym, ap, ◌∙◌, append_assoc, arith}
use Rattle.std.specs.Prelude.{string_bytes}
use Rattle.std.proofs.lemmas.Str.{IsCharBoundary-after_ascii}
use Rattle.al_lexemes.specs.Classes.{undoubled, undoubled_from}
use Rattle.al_lexemes.proofs.Quotes.{quote_found, quote_missing, first_stays}
use Rattle.al_lexemes.proofs.texts.undoubled.Goals as goal

pub range-requires-clause-end_boundary : goal.range-requires-clause-end_boundary
range-requires-clause-end_boundary c =
    let f = quote_found c.args.quote c.loop-found.rest.now _ c.memchr.result c.in-Some.found c.as_bytes.ensures.value c.memchr.ensures c.in-Some.is in
    IsCharBoundary-after_ascii c.loop-found.rest.now c.in-Some.found c.loop-found.invariant.text f.inside (omega (arith, f.is, c.requires.small))

pub range_from-requires : goal.range_from-requires
range_from-requires c = λ some.
    let f = quote_found c.args.quote c.loop-found.rest.now _ c.memchr.result c.in-Some.found c.as_bytes.ensures.value c.memchr.ensures c.in-Some.is in
    IsCharBoundary-after_ascii c.loop-found.rest.now c.in-Some.found c.loop-found.invariant.text f.inside (omega (arith, f.is, c.requires.small))

pub loop-found-preserved : goal.loop-found-preserved
loop-found-preserved c =
    let rest = c.loop-found.rest.now in
    let made = string_bytes c.loop-found.made in
    let next = c.in-Some.found + 1 in
    let f = quote_found c.args.quote rest _ c.memchr.result c.in-Some.found c.as_bytes.ensures.value c.memchr.ensures c.in-Some.is in
    let stays : undoubled c.args.quote rest ≡ take next rest ++ undoubled_from c.args.quote true (drop next rest) = first_stays c.args.quote rest c.in-Some.found f.inside f.is f.before in
    let behind : undoubled_from c.args.quote true (drop next rest) ≡ undoubled c.args.quote c.past_second-rest.result.now =
    ap (λ (t : List ℕ). undoubled_from c.args.quote true t) (sym c.range_from.ensures.value) ∙ c.past_second-rest.ensures.same in
    let whole : next - 0 ≡ next = omega arith in
    let pushed : string_bytes c.push_str.new.self ≡ made ++ take next rest = c.in_ok-push_str.ensures.bytes ∙ ap (λ (t : List ℕ). made ++ t) c.range.ensures.value ∙ ap (λ (n : ℕ). made ++ take n rest) whole in
    record {
      same =
          ap (λ (t : List ℕ). t ++ undoubled c.args.quote c.past_second-rest.result.now) pushed
          ∙ append_assoc made (take next rest) (undoubled c.args.quote c.past_second-rest.result.now)
          ∙ ap (λ (t : List ℕ). made ++ (take next rest ++ t)) (sym behind)
          ∙ ap (λ (t : List ℕ). made ++ t) (sym stays)
          ∙ c.loop-found.invariant.same;
      text = c.past_second-rest.utf8;
    }

pub returns : goal.returns
returns c =
    let rest = c.loop-found.rest.now in
    let made = string_bytes c.loop-found.made in
    let stays : undoubled c.args.quote rest ≡ rest = quote_missing c.args.quote rest _ c.memchr.result c.as_bytes.ensures.value c.memchr.ensures c.in_default.not-Some in
    c.from_string.ensures ∙ c.in_ok-push_str-2.ensures.bytes ∙ ap (λ (t : List ℕ). made ++ t) (sym stays) ∙ c.loop-found.invariant.same
