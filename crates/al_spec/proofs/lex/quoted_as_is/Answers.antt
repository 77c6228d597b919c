use Rattle.std.proofs.Common.{◌≡◌, ◌<◌, ◌+◌, ℕ, List, [], ◌++◌, length, refl, sym, ap, ◌∙◌, subst, arith, slice_range}
use Rattle.std.proofs.lemmas.List.{append-nil}
use Rattle.std.proofs.lemmas.Str.{IsCharBoundary-after_ascii}
use Rattle.al_spec.specs.Bytes.{at, First, Quoted, closes}
use Rattle.al_spec.proofs.Quotes.{on_piece, never, not_over}
use Rattle.al_spec.proofs.lex.quoted_as_is.Goals as goal

pub returns-then-feed-found : goal.returns-then-feed-found
returns-then-feed-found c =
    let from = c.args.start + 1 in
    let s : First 34 c.args.text.now from (length c.args.text.now) c.seek-found.result = subst (λ (t : List ℕ). First 34 t from (length t) c.seek-found.result) c.as_bytes-bytes.ensures.value c.seek-found.ensures in
    let feed : First 10 c.args.text.now from c.seek-found.result c.seek-feed.result = subst (λ (t : List ℕ). First 10 t from c.seek-found.result c.seek-feed.result) c.as_bytes-bytes.ensures.value c.seek-feed.ensures in
    let is : at c.args.text.now c.seek-feed.result ≡ 10 = feed.is c.if-feed-found.true in (
      λ h. not_over c.args.text.now h.0 from c.seek-feed.result h.1.0 feed.rises is (λ k x y. s.before k x (omega arith)) h.1.1,
      (c.seek-feed.result, omega (arith, feed.rises), omega (arith, c.if-feed-found.true, s.within), is),
    )

pub returns-then-found-bytes : goal.returns-then-found-bytes
returns-then-found-bytes c =
    let from = c.args.start + 1 in
    let s : First 34 c.args.text.now from (length c.args.text.now) c.seek-found.result = subst (λ (t : List ℕ). First 34 t from (length t) c.seek-found.result) c.as_bytes-bytes.ensures.value c.seek-found.ensures in
    let feed : First 10 c.args.text.now from c.seek-found.result c.seek-feed.result = subst (λ (t : List ℕ). First 10 t from c.seek-found.result c.seek-feed.result) c.as_bytes-bytes.ensures.value c.seek-feed.ensures in
    let end : c.seek-found.result ≡ length c.args.text.now = cc in (
      λ h. never c.args.text.now h.0 from h.1.0 (omega (arith, s.rises, s.within)) (λ k x y. s.before k x (omega arith)) h.1.1,
      λ k x y. feed.before k (omega arith) (omega (arith, c.if-feed-found.false)),
    )

pub returns : goal.returns
returns c =
    let from = c.args.start + 1 in
    let s : First 34 c.args.text.now from (length c.args.text.now) c.seek-found.result = subst (λ (t : List ℕ). First 34 t from (length t) c.seek-found.result) c.as_bytes-bytes.ensures.value c.seek-found.ensures in
    let feed : First 10 c.args.text.now from c.seek-found.result c.seek-feed.result = subst (λ (t : List ℕ). First 10 t from c.seek-found.result c.seek-feed.result) c.as_bytes-bytes.ensures.value c.seek-feed.ensures in
    let next_is : c.at.result ≡ at c.args.text.now (c.seek-found.result + 1) = c.at.ensures ∙ ap (λ (t : List ℕ). at t (c.seek-found.result + 1)) c.as_bytes-bytes.ensures.value in
    let inside : c.seek-found.result < length c.args.text.now = omega (arith, s.within, c.if-found-bytes.false) in
    let here : at c.args.text.now c.seek-found.result ≡ 34 = s.is inside in
    let value : slice_range c.args.text.now from c.seek-found.result ++ [] ≡ c.lent.result = append-nil (slice_range c.args.text.now from c.seek-found.result) ∙ sym (c.lent.ensures ∙ c.range.ensures.value) in
    let closed : Quoted c.args.text.now (c.seek-found.result + 1) c.seek-found.result [] = closes c.seek-found.result here (λ e. c.if-at-eq34.false (next_is ∙ e)) refl in
    let piece = on_piece c.args.text.now (c.seek-found.result + 1) from c.seek-found.result [] s.rises s.within s.before (λ k x y. feed.before k x (omega (arith, c.if-feed-found.false))) closed in (
      subst (λ (n : List ℕ). Quoted c.args.text.now (c.seek-found.result + 1) from n) value piece,
      omega arith,
      omega (arith, s.rises),
      IsCharBoundary-after_ascii _ _ c.utf8.text inside (omega (arith, here)),
    )
