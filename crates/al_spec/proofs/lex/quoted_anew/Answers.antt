use Rattle.std.proofs.Common.{◌≡◌, ◌<◌, ◌≤◌, ◌+◌, ℕ, List, [], ◌∷◌, ◌++◌, length, refl, sym, ap, ◌∙◌, subst, append_assoc, arith, slice_range}
use Rattle.std.specs.Prelude.{string_bytes, IsCharBoundary}
use Rattle.std.proofs.lemmas.List.{append-nil}
use Rattle.std.proofs.lemmas.Str.{IsCharBoundary-after_ascii}
use Rattle.al_spec.specs.Bytes.{at, First, Quoted, closes, doubled}
use Rattle.al_spec.proofs.Quotes.{on_piece, off_piece, over_doubled, never, not_over, inside_if, no_feed_to, no_feed_over}
use Rattle.al_spec.proofs.lex.quoted_anew.Goals as goal

pub returns-then-feed-found : goal.returns-then-feed-found
returns-then-feed-found c =
    let s : First 34 c.args.text.now c.loop-place.place (length c.args.text.now) c.seek-found.result = subst (λ (t : List ℕ). First 34 t c.loop-place.place (length t) c.seek-found.result) c.as_bytes-bytes.ensures.value c.seek-found.ensures in
    let feed : First 10 c.args.text.now c.loop-place.place c.seek-found.result c.seek-feed.result = subst (λ (t : List ℕ). First 10 t c.loop-place.place c.seek-found.result c.seek-feed.result) c.as_bytes-bytes.ensures.value c.seek-feed.ensures in
    let is : at c.args.text.now c.seek-feed.result ≡ 10 = feed.is c.if-feed-found.true in (
      λ h. let b = c.loop-place.invariant.back h.0 h.1.0 h.1.1 in not_over c.args.text.now h.0 c.loop-place.place c.seek-feed.result b.0 feed.rises is (λ k x y. s.before k x (omega arith)) b.1,
      (c.seek-feed.result, omega (arith, feed.rises, c.loop-place.invariant.rises), omega (arith, c.if-feed-found.true, s.within), is),
    )

pub returns-then-found-bytes : goal.returns-then-found-bytes
returns-then-found-bytes c =
    let s : First 34 c.args.text.now c.loop-place.place (length c.args.text.now) c.seek-found.result = subst (λ (t : List ℕ). First 34 t c.loop-place.place (length t) c.seek-found.result) c.as_bytes-bytes.ensures.value c.seek-found.ensures in
    let feed : First 10 c.args.text.now c.loop-place.place c.seek-found.result c.seek-feed.result = subst (λ (t : List ℕ). First 10 t c.loop-place.place c.seek-found.result c.seek-feed.result) c.as_bytes-bytes.ensures.value c.seek-feed.ensures in
    let end : c.seek-found.result ≡ length c.args.text.now = cc in (
      λ h. let b = c.loop-place.invariant.back h.0 h.1.0 h.1.1 in never c.args.text.now h.0 c.loop-place.place b.0 c.loop-place.invariant.within (λ k x y. s.before k x (omega arith)) b.1,
      no_feed_to c.args.text.now c.args.start c.loop-place.place (length c.args.text.now) c.loop-place.invariant.no_feed (λ k x y. feed.before k x (omega (arith, c.if-feed-found.false))),
    )

pub returns-then-at-ne34 : goal.returns-then-at-ne34
returns-then-at-ne34 c =
    let s : First 34 c.args.text.now c.loop-place.place (length c.args.text.now) c.seek-found.result = subst (λ (t : List ℕ). First 34 t c.loop-place.place (length t) c.seek-found.result) c.as_bytes-bytes.ensures.value c.seek-found.ensures in
    let feed : First 10 c.args.text.now c.loop-place.place c.seek-found.result c.seek-feed.result = subst (λ (t : List ℕ). First 10 t c.loop-place.place c.seek-found.result c.seek-feed.result) c.as_bytes-bytes.ensures.value c.seek-feed.ensures in
    let next_is : c.at.result ≡ at c.args.text.now (c.seek-found.result + 1) = c.at.ensures ∙ ap (λ (t : List ℕ). at t (c.seek-found.result + 1)) c.as_bytes-bytes.ensures.value in
    let inside : c.seek-found.result < length c.args.text.now = omega (arith, s.within, c.if-found-bytes.false) in
    let here : at c.args.text.now c.seek-found.result ≡ 34 = s.is inside in
    let value : c.own.result ≡ string_bytes c.loop-place.name ++ slice_range c.args.text.now c.loop-place.place c.seek-found.result =
    c.own.ensures ∙ c.from_string.ensures ∙ c.in_ok-push_str.ensures.bytes ∙ ap (λ (x : List ℕ). string_bytes c.loop-place.name ++ x) c.range.ensures.value in
    let alone : string_bytes c.loop-place.name ++ (slice_range c.args.text.now c.loop-place.place c.seek-found.result ++ []) ≡ c.own.result =
    ap (λ (x : List ℕ). string_bytes c.loop-place.name ++ x) (append-nil (slice_range c.args.text.now c.loop-place.place c.seek-found.result)) ∙ sym value in
    let closed : Quoted c.args.text.now (c.seek-found.result + 1) c.seek-found.result [] = closes c.seek-found.result here (λ e. c.if-at-ne34.true (next_is ∙ e)) refl in
    let piece = on_piece c.args.text.now (c.seek-found.result + 1) c.loop-place.place c.seek-found.result [] s.rises s.within s.before (λ k x y. feed.before k x (omega (arith, c.if-feed-found.false))) closed in (
      subst (λ (n : List ℕ). Quoted c.args.text.now (c.seek-found.result + 1) (c.args.start + 1) n) alone (c.loop-place.invariant.to _ _ piece),
      omega arith,
      omega (arith, s.rises, c.loop-place.invariant.rises),
      IsCharBoundary-after_ascii _ _ c.utf8.text inside (omega (arith, here)),
    )

pub loop-place-preserved : goal.loop-place-preserved
loop-place-preserved c =
    let s : First 34 c.args.text.now c.loop-place.place (length c.args.text.now) c.seek-found.result = subst (λ (t : List ℕ). First 34 t c.loop-place.place (length t) c.seek-found.result) c.as_bytes-bytes.ensures.value c.seek-found.ensures in
    let feed : First 10 c.args.text.now c.loop-place.place c.seek-found.result c.seek-feed.result = subst (λ (t : List ℕ). First 10 t c.loop-place.place c.seek-found.result c.seek-feed.result) c.as_bytes-bytes.ensures.value c.seek-feed.ensures in
    let next_is : c.at.result ≡ at c.args.text.now (c.seek-found.result + 1) = c.at.ensures ∙ ap (λ (t : List ℕ). at t (c.seek-found.result + 1)) c.as_bytes-bytes.ensures.value in
    let inside : c.seek-found.result < length c.args.text.now = omega (arith, s.within, c.if-found-bytes.false) in
    let here : at c.args.text.now c.seek-found.result ≡ 34 = s.is inside in
    let next : at c.args.text.now (c.seek-found.result + 1) ≡ 34 = sym next_is ∙ c.if-at-ne34.false in
    let second : c.seek-found.result + 1 < length c.args.text.now = inside_if c.args.text.now (c.seek-found.result + 1) 34 (omega arith) next in
    let two : c.seek-found.result + 1 + 1 ≡ c.seek-found.result + 2 = omega arith in
    let value : string_bytes c.push_str-in-loop-place.new.self ≡ (string_bytes c.loop-place.name ++ slice_range c.args.text.now c.loop-place.place c.seek-found.result) ++ 34 ∷ [] =
    c.in_ok-push_str-2.ensures.bytes ∙ ap (λ (x : List ℕ). x ++ 34 ∷ []) (c.in_ok-push_str.ensures.bytes ∙ ap (λ (x : List ℕ). string_bytes c.loop-place.name ++ x) c.range.ensures.value) in
    let feeds = λ (k : ℕ) (x : c.loop-place.place ≤ k) (y : k < c.seek-found.result). feed.before k x (omega (arith, c.if-feed-found.false)) in
    record {
      rises = omega (arith, s.rises, c.loop-place.invariant.rises);
      within = omega arith;
      boundary = subst (λ (n : ℕ). IsCharBoundary c.args.text.now n) two (IsCharBoundary-after_ascii _ _ c.utf8.text second (omega (arith, next)));
      to = λ end n q.
          subst (λ (x : List ℕ). Quoted c.args.text.now end (c.args.start + 1) x) (regroup (string_bytes c.loop-place.name) (slice_range c.args.text.now c.loop-place.place c.seek-found.result) n ∙ ap (λ (x : List ℕ). x ++ n) (sym value))
          (c.loop-place.invariant.to end _ (on_piece c.args.text.now end c.loop-place.place c.seek-found.result (34 ∷ n) s.rises s.within s.before feeds (doubled _ n here next q)));
      back = λ end n q.
          let b = c.loop-place.invariant.back end n q in
          let o = off_piece c.args.text.now end c.loop-place.place c.seek-found.result b.0 s.rises s.before b.1 in
          over_doubled c.args.text.now end c.seek-found.result o.0 here next o.1;
      no_feed = no_feed_over c.args.text.now c.args.start c.seek-found.result (no_feed_to c.args.text.now c.args.start c.loop-place.place c.seek-found.result c.loop-place.invariant.no_feed feeds) here next;
    }
  where
    regroup : (a b n : List ℕ) → a ++ (b ++ 34 ∷ n) ≡ ((a ++ b) ++ 34 ∷ []) ++ n
    regroup a b n = sym (append_assoc a b (34 ∷ n)) ∙ sym (append_assoc (a ++ b) (34 ∷ []) n)

pub returns : goal.returns
returns c = (
  λ h. let b = c.loop-place.invariant.back h.0 h.1.0 h.1.1 in never c.args.text.now h.0 c.loop-place.place b.0 c.loop-place.invariant.within (λ k x y. absurd (omega arith)) b.1,
  λ k a b e. c.loop-place.invariant.no_feed k a (omega arith) e,
)
