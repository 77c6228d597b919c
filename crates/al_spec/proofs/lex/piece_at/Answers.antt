use Rattle.std.proofs.Common.{ℕ, List, ◌≡◌, length, subst, arith}
use Rattle.std.proofs.lemmas.Str.{IsCharBoundary-after_ascii}
use Rattle.al_spec.specs.Bytes.{at, begun, First}
use Rattle.al_spec.specs.declared.bytes.Begins.TheVariants as begins
use Rattle.al_spec.specs.Tokens.{paren, stray}
use Rattle.al_spec.proofs.Starts.{from_blank, from_quote, from_block}
use Rattle.al_spec.proofs.Pieces.{on_after_small, on_after_comment}
use Rattle.al_spec.proofs.lex.piece_at.Goals as goal

pub quoted_piece-requires-clause-boundary : goal.quoted_piece-requires-clause-boundary
quoted_piece-requires-clause-boundary c =
    let e : begun (at c.args.text.now c.args.place) ≡ begins.Quote = cc in
    let is : at c.args.text.now c.args.place ≡ 34 = from_quote _ e in
    IsCharBoundary-after_ascii _ _ c.utf8.text c.requires.inside (omega (arith, is))

pub block_piece-requires-clause-boundary : goal.block_piece-requires-clause-boundary
block_piece-requires-clause-boundary c =
    let e : begun (at c.args.text.now c.args.place) ≡ begins.Block = cc in
    let is : at c.args.text.now c.args.place ≡ 123 = from_block _ e in
    IsCharBoundary-after_ascii _ _ c.utf8.text c.requires.inside (omega (arith, is))

pub returns-in-Blank-clause-on : goal.returns-in-Blank-clause-on
returns-in-Blank-clause-on c =
    let e : begun (at c.args.text.now c.args.place) ≡ begins.Blank = cc in
    on_after_small _ _ c.utf8.text c.requires.inside (from_blank _ e)

pub returns-in-Comment-clause-on : goal.returns-in-Comment-clause-on
returns-in-Comment-clause-on c =
    let e : begun (at c.args.text.now c.args.place) ≡ begins.Comment = cc in
    on_after_comment _ _ _ c.requires.inside e (subst (λ (t : List ℕ). First 10 t c.args.place (length t) c.seek.result) c.as_bytes-bytes.ensures.value c.seek.ensures)

pub returns-in-Paren-clause-is : goal.returns-in-Paren-clause-is
returns-in-Paren-clause-is c =
    let e : begun (at c.args.text.now c.args.place) ≡ begins.Paren = cc in
    paren e

pub returns-in-Nothing-clause-is : goal.returns-in-Nothing-clause-is
returns-in-Nothing-clause-is c =
    let e : begun (at c.args.text.now c.args.place) ≡ begins.Nothing = cc in
    stray c.requires.inside e
