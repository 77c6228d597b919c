use Rattle.std.proofs.Common.{ℕ, List, ◌<◌, length, subst, arith}
use Rattle.al_spec.specs.Bytes.{First}
use Rattle.al_spec.specs.Tokens.{open_block}
use Rattle.al_spec.proofs.Pieces.{block_rises, on_after_block}
use Rattle.al_spec.proofs.lex.block_piece.Goals as goal

pub returns-then-close-text-clause-is : goal.returns-then-close-text-clause-is
returns-then-close-text-clause-is c =
    let f : First 125 c.args.text.now c.args.place (length c.args.text.now) c.seek-close.result = subst (λ (t : List ℕ). First 125 t c.args.place (length c.args.text.now) c.seek-close.result) c.as_bytes.ensures.value c.seek-close.ensures in
    open_block (record { begins = c.requires.begins; no_close = subst (λ (n : ℕ). First 125 c.args.text.now c.args.place (length c.args.text.now) n) c.if-close-text.true f })

pub trimmed-requires-clause-rises : goal.trimmed-requires-clause-rises
trimmed-requires-clause-rises c =
    let f : First 125 c.args.text.now c.args.place (length c.args.text.now) c.seek-close.result = subst (λ (t : List ℕ). First 125 t c.args.place (length c.args.text.now) c.seek-close.result) c.as_bytes.ensures.value c.seek-close.ensures in
    let inside : c.seek-close.result < length c.args.text.now = omega (arith, f.within, c.if-close-text.false) in
    let up = block_rises c.args.text.now c.args.place c.seek-close.result c.requires.begins f inside in
    omega (arith, up)

pub returns-clause-on : goal.returns-clause-on
returns-clause-on c =
    let f : First 125 c.args.text.now c.args.place (length c.args.text.now) c.seek-close.result = subst (λ (t : List ℕ). First 125 t c.args.place (length c.args.text.now) c.seek-close.result) c.as_bytes.ensures.value c.seek-close.ensures in
    let inside : c.seek-close.result < length c.args.text.now = omega (arith, f.within, c.if-close-text.false) in
    on_after_block c.args.text.now c.args.place c.seek-close.result c.utf8.text c.requires.begins f inside
