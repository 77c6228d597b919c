use Rattle.std.proofs.Common.{refl, subst, arith}
use Rattle.std.proofs.lemmas.Str.{IsCharBoundary-start}
use Rattle.al_spec.specs.declared.lex.Piece.{Piece}
use Rattle.al_spec.specs.Tokens.{here, IsPiece, GoesOn, IsGap, IsToken, GoesOnTo}
use Rattle.al_spec.proofs.Pieces.{and_gap, and_token, whole_tokens}
use Rattle.al_spec.proofs.lex.tokens.Goals as goal

pub loop-place-init : goal.loop-place-init
loop-place-init c = record {
  within = omega arith;
  boundary = IsCharBoundary-start _ c.utf8.text;
  reads = rw c.new-tokens.ensures (here 0 refl);
}

pub loop-place-preserved-in-Gap : goal.loop-place-preserved-in-Gap
loop-place-preserved-in-Gap c =
    let is : IsGap c.args.text.now c.loop-place.place c.in-Gap.next = subst (λ (p : Piece). IsPiece c.args.text.now c.loop-place.place p) c.in-Gap.is c.in_ok-next.ensures.is in
    let on : GoesOnTo c.args.text.now c.loop-place.place c.in-Gap.next = subst (λ (p : Piece). GoesOn c.args.text.now c.loop-place.place p) c.in-Gap.is c.in_ok-next.ensures.on in
    record { within = on.1; boundary = on.2; reads = and_gap _ _ _ _ _ c.loop-place.invariant.reads is }

pub loop-place-preserved : goal.loop-place-preserved
loop-place-preserved c =
    let is : IsToken c.args.text.now c.loop-place.place c.in-Token.next c.in-Token.lexeme = subst (λ (p : Piece). IsPiece c.args.text.now c.loop-place.place p) c.in-Token.is c.in_ok-next.ensures.is in
    let on : GoesOnTo c.args.text.now c.loop-place.place c.in-Token.next = subst (λ (p : Piece). GoesOn c.args.text.now c.loop-place.place p) c.in-Token.is c.in_ok-next.ensures.on in
    record { within = on.1; boundary = on.2; reads = rw c.in_ok-push-in-Token.ensures.ok (and_token _ _ _ _ _ _ c.loop-place.invariant.reads is) }

pub returns : goal.returns
returns c = whole_tokens _ _ _ c.loop-place.invariant.reads (omega arith)
