use Rattle.std.proofs.Common.{refl, arith}
use Rattle.al_tokens.specs.Tokens.{here}
use Rattle.al_tokens.proofs.Unique.{read_token, read_gap}
use Rattle.al_tokens.proofs.read.read.Goals as goal

pub loop-place-init : goal.loop-place-init
loop-place-init c = record { within = omega arith; reads = rw c.new-tokens.ensures (here 0 refl) }

pub loop-place-preserved-in_ok-push-in-Ok : goal.loop-place-preserved-in_ok-push-in-Ok
loop-place-preserved-in_ok-push-in-Ok c = record { within = c.in-Ok.ensures.rises.1; reads = read_token _ _ _ _ _ _ _ c.in-Some.is c.in-Ok.ensures.found c.in-Ok.ensures.rises.0 c.loop-place.invariant.reads c.in_ok-push-in-Ok.ensures.ok }

pub loop-place-preserved : goal.loop-place-preserved
loop-place-preserved c = record { within = c.in-Ok.ensures.rises.1; reads = read_gap _ _ _ _ _ c.in_default.not-Some c.in-Ok.ensures.found c.loop-place.invariant.reads }
