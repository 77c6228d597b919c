use Rattle.std.proofs.Common.{◌≡◌, sym, ◌∙◌, arith, drop}
use Rattle.al_keys.specs.Order.{key_order}
use Rattle.al_keys.proofs.OrderLaws.{end-less, end-greater}
use Rattle.al_keys.proofs.order.key_order.Goals as goal

pub returns-then-a-b : goal.returns-then-a-b
returns-then-a-b c = sym (c.loop-at.invariant ∙ end-less c.args.a.now c.args.b.now c.loop-at.at (omega arith) (omega arith))

pub returns-then-b-a : goal.returns-then-b-a
returns-then-b-a c = sym (c.loop-at.invariant ∙ end-greater c.args.a.now c.args.b.now c.loop-at.at (omega arith) (omega arith))
