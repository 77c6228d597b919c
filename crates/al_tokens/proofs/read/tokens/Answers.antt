use Rattle.std.proofs.Common.{List, ℕ, subst}
use Rattle.al_tokens.proofs.Fronts.{Answered, answered}
use Rattle.al_tokens.proofs.read.tokens.Goals as goal

all : (c : goal.After-whole) → Answered c.args.text.now c.whole.result
all c = subst (λ (t : List ℕ). Answered t c.whole.result) c.as_bytes-bytes.ensures (answered _ c.in_ok-read.field-0 c.whole.result (c.in_ok-read.ensures {u = tt}) c.whole.ensures)

pub returns-clause-only : goal.returns-clause-only
returns-clause-only c = (all c).only

pub returns-clause-fault : goal.returns-clause-fault
returns-clause-fault c = (all c).fault

pub returns-clause-only_fault : goal.returns-clause-only_fault
returns-clause-only_fault c = (all c).only_fault

pub returns-clause-spans : goal.returns-clause-spans
returns-clause-spans c = (all c).spans
