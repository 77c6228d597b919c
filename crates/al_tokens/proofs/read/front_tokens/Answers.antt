use Rattle.std.proofs.Common.{◌≡◌, ℕ, List, subst}
use Rattle.std.specs.Prelude.{IfOk}
use Rattle.al_tokens.specs.declared.kinds.Front.{Front}
use Rattle.al_tokens.specs.Tokens.{IsFront}
use Rattle.al_tokens.proofs.Fronts.{only_front}
use Rattle.al_tokens.proofs.read.front_tokens.Goals as goal

pub returns-clause-only : goal.returns-clause-only
returns-clause-only c = subst (λ (t : List ℕ). (front : Front) → IsFront t front → IfOk c.read.result (λ it. it ≡ front)) c.as_bytes-bytes.ensures (only_front _ c.read.result c.read.ensures)
