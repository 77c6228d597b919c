use Rattle.std.proofs.Common.{◌∙◌, ap, sym, arith}
use Rattle.al_outside.proofs.Giving.{given_and_rest, none_follow}
use Rattle.al_outside.proofs.memory_source.MemorySourceSource.read.Goals as goal

pub returns-clause-bytes : goal.returns-clause-bytes
returns-clause-bytes c =
    let bytes = c.self.inside.bytes in
    let at = c.self.inside.at in
    let given = rw c.as_slice-2.ensures at c.give-count.ensures.given in
    let count = rw c.as_slice-2.ensures at c.give-count.ensures.count in (
      sym (ap (λ s. s.left) c.self.view_is) ∙ given_and_rest bytes _ _ at c.give-count.result (omega arith) given,
      λ none room. none_follow bytes at c.give-count.result (omega arith),
    )
