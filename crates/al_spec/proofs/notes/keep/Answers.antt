use Rattle.std.proofs.Common.{◌+◌, ℕ, List, ◌∷◌, [], ◌++◌, ap, ◌∙◌}
use Rattle.std.specs.HashMap.{get_by_text}
use Rattle.al_spec.specs.Notes.{semicolons, fixed}
use Rattle.al_spec.proofs.Kept.{indexed_more}
use Rattle.al_spec.proofs.notes.keep.Goals as goal

pub returns : goal.returns
returns c = λ blocks h len.
    indexed_more c.args.index.now c.keep_work.new.index blocks c.args.block.now c.args.number c.work_of_text.result h len
    (c.work_of_text.ensures ∙ ap (λ (t : List ℕ). 1 + semicolons t) c.as_bytes.ensures)
    (λ asked. ap (λ m. get_by_text m asked) c.keep_work.ensures.numbers ∙ c.in_ok-keep_step.ensures.numbers asked)
    (c.in_ok-keep_work.ensures.works ∙ ap (λ v. v.items ++ c.work_of_text.result ∷ []) c.keep_step.ensures.works)
    (c.in_ok-keep_work.ensures.base ∙ ap (λ (b : ℕ). b + fixed c.args.block.now.part c.work_of_text.result) c.keep_step.ensures.base)
