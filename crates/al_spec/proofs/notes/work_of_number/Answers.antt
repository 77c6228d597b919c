use Rattle.std.proofs.Common.{◌≡◌, ◌≤◌, ℕ, List, length, get_or, ◌∙◌, subst}
use Rattle.al_spec.proofs.Works.{no_work, some_work}
use Rattle.al_spec.proofs.notes.work_of_number.Goals as goal

pub returns-in-None : goal.returns-in-None
returns-in-None c = λ blocks h. no_work blocks c.args.number (subst (λ (xs : List ℕ). length xs ≤ c.args.number) (c.deref.ensures.value ∙ h.works) c.in-None.ensures.lookup.3)

pub returns-in-Some : goal.returns-in-Some
returns-in-Some c = λ blocks h. some_work blocks c.args.number c.in-Some.work.now (subst (λ (xs : List ℕ). c.in-Some.work.now ≡ get_or xs c.args.number 0) (c.deref.ensures.value ∙ h.works) (c.in-Some.ensures.lookup.3.1 0))
