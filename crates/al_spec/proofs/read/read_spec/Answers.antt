use Rattle.std.proofs.Common.{ℕ, Err, sym, ap, ◌∙◌, subst}
use Rattle.al_spec.specs.declared.spec.SpecFault.{SpecFault}
use Rattle.al_spec.specs.declared.spec.SpecFault.TheVariants as faults
use Rattle.al_spec.specs.Files.{IsFault, not_utf8}
use Rattle.al_spec.proofs.Answer.{only_utf8}
use Rattle.al_spec.proofs.read.read_spec.Goals as goal

pub returns-in-Err-clause-fault : goal.returns-in-Err-clause-fault
returns-in-Err-clause-fault c = let v = c.in-Err.ensures.cases in subst (λ (k : ℕ). IsFault c.args.bytes.now (faults.Utf8 k)) (sym c.valid_up_to.ensures) (not_utf8 _ v.0 v.1)

pub returns-in-Err-clause-only_fault : goal.returns-in-Err-clause-only_fault
returns-in-Err-clause-only_fault c = λ f h. let v = c.in-Err.ensures.cases in ap (λ (x : SpecFault). Err x) (only_utf8 _ _ v.0 v.1 f h ∙ ap (λ (k : ℕ). faults.Utf8 k) (sym c.valid_up_to.ensures))
