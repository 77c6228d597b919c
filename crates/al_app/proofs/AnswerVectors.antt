-- Worked fault lines, by computation.
use Rattle.std.proofs.Common.{◌≡◌, refl, codes}
use Rattle.std.specs.Fmt.{digits}
use Rattle.al_spec.specs.declared.spec.SpecFault.TheVariants as faults
use Rattle.al_spec.specs.declared.spec.SpecLimit.TheVariants as limits
use Rattle.al_app.specs.Answers.{fault_line}

utf8_line : fault_line (faults.Utf8 7) ≡ codes "spec fault at byte 7: utf8\n"
unfolding digits
utf8_line = refl

two_steps_line : fault_line (faults.TwoSteps 12) ≡ codes "spec fault at byte 12: two steps\n"
unfolding digits
two_steps_line = refl

no_step_line : fault_line (faults.NoStep 0) ≡ codes "spec fault at byte 0: no step\n"
unfolding digits
no_step_line = refl

marker_line : fault_line (faults.Marker 3) ≡ codes "spec fault at byte 3: marker\n"
unfolding digits
marker_line = refl

work_line : fault_line (faults.Limit 40 limits.Work) ≡ codes "spec fault at byte 40: limit of work\n"
unfolding digits
work_line = refl
