-- What stands between the bytes and the answer.
use Rattle.std.specs.Prelude.{ℕ, List, Option, IfSome}
use Rattle.std.specs.Io.KnownBytes.{IsAtEnd}
use Rattle.al_values.specs.declared.cant.Cant.{Cant}
use Rattle.al_values.specs.declared.cant.Cant.TheVariants as cants
use Rattle.al_spec.specs.declared.spec.SpecFault.{SpecFault}
use Rattle.al_outside.specs.Reading.{IsReadPast}
use Rattle.al_app.specs.declared.top.Stop.{Stop}
use Rattle.al_app.specs.declared.top.Stop.TheVariants as stops
use Rattle.al_app.specs.Answers.{most_bytes, IsFaulty}

-- why bytes can't be run; want of memory has no cause
abbrev pub IsFaultOf : List ℕ → Cant SpecFault → Type 0
IsFaultOf bytes (cants.Why fault) = IsFaulty bytes fault
IsFaultOf bytes cants.NoMemory = Unit {0}

-- why a source's bytes were not run
abbrev pub StopsFor : Option (List ℕ) → Option (List ℕ) → Type 0 → Stop → Type 0
StopsFor told left failed (stops.Spec fault) = IfSome told (λ bytes. IsFaulty bytes fault) × IsAtEnd left
StopsFor told left failed stops.TooLong = IsReadPast most_bytes told left
StopsFor told left failed stops.Fault = failed
StopsFor told left failed stops.NoMemory = Unit {0}
