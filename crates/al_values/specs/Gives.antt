-- What a call answers that may also find no memory.
use Rattle.std.specs.Prelude.{◌≡◌, Result, Ok, Err}
use Rattle.al_values.specs.declared.cant.Cant.{Cant}
use Rattle.al_values.specs.declared.cant.Cant.TheVariants as cants

-- the answer is the wanted one; want of memory is the one free answer
abbrev pub GivesUnlessNoMemory : {T E : Type 0} → Result T (Cant E) → Result T E → Type 0
GivesUnlessNoMemory (Ok value) wanted = wanted ≡ Ok value
GivesUnlessNoMemory (Err (cants.Why cause)) wanted = wanted ≡ Err cause
GivesUnlessNoMemory (Err cants.NoMemory) wanted = Unit {0}
