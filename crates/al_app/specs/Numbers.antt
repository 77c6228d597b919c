-- The exit status of each way in which a call ends.
use Rattle.std.specs.Prelude.{ℕ}
use Rattle.al_app.specs.declared.status.Status.{Status}
use Rattle.al_app.specs.declared.status.Status.TheVariants as statuses

abbrev pub number_of : Status → ℕ
number_of statuses.Done = 0
number_of (statuses.SpecFault fault) = 1
number_of (statuses.Usage word) = 2
number_of statuses.ReadFault = 3
number_of statuses.WriteFault = 4
number_of statuses.NoMemory = 5
number_of statuses.TooLong = 6
number_of (statuses.SetupFailed run) = 7
