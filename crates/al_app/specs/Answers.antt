-- What a call of the program answers, and when.
use Rattle.std.specs.Prelude.{◌≡◌, ℕ, ◌<◌, ◌≤◌, List, [], ◌∷◌, ◌++◌, cond, length, Option, Some, None, IfSome, codes, decimal, ◌⊎◌}
use Rattle.std.specs.List.{concat}
use Rattle.std.specs.Io.KnownBytes.{IsAtEnd}
use Rattle.std.specs.Str.{bytes_eq}
use Rattle.al_history.specs.declared.run.Run.{Run}
use Rattle.al_history.specs.declared.run.Setup.{Setup}
use Rattle.al_history.specs.declared.run.Setup.TheVariants as setups
use Rattle.al_spec.specs.declared.spec.Spec.{Spec}
use Rattle.al_spec.specs.declared.spec.SpecFault.{SpecFault}
use Rattle.al_spec.specs.declared.spec.SpecFault.TheVariants as faults
use Rattle.al_spec.specs.declared.spec.SpecLimit.{SpecLimit}
use Rattle.al_spec.specs.declared.spec.SpecLimit.TheVariants as limits
use Rattle.al_spec.specs.Files.{IsSpecFile, IsFault}
use Rattle.al_history.specs.declared.statement.Scripts.{Scripts}
use Rattle.al_history.specs.Whole.{AreRuns}
use Rattle.al_outside.specs.Holding.{Held, Grows, GrowsByFront}
use Rattle.al_outside.specs.Reading.{IsReadPast}
use Rattle.al_app.specs.declared.status.Status.{Status}
use Rattle.al_app.specs.declared.status.Status.TheVariants as statuses
use Rattle.al_app.specs.Scripts.{AreScripts}
use Rattle.al_app.specs.Report.{report}
use Rattle.al_app.specs.Runs.{terms_for}

-- the most bytes that a spec file has
abbrev pub most_bytes : ℕ
most_bytes = 4194304

-- ---- words

-- the number of the first word that isn't of the grammar, which has the one word `run`
abbrev pub after_run : List (List ℕ) → Option ℕ
after_run [] = None
after_run (word ∷ words) = Some 1

abbrev pub bad_word : List (List ℕ) → Option ℕ
bad_word [] = Some 0
bad_word (word ∷ words) = cond (bytes_eq word (codes "run")) (after_run words) (Some 0)

-- ---- texts

abbrev pub usage_line : List ℕ
usage_line = codes "usage: alterlive run [--brief] | race [--brief] | plan | load NUMBER [--rows ROWS]\n"

abbrev pub long_line : List ℕ
long_line = codes "input too long\n"

abbrev pub limit_word : SpecLimit → List ℕ
limit_word limits.Sessions = codes "sessions"
limit_word limits.Permutations = codes "permutations"
limit_word limits.Block = codes "block"
limit_word limits.Steps = codes "steps"
limit_word limits.Work = codes "work"

-- what is wrong, and at which byte
abbrev pub place_line : ℕ → List ℕ → List ℕ
place_line at what = concat (codes "spec fault at byte " ∷ decimal at ∷ codes ": " ∷ what ∷ codes "\n" ∷ [])

abbrev pub fault_line : SpecFault → List ℕ
fault_line (faults.Utf8 at) = place_line at (codes "utf8")
fault_line (faults.Syntax at) = place_line at (codes "syntax")
fault_line (faults.Marker at) = place_line at (codes "marker")
fault_line (faults.TwoSteps at) = place_line at (codes "two steps")
fault_line (faults.NoStep at) = place_line at (codes "no step")
fault_line (faults.Limit at what) = place_line at (codes "limit of " ++ limit_word what)
fault_line faults.NoPermutation = codes "spec fault: no permutation\n"

-- ---- runs

-- the number of the first run with a failed setup part
abbrev pub failed_run : Setup → ℕ → Option ℕ → Option ℕ
failed_run setups.Done number other = other
failed_run (setups.Failed block) number other = Some number

abbrev pub failed_first : List Run → Option ℕ
failed_first [] = None
failed_first (run ∷ runs) = failed_run run.setup run.permutation (failed_first runs)

-- the status of runs without a fault of the outside
abbrev pub status_of : Option ℕ → Status
status_of None = statuses.Done
status_of (Some run) = statuses.SetupFailed run

-- bytes that can be run are a spec file, no longer than one may be, with a permutation
pub record IsRunnableFile (bytes : List ℕ) (spec : Spec) : Type 0 where
  pub within : length bytes ≤ most_bytes
  pub is_spec : IsSpecFile bytes spec
  pub some_permutation : 0 < length spec.permutations

-- An input was read as this spec file, its permutations were run over its blocks, and the text is the report of just these runs. Where
-- the source tells its bytes, that is the input.
pub record HasRun (told : Option (List ℕ)) (runs : List Run) (text : List ℕ) : Type 0 where
  pub input : List ℕ
  pub spec : Spec
  pub scripts : Scripts
  pub tells : IfSome told (λ bytes. bytes ≡ input)
  pub file : IsRunnableFile input spec
  pub no_fault : (fault : SpecFault) → IsFault input fault → ⊥
  pub are_scripts : AreScripts spec scripts
  pub are_runs : AreRuns spec (terms_for spec scripts) runs
  pub printed : text ≡ report spec runs

-- the bytes are a spec file without a permutation, where one is needed
pub record IsWithoutPermutation (bytes : List ℕ) (fault : SpecFault) : Type 0 where
  pub is : fault ≡ faults.NoPermutation
  pub spec : Spec
  pub is_spec : IsSpecFile bytes spec
  pub none : spec.permutations ≡ []

-- The fault of bytes, at its place; or they have no permutation. They have no other fault, and can't be run.
pub record IsFaulty (bytes : List ℕ) (fault : SpecFault) : Type 0 where
  pub within : length bytes ≤ most_bytes
  pub why : IsFault bytes fault ⊎ IsWithoutPermutation bytes fault
  pub only : (other : SpecFault) → IsFault bytes other → other ≡ fault
  pub never_run : (spec : Spec) → IsRunnableFile bytes spec → ⊥

-- ---- statuses

-- When a status comes, with which runs, and with which text to write. `read_failed` says that the source counted a fault.
abbrev pub Comes : List (List ℕ) → Option (List ℕ) → Type 0 → List Run → List ℕ → Status → Type 0
Comes words told read_failed runs text statuses.Done = (bad_word words ≡ None) × HasRun told runs text × (failed_first runs ≡ None)
Comes words told read_failed runs text (statuses.SetupFailed run) = (bad_word words ≡ None) × HasRun told runs text × (failed_first runs ≡ Some run)
Comes words told read_failed runs text (statuses.SpecFault fault) = (bad_word words ≡ None) × IfSome told (λ bytes. IsFaulty bytes fault) × (runs ≡ []) × (text ≡ fault_line fault)
Comes words told read_failed runs text (statuses.Usage word) = (bad_word words ≡ Some word) × (runs ≡ []) × (text ≡ usage_line)
Comes words told read_failed runs text statuses.TooLong = (bad_word words ≡ None) × (runs ≡ []) × (text ≡ long_line)
Comes words told read_failed runs text statuses.ReadFault = (bad_word words ≡ None) × read_failed × (runs ≡ []) × (text ≡ [])
Comes words told read_failed runs text statuses.NoMemory = (runs ≡ []) × (text ≡ [])
Comes words told read_failed runs text statuses.WriteFault = ⊥

-- where the input was read for a status: to its end, or past the most bytes of a spec file; not at all for bad words
abbrev pub IsReadFor : Option (List ℕ) → Option (List ℕ) → Status → Type 0
IsReadFor told left statuses.Done = IsAtEnd left
IsReadFor told left (statuses.SetupFailed run) = IsAtEnd left
IsReadFor told left (statuses.SpecFault fault) = IsAtEnd left
IsReadFor told left (statuses.Usage word) = left ≡ told
IsReadFor told left statuses.TooLong = IsReadPast most_bytes told left
IsReadFor told left status = Unit {0}

-- the statuses for which a text is written
abbrev pub Writes : Status → Type 0
Writes statuses.Done = Unit {0}
Writes (statuses.SetupFailed run) = Unit {0}
Writes (statuses.SpecFault fault) = Unit {0}
Writes (statuses.Usage word) = Unit {0}
Writes statuses.TooLong = Unit {0}
Writes status = ⊥

-- The sink holds the text of the status.
pub record IsWritten (words : List (List ℕ)) (told : Option (List ℕ)) (read_failed : Type 0) (old new : Held) (runs : List Run) (status : Status) : Type 0 where
  pub text : List ℕ
  pub comes : Comes words told read_failed runs text status
  pub grows : Grows old new text

-- The sink counted a fault, and holds a front of the text of the status that would have come.
pub record IsCutOff (words : List (List ℕ)) (told left : Option (List ℕ)) (read_failed write_failed : Type 0) (old new : Held) (runs : List Run) : Type 0 where
  pub wanted : Status
  pub writes : Writes wanted
  pub text : List ℕ
  pub comes : Comes words told read_failed runs text wanted
  pub read : IsReadFor told left wanted
  pub failed : write_failed
  pub grows : GrowsByFront old new text

abbrev pub IsAnswer : List (List ℕ) → Option (List ℕ) → Option (List ℕ) → Type 0 → Type 0 → Held → Held → List Run → Status → Type 0
IsAnswer words told left read_failed write_failed old new runs statuses.WriteFault = IsCutOff words told left read_failed write_failed old new runs
IsAnswer words told left read_failed write_failed old new runs status = IsWritten words told read_failed old new runs status

-- the journals in a list of runs are those of whole runs of one spec file that was read, for every status
pub record AreOfFile (runs : List Run) : Type 0 where
  pub input : List ℕ
  pub spec : Spec
  pub scripts : Scripts
  pub file : IsRunnableFile input spec
  pub are_scripts : AreScripts spec scripts
  pub are_runs : AreRuns spec (terms_for spec scripts) runs

abbrev pub AreLegal : List Run → Type 0
AreLegal runs = (runs ≡ []) ⊎ AreOfFile runs

-- ---- which status must come

-- a run was made, or memory was wanting
abbrev pub HasRunOrNoMemory : Status → Type 0
HasRunOrNoMemory statuses.Done = Unit {0}
HasRunOrNoMemory (statuses.SetupFailed run) = Unit {0}
HasRunOrNoMemory statuses.NoMemory = Unit {0}
HasRunOrNoMemory status = ⊥

-- that fault was told, or memory was wanting
abbrev pub HasFaultOrNoMemory : SpecFault → Status → Type 0
HasFaultOrNoMemory fault (statuses.SpecFault other) = fault ≡ other
HasFaultOrNoMemory fault statuses.NoMemory = Unit {0}
HasFaultOrNoMemory fault status = ⊥

abbrev pub IsLongOrNoMemory : Status → Type 0
IsLongOrNoMemory statuses.TooLong = Unit {0}
IsLongOrNoMemory statuses.NoMemory = Unit {0}
IsLongOrNoMemory status = ⊥

-- What the bytes that a source told make of a status: those that can be run are run, a fault is told, and a longer input is refused.
pub record IsDecided (told : Option (List ℕ)) (status : Status) : Type 0 where
  pub runs : (bytes : List ℕ) (spec : Spec) → told ≡ Some bytes → IsRunnableFile bytes spec → HasRunOrNoMemory status
  pub faults : (bytes : List ℕ) (fault : SpecFault) → told ≡ Some bytes → length bytes ≤ most_bytes → IsFault bytes fault → HasFaultOrNoMemory fault status
  pub long : (bytes : List ℕ) → told ≡ Some bytes → most_bytes < length bytes → IsLongOrNoMemory status

-- the word `run`, and no fault of the outside, give the status that the bytes decide, or want of memory
abbrev pub IsComplete : List (List ℕ) → Option (List ℕ) → Type 0 → Type 0 → Status → Type 0
IsComplete words told read_failed write_failed status = bad_word words ≡ None → (read_failed → ⊥) → (write_failed → ⊥) → IsDecided told status

-- the status is the wanted one and its text was written, or the sink failed and holds a front of the text
abbrev pub IsConcluded : Status → Type 0 → Held → Held → List ℕ → Status → Type 0
IsConcluded wanted write_failed old new text status = ((status ≡ wanted) × Grows old new text) ⊎ ((status ≡ statuses.WriteFault) × write_failed × GrowsByFront old new text)

-- a fault was told, or memory was wanting and nothing was written
abbrev pub IsTold : SpecFault → Type 0 → Held → Held → Status → Type 0
IsTold fault write_failed old new status = IsConcluded (statuses.SpecFault fault) write_failed old new (fault_line fault) status ⊎ ((status ≡ statuses.NoMemory) × Grows old new [])
