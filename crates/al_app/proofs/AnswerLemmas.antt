-- How an answer comes about.
use Rattle.std.proofs.Common.{◌≡◌, ℕ, ◌<◌, ◌≤◌, List, [], ◌++◌, length, refl, sym, subst, Option, Some, None, IfSome, inl, inr, arith, ◌∙◌, length-append}
use Rattle.std.specs.Io.KnownBytes.{IsAtEnd}
use Rattle.al_history.specs.declared.run.Run.{Run}
use Rattle.al_spec.specs.declared.spec.SpecFault.{SpecFault}
use Rattle.al_spec.specs.Files.{IsFault}
use Rattle.al_outside.specs.Holding.{Held, Grows}
use Rattle.al_outside.specs.Reading.{IsReadPast, IsReadUpTo}
use Rattle.al_app.specs.declared.status.Status.{Status}
use Rattle.al_app.specs.declared.status.Status.TheVariants as statuses
use Rattle.al_app.specs.Answers.{most_bytes, bad_word, fault_line, IsFaulty, HasRun, failed_first, status_of, Comes, IsReadFor, Writes, IsAnswer, IsDecided, IsComplete, IsConcluded, IsTold}

module _ (words : List (List ℕ)) (told left : Option (List ℕ)) (read_failed write_failed : Type 0) (old new : Held) (runs : List Run) (text : List ℕ) where
  is_written : (wanted : Status) → Comes words told read_failed runs text wanted → Grows old new text → IsAnswer words told left read_failed write_failed old new runs wanted
  is_written statuses.Done comes grows = record { text = text; comes = comes; grows = grows }
  is_written (statuses.SpecFault fault) comes grows = record { text = text; comes = comes; grows = grows }
  is_written (statuses.Usage word) comes grows = record { text = text; comes = comes; grows = grows }
  is_written statuses.ReadFault comes grows = record { text = text; comes = comes; grows = grows }
  is_written statuses.WriteFault comes grows = absurd comes
  is_written statuses.NoMemory comes grows = record { text = text; comes = comes; grows = grows }
  is_written statuses.TooLong comes grows = record { text = text; comes = comes; grows = grows }
  is_written (statuses.SetupFailed run) comes grows = record { text = text; comes = comes; grows = grows }

  -- a status that comes, and a text that was written or cut off, are an answer
  pub concluded : (wanted status : Status) → Writes wanted → IsReadFor told left wanted → Comes words told read_failed runs text wanted → IsConcluded wanted write_failed old new text status → IsAnswer words told left read_failed write_failed old new runs status
  concluded wanted status writes read comes (inl e) = subst (λ (s : Status). IsAnswer words told left read_failed write_failed old new runs s) (sym e.0) (is_written wanted comes e.1)
  concluded wanted status writes read comes (inr e) = subst (λ (s : Status). IsAnswer words told left read_failed write_failed old new runs s) (sym e.0) (record { wanted = wanted; writes = writes; text = text; comes = comes; read = read; failed = e.1; grows = e.2 })

  -- the status of runs
  runs_come_by : (failed : Option ℕ) (status : Status) → bad_word words ≡ None → HasRun told runs text → IsAtEnd left → failed_first runs ≡ failed → IsConcluded (status_of failed) write_failed old new text status → IsAnswer words told left read_failed write_failed old new runs status
  runs_come_by None status known run end is conclusion = concluded statuses.Done status tt end (known, run, is) conclusion
  runs_come_by (Some number) status known run end is conclusion = concluded (statuses.SetupFailed number) status tt end (known, run, is) conclusion

  pub runs_answer : (status : Status) → bad_word words ≡ None → HasRun told runs text → IsAtEnd left → IsConcluded (status_of (failed_first runs)) write_failed old new text status → IsAnswer words told left read_failed write_failed old new runs status
  runs_answer status known run end conclusion = runs_come_by (failed_first runs) status known run end refl conclusion

-- ---- where the input was read

read_by_conclusion : (told left : Option (List ℕ)) (wanted status : Status) (write_failed : Type 0) (old new : Held) (text : List ℕ) → IsReadFor told left wanted → IsConcluded wanted write_failed old new text status → IsReadFor told left status
read_by_conclusion told left wanted status write_failed old new text read (inl e) = subst (IsReadFor told left) (sym e.0) read
read_by_conclusion told left wanted status write_failed old new text read (inr e) = subst (IsReadFor told left) (sym e.0) tt

runs_read : (told left : Option (List ℕ)) (failed : Option ℕ) → IsAtEnd left → IsReadFor told left (status_of failed)
runs_read told left None end = end
runs_read told left (Some run) end = end

pub read_runs : (told left : Option (List ℕ)) (failed : Option ℕ) (status : Status) (write_failed : Type 0) (old new : Held) (text : List ℕ) → IsAtEnd left → IsConcluded (status_of failed) write_failed old new text status → IsReadFor told left status
read_runs told left failed status write_failed old new text end did = read_by_conclusion told left (status_of failed) status write_failed old new text (runs_read told left failed end) did

pub read_fault : (told left : Option (List ℕ)) (fault : SpecFault) (status : Status) (write_failed : Type 0) (old new : Held) → IsAtEnd left → IsTold fault write_failed old new status → IsReadFor told left status
read_fault told left fault status write_failed old new end (inl did) = read_by_conclusion told left (statuses.SpecFault fault) status write_failed old new (fault_line fault) end did
read_fault told left fault status write_failed old new end (inr did) = subst (IsReadFor told left) (sym did.0) tt

-- ---- faults

pub fault_answer : (words : List (List ℕ)) (told left : Option (List ℕ)) (read_failed write_failed : Type 0) (old new : Held) (fault : SpecFault) (status : Status) → bad_word words ≡ None → IfSome told (λ bytes. IsFaulty bytes fault) → IsAtEnd left → IsTold fault write_failed old new status → IsAnswer words told left read_failed write_failed old new [] status
fault_answer words told left read_failed write_failed old new fault status known faulty end (inl did) = concluded words told left read_failed write_failed old new [] (fault_line fault) (statuses.SpecFault fault) status tt end (known, faulty, refl, refl) did
fault_answer words told left read_failed write_failed old new fault status known faulty end (inr did) = subst (λ (s : Status). IsAnswer words told left read_failed write_failed old new [] s) (sym did.0) (record { text = []; comes = (refl, refl); grows = did.1 })

-- ---- which status must come

told_is : (told : Option (List ℕ)) (bytes : List ℕ) (P : List ℕ → Type 0) → told ≡ Some bytes → IfSome told P → P bytes
told_is None bytes P is all = cc
told_is (Some input) bytes P is all = let e : input ≡ bytes = cc in subst P e all

module _ (told : Option (List ℕ)) (runs : List Run) (text : List ℕ) (run : HasRun told runs text) where
  no_fault_told : (bytes : List ℕ) (fault : SpecFault) → told ≡ Some bytes → IsFault bytes fault → ⊥
  no_fault_told bytes fault is fails = run.no_fault fault (subst (λ (b : List ℕ). IsFault b fault) (told_is told bytes (λ b. b ≡ run.input) is run.tells) fails)

  not_long : (bytes : List ℕ) → told ≡ Some bytes → most_bytes < length bytes → ⊥
  not_long bytes is long = let e = told_is told bytes (λ b. b ≡ run.input) is run.tells in let within = run.file.within in let le : length bytes ≤ most_bytes = rw e within in omega (arith, long, le)

  decided_done : IsDecided told statuses.Done
  decided_done = record {
    runs = λ bytes spec is file. tt;
    faults = λ bytes fault is within fails. absurd (no_fault_told bytes fault is fails);
    long = λ bytes is long. absurd (not_long bytes is long);
  }

  decided_failed : (number : ℕ) → IsDecided told (statuses.SetupFailed number)
  decided_failed number = record {
    runs = λ bytes spec is file. tt;
    faults = λ bytes fault is within fails. absurd (no_fault_told bytes fault is fails);
    long = λ bytes is long. absurd (not_long bytes is long);
  }

decided_fault : (told : Option (List ℕ)) (fault : SpecFault) → IfSome told (λ bytes. IsFaulty bytes fault) → IsDecided told (statuses.SpecFault fault)
decided_fault told fault all = record {
  runs = λ bytes spec is file. absurd ((told_is told bytes (λ b. IsFaulty b fault) is all).never_run spec file);
  faults = λ bytes other is within fails. (told_is told bytes (λ b. IsFaulty b fault) is all).only other fails;
  long = λ bytes is long. absurd (let within = (told_is told bytes (λ b. IsFaulty b fault) is all).within in omega (arith, long, within));
}

past_long : (told left : Option (List ℕ)) (bytes : List ℕ) → told ≡ Some bytes → IsReadPast most_bytes told left → most_bytes < length bytes
past_long None left bytes is past = cc
past_long (Some input) None bytes is past = absurd past.1
past_long (Some input) (Some rest) bytes is past =
    let e : bytes ≡ past.0 ++ rest = let same : bytes ≡ input = cc in same ∙ past.1 in
    rw (e, length-append {A = ℕ}) (omega (arith, past.2))

decided_long : (told left : Option (List ℕ)) → IsReadPast most_bytes told left → IsDecided told statuses.TooLong
decided_long told left past = record {
  runs = λ bytes spec is file. absurd (let long = past_long told left bytes is past in let within = file.within in omega (arith, long, within));
  faults = λ bytes fault is within fails. absurd (let long = past_long told left bytes is past in omega (arith, long, within));
  long = λ bytes is long. tt;
}

decided_memory : (told : Option (List ℕ)) → IsDecided told statuses.NoMemory
decided_memory told = record { runs = λ bytes spec is file. tt; faults = λ bytes fault is within fails. tt; long = λ bytes is long. tt }

known_usage : (o : Option ℕ) (word : ℕ) → o ≡ None → o ≡ Some word → ⊥
known_usage o word none some = cc

-- an answer, and where the input was read, decide the status
pub complete : (words : List (List ℕ)) (told left : Option (List ℕ)) (read_failed write_failed : Type 0) (old new : Held) (runs : List Run) (status : Status) → IsAnswer words told left read_failed write_failed old new runs status → IsReadFor told left status → IsComplete words told read_failed write_failed status
complete words told left read_failed write_failed old new runs statuses.Done answer read = λ known reads writes. decided_done told runs answer.text answer.comes.1
complete words told left read_failed write_failed old new runs (statuses.SetupFailed run) answer read = λ known reads writes. decided_failed told runs answer.text answer.comes.1 run
complete words told left read_failed write_failed old new runs (statuses.SpecFault fault) answer read = λ known reads writes. decided_fault told fault answer.comes.1
complete words told left read_failed write_failed old new runs (statuses.Usage word) answer read = λ known reads writes. absurd (known_usage (bad_word words) word known answer.comes.0)
complete words told left read_failed write_failed old new runs statuses.TooLong answer read = λ known reads writes. decided_long told left read
complete words told left read_failed write_failed old new runs statuses.ReadFault answer read = λ known reads writes. absurd (reads answer.comes.1)
complete words told left read_failed write_failed old new runs statuses.NoMemory answer read = λ known reads writes. decided_memory told
complete words told left read_failed write_failed old new runs statuses.WriteFault answer read = λ known reads writes. absurd (writes answer.failed)

-- nothing was read
pub nothing_read : (limit : ℕ) (told : Option (List ℕ)) → IsReadUpTo limit told told
nothing_read limit None = ([], tt, omega arith)
nothing_read limit (Some bytes) = ([], refl, omega arith)
