-- From what was read to what is answered.
use Rattle.std.proofs.Common.{◌≡◌, ℕ, zero, suc, ◌+◌, ◌<◌, ◌≤◌, List, [], ◌∷◌, ◌++◌, length, take, drop, get_or, slice_get, refl, sym, ap, subst, Option, Some, None, Result, Ok, Err, IfSome, arith, ◌∙◌, inl, inr}
use Rattle.al_values.specs.declared.cant.Cant.{Cant}
use Rattle.al_values.specs.declared.cant.Cant.TheVariants as cants
use Rattle.al_values.specs.Gives.{GivesUnlessNoMemory}
use Rattle.al_history.specs.declared.run.Run.{Run}
use Rattle.al_history.specs.declared.run.Setup.TheVariants as setups
use Rattle.al_history.specs.declared.statement.Scripts.{Scripts}
use Rattle.al_history.specs.declared.statement.Terms.{Terms}
use Rattle.al_history.specs.Whole.{IsRun, AreRunsFrom}
use Rattle.al_spec.specs.declared.spec.Spec.{Spec}
use Rattle.al_spec.specs.declared.spec.SpecFault.{SpecFault}
use Rattle.al_spec.specs.declared.spec.SpecFault.TheVariants as faults
use Rattle.al_spec.specs.Files.{IsSpecFile, IsFault, IfWhy}
use Rattle.al_app.specs.Answers.{most_bytes, failed_first, IsFaulty, HasRun, AreLegal}
use Rattle.al_app.specs.Runs.{terms_for, HasRunOne}
use Rattle.al_app.specs.Top.{IsFaultOf}
use Rattle.al_app.proofs.SpecLemmas.{take_with}

-- one run more
pub runs_more : (spec : Spec) (terms : Terms) (number : ℕ) (permutations : List (List ℕ)) (runs : List Run) (steps : List ℕ) (run : Run) → AreRunsFrom spec terms number permutations runs → IsRun spec terms (number + length permutations) steps run → AreRunsFrom spec terms number (permutations ++ steps ∷ []) (runs ++ run ∷ [])
runs_more spec terms number [] [] steps run all is = let n : number + 0 ≡ number = omega arith in (rw n at is, tt)
runs_more spec terms number [] (r ∷ runs) steps run all is = absurd all
runs_more spec terms number (p ∷ permutations) [] steps run all is = absurd all
runs_more spec terms number (p ∷ permutations) (r ∷ runs) steps run all is =
    let n : number + suc (length permutations) ≡ number + 1 + length permutations = omega arith in
    (all.0, runs_more spec terms (number + 1) permutations runs steps run all.1 (rw n at is))

take_length : {T : Type 0} (items : List T) (at : ℕ) (item : T) → slice_get items at ≡ Some item → length (take at items) ≡ at
take_length [] at item is = absurd cc
take_length (i ∷ items) zero item is = refl
take_length (i ∷ items) (suc at) item is = ap (λ (n : ℕ). suc n) (take_length items at item is)

pub runs_go_on : (spec : Spec) (scripts now back : Scripts) (place number : ℕ) (steps : List ℕ) (run : Run) (runs more : List Run) → now ≡ scripts → slice_get spec.permutations place ≡ Some steps → number ≡ place + 1 → more ≡ runs ++ run ∷ [] → AreRunsFrom spec (terms_for spec scripts) 1 (take place spec.permutations) runs → HasRunOne spec now number steps run back → AreRunsFrom spec (terms_for spec scripts) 1 (take (place + 1) spec.permutations) more
runs_go_on spec scripts now back place number steps run runs more same there count grown so_far one =
    let n : number ≡ 1 + length (take place spec.permutations) = omega (arith, count, take_length spec.permutations place steps there) in
    rw (grown, take_with spec.permutations place steps there) (runs_more spec (terms_for spec scripts) 1 (take place spec.permutations) runs steps run so_far (rw n at (rw same at one.is_run)))

-- the run at a place, where none before it has failed
pub failed_at : (runs : List Run) (at : ℕ) (run : Run) (block : ℕ) → at < length runs → run ≡ get_or runs at run → run.setup ≡ setups.Failed block → failed_first runs ≡ failed_first (drop at runs) → Some run.permutation ≡ failed_first runs
failed_at runs at run block lt is failed past = here runs at lt is ∙ sym past where
  here : (runs : List Run) (at : ℕ) → at < length runs → run ≡ get_or runs at run → Some run.permutation ≡ failed_first (drop at runs)
  here [] at lt is = absurd (omega arith)
  here (r ∷ runs) zero lt is = let e : run ≡ r = is in rw (← e, failed) refl
  here (r ∷ runs) (suc at) lt is = here runs at (omega arith) is

-- ---- what the reader answers

-- bytes that the reader refuses
pub refused_faulty : (bytes : List ℕ) (cause : Cant SpecFault) → length bytes ≤ most_bytes → IfWhy {T = Spec} (Err cause) (IsFault bytes) → ((spec : Spec) → IsSpecFile bytes spec → GivesUnlessNoMemory {T = Spec} (Err cause) (Ok spec)) → ((fault : SpecFault) → IsFault bytes fault → GivesUnlessNoMemory {T = Spec} (Err cause) (Err fault)) → IsFaultOf bytes cause
refused_faulty bytes (cants.Why fault) within why only only_fault = record {
  within = within;
  why = inl why;
  only = λ other is. same_fault other fault (only_fault other is);
  never_run = λ spec file. no_spec spec fault (only spec file.is_spec);
} where
  same_fault : (other fault : SpecFault) → ◌≡◌ {A = Result Spec SpecFault} (Err other) (Err fault) → other ≡ fault
  same_fault other fault e = cc

  no_spec : (spec : Spec) (fault : SpecFault) → ◌≡◌ {A = Result Spec SpecFault} (Ok spec) (Err fault) → ⊥
  no_spec spec fault e = cc
refused_faulty bytes cants.NoMemory within why only only_fault = tt

no_fault_by : (spec : Spec) (fault : SpecFault) → ◌≡◌ {A = Result Spec SpecFault} (Err fault) (Ok spec) → ⊥
no_fault_by spec fault e = cc

-- a spec file has no fault
pub read_no_fault : (bytes : List ℕ) (spec : Spec) → ((fault : SpecFault) → IsFault bytes fault → GivesUnlessNoMemory {T = Spec} (Ok spec) (Err fault)) → (fault : SpecFault) → IsFault bytes fault → ⊥
read_no_fault bytes spec only_fault fault is = no_fault_by spec fault (only_fault fault is)

-- a spec file without a permutation
pub without_permutation : (bytes : List ℕ) (spec : Spec) → length bytes ≤ most_bytes → IsSpecFile bytes spec → spec.permutations ≡ [] → ((other : Spec) → IsSpecFile bytes other → GivesUnlessNoMemory {E = SpecFault} (Ok spec) (Ok other)) → ((fault : SpecFault) → IsFault bytes fault → GivesUnlessNoMemory {T = Spec} (Ok spec) (Err fault)) → IsFaulty bytes faults.NoPermutation
without_permutation bytes spec within is none only only_fault = record {
  within = within;
  why = inr (record { is = refl; spec = spec; is_spec = is; none = none });
  only = λ other fault. absurd (read_no_fault bytes spec only_fault other fault);
  never_run = λ other file.
      let same : other ≡ spec = same_spec other (only other file.is_spec) in
      let nothing : other.permutations ≡ [] = rw same none in
      some_none other.permutations nothing file.some_permutation;
} where
  same_spec : (other : Spec) → ◌≡◌ {A = Result Spec SpecFault} (Ok other) (Ok spec) → other ≡ spec
  same_spec other e = cc

  some_none : (permutations : List (List ℕ)) → permutations ≡ [] → 0 < length permutations → ⊥
  some_none [] none some = omega arith
  some_none (p ∷ permutations) none some = cc

-- ---- what was read is what the source told

pub told_faulty : (told : Option (List ℕ)) (bytes : List ℕ) (fault : SpecFault) → IfSome told (λ input. bytes ≡ input) → IsFaulty bytes fault → IfSome told (λ input. IsFaulty input fault)
told_faulty None bytes fault same faulty = tt
told_faulty (Some input) bytes fault same faulty = subst (λ (b : List ℕ). IsFaulty b fault) same faulty

pub told_run : (told : Option (List ℕ)) (bytes : List ℕ) (runs : List Run) (text : List ℕ) → IfSome told (λ input. bytes ≡ input) → HasRun (Some bytes) runs text → HasRun told runs text
told_run told bytes runs text same run = record { input = run.input; spec = run.spec; scripts = run.scripts; tells = by_told told same; file = run.file; no_fault = run.no_fault; are_scripts = run.are_scripts; are_runs = run.are_runs; printed = run.printed } where
  by_told : (told : Option (List ℕ)) → IfSome told (λ input. bytes ≡ input) → IfSome told (λ input. input ≡ run.input)
  by_told None same = tt
  by_told (Some input) same = sym same ∙ run.tells

pub run_legal : (told : Option (List ℕ)) (runs : List Run) (text : List ℕ) → HasRun told runs text → AreLegal runs
run_legal told runs text run = inr (record { input = run.input; spec = run.spec; scripts = run.scripts; file = run.file; are_scripts = run.are_scripts; are_runs = run.are_runs })
