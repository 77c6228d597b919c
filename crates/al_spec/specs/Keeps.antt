-- The rules of a spec file beside its grammar.
use Rattle.std.specs.Prelude.{◌≡◌, ℕ, ◌+◌, ◌≤◌, true, List, [], ◌∷◌, ◌++◌, length, None, is_some}
use Rattle.al_spec.specs.declared.spec.Block.{Block}
use Rattle.al_spec.specs.Grammar.{File}
use Rattle.al_spec.specs.Notes.{is_step, number_of, base_work, work_at}
use Rattle.al_spec.specs.Meaning.{blocks_of, number_in}

-- each of a list is so
abbrev pub Each : {X : Type 0} → (X → Type 0) → List X → Type 0
Each Is [] = Unit {0}
Each Is (x ∷ xs) = Is x × Each Is xs

-- at most so many sessions, permutations, bytes in a block's text, steps in a permutation, and so much work
pub record Limits : Type 0 where
  pub sessions : ℕ
  pub permutations : ℕ
  pub block : ℕ
  pub steps : ℕ
  pub work : ℕ

abbrev pub limits : Limits
limits = record { sessions = 62; permutations = 1000; block = 65536; steps = 1000; work = 1000000 }

-- behind these blocks, each step has a name that no step before it has
abbrev pub DifferAfter : List Block → List Block → Type 0
DifferAfter before [] = Unit {0}
DifferAfter before (b ∷ bs) = (is_step b.part ≡ true → number_of b.name before ≡ None) × DifferAfter (before ++ b ∷ []) bs

-- a step has this name
abbrev pub IsStepName : List Block → List ℕ → Type 0
IsStepName blocks name = is_some (number_of name blocks) ≡ true

-- the work of the steps that a permutation names, each as often as it is named
abbrev pub named_work : List Block → List (List ℕ) → ℕ
named_work blocks [] = 0
named_work blocks (name ∷ names) = work_at blocks (number_in blocks name) + named_work blocks names

-- the work of permutations: for each, that of every setup and teardown block of the file, and that of its steps
abbrev pub all_work : List Block → List (List (List ℕ)) → ℕ
all_work blocks [] = 0
all_work blocks (names ∷ permutations) = (base_work blocks + named_work blocks names) + all_work blocks permutations

-- A file keeps the rules: step names differ, each name of a permutation is a step's, and no count passes its limit.
pub record Keeps (most : Limits) (file : File) : Type 0 where
  pub differ : DifferAfter [] (blocks_of file)
  pub named : Each (λ names. Each (IsStepName (blocks_of file)) names) file.permutations
  pub sessions : length file.sessions ≤ most.sessions
  pub permutations : length file.permutations ≤ most.permutations
  pub texts : Each (λ b. length b.text ≤ most.block) (blocks_of file)
  pub steps : Each (λ names. length names ≤ most.steps) file.permutations
  pub work : all_work (blocks_of file) file.permutations ≤ most.work
