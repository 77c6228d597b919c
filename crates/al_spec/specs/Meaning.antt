-- What a spec file says, as a spec: blocks with their sessions, and permutations as numbers of blocks.
use Rattle.std.specs.Prelude.{ℕ, ◌+◌, List, [], ◌∷◌, ◌++◌, map, Option, Some, None}
use Rattle.al_spec.specs.declared.spec.Part.{Part}
use Rattle.al_spec.specs.declared.spec.Part.TheVariants as parts
use Rattle.al_spec.specs.declared.spec.Block.{Block}
use Rattle.al_spec.specs.declared.spec.Spec.{Spec}
use Rattle.al_spec.specs.Grammar.{File, StepText, SessionText}
use Rattle.al_spec.specs.Notes.{number_of, number_or}

abbrev pub number_in : List Block → List ℕ → ℕ
number_in blocks name = number_or (number_of name blocks)

abbrev pub one_block : Part → ℕ → Option (List ℕ) → List Block
one_block part session None = []
one_block part session (Some text) = record { part = part; session = session; name = []; text = text } ∷ []

abbrev pub setup_block : List ℕ → Block
setup_block text = record { part = parts.Setup; session = 0; name = []; text = text }

abbrev pub step_block : ℕ → StepText → Block
step_block session s = record { part = parts.Step; session = session; name = s.name; text = s.text }

abbrev pub session_blocks : ℕ → SessionText → List Block
session_blocks session s = one_block parts.SessionSetup session s.setup ++ (map (step_block session) s.steps ++ one_block parts.SessionTeardown session s.teardown)

-- the blocks of sessions, which count from a number
abbrev pub blocks_from : ℕ → List SessionText → List Block
blocks_from session [] = []
blocks_from session (s ∷ ss) = session_blocks session s ++ blocks_from (session + 1) ss

abbrev pub blocks_of : File → List Block
blocks_of f = map setup_block f.setups ++ (one_block parts.Teardown 0 f.teardown ++ blocks_from 1 f.sessions)

-- The sessions' names; the blocks in the file's order; the permutations, each the numbers of the steps that it names.
abbrev pub spec_of : File → Spec
spec_of f = record {
  sessions = map (λ s. s.name) f.sessions;
  blocks = blocks_of f;
  permutations = map (λ names. map (λ name. number_in (blocks_of f) name) names) f.permutations;
}
