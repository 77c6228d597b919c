-- What holds of the spec of every file.
use Rattle.std.specs.Prelude.{◌≡◌, ℕ, ◌≤◌, ◌<◌, ◌^◌, Bool, true, false, List, ◌++◌, length, Some, slice_get}
use Rattle.al_spec.specs.declared.spec.Part.{Part}
use Rattle.al_spec.specs.declared.spec.Part.TheVariants as parts
use Rattle.al_spec.specs.declared.spec.Block.{Block}
use Rattle.al_spec.specs.declared.spec.Spec.{Spec}
use Rattle.al_spec.specs.Keeps.{Each}

-- the file's own setup and teardown blocks are of session 0, and all others of one of so many sessions, which count from 1
abbrev pub PartFits : ℕ → Part → ℕ → Type 0
PartFits sessions parts.Setup session = session ≡ 0
PartFits sessions parts.Teardown session = session ≡ 0
PartFits sessions own session = (1 ≤ session) × (session ≤ sessions)

abbrev pub BlockFits : ℕ → Block → Type 0
BlockFits sessions b = PartFits sessions b.part b.session

-- this is the number of a step
pub record IsStepAt (blocks : List Block) (number : ℕ) : Type 0 where
  pub block : Block
  pub there : slice_get blocks number ≡ Some block
  pub step : block.part ≡ parts.Step

abbrev pub is_setup : Part → Bool
is_setup parts.Setup = true
is_setup other = false

-- Blocks fit their sessions; permutations name steps; the file's own setup blocks stand before all others; numbers of
-- sessions and blocks fit 32 bits.
pub record IsSound (spec : Spec) : Type 0 where
  pub blocks : Each (BlockFits (length spec.sessions)) spec.blocks
  pub permutations : Each (λ numbers. Each (IsStepAt spec.blocks) numbers) spec.permutations
  pub setups : List Block
  pub others : List Block
  pub order : spec.blocks ≡ setups ++ others
  pub setups_are : Each (λ b. is_setup b.part ≡ true) setups
  pub others_are : Each (λ b. is_setup b.part ≡ false) others
  pub few_sessions : length spec.sessions < 2 ^ 32
  pub few_blocks : length spec.blocks < 2 ^ 32
