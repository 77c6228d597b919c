-- What is kept beside the blocks, so that steps and work are found without a walk.
use Rattle.std.specs.Prelude.{◌≡◌, ℕ, List, map}
use Rattle.std.specs.HashMap.{get_by_text}
use Rattle.al_spec.specs.declared.spec.Block.{Block}
use Rattle.al_spec.specs.declared.notes.Index.{Index}
use Rattle.al_spec.specs.Notes.{number_of, work_of, base_work}

pub record Indexed (index : Index) (blocks : List Block) : Type 0 where
  pub numbers : (name : List ℕ) → get_by_text index.numbers name ≡ number_of name blocks
  pub works : index.works.items ≡ map work_of blocks
  pub base : index.base ≡ base_work blocks
