-- The words that the program is given, and the number that it ends with.
use Rattle.std.specs.Prelude.{◌≡◌, ℕ, List, Option}
use Rattle.al_history.specs.declared.run.Run.{Run}
use Rattle.al_outside.specs.Holding.{Held}
use Rattle.al_app.specs.declared.status.Status.{Status}
use Rattle.al_app.specs.declared.status.Status.TheVariants as statuses
use Rattle.al_app.specs.declared.words.Words.{Words}
use Rattle.al_app.specs.declared.words.Words.TheVariants as words
use Rattle.al_app.specs.Numbers.{number_of}
use Rattle.al_app.specs.Answers.{usage_line, IsAnswer, IsReadFor, IsConcluded}

-- no words are known
abbrev pub IsUnknown : Words → Type 0
IsUnknown (words.Known list) = ⊥
IsUnknown words.NotText = Unit {0}
IsUnknown words.NoMemory = Unit {0}

-- the number is that of the answer's status
pub record IsExitOf (list : List (List ℕ)) (told left : Option (List ℕ)) (read_failed write_failed : Type 0) (old new : Held) (number : ℕ) : Type 0 where
  pub runs : List Run
  pub status : Status
  pub answer : IsAnswer list told left read_failed write_failed old new runs status
  pub read : IsReadFor told left status
  pub number_is : number ≡ number_of status

-- words that are no text aren't of the grammar, at the first of them; nothing is read
pub record IsRefusal (told left : Option (List ℕ)) (write_failed : Type 0) (old new : Held) (number : ℕ) : Type 0 where
  pub status : Status
  pub concluded : IsConcluded (statuses.Usage 0) write_failed old new usage_line status
  pub unread : left ≡ told
  pub number_is : number ≡ number_of status

abbrev pub IsExit : Words → Option (List ℕ) → Option (List ℕ) → Type 0 → Type 0 → Held → Held → ℕ → Type 0
IsExit (words.Known list) told left read_failed write_failed old new number = IsExitOf list told left read_failed write_failed old new number
IsExit words.NotText told left read_failed write_failed old new number = IsRefusal told left write_failed old new number
IsExit words.NoMemory told left read_failed write_failed old new number = number ≡ number_of statuses.NoMemory
