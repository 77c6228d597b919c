-- What a reader written in code owes to a rule's reader: its answer, and what it has of a row when some is read.
use Rattle.std.specs.Prelude.{◌≡◌, ℕ, List, ◌++◌, Result, Ok, Err}
use Rattle.al_values.specs.declared.cant.Cant.{Cant}
use Rattle.al_values.specs.declared.cant.Cant.TheVariants as cants
use Rattle.al_grammar.specs.Rules.{Shape, Rule, Step, read, fault, many, and_then}
use Rattle.al_grammar.specs.State.{many_by}

-- The value and the tokens that are left, or how many are left from the faulty one on. Want of memory is the free answer.
abbrev pub GivesStep : {R T A : Type 0} → (R → A) → (R → List T) → Result R (Cant ℕ) → Step T A → Type 0
GivesStep value rest (Ok x) step = step ≡ read (value x) (rest x)
GivesStep value rest (Err (cants.Why n)) step = step ≡ fault n
GivesStep value rest (Err cants.NoMemory) step = Unit {0}

-- what is read of a repetition, folded into what was made so far
abbrev pub fold_from : {T A B : Type 0} {s : Shape} → (T → ℕ) → (B → List A → B) → Rule T s A → B → List T → Step T B
fold_from kind f q so_far ts = and_then ((many kind q).reads ts) (λ vs last. read (f so_far vs) last)

-- the same for a list: behind what was read so far
abbrev pub many_from : {T A : Type 0} {s : Shape} → (T → ℕ) → Rule T s A → List A → List T → Step T (List A)
many_from kind q so_far ts = fold_from kind (λ xs vs. xs ++ vs) q so_far ts

-- the same where what was read so far decides what may come next
abbrev pub fold_by : {T A B S : Type 0} {s : Shape} → (T → ℕ) → (B → List A → B) → (S → A → S) → (S → Rule T s A) → S → B → List T → Step T B
fold_by kind f next q state so_far ts = and_then ((many_by kind next q state).reads ts) (λ vs last. read (f so_far vs) last)
