-- What the tokens of a spec file say one after another, and which of them breaks a rule beside the grammar.
use Rattle.std.specs.Prelude.{ℕ, zero, suc, ◌+◌, Bool, true, false, ◌&&◌, ◌==◌, nat_lt, List, [], ◌∷◌, ◌++◌, length, Option, Some, None, Result, Ok, Err, bytes_eq, if◌then◌else◌}
use Rattle.al_spec.specs.declared.kinds.Word.{Word}
use Rattle.al_spec.specs.declared.kinds.Word.TheVariants as words
use Rattle.al_spec.specs.declared.kinds.Lexeme.{Lexeme}
use Rattle.al_spec.specs.declared.kinds.Lexeme.TheVariants as lexemes
use Rattle.al_spec.specs.declared.kinds.Token.{Token}
use Rattle.al_spec.specs.declared.spec.Part.{Part}
use Rattle.al_spec.specs.declared.spec.Part.TheVariants as parts
use Rattle.al_spec.specs.declared.spec.Block.{Block}
use Rattle.al_spec.specs.declared.spec.SpecFault.{SpecFault}
use Rattle.al_spec.specs.declared.spec.SpecFault.TheVariants as faults
use Rattle.al_spec.specs.declared.spec.SpecLimit.TheVariants as limits
use Rattle.al_spec.specs.declared.notes.Noted.{Noted}

-- ---- blocks

abbrev pub is_step : Part → Bool
is_step parts.Step = true
is_step other = false

-- the number of the step of a name, where the first block has this number
abbrev pub number_from : ℕ → List ℕ → List Block → Option ℕ
number_from i name [] = None
number_from i name (b ∷ bs) = if is_step b.part && bytes_eq name b.name then Some i else number_from (i + 1) name bs

abbrev pub number_of : List ℕ → List Block → Option ℕ
number_of name blocks = number_from 0 name blocks

abbrev pub number_or : Option ℕ → ℕ
number_or (Some i) = i
number_or None = 0

-- what stands there, or else a number where a test holds
abbrev pub or_else : Option ℕ → Bool → ℕ → Option ℕ
or_else (Some i) test number = Some i
or_else None test number = if test then Some number else None

-- how many `;` (59) a text has
abbrev pub semicolons : List ℕ → ℕ
semicolons [] = 0
semicolons (b ∷ bs) = (if b == 59 then 1 else 0) + semicolons bs

-- the work of a block once: 1, and 1 more for each `;`
abbrev pub work_of : Block → ℕ
work_of b = 1 + semicolons b.text

-- the work of a block in every permutation: none of a step
abbrev pub fixed : Part → ℕ → ℕ
fixed part work = if is_step part then 0 else work

abbrev pub fixed_work : Block → ℕ
fixed_work b = fixed b.part (work_of b)

abbrev pub base_work : List Block → ℕ
base_work [] = 0
base_work (b ∷ bs) = fixed_work b + base_work bs

-- the work of the block of a number
abbrev pub work_at : List Block → ℕ → ℕ
work_at [] i = 0
work_at (b ∷ bs) zero = work_of b
work_at (b ∷ bs) (suc i) = work_at bs i

-- ---- permutations

abbrev pub begun_ones : Option (List ℕ) → List (List ℕ)
begun_ones None = []
begun_ones (Some p) = p ∷ []

-- the permutations so far, with the one that is being read
abbrev pub all_permutations : Noted → List (List ℕ)
all_permutations n = n.permutations ++ begun_ones n.current

abbrev pub steps_in : Option (List ℕ) → List ℕ
steps_in None = []
steps_in (Some p) = p

-- ---- one token more

-- a word is the last one from now on; a permutation's counts, and its fixed work
abbrev pub note_permutation : ℕ → Noted → Result Noted SpecFault
note_permutation at n =
    if length (all_permutations n) == 1000 then Err (faults.Limit at limits.Permutations) else
    (if nat_lt 1000000 (n.work + base_work n.blocks) then Err (faults.Limit at limits.Work) else
    Ok (record n { word = Some words.Permutation; at = at; permutations = all_permutations n; current = Some []; work = n.work + base_work n.blocks }))

abbrev pub note_word : Word → ℕ → Noted → Result Noted SpecFault
note_word words.Permutation at n = note_permutation at n
note_word w at n = Ok (record n { word = Some w; at = at })

abbrev pub note_session : List ℕ → ℕ → Noted → Result Noted SpecFault
note_session name at n =
    if length n.sessions == 62 then Err (faults.Limit at limits.Sessions) else
    Ok (record n { sessions = n.sessions ++ name ∷ [] })

abbrev pub note_step : Option ℕ → List ℕ → ℕ → Noted → Result Noted SpecFault
note_step (Some found) name at n = Err (faults.TwoSteps at)
note_step None name at n = Ok (record n { name = name })

-- a step of a permutation: the work is told at the permutation's word, before the number of steps
abbrev pub note_named : Option ℕ → ℕ → Noted → Result Noted SpecFault
note_named None at n = Err (faults.NoStep at)
note_named (Some found) at n =
    if nat_lt 1000000 (n.work + work_at n.blocks found) then Err (faults.Limit n.at limits.Work) else
    (if length (steps_in n.current) == 1000 then Err (faults.Limit at limits.Steps) else
    Ok (record n { current = Some (steps_in n.current ++ found ∷ []); work = n.work + work_at n.blocks found }))

abbrev pub note_name : Option Word → List ℕ → ℕ → Noted → Result Noted SpecFault
note_name (Some words.Session) name at n = note_session name at n
note_name (Some words.Step) name at n = note_step (number_of name n.blocks) name at n
note_name (Some words.Permutation) name at n = note_named (number_of name n.blocks) at n
note_name other name at n = Ok n

-- where a block stands: its part, session and name
abbrev pub control_or : ℕ → Part → Part → Part
control_or zero control own = control
control_or (suc session) control own = own

abbrev pub part_of : Option Word → ℕ → Part
part_of (Some words.Setup) session = control_or session parts.Setup parts.SessionSetup
part_of (Some words.Teardown) session = control_or session parts.Teardown parts.SessionTeardown
part_of other session = parts.Step

abbrev pub name_for : Part → List ℕ → List ℕ
name_for parts.Step name = name
name_for other name = []

abbrev pub block_of : Part → ℕ → List ℕ → List ℕ → Block
block_of part session name text = record { part = part; session = session; name = name_for part name; text = text }

abbrev pub note_block : List ℕ → ℕ → Noted → Result Noted SpecFault
note_block text at n =
    if nat_lt 65536 (length text) then Err (faults.Limit at limits.Block) else
    Ok (record n { blocks = n.blocks ++ block_of (part_of n.word (length n.sessions)) (length n.sessions) n.name text ∷ [] })

abbrev pub note_lexeme : Lexeme → ℕ → Noted → Result Noted SpecFault
note_lexeme (lexemes.Word w) at n = note_word w at n
note_lexeme (lexemes.Name name) at n = note_name n.word name at n
note_lexeme (lexemes.Block text) at n = note_block text at n
note_lexeme other at n = Ok n

abbrev pub note : Noted → Token → Result Noted SpecFault
note n t = note_lexeme t.lexeme t.start n

-- ---- all tokens

abbrev pub and_note : Result Noted SpecFault → (Noted → Result Noted SpecFault) → Result Noted SpecFault
and_note (Ok n) next = next n
and_note (Err f) next = Err f

-- The first token in reading order that breaks a rule, or what is noted in the end.
abbrev pub note_all : Noted → List Token → Result Noted SpecFault
note_all n [] = Ok n
note_all n (t ∷ ts) = and_note (note n t) (λ m. note_all m ts)

abbrev pub nothing_noted : Noted
nothing_noted = record { word = None; at = 0; name = []; sessions = []; blocks = []; permutations = []; current = None; work = 0 }
