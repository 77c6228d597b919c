-- The report of a call's runs, as bytes (src/test/isolation/README for its lines).
use Rattle.std.specs.Prelude.{ℕ, ◌+◌, ◌-◌, ◌==◌, Bool, true, false, not, if◌then◌else◌, List, [], ◌∷◌, ◌++◌, length, take, drop, reverse, Option, Some, None, slice_get, codes, decimal, flat_map}
use Rattle.std.specs.List.{concat, join_by, range_with_len, count_by}
use Rattle.std.specs.Option.{option_map_or}
use Rattle.al_values.specs.declared.scalar.Value.{Value}
use Rattle.al_values.specs.Printed.{printed}
use Rattle.al_history.specs.declared.entry.Entry.{Entry}
use Rattle.al_history.specs.declared.entry.Entry.TheVariants as entries
use Rattle.al_statements.specs.declared.cause.Cause.{Cause}
use Rattle.al_statements.specs.declared.reply.Reply.{Reply}
use Rattle.al_statements.specs.declared.reply.Reply.TheVariants as replies
use Rattle.al_statements.specs.declared.reply.Tag.{Tag}
use Rattle.al_statements.specs.declared.reply.Tag.TheVariants as tags
use Rattle.al_history.specs.declared.run.Run.{Run}
use Rattle.al_history.specs.declared.run.Setup.{Setup}
use Rattle.al_history.specs.declared.run.Setup.TheVariants as setups
use Rattle.al_spec.specs.declared.spec.Block.{Block}
use Rattle.al_spec.specs.declared.spec.Part.{Part}
use Rattle.al_spec.specs.declared.spec.Part.TheVariants as parts
use Rattle.al_spec.specs.declared.spec.Spec.{Spec}
use Rattle.al_spec.specs.Tokens.{is_plain}
use Rattle.al_history.specs.Past.{Past}
use Rattle.al_app.specs.Causes.{cause_text}

-- ---- names of sessions and steps

abbrev pub doubled : ℕ → List ℕ
doubled b = if b == 34 then codes "\"\"" else b ∷ []

-- a name as it is, or in double quotes where it isn't plain, with quotes doubled
unfoldable pub name_text : List ℕ → List ℕ
name_text name = if is_plain name then name else codes "\"" ++ (flat_map doubled name ++ codes "\"")

-- ---- replies

-- the text of what stands at a place of a list, which counts from 0; nothing past the list's end
abbrev pub text_at : {T : Type 0} → (T → List ℕ) → List T → ℕ → List ℕ
text_at text things place = option_map_or text (slice_get things place) []

-- a command tag, with its count where it speaks of rows
abbrev pub tag_text : Tag → ℕ → List ℕ
tag_text tags.Begin count = codes "BEGIN"
tag_text tags.StartTransaction count = codes "START TRANSACTION"
tag_text tags.Commit count = codes "COMMIT"
tag_text tags.Rollback count = codes "ROLLBACK"
tag_text tags.Set count = codes "SET"
tag_text tags.LockTable count = codes "LOCK TABLE"
tag_text tags.CreateTable count = codes "CREATE TABLE"
tag_text tags.DropTable count = codes "DROP TABLE"
tag_text tags.AlterTable count = codes "ALTER TABLE"
tag_text tags.Insert count = codes "INSERT 0 " ++ decimal count
tag_text tags.Update count = codes "UPDATE " ++ decimal count
tag_text tags.Delete count = codes "DELETE " ++ decimal count

-- how many rows a SELECT gave
abbrev pub row_count_text : ℕ → List ℕ
row_count_text count =
    if count == 1 then codes "(1 row)\n" else concat (codes "(" ∷ decimal count ∷ codes " rows)\n" ∷ [])

-- a row: its values with bars between them
abbrev pub row_text : List Value → List ℕ
row_text row = join_by printed (codes "|") row ++ codes "\n"

-- what a SELECT gave: the names of its columns with bars between them, its rows, and their number
abbrev pub rows_text : Entry → List ℕ
rows_text (entries.Read xact names rows) =
    concat (
    join_by (λ name. name) (codes "|") names ∷ codes "\n"
    ∷ flat_map row_text rows
    ∷ row_count_text (length rows) ∷ [])
rows_text _ = []

-- what a statement answered; the rows of a SELECT stand in the journal, at the place of its Read
abbrev pub reply_text : List Entry → Reply → List ℕ
reply_text journal (replies.Tag tag count) = tag_text tag count ++ codes "\n"
reply_text journal (replies.Rows entry) = text_at rows_text journal entry

-- a refusal, with its cause
abbrev pub refusal_text : Cause → List ℕ
refusal_text cause = concat (codes "ERROR: " ∷ cause_text cause ∷ codes "\n" ∷ [])

-- ---- how a step ends

-- the driver's entries: it gives a block, cancels a step or closes a session, and so begins a new part of the journal
abbrev pub is_drivers : Entry → Bool
is_drivers (entries.Give session block) = true
is_drivers (entries.Cancel session) = true
is_drivers (entries.Close session) = true
is_drivers _ = false

-- a block is given to the session
abbrev pub is_give : ℕ → Entry → Bool
is_give session (entries.Give other block) = other == session
is_give session _ = false

-- the session's step ends
abbrev pub is_end : ℕ → Entry → Bool
is_end session (entries.End other) = other == session
is_end session _ = false

-- what an entry answers to the session
abbrev pub answer_text : List Entry → ℕ → Entry → List ℕ
answer_text journal session (entries.Done other reply) = if other == session then reply_text journal reply else []
answer_text journal session (entries.Refuse other cause) = if other == session then refusal_text cause else []
answer_text journal session _ = []

-- the replies of a step, in the entries after its Give: what its session is answered up to its End
abbrev pub replies_text : List Entry → ℕ → List Entry → List ℕ
replies_text journal session [] = []
replies_text journal session (e ∷ later) =
    if is_end session e then [] else answer_text journal session e ++ replies_text journal session later

-- whether a step ends within its part, which goes from its Give up to the driver's next entry
abbrev pub ends_in_part : ℕ → List Entry → Bool
ends_in_part session [] = false
ends_in_part session (e ∷ later) =
    if is_drivers e then false else if is_end session e then true else ends_in_part session later

-- whether a block is told as waiting: a step that doesn't end within its part. The replies of setup and teardown blocks are told with
-- them.
abbrev pub waits : Part → ℕ → List Entry → Bool
waits parts.Step session later = not (ends_in_part session later)
waits part session later = false

-- the place of the Give of the step that a session has in hand
abbrev pub given_at : Past → ℕ → Option ℕ
given_at [] session = None
given_at (e ∷ past) session =
    if is_give session e then Some (length past) else if is_end session e then None else given_at past session

-- ---- the texts of blocks

-- how the lines on a step begin
unfoldable pub step_text : Block → List ℕ
step_text block = codes "step " ++ name_text block.name

-- the name of a session of the file, which count from 1
abbrev pub session_name : List (List ℕ) → ℕ → List ℕ
session_name sessions session = if session == 0 then [] else text_at name_text sessions (session - 1)

-- the session of a block
abbrev pub session_text : Spec → Block → List ℕ
session_text spec block = codes "session " ++ session_name spec.sessions block.session

-- the head of a block, by where it stands: a main setup block's number from 1, a session's name, a step's name and text
abbrev pub head_by : Part → Spec → ℕ → Block → List ℕ
head_by parts.Setup spec number block = codes "setup " ++ decimal (number + 1)
head_by parts.SessionSetup spec number block = session_text spec block ++ codes " setup"
head_by parts.Step spec number block = step_text block ++ (codes ": " ++ block.text)
head_by parts.SessionTeardown spec number block = session_text spec block ++ codes " teardown"
head_by parts.Teardown spec number block = codes "teardown"

-- the head of a block with this number, which counts from 0
abbrev pub head_text : Spec → ℕ → Block → List ℕ
head_text spec number block = head_by block.part spec number block

-- what stands behind the head, by whether the block waits
abbrev pub behind_head : Bool → List ℕ → List ℕ
behind_head true replies = codes " <waiting ...>\n"
behind_head false replies = codes "\n" ++ replies

-- a block where it is given, by the entries after its Give
abbrev pub given_text : Spec → List Entry → ℕ → List Entry → ℕ → Block → List ℕ
given_text spec journal session later number block =
    head_text spec number block ++ behind_head (waits block.part session later) (replies_text journal session later)

-- a block where it ends, by the entries after its Give: a step that was told as waiting is completed
abbrev pub completed_text : List Entry → ℕ → List Entry → Block → List ℕ
completed_text journal session later block =
    if waits block.part session later
    then step_text block ++ (codes ": <... completed>\n" ++ replies_text journal session later)
    else []

-- the end of what was given at this place, by this entry
abbrev pub end_text : List Block → List Entry → ℕ → Entry → List ℕ
end_text blocks journal place (entries.Give session block) =
    text_at (completed_text journal session (drop (place + 1) journal)) blocks block
end_text blocks journal place _ = []

-- An entry at its place. A block is told where it is given, and once more where it ends if it was waiting; so each part
-- of the journal begins with its own block, and those that end in it follow in the order of their Ends.
abbrev pub entry_text : Spec → List Entry → ℕ → Entry → List ℕ
entry_text spec journal place (entries.Give session block) =
    text_at (given_text spec journal session (drop (place + 1) journal) block) spec.blocks block
entry_text spec journal place (entries.End session) =
    option_map_or (λ given. text_at (end_text spec.blocks journal given) journal given) (given_at (reverse (take place journal)) session) []
entry_text spec journal place _ = []

-- the entry at a place
abbrev pub place_text : Spec → List Entry → ℕ → List ℕ
place_text spec journal place = text_at (entry_text spec journal place) journal place

-- the entries from a place up to another
abbrev pub entries_text : Spec → List Entry → ℕ → ℕ → List ℕ
entries_text spec journal from to = flat_map (place_text spec journal) (range_with_len from (to - from))

-- ---- the step that wasn't given

-- the place of the driver's first Cancel or Close: where a step isn't given, all that were given stand before it
abbrev pub giving_end : List Entry → ℕ
giving_end [] = 0
giving_end (entries.Cancel session ∷ later) = 0
giving_end (entries.Close session ∷ later) = 0
giving_end (e ∷ later) = giving_end later + 1

abbrev pub is_step : Part → Bool
is_step parts.Step = true
is_step part = false

-- whether an entry gives a step
abbrev pub gives_step : List Block → Entry → Bool
gives_step blocks (entries.Give session block) = option_map_or (λ (given : Block). is_step given.part) (slice_get blocks block) false
gives_step blocks _ = false

-- a step whose session is busy
unfoldable pub blocked_text : List (List ℕ) → Block → List ℕ
blocked_text sessions block =
    step_text block ++ (codes ": not given, session " ++ (session_name sessions block.session ++ codes " is blocked\n"))

-- the first step of a permutation that the driver didn't give, since its session was busy; nothing where it gave all
abbrev pub rest_text : Spec → List Entry → List ℕ → List ℕ
rest_text spec journal steps =
    text_at (text_at (blocked_text spec.sessions) spec.blocks) steps (count_by (gives_step spec.blocks) journal)

-- the same of the permutation with this number, which counts from 1; after a failed setup part no step was to be given
abbrev pub not_given_text : Spec → ℕ → Setup → List Entry → List ℕ
not_given_text spec number setups.Done journal =
    if number == 0 then [] else text_at (rest_text spec journal) spec.permutations (number - 1)
not_given_text spec number (setups.Failed block) journal = []

-- the journal of a run: what came while steps were given, the step that wasn't given, and what came after
abbrev pub journal_text : Spec → ℕ → Setup → List Entry → List ℕ
journal_text spec number setup journal =
    entries_text spec journal 0 (giving_end journal) ++
    (not_given_text spec number setup journal ++
    entries_text spec journal (giving_end journal) (length journal))

-- ---- whole runs

-- the last line of a run whose setup part failed
abbrev pub setup_text : Setup → List ℕ
setup_text setups.Done = []
setup_text (setups.Failed block) = codes "setup failed\n"

-- the name of the step with this block number
abbrev pub step_name : List Block → ℕ → List ℕ
step_name blocks step = text_at (λ block. name_text block.name) blocks step

-- the names of steps, one space between them
abbrev pub names_text : List Block → List ℕ → List ℕ
names_text blocks steps = join_by (step_name blocks) (codes " ") steps

-- the names of the steps of the permutation with this number, which counts from 1
abbrev pub permutation_text : Spec → ℕ → List ℕ
permutation_text spec number =
    if number == 0 then [] else text_at (names_text spec.blocks) spec.permutations (number - 1)

-- how a run begins: an empty line, and the line that names its permutation
abbrev pub title_text : Spec → ℕ → List ℕ
title_text spec number =
    concat (codes "\nstarting permutation: " ∷ permutation_text spec number ∷ codes "\n" ∷ [])

-- a run: its permutation, its journal, and whether its setup part failed
unfoldable pub run_text : Spec → Run → List ℕ
run_text spec run =
    title_text spec run.permutation ++ (journal_text spec run.permutation run.setup run.history.entries ++ setup_text run.setup)

-- how a report begins
abbrev pub sessions_text : ℕ → List ℕ
sessions_text count = concat (codes "Parsed test spec with " ∷ decimal count ∷ codes " sessions\n" ∷ [])

-- the report of the runs of a spec file
unfoldable pub report : Spec → List Run → List ℕ
report spec runs = sessions_text (length spec.sessions) ++ flat_map (run_text spec) runs
