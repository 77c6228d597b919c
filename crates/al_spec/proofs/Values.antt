-- What the notes on a text of the grammar are.
use Rattle.std.proofs.Common.{◌≡◌, ℕ, zero, suc, ◌+◌, ◌≤◌, zero-add, Bool, true, false, List, [], ◌∷◌, ◌++◌, length, length-append, append_assoc, Option, Some, None, Result, Ok, Err, refl, sym, ap, ◌∙◌, arith, subst}
use Rattle.std.specs.Prelude.{if◌then◌else◌, ◌==◌, nat_lt, map, is_some}
use Rattle.std.proofs.lemmas.List.{append-nil}
use Rattle.std.proofs.lemmas.Bool.{ltb-false, eqb-false}
use Rattle.al_grammar.specs.Kinds.{among}
use Rattle.al_grammar.specs.Rules.{IsOptional, left_out, there, IsMany, none, one_more}
use Rattle.al_grammar.proofs.FirstTokens.{clash}
use Rattle.al_grammar.proofs.Every.{Every, every_split}
use Rattle.al_spec.specs.declared.kinds.Word.{Word}
use Rattle.al_spec.specs.declared.kinds.Word.TheVariants as words
use Rattle.al_spec.specs.declared.kinds.Kind.TheVariants as kinds
use Rattle.al_spec.specs.declared.kinds.Lexeme.{Lexeme}
use Rattle.al_spec.specs.declared.kinds.Lexeme.TheVariants as lexemes
use Rattle.al_spec.specs.declared.kinds.Token.{Token}
use Rattle.al_spec.specs.declared.spec.Part.{Part}
use Rattle.al_spec.specs.declared.spec.Part.TheVariants as parts
use Rattle.al_spec.specs.declared.spec.Block.{Block}
use Rattle.al_spec.specs.declared.spec.Spec.{Spec}
use Rattle.al_spec.specs.declared.spec.SpecFault.{SpecFault}
use Rattle.al_spec.specs.declared.spec.SpecFault.TheVariants as faults
use Rattle.al_spec.specs.declared.spec.SpecLimit.TheVariants as limits
use Rattle.al_spec.specs.declared.notes.Noted.{Noted}
use Rattle.al_spec.specs.Grammar.{kind, number, name_in, text_in, word, name, block, block_after, step, step_of, steps, session_end, session_parts, session_of, session, sessions, permutation, bodies, late, file, file_of, StepText, SessionText, File}
use Rattle.al_spec.specs.Notes.{note, note_lexeme, note_name, note_block, note_session, note_step, note_named, note_all, and_note, nothing_noted, all_permutations, begun_ones, steps_in, number_of, number_or, part_of, control_or, name_for, block_of, is_step, base_work, work_at}
use Rattle.al_spec.specs.Meaning.{number_in, one_block, setup_block, step_block, session_blocks, blocks_from, blocks_of, spec_of}
use Rattle.al_spec.specs.Files.{spec_noted}
use Rattle.al_spec.specs.Keeps.{Each, Keeps, DifferAfter, IsStepName, named_work, all_work, limits as most}
use Rattle.al_spec.proofs.Known.{NotOpen, IsKnown}
use Rattle.al_spec.proofs.NoteParts.{notes_append}

-- ---- notes on parts

record Parts (n r : Noted) (a b : List Token) : Type 0 where
  pub mid : Noted
  pub first : note_all n a ≡ Ok mid
  pub second : note_all mid b ≡ Ok r

parts_by : (n r : Noted) (a b : List Token) (x : Result Noted SpecFault) → note_all n a ≡ x → and_note x (λ m. note_all m b) ≡ Ok r → Parts n r a b
parts_by n r a b (Ok m) h e = record { mid = m; first = h; second = e }
parts_by n r a b (Err f) h e = absurd cc

in_parts : (n r : Noted) (ts a b : List Token) → ts ≡ a ++ b → note_all n ts ≡ Ok r → Parts n r a b
in_parts n r ts a b split e = parts_by n r a b (note_all n a) refl (sym (notes_append n a b) ∙ ap (λ (l : List Token). note_all n l) (sym split) ∙ e)

one_by : (x : Result Noted SpecFault) (m : Noted) → and_note x (λ k. Ok k) ≡ Ok m → x ≡ Ok m
one_by (Ok k) m e = e
one_by (Err f) m e = absurd cc

pub alone : (n m : Noted) (ts : List Token) (t : Token) → ts ≡ t ∷ [] → note_all n ts ≡ Ok m → note_lexeme t.lexeme t.start n ≡ Ok m
alone n m ts t e h = one_by (note n t) m (ap (λ (l : List Token). note_all n l) (sym e) ∙ h)

pub known_parts : (ts a b : List Token) → ts ≡ a ++ b → Every IsKnown ts → Every IsKnown a × Every IsKnown b
known_parts ts a b split k = every_split Token IsKnown a b (subst (λ (l : List Token). Every IsKnown l) split k)

-- ---- what a part adds

pub each_append : {X : Type 0} (Is : X → Type 0) (xs ys : List X) → Each Is xs → Each Is ys → Each Is (xs ++ ys)
each_append Is [] ys h g = g
each_append Is (x ∷ xs) ys h g = (h.0, each_append Is xs ys h.1 g)

abbrev pub TextFits : Block → Type 0
TextFits b = length b.text ≤ 65536

-- sessions and blocks, and no permutation
pub record Adds (n m : Noted) (ss : List (List ℕ)) (bs : List Block) : Type 0 where
  pub sessions : m.sessions ≡ n.sessions ++ ss
  pub blocks : m.blocks ≡ n.blocks ++ bs
  pub permutations : all_permutations m ≡ all_permutations n
  pub work : m.work ≡ n.work
  pub fits : length n.sessions ≤ 62 → length m.sessions ≤ 62
  pub texts : Each TextFits bs
  pub differ : DifferAfter n.blocks bs

pub differ_append : (before a b : List Block) → DifferAfter before a → DifferAfter (before ++ a) b → DifferAfter before (a ++ b)
differ_append before [] b h g = subst (λ (l : List Block). DifferAfter l b) (append-nil before) g
differ_append before (x ∷ a) b h g = (h.0, differ_append (before ++ x ∷ []) a b h.1 (subst (λ (l : List Block). DifferAfter l b) (sym (append_assoc before (x ∷ []) a)) g))

adds_nothing : (n : Noted) → Adds n n [] []
adds_nothing n = record { sessions = sym (append-nil n.sessions); blocks = sym (append-nil n.blocks); permutations = refl; work = refl; fits = λ h. h; texts = tt; differ = tt }

pub adds_both : (n m r : Noted) (a c : List (List ℕ)) (b d : List Block) → Adds n m a b → Adds m r c d → Adds n r (a ++ c) (b ++ d)
adds_both n m r a c b d x y = record {
  sessions = y.sessions ∙ ap (λ (l : List (List ℕ)). l ++ c) x.sessions ∙ append_assoc n.sessions a c;
  blocks = y.blocks ∙ ap (λ (l : List Block). l ++ d) x.blocks ∙ append_assoc n.blocks b d;
  permutations = y.permutations ∙ x.permutations;
  work = y.work ∙ x.work;
  fits = λ h. y.fits (x.fits h);
  texts = each_append TextFits b d x.texts y.texts;
  differ = differ_append n.blocks b d x.differ (subst (λ (l : List Block). DifferAfter l d) x.blocks y.differ);
}

-- the sessions stay as many
pub same_count : (n m : Noted) (bs : List Block) → Adds n m [] bs → length m.sessions ≡ length n.sessions
same_count n m bs a = ap length (a.sessions ∙ append-nil n.sessions)

-- ---- a word

pub record Worded (n m : Noted) (w : Word) : Type 0 where
  pub word : m.word ≡ Some w
  pub adds : Adds n m [] []

abbrev pub noting : Noted → Result Noted SpecFault
noting n = Ok n

worded_by : (n m : Noted) (w : Word) (at : ℕ) → noting (record n { word = Some w; at = at }) ≡ Ok m → Worded n m w
worded_by n m w at e =
    let same : record n { word = Some w; at = at } ≡ m = cc in
    subst (λ (x : Noted). Worded n x w) same (record { word = refl; adds = record { sessions = sym (append-nil n.sessions); blocks = sym (append-nil n.blocks); permutations = refl; work = refl; fits = λ h. h; texts = tt; differ = tt } })

on_setup : (l : Lexeme) (at : ℕ) (n m : Noted) → among (number (kind l)) (0 ∷ []) ≡ true → note_lexeme l at n ≡ Ok m → Worded n m words.Setup
on_setup (lexemes.Word words.Setup) at n m e h = worded_by n m words.Setup at h
on_setup (lexemes.Word words.Teardown) at n m e h = absurd (clash e refl)
on_setup (lexemes.Word words.Session) at n m e h = absurd (clash e refl)
on_setup (lexemes.Word words.Step) at n m e h = absurd (clash e refl)
on_setup (lexemes.Word words.Permutation) at n m e h = absurd (clash e refl)
on_setup (lexemes.Name x) at n m e h = absurd (clash e refl)
on_setup (lexemes.Block x) at n m e h = absurd (clash e refl)
on_setup lexemes.OpenName at n m e h = absurd (clash e refl)
on_setup lexemes.OpenBlock at n m e h = absurd (clash e refl)
on_setup lexemes.Unclosed at n m e h = absurd (clash e refl)
on_setup lexemes.Paren at n m e h = absurd (clash e refl)
on_setup lexemes.Stray at n m e h = absurd (clash e refl)

pub after_setup : (ts : List Token) (u : Unit {0}) (n m : Noted) → (word kinds.Setup).Is ts u → note_all n ts ≡ Ok m → Worded n m words.Setup
after_setup ts u n m is e = on_setup is.token.lexeme is.token.start n m is.kind_is (alone n m ts is.token is.alone e)

on_teardown : (l : Lexeme) (at : ℕ) (n m : Noted) → among (number (kind l)) (1 ∷ []) ≡ true → note_lexeme l at n ≡ Ok m → Worded n m words.Teardown
on_teardown (lexemes.Word words.Setup) at n m e h = absurd (clash e refl)
on_teardown (lexemes.Word words.Teardown) at n m e h = worded_by n m words.Teardown at h
on_teardown (lexemes.Word words.Session) at n m e h = absurd (clash e refl)
on_teardown (lexemes.Word words.Step) at n m e h = absurd (clash e refl)
on_teardown (lexemes.Word words.Permutation) at n m e h = absurd (clash e refl)
on_teardown (lexemes.Name x) at n m e h = absurd (clash e refl)
on_teardown (lexemes.Block x) at n m e h = absurd (clash e refl)
on_teardown lexemes.OpenName at n m e h = absurd (clash e refl)
on_teardown lexemes.OpenBlock at n m e h = absurd (clash e refl)
on_teardown lexemes.Unclosed at n m e h = absurd (clash e refl)
on_teardown lexemes.Paren at n m e h = absurd (clash e refl)
on_teardown lexemes.Stray at n m e h = absurd (clash e refl)

pub after_teardown : (ts : List Token) (u : Unit {0}) (n m : Noted) → (word kinds.Teardown).Is ts u → note_all n ts ≡ Ok m → Worded n m words.Teardown
after_teardown ts u n m is e = on_teardown is.token.lexeme is.token.start n m is.kind_is (alone n m ts is.token is.alone e)

on_session : (l : Lexeme) (at : ℕ) (n m : Noted) → among (number (kind l)) (2 ∷ []) ≡ true → note_lexeme l at n ≡ Ok m → Worded n m words.Session
on_session (lexemes.Word words.Setup) at n m e h = absurd (clash e refl)
on_session (lexemes.Word words.Teardown) at n m e h = absurd (clash e refl)
on_session (lexemes.Word words.Session) at n m e h = worded_by n m words.Session at h
on_session (lexemes.Word words.Step) at n m e h = absurd (clash e refl)
on_session (lexemes.Word words.Permutation) at n m e h = absurd (clash e refl)
on_session (lexemes.Name x) at n m e h = absurd (clash e refl)
on_session (lexemes.Block x) at n m e h = absurd (clash e refl)
on_session lexemes.OpenName at n m e h = absurd (clash e refl)
on_session lexemes.OpenBlock at n m e h = absurd (clash e refl)
on_session lexemes.Unclosed at n m e h = absurd (clash e refl)
on_session lexemes.Paren at n m e h = absurd (clash e refl)
on_session lexemes.Stray at n m e h = absurd (clash e refl)

pub after_session : (ts : List Token) (u : Unit {0}) (n m : Noted) → (word kinds.Session).Is ts u → note_all n ts ≡ Ok m → Worded n m words.Session
after_session ts u n m is e = on_session is.token.lexeme is.token.start n m is.kind_is (alone n m ts is.token is.alone e)

on_step : (l : Lexeme) (at : ℕ) (n m : Noted) → among (number (kind l)) (3 ∷ []) ≡ true → note_lexeme l at n ≡ Ok m → Worded n m words.Step
on_step (lexemes.Word words.Setup) at n m e h = absurd (clash e refl)
on_step (lexemes.Word words.Teardown) at n m e h = absurd (clash e refl)
on_step (lexemes.Word words.Session) at n m e h = absurd (clash e refl)
on_step (lexemes.Word words.Step) at n m e h = worded_by n m words.Step at h
on_step (lexemes.Word words.Permutation) at n m e h = absurd (clash e refl)
on_step (lexemes.Name x) at n m e h = absurd (clash e refl)
on_step (lexemes.Block x) at n m e h = absurd (clash e refl)
on_step lexemes.OpenName at n m e h = absurd (clash e refl)
on_step lexemes.OpenBlock at n m e h = absurd (clash e refl)
on_step lexemes.Unclosed at n m e h = absurd (clash e refl)
on_step lexemes.Paren at n m e h = absurd (clash e refl)
on_step lexemes.Stray at n m e h = absurd (clash e refl)

pub after_step : (ts : List Token) (u : Unit {0}) (n m : Noted) → (word kinds.Step).Is ts u → note_all n ts ≡ Ok m → Worded n m words.Step
after_step ts u n m is e = on_step is.token.lexeme is.token.start n m is.kind_is (alone n m ts is.token is.alone e)

-- ---- a name and a block

pub no_some : (v : List ℕ) → None ≡ Some v → ⊥
no_some v e = cc

on_name : (l : Lexeme) (at : ℕ) (n m : Noted) (v : List ℕ) → name_in l ≡ Some v → NotOpen l → note_lexeme l at n ≡ Ok m → note_name n.word v at n ≡ Ok m
on_name (lexemes.Word words.Setup) at n m v e k h = absurd (no_some v e)
on_name (lexemes.Word words.Teardown) at n m v e k h = absurd (no_some v e)
on_name (lexemes.Word words.Session) at n m v e k h = absurd (no_some v e)
on_name (lexemes.Word words.Step) at n m v e k h = absurd (no_some v e)
on_name (lexemes.Word words.Permutation) at n m v e k h = absurd (no_some v e)
on_name (lexemes.Name x) at n m v e k h = let same : x ≡ v = cc in ap (λ (y : List ℕ). note_name n.word y at n) (sym same) ∙ h
on_name (lexemes.Block x) at n m v e k h = absurd (no_some v e)
on_name lexemes.OpenName at n m v e k h = absurd k
on_name lexemes.OpenBlock at n m v e k h = absurd (no_some v e)
on_name lexemes.Unclosed at n m v e k h = absurd (no_some v e)
on_name lexemes.Paren at n m v e k h = absurd (no_some v e)
on_name lexemes.Stray at n m v e k h = absurd (no_some v e)

pub record Named (n m : Noted) (v : List ℕ) : Type 0 where
  pub at : ℕ
  pub gives : note_name n.word v at n ≡ Ok m

pub after_name : (ts : List Token) (v : List ℕ) (n m : Noted) → name.Is ts v → Every IsKnown ts → note_all n ts ≡ Ok m → Named n m v
after_name ts v n m is k e =
    let known = (known_parts ts (is.token ∷ []) [] is.alone k).0 in
    record { at = is.token.start; gives = on_name is.token.lexeme is.token.start n m v is.value_is known.0 (alone n m ts is.token is.alone e) }

on_block : (l : Lexeme) (at : ℕ) (n m : Noted) (v : List ℕ) → text_in l ≡ Some v → NotOpen l → note_lexeme l at n ≡ Ok m → note_block v at n ≡ Ok m
on_block (lexemes.Word words.Setup) at n m v e k h = absurd (no_some v e)
on_block (lexemes.Word words.Teardown) at n m v e k h = absurd (no_some v e)
on_block (lexemes.Word words.Session) at n m v e k h = absurd (no_some v e)
on_block (lexemes.Word words.Step) at n m v e k h = absurd (no_some v e)
on_block (lexemes.Word words.Permutation) at n m v e k h = absurd (no_some v e)
on_block (lexemes.Name x) at n m v e k h = absurd (no_some v e)
on_block (lexemes.Block x) at n m v e k h = let same : x ≡ v = cc in ap (λ (y : List ℕ). note_block y at n) (sym same) ∙ h
on_block lexemes.OpenName at n m v e k h = absurd (no_some v e)
on_block lexemes.OpenBlock at n m v e k h = absurd k
on_block lexemes.Unclosed at n m v e k h = absurd (no_some v e)
on_block lexemes.Paren at n m v e k h = absurd (no_some v e)
on_block lexemes.Stray at n m v e k h = absurd (no_some v e)

abbrev pub new_block : Noted → List ℕ → Block
new_block n v = block_of (part_of n.word (length n.sessions)) (length n.sessions) n.name v

-- a block that is a step has a new name
abbrev pub IsFresh : List Block → Block → Type 0
IsFresh before b = is_step b.part ≡ true → number_of b.name before ≡ None

block_by : (c : Bool) (at : ℕ) (n m : Noted) (v : List ℕ) (f : SpecFault) → nat_lt 65536 (length v) ≡ c → IsFresh n.blocks (new_block n v)
    → (if c then Err f else noting (record n { blocks = n.blocks ++ new_block n v ∷ [] })) ≡ Ok m → Adds n m [] (new_block n v ∷ [])
block_by true at n m v f h fresh e = absurd cc
block_by false at n m v f h fresh e =
    let same : record n { blocks = n.blocks ++ new_block n v ∷ [] } ≡ m = cc in
    subst (λ (x : Noted). Adds n x [] (new_block n v ∷ [])) same
    (record { sessions = sym (append-nil n.sessions); blocks = refl; permutations = refl; work = refl; fits = λ g. g; texts = (ltb-false 65536 (length v) h, tt); differ = (fresh, tt) })

after_block : (ts : List Token) (v : List ℕ) (n m : Noted) → block.Is ts v → Every IsKnown ts → IsFresh n.blocks (new_block n v) → note_all n ts ≡ Ok m → Adds n m [] (new_block n v ∷ [])
after_block ts v n m is k fresh e =
    let known = (known_parts ts (is.token ∷ []) [] is.alone k).0 in
    block_by (nat_lt 65536 (length v)) is.token.start n m v _ refl fresh (on_block is.token.lexeme is.token.start n m v is.value_is known.0 (alone n m ts is.token is.alone e))

-- ---- setup and teardown

setup_name : (k : ℕ) (name : List ℕ) → name_for (control_or k parts.Setup parts.SessionSetup) name ≡ []
setup_name zero x = refl
setup_name (suc k) x = refl

teardown_name : (k : ℕ) (name : List ℕ) → name_for (control_or k parts.Teardown parts.SessionTeardown) name ≡ []
teardown_name zero x = refl
teardown_name (suc k) x = refl

setup_no_step : (k : ℕ) → is_step (control_or k parts.Setup parts.SessionSetup) ≡ false
setup_no_step zero = refl
setup_no_step (suc k) = refl

teardown_no_step : (k : ℕ) → is_step (control_or k parts.Teardown parts.SessionTeardown) ≡ false
teardown_no_step zero = refl
teardown_no_step (suc k) = refl

abbrev pub unnamed : Part → ℕ → List ℕ → Block
unnamed part session text = record { part = part; session = session; name = []; text = text }

abbrev pub own_block : Part → Part → ℕ → List ℕ → Block
own_block control own k text = unnamed (control_or k control own) k text

setup_is : (n m : Noted) (v : List ℕ) → Worded n m words.Setup → new_block m v ≡ own_block parts.Setup parts.SessionSetup (length n.sessions) v
setup_is n m v w =
    let count : length m.sessions ≡ length n.sessions = same_count n m [] w.adds in
    ap (λ (o : Option Word). block_of (part_of o (length m.sessions)) (length m.sessions) m.name v) w.word
    ∙ ap (λ (k : ℕ). block_of (control_or k parts.Setup parts.SessionSetup) k m.name v) count
    ∙ ap (λ (x : List ℕ). record { part = control_or (length n.sessions) parts.Setup parts.SessionSetup; session = length n.sessions; name = x; text = v }) (setup_name (length n.sessions) m.name)

teardown_is : (n m : Noted) (v : List ℕ) → Worded n m words.Teardown → new_block m v ≡ own_block parts.Teardown parts.SessionTeardown (length n.sessions) v
teardown_is n m v w =
    let count : length m.sessions ≡ length n.sessions = same_count n m [] w.adds in
    ap (λ (o : Option Word). block_of (part_of o (length m.sessions)) (length m.sessions) m.name v) w.word
    ∙ ap (λ (k : ℕ). block_of (control_or k parts.Teardown parts.SessionTeardown) k m.name v) count
    ∙ ap (λ (x : List ℕ). record { part = control_or (length n.sessions) parts.Teardown parts.SessionTeardown; session = length n.sessions; name = x; text = v }) (teardown_name (length n.sessions) m.name)

pub setup_adds : (ts : List Token) (v : List ℕ) (n m : Noted) → (block_after kinds.Setup).Is ts v → Every IsKnown ts → note_all n ts ≡ Ok m → Adds n m [] (own_block parts.Setup parts.SessionSetup (length n.sessions) v ∷ [])
unfolding block_after
setup_adds ts v n m is k e =
    let p = in_parts n m ts is.front is.back is.split e in
    let known = known_parts ts is.front is.back is.split k in
    let w = after_setup is.front is.first n p.mid is.first_is p.first in
    let own = setup_is n p.mid is.second w in
    let b = after_block is.back is.second p.mid m is.second_is known.1 (λ t. absurd (clash t (ap (λ (x : Block). is_step x.part) own ∙ setup_no_step (length n.sessions)))) p.second in
    let text : is.second ≡ v = sym is.value_is in
    let same : new_block p.mid is.second ≡ own_block parts.Setup parts.SessionSetup (length n.sessions) v = own ∙ ap (λ (x : List ℕ). own_block parts.Setup parts.SessionSetup (length n.sessions) x) text in
    subst (λ (x : Block). Adds n m [] (x ∷ [])) same (adds_both n p.mid m [] [] [] (new_block p.mid is.second ∷ []) w.adds b)

teardown_adds : (ts : List Token) (v : List ℕ) (n m : Noted) → (block_after kinds.Teardown).Is ts v → Every IsKnown ts → note_all n ts ≡ Ok m → Adds n m [] (own_block parts.Teardown parts.SessionTeardown (length n.sessions) v ∷ [])
unfolding block_after
teardown_adds ts v n m is k e =
    let p = in_parts n m ts is.front is.back is.split e in
    let known = known_parts ts is.front is.back is.split k in
    let w = after_teardown is.front is.first n p.mid is.first_is p.first in
    let own = teardown_is n p.mid is.second w in
    let b = after_block is.back is.second p.mid m is.second_is known.1 (λ t. absurd (clash t (ap (λ (x : Block). is_step x.part) own ∙ teardown_no_step (length n.sessions)))) p.second in
    let text : is.second ≡ v = sym is.value_is in
    let same : new_block p.mid is.second ≡ own_block parts.Teardown parts.SessionTeardown (length n.sessions) v = own ∙ ap (λ (x : List ℕ). own_block parts.Teardown parts.SessionTeardown (length n.sessions) x) text in
    subst (λ (x : Block). Adds n m [] (x ∷ [])) same (adds_both n p.mid m [] [] [] (new_block p.mid is.second ∷ []) w.adds b)

-- one of a session, or none
abbrev own_blocks : Part → ℕ → Option (List ℕ) → List Block
own_blocks part k o = one_block part k o

pub setup_maybe : (ts : List Token) (o : Option (List ℕ)) (n m : Noted) (k : ℕ) → length n.sessions ≡ suc k → IsOptional (block_after kinds.Setup).Is ts o → Every IsKnown ts → note_all n ts ≡ Ok m → Adds n m [] (one_block parts.SessionSetup (suc k) o)
setup_maybe _ _ n m k len left_out known e = let same : n ≡ m = cc in subst (λ (x : Noted). Adds n x [] []) same (adds_nothing n)
setup_maybe _ _ n m k len (there ts v is) known e = subst (λ (j : ℕ). Adds n m [] (own_block parts.Setup parts.SessionSetup j v ∷ [])) len (setup_adds ts v n m is known e)

teardown_maybe : (ts : List Token) (o : Option (List ℕ)) (n m : Noted) (k : ℕ) → length n.sessions ≡ suc k → IsOptional (block_after kinds.Teardown).Is ts o → Every IsKnown ts → note_all n ts ≡ Ok m → Adds n m [] (one_block parts.SessionTeardown (suc k) o)
teardown_maybe _ _ n m k len left_out known e = let same : n ≡ m = cc in subst (λ (x : Noted). Adds n x [] []) same (adds_nothing n)
teardown_maybe _ _ n m k len (there ts v is) known e = subst (λ (j : ℕ). Adds n m [] (own_block parts.Teardown parts.SessionTeardown j v ∷ [])) len (teardown_adds ts v n m is known e)

pub main_teardown : (ts : List Token) (o : Option (List ℕ)) (n m : Noted) → length n.sessions ≡ 0 → IsOptional (block_after kinds.Teardown).Is ts o → Every IsKnown ts → note_all n ts ≡ Ok m → Adds n m [] (one_block parts.Teardown 0 o)
main_teardown _ _ n m len left_out known e = let same : n ≡ m = cc in subst (λ (x : Noted). Adds n x [] []) same (adds_nothing n)
main_teardown _ _ n m len (there ts v is) known e = subst (λ (j : ℕ). Adds n m [] (own_block parts.Teardown parts.SessionTeardown j v ∷ [])) len (teardown_adds ts v n m is known e)

pub main_setups : (ts : List Token) (vs : List (List ℕ)) (n m : Noted) → length n.sessions ≡ 0 → IsMany (block_after kinds.Setup).Is ts vs → Every IsKnown ts → note_all n ts ≡ Ok m → Adds n m [] (map setup_block vs)
main_setups _ _ n m len none known e = let same : n ≡ m = cc in subst (λ (x : Noted). Adds n x [] []) same (adds_nothing n)
main_setups _ _ n m len (one_more ts front back v vs split is more) known e =
    let p = in_parts n m ts front back split e in
    let k = known_parts ts front back split known in
    let first : Adds n p.mid [] (setup_block v ∷ []) = subst (λ (j : ℕ). Adds n p.mid [] (own_block parts.Setup parts.SessionSetup j v ∷ [])) len (setup_adds front v n p.mid is k.0 p.first) in
    adds_both n p.mid m [] [] (setup_block v ∷ []) (map setup_block vs) first (main_setups back vs p.mid m (same_count n p.mid (setup_block v ∷ []) first ∙ len) more k.1 p.second)

-- ---- a step

pub record StepNamed (n m : Noted) (v : List ℕ) : Type 0 where
  pub name : m.name ≡ v
  pub word : m.word ≡ n.word
  pub fresh : number_of v m.blocks ≡ None
  pub adds : Adds n m [] []

pub step_named : (o : Option ℕ) (v : List ℕ) (at : ℕ) (n m : Noted) → number_of v n.blocks ≡ o → note_step o v at n ≡ Ok m → StepNamed n m v
step_named (Some found) v at n m h e = absurd cc
step_named None v at n m h e =
    let same : record n { name = v } ≡ m = cc in
    subst (λ (x : Noted). StepNamed n x v) same (record { name = refl; word = refl; fresh = h; adds = record { sessions = sym (append-nil n.sessions); blocks = sym (append-nil n.blocks); permutations = refl; work = refl; fits = λ g. g; texts = tt; differ = tt } })

step_is : (q : Noted) (v x : List ℕ) (k : ℕ) → q.word ≡ Some words.Step → length q.sessions ≡ k → q.name ≡ v → new_block q x ≡ step_block k (step_of v x)
step_is q v x k w c e =
    ap (λ (o : Option Word). block_of (part_of o (length q.sessions)) (length q.sessions) q.name x) w
    ∙ ap (λ (j : ℕ). block_of parts.Step j q.name x) c ∙ ap (λ (y : List ℕ). block_of parts.Step k y x) e

pub step_adds : (ts : List Token) (s : StepText) (n m : Noted) → step.Is ts s → Every IsKnown ts → note_all n ts ≡ Ok m → Adds n m [] (step_block (length n.sessions) s ∷ [])
unfolding step
step_adds ts s n m is k e =
    let p = in_parts n m ts is.front is.back is.split e in
    let known = known_parts ts is.front is.back is.split k in
    let w = after_step is.front is.first n p.mid is.first_is p.first in
    let b = is.second_is in
    let q = in_parts p.mid m is.back b.front b.back b.split p.second in
    let inner = known_parts is.back b.front b.back b.split known.1 in
    let named = after_name b.front b.first p.mid q.mid b.first_is inner.0 q.first in
    let given : note_step (number_of b.first p.mid.blocks) b.first named.at p.mid ≡ Ok q.mid = ap (λ (o : Option Word). note_name o b.first named.at p.mid) (sym w.word) ∙ named.gives in
    let st = step_named (number_of b.first p.mid.blocks) b.first named.at p.mid q.mid refl given in
    let count : length q.mid.sessions ≡ length n.sessions = same_count p.mid q.mid [] st.adds ∙ same_count n p.mid [] w.adds in
    let text : step_of b.first b.second ≡ s = sym (is.value_is ∙ b.value_is) in
    let own = step_is q.mid b.first b.second (length n.sessions) (st.word ∙ w.word) count st.name in
    let last = after_block b.back b.second q.mid m b.second_is inner.1 (λ t. ap (λ (x : Block). number_of x.name q.mid.blocks) own ∙ st.fresh) q.second in
    let same : new_block q.mid b.second ≡ step_block (length n.sessions) s =
    own ∙ ap (λ (x : StepText). step_block (length n.sessions) x) text in
    subst (λ (x : Block). Adds n m [] (x ∷ [])) same (adds_both n p.mid m [] [] [] (new_block q.mid b.second ∷ []) w.adds (adds_both p.mid q.mid m [] [] [] (new_block q.mid b.second ∷ []) st.adds last))

pub more_steps_add : (ts : List Token) (ss : List StepText) (n m : Noted) (k : ℕ) → length n.sessions ≡ k → IsMany step.Is ts ss → Every IsKnown ts → note_all n ts ≡ Ok m → Adds n m [] (map (step_block k) ss)
more_steps_add _ _ n m k len none known e = let same : n ≡ m = cc in subst (λ (x : Noted). Adds n x [] []) same (adds_nothing n)
more_steps_add _ _ n m k len (one_more ts front back v vs split is more) known e =
    let p = in_parts n m ts front back split e in
    let kn = known_parts ts front back split known in
    let first : Adds n p.mid [] (step_block k v ∷ []) = subst (λ (j : ℕ). Adds n p.mid [] (step_block j v ∷ [])) len (step_adds front v n p.mid is kn.0 p.first) in
    adds_both n p.mid m [] [] (step_block k v ∷ []) (map (step_block k) vs) first (more_steps_add back vs p.mid m k (same_count n p.mid (step_block k v ∷ []) first ∙ len) more kn.1 p.second)

pub steps_add : (ts : List Token) (ss : List StepText) (n m : Noted) (k : ℕ) → length n.sessions ≡ k → steps.Is ts ss → Every IsKnown ts → note_all n ts ≡ Ok m → Adds n m [] (map (step_block k) ss)
unfolding steps
steps_add ts ss n m k len is known e =
    subst (λ (x : List StepText). Adds n m [] (map (step_block k) x)) (sym is.value_is)
    (more_steps_add ts (is.first ∷ is.second) n m k len (one_more ts is.front is.back is.first is.second is.split is.first_is is.second_is) known e)

-- ---- a session

session_end_adds : (ts : List Token) (v : List StepText × Option (List ℕ)) (n m : Noted) (k : ℕ) → length n.sessions ≡ suc k → session_end.Is ts v → Every IsKnown ts → note_all n ts ≡ Ok m
    → Adds n m [] (map (step_block (suc k)) v.0 ++ one_block parts.SessionTeardown (suc k) v.1)
unfolding session_end
session_end_adds ts v n m k len is known e =
    let p = in_parts n m ts is.front is.back is.split e in
    let kn = known_parts ts is.front is.back is.split known in
    let a = steps_add is.front is.first n p.mid (suc k) len is.first_is kn.0 p.first in
    let b = teardown_maybe is.back is.second p.mid m k (same_count n p.mid _ a ∙ len) is.second_is kn.1 p.second in
    subst (λ (x : List StepText × Option (List ℕ)). Adds n m [] (map (step_block (suc k)) x.0 ++ one_block parts.SessionTeardown (suc k) x.1)) (sym is.value_is) (adds_both n p.mid m [] [] _ _ a b)

session_parts_add : (ts : List Token) (v : Option (List ℕ) × (List StepText × Option (List ℕ))) (n m : Noted) (k : ℕ) (x : List ℕ) → length n.sessions ≡ suc k → session_parts.Is ts v → Every IsKnown ts → note_all n ts ≡ Ok m
    → Adds n m [] (session_blocks (suc k) (session_of x v))
unfolding session_parts
session_parts_add ts v n m k x len is known e =
    let p = in_parts n m ts is.front is.back is.split e in
    let kn = known_parts ts is.front is.back is.split known in
    let a = setup_maybe is.front is.first n p.mid k len is.first_is kn.0 p.first in
    let b = session_end_adds is.back is.second p.mid m k (same_count n p.mid _ a ∙ len) is.second_is kn.1 p.second in
    subst (λ (y : Option (List ℕ) × (List StepText × Option (List ℕ))). Adds n m [] (session_blocks (suc k) (session_of x y))) (sym is.value_is) (adds_both n p.mid m [] [] _ _ a b)

pub session_by : (c : Bool) (v : List ℕ) (n m : Noted) (f : SpecFault) → (length n.sessions == 62) ≡ c → (if c then Err f else noting (record n { sessions = n.sessions ++ v ∷ [] })) ≡ Ok m → Adds n m (v ∷ []) []
session_by true v n m f h e = absurd cc
session_by false v n m f h e =
    let same : record n { sessions = n.sessions ++ v ∷ [] } ≡ m = cc in
    subst (λ (x : Noted). Adds n x (v ∷ []) []) same
    (record {
      sessions = refl;
      blocks = sym (append-nil n.blocks);
      permutations = refl;
      work = refl;
      fits = λ le. let no = eqb-false (length n.sessions) 62 h in omega (arith, le, no, length-append n.sessions (v ∷ []));
      texts = tt;
      differ = tt;
    })

pub one_session : (n m : Noted) (v : List ℕ) (bs : List Block) → Adds n m (v ∷ []) bs → length m.sessions ≡ suc (length n.sessions)
one_session n m v bs a = let e : length m.sessions ≡ length n.sessions + 1 = ap length a.sessions ∙ length-append n.sessions (v ∷ []) in omega arith

pub session_adds : (ts : List Token) (s : SessionText) (n m : Noted) → session.Is ts s → Every IsKnown ts → note_all n ts ≡ Ok m → Adds n m (s.name ∷ []) (session_blocks (suc (length n.sessions)) s)
unfolding session
session_adds ts s n m is k e =
    let p = in_parts n m ts is.front is.back is.split e in
    let known = known_parts ts is.front is.back is.split k in
    let w = after_session is.front is.first n p.mid is.first_is p.first in
    let b = is.second_is in
    let q = in_parts p.mid m is.back b.front b.back b.split p.second in
    let inner = known_parts is.back b.front b.back b.split known.1 in
    let named = after_name b.front b.first p.mid q.mid b.first_is inner.0 q.first in
    let given : note_session b.first named.at p.mid ≡ Ok q.mid = ap (λ (o : Option Word). note_name o b.first named.at p.mid) (sym w.word) ∙ named.gives in
    let a : Adds p.mid q.mid (b.first ∷ []) [] = session_by (length p.mid.sessions == 62) b.first p.mid q.mid _ refl given in
    let both : Adds n q.mid (b.first ∷ []) [] = adds_both n p.mid q.mid [] (b.first ∷ []) [] [] w.adds a in
    let rest = session_parts_add b.back b.second q.mid m (length n.sessions) b.first (one_session n q.mid b.first [] both) b.second_is inner.1 q.second in
    subst (λ (x : SessionText). Adds n m (x.name ∷ []) (session_blocks (suc (length n.sessions)) x)) (sym (is.value_is ∙ b.value_is)) (adds_both n q.mid m (b.first ∷ []) [] [] _ both rest)

more_sessions_add : (ts : List Token) (ss : List SessionText) (n m : Noted) (k : ℕ) → suc (length n.sessions) ≡ k → IsMany session.Is ts ss → Every IsKnown ts → note_all n ts ≡ Ok m → Adds n m (map (λ s. s.name) ss) (blocks_from k ss)
more_sessions_add _ _ n m k len none known e = let same : n ≡ m = cc in subst (λ (x : Noted). Adds n x [] []) same (adds_nothing n)
more_sessions_add _ _ n m k len (one_more ts front back v vs split is more) known e =
    let p = in_parts n m ts front back split e in
    let kn = known_parts ts front back split known in
    let first : Adds n p.mid (v.name ∷ []) (session_blocks k v) = subst (λ (j : ℕ). Adds n p.mid (v.name ∷ []) (session_blocks j v)) len (session_adds front v n p.mid is kn.0 p.first) in
    let count : length p.mid.sessions ≡ suc (length n.sessions) = one_session n p.mid v.name (session_blocks k v) first in
    let next : suc (length p.mid.sessions) ≡ k + 1 = omega arith in
    adds_both n p.mid m (v.name ∷ []) (map (λ s. s.name) vs) (session_blocks k v) (blocks_from (k + 1) vs) first (more_sessions_add back vs p.mid m (k + 1) next more kn.1 p.second)

pub sessions_add : (ts : List Token) (ss : List SessionText) (n m : Noted) → length n.sessions ≡ 0 → sessions.Is ts ss → Every IsKnown ts → note_all n ts ≡ Ok m → Adds n m (map (λ s. s.name) ss) (blocks_from 1 ss)
unfolding sessions
sessions_add ts ss n m len is known e =
    let next : suc (length n.sessions) ≡ 1 = omega arith in
    subst (λ (x : List SessionText). Adds n m (map (λ s. s.name) x) (blocks_from 1 x)) (sym is.value_is)
    (more_sessions_add ts (is.first ∷ is.second) n m 1 next (one_more ts is.front is.back is.first is.second is.split is.first_is is.second_is) known e)

-- ---- a permutation

-- the numbers of steps of these names
abbrev pub numbers : List Block → List (List ℕ) → List ℕ
numbers bs names = map (λ x. number_in bs x) names

numbers_more : (bs : List Block) (names : List (List ℕ)) (v : List ℕ) → numbers bs (names ++ v ∷ []) ≡ numbers bs names ++ number_in bs v ∷ []
numbers_more bs [] v = refl
numbers_more bs (x ∷ names) v = ap (λ (l : List ℕ). number_in bs x ∷ l) (numbers_more bs names v)

pub numbers_size : (bs : List Block) (names : List (List ℕ)) → length (numbers bs names) ≡ length names
numbers_size bs [] = refl
numbers_size bs (x ∷ names) = ap suc (numbers_size bs names)

pub named_more : (bs : List Block) (names : List (List ℕ)) (v : List ℕ) → named_work bs (names ++ v ∷ []) ≡ named_work bs names + work_at bs (number_in bs v)
named_more bs [] v = omega arith
named_more bs (x ∷ names) v = let e = named_more bs names v in omega (arith, e)

abbrev pub StepsFit : List (List ℕ) → Type 0
StepsFit names = length names ≤ 1000

pub record InPermutation (n m : Noted) (names : List (List ℕ)) : Type 0 where
  pub word : m.word ≡ Some words.Permutation
  pub sessions : m.sessions ≡ n.sessions
  pub blocks : m.blocks ≡ n.blocks
  pub permutations : m.permutations ≡ all_permutations n
  pub current : m.current ≡ Some (numbers n.blocks names)
  pub count : length (all_permutations n) ≤ 1000 → length (all_permutations n) + 1 ≤ 1000
  pub named : Each (IsStepName n.blocks) names
  pub steps : length names ≤ 1000
  pub work : m.work ≡ n.work + (base_work n.blocks + named_work n.blocks names)
  pub within : m.work ≤ 1000000

permutation_by : (c d : Bool) (at : ℕ) (n m : Noted) (f g : SpecFault) → (length (all_permutations n) == 1000) ≡ c → nat_lt 1000000 (n.work + base_work n.blocks) ≡ d
    → (if c then Err f else (if d then Err g else noting (record n { word = Some words.Permutation; at = at; permutations = all_permutations n; current = Some []; work = n.work + base_work n.blocks }))) ≡ Ok m → InPermutation n m []
permutation_by true d at n m f g h i e = absurd cc
permutation_by false true at n m f g h i e = absurd cc
permutation_by false false at n m f g h i e =
    let same : record n { word = Some words.Permutation; at = at; permutations = all_permutations n; current = Some []; work = n.work + base_work n.blocks } ≡ m = cc in
    subst (λ (x : Noted). InPermutation n x []) same
    (record {
      word = refl;
      sessions = refl;
      blocks = refl;
      permutations = refl;
      current = refl;
      count = λ le. let no = eqb-false (length (all_permutations n)) 1000 h in omega (arith, le, no);
      named = tt;
      steps = omega arith;
      work = omega arith;
      within = ltb-false 1000000 (n.work + base_work n.blocks) i;
    })

pub on_permutation : (l : Lexeme) (at : ℕ) (n m : Noted) → among (number (kind l)) (4 ∷ []) ≡ true → note_lexeme l at n ≡ Ok m → InPermutation n m []
on_permutation (lexemes.Word words.Setup) at n m e h = absurd (clash e refl)
on_permutation (lexemes.Word words.Teardown) at n m e h = absurd (clash e refl)
on_permutation (lexemes.Word words.Session) at n m e h = absurd (clash e refl)
on_permutation (lexemes.Word words.Step) at n m e h = absurd (clash e refl)
on_permutation (lexemes.Word words.Permutation) at n m e h = permutation_by (length (all_permutations n) == 1000) (nat_lt 1000000 (n.work + base_work n.blocks)) at n m (faults.Limit at limits.Permutations) (faults.Limit at limits.Work) refl refl h
on_permutation (lexemes.Name x) at n m e h = absurd (clash e refl)
on_permutation (lexemes.Block x) at n m e h = absurd (clash e refl)
on_permutation lexemes.OpenName at n m e h = absurd (clash e refl)
on_permutation lexemes.OpenBlock at n m e h = absurd (clash e refl)
on_permutation lexemes.Unclosed at n m e h = absurd (clash e refl)
on_permutation lexemes.Paren at n m e h = absurd (clash e refl)
on_permutation lexemes.Stray at n m e h = absurd (clash e refl)

abbrev pub with_step : Noted → ℕ → Noted
with_step n found = record n { current = Some (steps_in n.current ++ found ∷ []); work = n.work + work_at n.blocks found }

found_by : (c d : Bool) (found : ℕ) (k n m : Noted) (names : List (List ℕ)) (v : List ℕ) (f g : SpecFault) → InPermutation k n names → number_of v k.blocks ≡ Some found
    → nat_lt 1000000 (n.work + work_at n.blocks found) ≡ c → (length (steps_in n.current) == 1000) ≡ d
    → (if c then Err f else (if d then Err g else noting (with_step n found))) ≡ Ok m → InPermutation k m (names ++ v ∷ [])
found_by true d found k n m names v f g h o i j e = absurd cc
found_by false true found k n m names v f g h o i j e = absurd cc
found_by false false found k n m names v f g h o i j e =
    let same : with_step n found ≡ m = cc in
    let number : number_in k.blocks v ≡ found = ap number_or o in
    let own : work_at k.blocks (number_in k.blocks v) ≡ work_at n.blocks found = ap (λ (x : ℕ). work_at k.blocks x) number ∙ ap (λ (bs : List Block). work_at bs found) (sym h.blocks) in
    let count : length (steps_in n.current) ≡ length names = ap (λ (p : Option (List ℕ)). length (steps_in p)) h.current ∙ numbers_size k.blocks names in
    let no = eqb-false (length (steps_in n.current)) 1000 j in
    let w = h.work in
    let s = h.steps in
    subst (λ (x : Noted). InPermutation k x (names ++ v ∷ [])) same
    (record {
      word = h.word;
      sessions = h.sessions;
      blocks = h.blocks;
      permutations = h.permutations;
      current = ap (λ (p : Option (List ℕ)). Some (steps_in p ++ found ∷ [])) h.current ∙ ap (λ (x : ℕ). Some (numbers k.blocks names ++ x ∷ [])) (sym number) ∙ ap (λ (l : List ℕ). Some l) (sym (numbers_more k.blocks names v));
      count = h.count;
      named = each_append (IsStepName k.blocks) names (v ∷ []) h.named (ap is_some o, tt);
      steps = omega (arith, no, count, s, length-append names (v ∷ []));
      work = omega (arith, w, own, named_more k.blocks names v);
      within = ltb-false 1000000 (n.work + work_at n.blocks found) i;
    })

named_by : (o : Option ℕ) (at : ℕ) (k n m : Noted) (names : List (List ℕ)) (v : List ℕ) → InPermutation k n names → number_of v k.blocks ≡ o → note_named o at n ≡ Ok m → InPermutation k m (names ++ v ∷ [])
named_by None at k n m names v h o e = absurd cc
named_by (Some found) at k n m names v h o e =
    found_by (nat_lt 1000000 (n.work + work_at n.blocks found)) (length (steps_in n.current) == 1000) found k n m names v (faults.Limit n.at limits.Work) (faults.Limit at limits.Steps) h o refl refl e

pub name_in_permutation : (ts : List Token) (v : List ℕ) (k n m : Noted) (names : List (List ℕ)) → InPermutation k n names → name.Is ts v → Every IsKnown ts → note_all n ts ≡ Ok m → InPermutation k m (names ++ v ∷ [])
name_in_permutation ts v k n m names h is known e =
    let named = after_name ts v n m is known e in
    let given : note_named (number_of v n.blocks) named.at n ≡ Ok m = ap (λ (o : Option Word). note_name o v named.at n) (sym h.word) ∙ named.gives in
    named_by (number_of v n.blocks) named.at k n m names v h (ap (λ (bs : List Block). number_of v bs) (sym h.blocks)) given

names_in_permutation : (ts : List Token) (vs : List (List ℕ)) (k n m : Noted) (names : List (List ℕ)) → InPermutation k n names → IsMany name.Is ts vs → Every IsKnown ts → note_all n ts ≡ Ok m
    → InPermutation k m (names ++ vs)
names_in_permutation _ _ k n m names h none known e =
    let same : n ≡ m = cc in
    subst (λ (x : Noted). InPermutation k x (names ++ [])) same (subst (λ (l : List (List ℕ)). InPermutation k n l) (sym (append-nil names)) h)
names_in_permutation _ _ k n m names h (one_more ts front back v vs split is more) known e =
    let q = in_parts n m ts front back split e in
    let kn = known_parts ts front back split known in
    let first = name_in_permutation front v k n q.mid names h is kn.0 q.first in
    subst (λ (l : List (List ℕ)). InPermutation k m l) (append_assoc names (v ∷ []) vs)
    (names_in_permutation back vs k q.mid m (names ++ v ∷ []) first more kn.1 q.second)

pub permutation_adds : (ts : List Token) (vs : List (List ℕ)) (n m : Noted) → permutation.Is ts vs → Every IsKnown ts → note_all n ts ≡ Ok m → InPermutation n m vs
unfolding permutation
permutation_adds ts vs n m is k e =
    let p = in_parts n m ts is.front is.back is.split e in
    let known = known_parts ts is.front is.back is.split k in
    let w = on_permutation is.first_is.token.lexeme is.first_is.token.start n p.mid is.first_is.kind_is (alone n p.mid is.front is.first_is.token is.first_is.alone p.first) in
    let b = is.second_is in
    let all : IsMany name.Is is.back (b.first ∷ b.second) = one_more is.back b.front b.back b.first b.second b.split b.first_is b.second_is in
    subst (λ (x : List (List ℕ)). InPermutation n m x) (sym (is.value_is ∙ b.value_is))
    (names_in_permutation is.back (b.first ∷ b.second) n p.mid m [] w all known.1 p.second)

-- permutations of these names, and nothing else
pub record Permutes (n m : Noted) (vs : List (List (List ℕ))) : Type 0 where
  pub sessions : m.sessions ≡ n.sessions
  pub blocks : m.blocks ≡ n.blocks
  pub permutations : all_permutations m ≡ all_permutations n ++ map (numbers n.blocks) vs
  pub count : length (all_permutations n) ≤ 1000 → length (all_permutations m) ≤ 1000
  pub named : Each (λ names. Each (IsStepName n.blocks) names) vs
  pub steps : Each StepsFit vs
  pub work : m.work ≡ n.work + all_work n.blocks vs
  pub within : n.work ≤ 1000000 → m.work ≤ 1000000

pub permuted : (n m : Noted) (names : List (List ℕ)) → InPermutation n m names → Permutes n m (names ∷ [])
permuted n m names h =
    let all : all_permutations m ≡ all_permutations n ++ numbers n.blocks names ∷ [] =
    ap (λ (o : Option (List ℕ)). m.permutations ++ begun_ones o) h.current ∙ ap (λ (l : List (List ℕ)). l ++ numbers n.blocks names ∷ []) h.permutations in
    let w = h.work in
    record {
      sessions = h.sessions;
      blocks = h.blocks;
      permutations = all;
      count = λ le. let one = h.count le in omega (arith, one, ap length all, length-append (all_permutations n) (numbers n.blocks names ∷ []));
      named = (h.named, tt);
      steps = (h.steps, tt);
      work = omega (arith, w);
      within = λ le. h.within;
    }

permutations_add : (ts : List Token) (vs : List (List (List ℕ))) (n m : Noted) → IsMany permutation.Is ts vs → Every IsKnown ts → note_all n ts ≡ Ok m → Permutes n m vs
permutations_add _ _ n m none known e =
    let same : n ≡ m = cc in
    subst (λ (x : Noted). Permutes n x []) same
    (record { sessions = refl; blocks = refl; permutations = sym (append-nil (all_permutations n)); count = λ h. h; named = tt; steps = tt; work = omega arith; within = λ h. h })
permutations_add _ _ n m (one_more ts front back v vs split is more) known e =
    let q = in_parts n m ts front back split e in
    let kn = known_parts ts front back split known in
    let first = permuted n q.mid v (permutation_adds front v n q.mid is kn.0 q.first) in
    let rest = permutations_add back vs q.mid m more kn.1 q.second in
    let w : m.work ≡ q.mid.work + all_work n.blocks vs = rest.work ∙ ap (λ (bs : List Block). q.mid.work + all_work bs vs) first.blocks in
    let v1 = first.work in
    record {
      sessions = rest.sessions ∙ first.sessions;
      blocks = rest.blocks ∙ first.blocks;
      permutations = rest.permutations ∙ ap (λ (bs : List Block). all_permutations q.mid ++ map (numbers bs) vs) first.blocks
          ∙ ap (λ (l : List (List ℕ)). l ++ map (numbers n.blocks) vs) first.permutations
          ∙ append_assoc (all_permutations n) (numbers n.blocks v ∷ []) (map (numbers n.blocks) vs);
      count = λ le. rest.count (first.count le);
      named = (first.named.0, subst (λ (bs : List Block). Each (λ (names : List (List ℕ)). Each (IsStepName bs) names) vs) first.blocks rest.named);
      steps = (first.steps.0, rest.steps);
      work = omega (arith, w, v1);
      within = λ le. rest.within (first.within le);
    }

-- ---- a file

record Says (m : Noted) (setups : List (List ℕ)) (teardown : Option (List ℕ)) (ss : List SessionText) (vs : List (List (List ℕ))) : Type 0 where
  pub sessions : m.sessions ≡ map (λ s. s.name) ss
  pub blocks : m.blocks ≡ map setup_block setups ++ (one_block parts.Teardown 0 teardown ++ blocks_from 1 ss)
  pub permutations : all_permutations m ≡ map (λ names. map (λ x. number_in m.blocks x) names) vs

abbrev spec_with : List (List ℕ) → List Block → List (List ℕ) → Spec
spec_with ss bs ps = record { sessions = ss; blocks = bs; permutations = ps }

says_file : (m : Noted) (f : File) → Says m f.setups f.teardown f.sessions f.permutations → spec_noted m ≡ spec_of f
says_file m f h =
    let perms : all_permutations m ≡ map (λ names. map (λ x. number_in (blocks_of f) x) names) f.permutations =
    h.permutations ∙ ap (λ (bs : List Block). map (λ names. map (λ x. number_in bs x) names) f.permutations) h.blocks in
    ap (λ (ss : List (List ℕ)). spec_with ss m.blocks (all_permutations m)) h.sessions
    ∙ ap (λ (bs : List Block). spec_with (map (λ s. s.name) f.sessions) bs (all_permutations m)) h.blocks
    ∙ ap (λ (ps : List (List ℕ)). spec_with (map (λ s. s.name) f.sessions) (blocks_of f) ps) perms

-- what the notes on a whole file give: its spec, and that it keeps the rules
pub record Tells (m : Noted) (f : File) : Type 0 where
  pub spec : spec_noted m ≡ spec_of f
  pub keeps : Keeps most f

all_names : (ss : List SessionText) → length (map (λ s. s.name) ss) ≡ length ss
all_names [] = refl
all_names (s ∷ ss) = ap suc (all_names ss)

all_numbers : (bs : List Block) (vs : List (List (List ℕ))) → length (map (numbers bs) vs) ≡ length vs
all_numbers bs [] = refl
all_numbers bs (v ∷ vs) = ap suc (all_numbers bs vs)

abbrev file_with : List (List ℕ) → Option (List ℕ) → List SessionText → List (List (List ℕ)) → File
file_with setups teardown ss vs = record { setups = setups; teardown = teardown; sessions = ss; permutations = vs }

tells : (q m : Noted) (setups : List (List ℕ)) (teardown : Option (List ℕ)) (ss : List SessionText) (vs : List (List (List ℕ)))
    → Adds nothing_noted q (map (λ s. s.name) ss) (map setup_block setups ++ (one_block parts.Teardown 0 teardown ++ blocks_from 1 ss)) → Permutes q m vs → Tells m (file_with setups teardown ss vs)
tells q m setups teardown ss vs all perms =
    let bs : List Block = map setup_block setups ++ (one_block parts.Teardown 0 teardown ++ blocks_from 1 ss) in
    let same : q.blocks ≡ bs = all.blocks in
    let says : Says m setups teardown ss vs = record {
      sessions = perms.sessions ∙ all.sessions;
      blocks = perms.blocks ∙ all.blocks;
      permutations = perms.permutations ∙ ap (λ (x : List (List ℕ)). x ++ map (numbers q.blocks) vs) all.permutations
          ∙ ap (λ (l : List Block). map (numbers l) vs) (sym perms.blocks);
    } in
    let none : q.work ≡ 0 = all.work in
    let total : m.work ≡ all_work bs vs = perms.work ∙ ap (λ (k : ℕ). k + all_work q.blocks vs) none ∙ zero-add (all_work q.blocks vs) ∙ ap (λ (l : List Block). all_work l vs) same in
    let few : length m.sessions ≤ 62 = subst (λ (l : List (List ℕ)). length l ≤ 62) (sym perms.sessions) (all.fits (omega arith)) in
    let few_permutations : length (all_permutations m) ≤ 1000 = perms.count (subst (λ (l : List (List ℕ)). length l ≤ 1000) (sym all.permutations) (omega arith)) in
    let within = perms.within (omega (arith, none)) in
    record {
      spec = says_file m (file_with setups teardown ss vs) says;
      keeps = record {
        differ = all.differ;
        named = subst (λ (l : List Block). Each (λ (names : List (List ℕ)). Each (IsStepName l) names) vs) same perms.named;
        sessions = omega (arith, few, ap length says.sessions, all_names ss);
        permutations = omega (arith, few_permutations, ap length says.permutations, all_numbers m.blocks vs);
        texts = all.texts;
        steps = perms.steps;
        work = omega (arith, within, total);
      };
    }

pub file_tells : (ts : List Token) (f : File) (m : Noted) → file.Is ts f → Every IsKnown ts → note_all nothing_noted ts ≡ Ok m → Tells m f
unfolding file late bodies
file_tells ts f m is known e =
    let p = in_parts nothing_noted m ts is.front is.back is.split e in
    let k = known_parts ts is.front is.back is.split known in
    let setups = main_setups is.front is.first nothing_noted p.mid refl is.first_is k.0 p.first in
    let l = is.second_is in
    let q = in_parts p.mid m is.back l.front l.back l.split p.second in
    let kl = known_parts is.back l.front l.back l.split k.1 in
    let down = main_teardown l.front l.first p.mid q.mid (same_count nothing_noted p.mid _ setups) l.first_is kl.0 q.first in
    let b = l.second_is in
    let r = in_parts q.mid m l.back b.front b.back b.split q.second in
    let kb = known_parts l.back b.front b.back b.split kl.1 in
    let none_yet : length q.mid.sessions ≡ 0 = same_count p.mid q.mid _ down ∙ same_count nothing_noted p.mid _ setups in
    let sessions = sessions_add b.front b.first q.mid r.mid none_yet b.first_is kb.0 r.first in
    let perms = permutations_add b.back b.second r.mid m b.second_is kb.1 r.second in
    let all : Adds nothing_noted r.mid (map (λ s. s.name) b.first) (map setup_block is.first ++ (one_block parts.Teardown 0 l.first ++ blocks_from 1 b.first)) =
    adds_both nothing_noted p.mid r.mid [] _ _ _ setups (adds_both p.mid q.mid r.mid [] _ _ _ down sessions) in
    let value : f ≡ file_with is.first l.first b.first b.second =
    is.value_is ∙ ap (λ (x : Option (List ℕ) × (List SessionText × List (List (List ℕ)))). file_of is.first x) l.value_is
    ∙ ap (λ (x : List SessionText × List (List (List ℕ))). file_of is.first (l.first, x)) b.value_is in
    subst (λ (x : File). Tells m x) (sym value) (tells r.mid m is.first l.first b.first b.second all perms)

pub spec_is : (ts : List Token) (f : File) (m : Noted) → file.Is ts f → Every IsKnown ts → note_all nothing_noted ts ≡ Ok m → spec_noted m ≡ spec_of f
spec_is ts f m is known e = (file_tells ts f m is known e).spec
