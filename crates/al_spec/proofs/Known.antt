-- The tokens of a spec file's text: none is open.
use Rattle.std.proofs.Common.{◌≡◌, ℕ, true, false, List, [], ◌∷◌, Option, Some, None, refl, sym, subst, inl, inr}
use Rattle.std.specs.Prelude.{slice_range}
use Rattle.al_grammar.specs.Kinds.{among}
use Rattle.al_grammar.proofs.FirstTokens.{clash}
use Rattle.al_grammar.proofs.Every.{Every, Keeps, every_append, every_split, keeps_leaf, keeps_pair, keeps_optional, keeps_many}
use Rattle.al_spec.specs.declared.kinds.Word.{Word}
use Rattle.al_spec.specs.declared.kinds.Kind.{Kind}
use Rattle.al_spec.specs.declared.kinds.Kind.TheVariants as kinds
use Rattle.al_spec.specs.declared.kinds.Lexeme.{Lexeme}
use Rattle.al_spec.specs.declared.kinds.Lexeme.TheVariants as lexemes
use Rattle.al_spec.specs.declared.kinds.Token.{Token}
use Rattle.al_spec.specs.Tokens.{word_of, word_or_name, plain, IsToken, Reads, here, gap, token, Tail, whole, open_name, open_block, bad_name, paren, stray, AreTokens}
use Rattle.al_spec.specs.Grammar.{kind_of, number, name_in, text_in, word, name, block, block_after, step, step_of, steps, session_end, session_parts, session_of, session, sessions, permutation, bodies, late, file, file_of, File}

-- a token that some rule takes
abbrev Taken : Token → Type 0
Taken t = kind_of t ≡ 7 → ⊥

abbrev Keeps_taken : {A : Type 0} → (List Token → A → Type 0) → Type 0
Keeps_taken Is = Keeps Token Taken Is

of_kind : (k : ℕ) (n : ℕ) → among n (k ∷ []) ≡ true → (among 7 (k ∷ []) ≡ false) → n ≡ 7 → ⊥
of_kind k n e f s = clash (subst (λ (m : ℕ). among m (k ∷ []) ≡ true) s e) f

keeps_word : (k : Kind) → among 7 (number k ∷ []) ≡ false → Keeps_taken (word k).Is
keeps_word k f = keeps_leaf Token Taken (Unit {0}) kind_of (number k ∷ []) (λ t. Some tt) (λ t e. of_kind (number k) (kind_of t) e f)

keeps_name : Keeps_taken name.Is
keeps_name = keeps_leaf Token Taken (List ℕ) kind_of (number kinds.Name ∷ []) (λ t. name_in t.lexeme) (λ t e. of_kind 5 (kind_of t) e refl)

keeps_block : Keeps_taken block.Is
keeps_block = keeps_leaf Token Taken (List ℕ) kind_of (number kinds.Block ∷ []) (λ t. text_in t.lexeme) (λ t e. of_kind 6 (kind_of t) e refl)

keeps_after : (k : Kind) → among 7 (number k ∷ []) ≡ false → Keeps_taken (block_after k).Is
unfolding block_after
keeps_after k f = keeps_pair Token Taken _ _ _ _ _ (λ u v. v) (keeps_word k f) keeps_block

keeps_step : Keeps_taken step.Is
unfolding step
keeps_step = keeps_pair Token Taken _ _ _ _ _ (λ u v. v) (keeps_word kinds.Step refl) (keeps_pair Token Taken _ _ _ _ _ step_of keeps_name keeps_block)

keeps_steps : Keeps_taken steps.Is
unfolding steps
keeps_steps = keeps_pair Token Taken _ _ _ _ _ (λ x xs. x ∷ xs) keeps_step (keeps_many Token Taken _ step.Is keeps_step)

keeps_session_end : Keeps_taken session_end.Is
unfolding session_end
keeps_session_end = keeps_pair Token Taken _ _ _ _ _ (λ x y. (x, y)) keeps_steps (keeps_optional Token Taken _ _ (keeps_after kinds.Teardown refl))

keeps_session_parts : Keeps_taken session_parts.Is
unfolding session_parts
keeps_session_parts = keeps_pair Token Taken _ _ _ _ _ (λ x y. (x, y)) (keeps_optional Token Taken _ _ (keeps_after kinds.Setup refl)) keeps_session_end

keeps_session : Keeps_taken session.Is
unfolding session
keeps_session = keeps_pair Token Taken _ _ _ _ _ (λ u v. v) (keeps_word kinds.Session refl) (keeps_pair Token Taken _ _ _ _ _ session_of keeps_name keeps_session_parts)

keeps_sessions : Keeps_taken sessions.Is
unfolding sessions
keeps_sessions = keeps_pair Token Taken _ _ _ _ _ (λ x xs. x ∷ xs) keeps_session (keeps_many Token Taken _ session.Is keeps_session)

keeps_permutation : Keeps_taken permutation.Is
unfolding permutation
keeps_permutation = keeps_pair Token Taken _ _ _ _ _ (λ u v. v) (keeps_word kinds.Permutation refl) (keeps_pair Token Taken _ _ _ _ _ (λ x xs. x ∷ xs) keeps_name (keeps_many Token Taken _ name.Is keeps_name))

keeps_bodies : Keeps_taken bodies.Is
unfolding bodies
keeps_bodies = keeps_pair Token Taken _ _ _ _ _ (λ x y. (x, y)) keeps_sessions (keeps_many Token Taken _ permutation.Is keeps_permutation)

keeps_late : Keeps_taken late.Is
unfolding late
keeps_late = keeps_pair Token Taken _ _ _ _ _ (λ x y. (x, y)) (keeps_optional Token Taken _ _ (keeps_after kinds.Teardown refl)) keeps_bodies

keeps_file : Keeps_taken file.Is
unfolding file
keeps_file = keeps_pair Token Taken _ _ _ _ _ file_of (keeps_many Token Taken _ _ (keeps_after kinds.Setup refl)) keeps_late

-- ---- no token is open

abbrev pub NotOpen : Lexeme → Type 0
NotOpen lexemes.OpenName = ⊥
NotOpen lexemes.OpenBlock = ⊥
NotOpen other = Unit {0}

abbrev pub IsKnown : Token → Type 0
IsKnown t = NotOpen t.lexeme

known_by : (o : Option Word) (bs : List ℕ) → NotOpen (word_or_name o bs)
known_by (Some w) bs = tt
known_by None bs = tt

known_plain : (bs : List ℕ) → NotOpen (plain bs)
known_plain bs = known_by (word_of bs) bs

known_token : (text : List ℕ) (i end : ℕ) (l : Lexeme) → IsToken text i end l → NotOpen l
known_token text i end l (inl a) = subst (λ (x : Lexeme). NotOpen x) (sym a.means) (known_plain (slice_range text i end))
known_token text i end l (inr (inl a)) = subst (λ (x : Lexeme). NotOpen x) (sym a.means) tt
known_token text i end l (inr (inr a)) = subst (λ (x : Lexeme). NotOpen x) (sym a.means) tt

known_reads : (text : List ℕ) (end i : ℕ) (ts : List Token) → Reads text end i ts → Every IsKnown ts
known_reads text end _ _ (here i e) = tt
known_reads text end _ _ (gap i next ts g r) = known_reads text end next ts r
known_reads text end _ _ (token l i next ts h r) = (known_token text i next l h, known_reads text end next ts r)

known_tail : (text : List ℕ) (i : ℕ) (last : List Token) → Tail text i last → Every Taken last → Every IsKnown last
known_tail text i _ (whole e) t = tt
known_tail text i _ (open_name h) t = absurd (t.1.0 refl)
known_tail text i _ (open_block h) t = absurd (t.1.0 refl)
known_tail text i _ (bad_name h) t = absurd (t.0 refl)
known_tail text i _ (paren h) t = absurd (t.0 refl)
known_tail text i _ (stray lt h) t = absurd (t.0 refl)

-- The tokens of a text of the grammar are none that is open.
pub known_file : (text : List ℕ) (ts : List Token) (v : File) → AreTokens text ts → file.Is ts v → Every IsKnown ts
known_file text ts v are is =
    let taken = (every_split Token Taken are.front are.last (subst (λ (l : List Token). Every Taken l) are.all (keeps_file ts v is))).1 in
    subst (λ (l : List Token). Every IsKnown l) (sym are.all)
    (every_append Token IsKnown are.front are.last (known_reads text are.upto 0 are.front are.reads) (known_tail text are.upto are.last are.tail taken))
