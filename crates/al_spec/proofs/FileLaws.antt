-- The readers of spec files are lawful.
use Rattle.std.proofs.Common.{[], ◌∷◌, Some, refl}
use Rattle.al_grammar.specs.Rules.{optional, many}
use Rattle.al_grammar.specs.Laws.{Lawful}
use Rattle.al_grammar.proofs.Leaf.{lawful_leaf}
use Rattle.al_grammar.proofs.Pair.{lawful_pair}
use Rattle.al_grammar.proofs.Choices.{lawful_optional}
use Rattle.al_grammar.proofs.Many.{lawful_many}
use Rattle.al_spec.specs.declared.kinds.Word.TheVariants as words
use Rattle.al_spec.specs.declared.kinds.Kind.TheVariants as kinds
use Rattle.al_spec.specs.declared.kinds.Lexeme.{Lexeme}
use Rattle.al_spec.specs.declared.kinds.Lexeme.TheVariants as lexemes
use Rattle.al_spec.specs.declared.kinds.Token.{Token}
use Rattle.al_spec.specs.Grammar.{kind_of, number, name_in, text_in, word, name, block, block_after, step, steps, session_end, session_parts, session_of, session, sessions, permutation, bodies, late, file, file_of, step_shape, session_shape, permutation_shape, step_of}

abbrev token_of : Lexeme → Token
token_of l = record { lexeme = l; start = 0 }

lawful_setup_word : Lawful kind_of (word kinds.Setup)
lawful_setup_word = lawful_leaf Token _ kind_of (number kinds.Setup ∷ []) (λ t. Some tt) (token_of (lexemes.Word words.Setup)) tt refl refl

lawful_teardown_word : Lawful kind_of (word kinds.Teardown)
lawful_teardown_word = lawful_leaf Token _ kind_of (number kinds.Teardown ∷ []) (λ t. Some tt) (token_of (lexemes.Word words.Teardown)) tt refl refl

lawful_session_word : Lawful kind_of (word kinds.Session)
lawful_session_word = lawful_leaf Token _ kind_of (number kinds.Session ∷ []) (λ t. Some tt) (token_of (lexemes.Word words.Session)) tt refl refl

lawful_step_word : Lawful kind_of (word kinds.Step)
lawful_step_word = lawful_leaf Token _ kind_of (number kinds.Step ∷ []) (λ t. Some tt) (token_of (lexemes.Word words.Step)) tt refl refl

lawful_permutation_word : Lawful kind_of (word kinds.Permutation)
lawful_permutation_word = lawful_leaf Token _ kind_of (number kinds.Permutation ∷ []) (λ t. Some tt) (token_of (lexemes.Word words.Permutation)) tt refl refl

pub lawful_name : Lawful kind_of name
lawful_name = lawful_leaf Token _ kind_of (number kinds.Name ∷ []) (λ t. name_in t.lexeme) (token_of (lexemes.Name [])) [] refl refl

pub lawful_block : Lawful kind_of block
lawful_block = lawful_leaf Token _ kind_of (number kinds.Block ∷ []) (λ t. text_in t.lexeme) (token_of (lexemes.Block [])) [] refl refl

pub lawful_setup : Lawful kind_of (block_after kinds.Setup)
unfolding block_after
lawful_setup = lawful_pair _ _ _ _ _ _ kind_of (word kinds.Setup) block (λ u v. v) lawful_setup_word lawful_block refl

pub lawful_teardown : Lawful kind_of (block_after kinds.Teardown)
unfolding block_after
lawful_teardown = lawful_pair _ _ _ _ _ _ kind_of (word kinds.Teardown) block (λ u v. v) lawful_teardown_word lawful_block refl

pub lawful_step : Lawful kind_of step
unfolding step
lawful_step = lawful_pair _ _ _ _ _ _ kind_of _ _ (λ u v. v) lawful_step_word (lawful_pair _ _ _ _ _ _ kind_of name block step_of lawful_name lawful_block refl) refl

lawful_more_steps : Lawful kind_of (many kind_of step)
lawful_more_steps = lawful_many _ _ step_shape kind_of step lawful_step refl refl

pub lawful_steps : Lawful kind_of steps
unfolding steps
lawful_steps = lawful_pair _ _ _ _ _ _ kind_of step (many kind_of step) (λ x xs. x ∷ xs) lawful_step lawful_more_steps refl

pub lawful_session_end : Lawful kind_of session_end
unfolding session_end
lawful_session_end = lawful_pair _ _ _ _ _ _ kind_of steps (optional kind_of (block_after kinds.Teardown)) (λ x y. (x, y)) lawful_steps (lawful_optional _ _ _ kind_of (block_after kinds.Teardown) lawful_teardown refl) refl

pub lawful_session_parts : Lawful kind_of session_parts
unfolding session_parts
lawful_session_parts = lawful_pair _ _ _ _ _ _ kind_of (optional kind_of (block_after kinds.Setup)) session_end (λ x y. (x, y)) (lawful_optional _ _ _ kind_of (block_after kinds.Setup) lawful_setup refl) lawful_session_end refl

pub lawful_session : Lawful kind_of session
unfolding session
lawful_session = lawful_pair _ _ _ _ _ _ kind_of _ _ (λ u v. v) lawful_session_word (lawful_pair _ _ _ _ _ _ kind_of name session_parts session_of lawful_name lawful_session_parts refl) refl

pub lawful_sessions : Lawful kind_of sessions
unfolding sessions
lawful_sessions = lawful_pair _ _ _ _ _ _ kind_of session (many kind_of session) (λ x xs. x ∷ xs) lawful_session (lawful_many _ _ session_shape kind_of session lawful_session refl refl) refl

pub lawful_permutation : Lawful kind_of permutation
unfolding permutation
lawful_permutation = lawful_pair _ _ _ _ _ _ kind_of _ _ (λ u v. v) lawful_permutation_word (lawful_pair _ _ _ _ _ _ kind_of name (many kind_of name) (λ x xs. x ∷ xs) lawful_name (lawful_many _ _ _ kind_of name lawful_name refl refl) refl) refl

pub lawful_bodies : Lawful kind_of bodies
unfolding bodies
lawful_bodies = lawful_pair _ _ _ _ _ _ kind_of sessions (many kind_of permutation) (λ x y. (x, y)) lawful_sessions (lawful_many _ _ permutation_shape kind_of permutation lawful_permutation refl refl) refl

pub lawful_late : Lawful kind_of late
unfolding late
lawful_late = lawful_pair _ _ _ _ _ _ kind_of (optional kind_of (block_after kinds.Teardown)) bodies (λ x y. (x, y)) (lawful_optional _ _ _ kind_of (block_after kinds.Teardown) lawful_teardown refl) lawful_bodies refl

pub lawful_file : Lawful kind_of file
unfolding file
lawful_file = lawful_pair _ _ _ _ _ _ kind_of (many kind_of (block_after kinds.Setup)) late file_of (lawful_many _ _ _ kind_of (block_after kinds.Setup) lawful_setup refl refl) lawful_late refl
