-- Small spec files: what is read, which faults others have, and each limit from both sides.
use Rattle.std.proofs.Common.{◌≡◌, ℕ, true, false, List, [], ◌∷◌, Some, None, Ok, Err, refl, arith}
use Rattle.std.specs.Prelude.{codes}
use Rattle.al_spec.specs.declared.kinds.Word.{Word}
use Rattle.al_spec.specs.declared.kinds.Word.TheVariants.{Setup, Teardown, Session, Step, Permutation}
use Rattle.al_spec.specs.declared.kinds.Lexeme.TheVariants as lexemes
use Rattle.al_spec.specs.declared.kinds.Token.{Token}
use Rattle.al_spec.specs.declared.spec.Part.{Part}
use Rattle.al_spec.specs.declared.spec.Part.TheVariants as parts
use Rattle.al_spec.specs.declared.spec.Block.{Block}
use Rattle.al_spec.specs.declared.spec.SpecFault.TheVariants.{Syntax, Marker, TwoSteps, NoStep}
use Rattle.al_spec.specs.Grammar.{file, File, block_after, step, steps, session_end, session_parts, session, sessions, permutation, bodies, late}
use Rattle.al_spec.specs.Notes.{base_work}
use Rattle.al_spec.specs.Meaning.{blocks_of}
use Rattle.al_spec.specs.Keeps.{Limits, Keeps}
use Rattle.al_spec.specs.Files.{answer}
use Rattle.al_spec.specs.Tokens.{word_of, is_plain}

-- ---- texts, by their tokens

abbrev word : Word → ℕ → Token
word w start = record { lexeme = lexemes.Word w; start = start }

abbrev name : List ℕ → ℕ → Token
name n start = record { lexeme = lexemes.Name n; start = start }

abbrev block : List ℕ → ℕ → Token
block text start = record { lexeme = lexemes.Block text; start = start }

-- a, b and s
abbrev a : List ℕ
a = 97 ∷ []

abbrev b : List ℕ
b = 98 ∷ []

abbrev s : List ℕ
s = 115 ∷ []

abbrev own : Part → ℕ → List ℕ → List ℕ → Block
own part session n text = record { part = part; session = session; name = n; text = text }

-- session s step a {A}
abbrev small : List Token
small = word Session 0 ∷ name s 8 ∷ word Step 10 ∷ name a 15 ∷ block (65 ∷ []) 17 ∷ []

pub read_small : answer small 20 ≡ Ok (record { sessions = s ∷ []; blocks = own parts.Step 1 a (65 ∷ []) ∷ []; permutations = [] })
unfolding file late bodies sessions session session_parts session_end steps step block_after permutation
read_small = refl

-- setup {} teardown {} session s setup {} step a {} teardown {} session s step b {} permutation b a b permutation a
abbrev full : List Token
full =
    word Setup 0 ∷ block [] 6 ∷ word Teardown 9 ∷ block [] 18 ∷ word Session 21 ∷ name s 29 ∷ word Setup 31 ∷ block [] 37 ∷ word Step 40 ∷ name a 45 ∷ block [] 47 ∷ word Teardown 50
    ∷ block [] 59 ∷ word Session 62 ∷ name s 70 ∷ word Step 72 ∷ name b 77 ∷ block [] 79 ∷ word Permutation 82 ∷ name b 94 ∷ name a 96 ∷ name b 98 ∷ word Permutation 100 ∷ name a 112 ∷ []

pub read_full :
    answer full 113
    ≡ Ok
    (record {
      sessions = s ∷ s ∷ [];
      blocks = own parts.Setup 0 [] [] ∷ own parts.Teardown 0 [] [] ∷ own parts.SessionSetup 1 [] [] ∷ own parts.Step 1 a [] ∷ own parts.SessionTeardown 1 [] [] ∷ own parts.Step 2 b [] ∷ [];
      permutations = (5 ∷ 3 ∷ 5 ∷ []) ∷ (3 ∷ []) ∷ [];
    })
unfolding file late bodies sessions session session_parts session_end steps step block_after permutation
read_full = refl

-- nothing; a session without a step; a setup block behind the teardown block
pub not_empty : answer [] 0 ≡ Err (Syntax 0)
unfolding file late bodies sessions session session_parts session_end steps step block_after permutation
not_empty = refl

pub not_without_step : answer (word Session 0 ∷ name s 8 ∷ word Teardown 10 ∷ block [] 19 ∷ []) 21 ≡ Err (Syntax 10)
unfolding file late bodies sessions session session_parts session_end steps step block_after permutation
not_without_step = refl

pub not_setup_late : answer (word Teardown 0 ∷ block [] 9 ∷ word Setup 12 ∷ block [] 18 ∷ []) 20 ≡ Err (Syntax 12)
unfolding file late bodies sessions session session_parts session_end steps step block_after permutation
not_setup_late = refl

-- session s step a {A} and then a second a, a name without a step, a `(`, and a permutation without a name
pub not_twice : answer (word Session 0 ∷ name s 8 ∷ word Step 10 ∷ name a 15 ∷ block [] 17 ∷ word Step 20 ∷ name a 25 ∷ block [] 27 ∷ []) 29 ≡ Err (TwoSteps 25)
unfolding file late bodies sessions session session_parts session_end steps step block_after permutation
not_twice = refl

pub not_without_name : answer (word Session 0 ∷ name s 8 ∷ word Step 10 ∷ name a 15 ∷ block [] 17 ∷ word Permutation 20 ∷ name a 32 ∷ name b 34 ∷ []) 35 ≡ Err (NoStep 34)
unfolding file late bodies sessions session session_parts session_end steps step block_after permutation
not_without_name = refl

pub not_marked : answer (word Session 0 ∷ name s 8 ∷ word Step 10 ∷ name a 15 ∷ block [] 17 ∷ word Permutation 20 ∷ name a 32 ∷ record { lexeme = lexemes.Paren; start = 33 } ∷ []) 34 ≡ Err (Marker 33)
unfolding file late bodies sessions session session_parts session_end steps step block_after permutation
not_marked = refl

pub not_nameless : answer (word Session 0 ∷ name s 8 ∷ word Step 10 ∷ name a 15 ∷ block [] 17 ∷ word Permutation 20 ∷ []) 31 ≡ Err (Syntax 31)
unfolding file late bodies sessions session session_parts session_end steps step block_after permutation
not_nameless = refl

-- ---- limits

-- setup {;} teardown {} session s setup {} step a {;} permutation a a: work 2 and 1 and 1, and 2 and 2 more
abbrev kept_file : File
kept_file = record {
  setups = (59 ∷ []) ∷ [];
  teardown = Some [];
  sessions = record { name = s; setup = Some []; steps = record { name = a; text = 59 ∷ [] } ∷ []; teardown = None } ∷ [];
  permutations = (a ∷ a ∷ []) ∷ [];
}

pub its_fixed_work : base_work (blocks_of kept_file) ≡ 4
its_fixed_work = refl

abbrev few : Limits
few = record { sessions = 1; permutations = 1; block = 1; steps = 2; work = 8 }

pub at_the_limits : Keeps few kept_file
at_the_limits = record {
  differ = (λ e. absurd cc, (λ e. absurd cc, (λ e. absurd cc, (λ e. refl, tt))));
  named = ((refl, (refl, tt)), tt);
  sessions = omega arith;
  permutations = omega arith;
  texts = (omega arith, (omega arith, (omega arith, (omega arith, tt))));
  steps = (omega arith, tt);
  work = omega arith;
}

pub past_sessions : Keeps (record few { sessions = 0 }) kept_file → ⊥
past_sessions k = let more = k.sessions in omega (arith, more)

pub past_permutations : Keeps (record few { permutations = 0 }) kept_file → ⊥
past_permutations k = let more = k.permutations in omega (arith, more)

pub past_block : Keeps (record few { block = 0 }) kept_file → ⊥
past_block k = let more = k.texts.0 in omega (arith, more)

pub past_steps : Keeps (record few { steps = 1 }) kept_file → ⊥
past_steps k = let more = k.steps.0 in omega (arith, more)

pub past_work : Keeps (record few { work = 7 }) kept_file → ⊥
past_work k = let more = k.work in omega (arith, more)

not_some : (i : ℕ) → Some i ≡ None → ⊥
not_some i e = cc

-- a second step of one name, and a name that no step has
pub past_names : Keeps few (record kept_file { sessions = record { name = s; setup = None; steps = record { name = a; text = [] } ∷ record { name = a; text = [] } ∷ []; teardown = None } ∷ [] }) → ⊥
past_names k = not_some 2 (k.differ.1.1.1.0 refl)

pub past_named : Keeps few (record kept_file { permutations = (b ∷ []) ∷ [] }) → ⊥
past_named k = let none = k.named.0.0 in cc

-- ---- plain identifiers: a$1 and é (195, 169), and not 1a, step, a-b or nothing

pub plain_name : is_plain (97 ∷ 36 ∷ 49 ∷ []) ≡ true
unfolding word_of
plain_name = refl

pub plain_past_ascii : is_plain (195 ∷ 169 ∷ []) ≡ true
unfolding word_of
plain_past_ascii = refl

pub not_plain_digit : is_plain (49 ∷ 97 ∷ []) ≡ false
not_plain_digit = refl

pub not_plain_word : is_plain (codes "step") ≡ false
unfolding word_of
not_plain_word = refl

pub not_plain_sign : is_plain (97 ∷ 45 ∷ 98 ∷ []) ≡ false
not_plain_sign = refl

pub not_plain_nothing : is_plain [] ≡ false
not_plain_nothing = refl
