-- The spec of every file that keeps the rules is sound.
use Rattle.std.proofs.Common.{◌≡◌, ℕ, suc, ◌+◌, ◌≤◌, ◌<◌, ◌^◌, Bool, true, false, List, [], ◌∷◌, ◌++◌, length, Option, Some, None, refl, sym, ap, arith, subst}
use Rattle.std.specs.Prelude.{if◌then◌else◌, ◌&&◌, map, is_some, bytes_eq}
use Rattle.al_grammar.proofs.FirstTokens.{clash}
use Rattle.al_spec.specs.declared.spec.Part.{Part}
use Rattle.al_spec.specs.declared.spec.Part.TheVariants as parts
use Rattle.al_spec.specs.declared.spec.Block.{Block}
use Rattle.al_spec.specs.declared.spec.Spec.{Spec}
use Rattle.al_spec.specs.Grammar.{File, SessionText, StepText}
use Rattle.al_spec.specs.Notes.{is_step, number_from, number_of, number_or}
use Rattle.al_spec.specs.Meaning.{number_in, one_block, setup_block, step_block, session_blocks, blocks_from, blocks_of, spec_of}
use Rattle.al_spec.specs.Keeps.{Each, Keeps, IsStepName, limits}
use Rattle.al_spec.specs.Sound.{BlockFits, IsStepAt, is_setup, IsSound}
use Rattle.al_spec.proofs.Values.{each_append}

-- ---- a step's number

part_of_step : (p : Part) → is_step p ≡ true → p ≡ parts.Step
part_of_step parts.Setup e = absurd (clash e refl)
part_of_step parts.SessionSetup e = absurd (clash e refl)
part_of_step parts.Step e = refl
part_of_step parts.SessionTeardown e = absurd (clash e refl)
part_of_step parts.Teardown e = absurd (clash e refl)

both_first : (a b : Bool) → (a && b) ≡ true → a ≡ true
both_first true b e = refl
both_first false b e = absurd (clash e refl)

-- a step of these blocks, counted from a number on
record FoundFrom (base : ℕ) (blocks : List Block) (i : ℕ) : Type 0 where
  place : ℕ
  counted : i ≡ base + place
  found : IsStepAt blocks place

found_by : (base : ℕ) (name : List ℕ) (b : Block) (bs : List Block) (i : ℕ) (t : Bool) → (is_step b.part && bytes_eq name b.name) ≡ t
    → (number_from (base + 1) name bs ≡ Some i → FoundFrom (base + 1) bs i) → (if t then Some base else number_from (base + 1) name bs) ≡ Some i → FoundFrom base (b ∷ bs) i
found_by base name b bs i true h more e =
    let same : base ≡ i = cc in
    record { place = 0; counted = omega arith; found = record { block = b; there = refl; step = part_of_step b.part (both_first (is_step b.part) _ h) } }
found_by base name b bs i false h more e =
    let f = more e in
    let counted = f.counted in
    record { place = suc f.place; counted = omega arith; found = record { block = f.found.block; there = f.found.there; step = f.found.step } }

found_from : (base : ℕ) (name : List ℕ) (blocks : List Block) (i : ℕ) → number_from base name blocks ≡ Some i → FoundFrom base blocks i
found_from base name [] i e = absurd cc
found_from base name (b ∷ bs) i e = found_by base name b bs i (is_step b.part && bytes_eq name b.name) refl (λ h. found_from (base + 1) name bs i h) e

at_number_by : (blocks : List Block) (name : List ℕ) (o : Option ℕ) → number_of name blocks ≡ o → is_some o ≡ true → IsStepAt blocks (number_or o)
at_number_by blocks name None h e = absurd (clash e refl)
at_number_by blocks name (Some i) h e =
    let f = found_from 0 name blocks i h in
    let counted = f.counted in
    let same : f.place ≡ i = omega arith in
    subst (λ (n : ℕ). IsStepAt blocks n) same f.found

at_numbers : (blocks : List Block) (names : List (List ℕ)) → Each (IsStepName blocks) names → Each (IsStepAt blocks) (map (λ name. number_in blocks name) names)
at_numbers blocks [] h = tt
at_numbers blocks (name ∷ names) h = (at_number_by blocks name (number_of name blocks) refl h.0, at_numbers blocks names h.1)

all_at_numbers : (blocks : List Block) (vs : List (List (List ℕ))) → Each (λ names. Each (IsStepName blocks) names) vs
    → Each (λ numbers. Each (IsStepAt blocks) numbers) (map (λ names. map (λ name. number_in blocks name) names) vs)
all_at_numbers blocks [] h = tt
all_at_numbers blocks (v ∷ vs) h = (at_numbers blocks v h.0, all_at_numbers blocks vs h.1)

-- ---- parts and sessions

abbrev Fit : ℕ → List Block → Type 0
Fit count blocks = Each (BlockFits count) blocks

fit_setups : (count : ℕ) (vs : List (List ℕ)) → Fit count (map setup_block vs)
fit_setups count [] = tt
fit_setups count (v ∷ vs) = (refl, fit_setups count vs)

fit_teardown : (count : ℕ) (o : Option (List ℕ)) → Fit count (one_block parts.Teardown 0 o)
fit_teardown count None = tt
fit_teardown count (Some v) = (refl, tt)

fit_setup_of : (count k : ℕ) (o : Option (List ℕ)) → 1 ≤ k → k ≤ count → Fit count (one_block parts.SessionSetup k o)
fit_setup_of count k None a b = tt
fit_setup_of count k (Some v) a b = ((a, b), tt)

fit_teardown_of : (count k : ℕ) (o : Option (List ℕ)) → 1 ≤ k → k ≤ count → Fit count (one_block parts.SessionTeardown k o)
fit_teardown_of count k None a b = tt
fit_teardown_of count k (Some v) a b = ((a, b), tt)

fit_steps : (count k : ℕ) (ss : List StepText) → 1 ≤ k → k ≤ count → Fit count (map (step_block k) ss)
fit_steps count k [] a b = tt
fit_steps count k (s ∷ ss) a b = ((a, b), fit_steps count k ss a b)

fit_sessions : (count k : ℕ) (ss : List SessionText) → 1 ≤ k → k + length ss ≤ count + 1 → Fit count (blocks_from k ss)
fit_sessions count k [] a b = tt
fit_sessions count k (s ∷ ss) a b =
    let within : k ≤ count = omega (arith, b) in
    let more : k + 1 + length ss ≤ count + 1 = omega (arith, b) in
    each_append (BlockFits count) (session_blocks k s) (blocks_from (k + 1) ss)
    (each_append (BlockFits count) (one_block parts.SessionSetup k s.setup) _ (fit_setup_of count k s.setup a within)
    (each_append (BlockFits count) (map (step_block k) s.steps) _ (fit_steps count k s.steps a within) (fit_teardown_of count k s.teardown a within)))
    (fit_sessions count (k + 1) ss (omega (arith, a)) more)

fit_file : (f : File) → Fit (length f.sessions) (blocks_of f)
fit_file f =
    let count = length f.sessions in
    each_append (BlockFits count) (map setup_block f.setups) _ (fit_setups count f.setups)
    (each_append (BlockFits count) (one_block parts.Teardown 0 f.teardown) _ (fit_teardown count f.teardown) (fit_sessions count 1 f.sessions (omega arith) (omega arith)))

-- ---- the setup blocks come first

abbrev NoSetup : Block → Type 0
NoSetup b = is_setup b.part ≡ false

all_setups : (vs : List (List ℕ)) → Each (λ b. is_setup b.part ≡ true) (map setup_block vs)
all_setups [] = tt
all_setups (v ∷ vs) = (refl, all_setups vs)

no_setup_step : (k : ℕ) (ss : List StepText) → Each NoSetup (map (step_block k) ss)
no_setup_step k [] = tt
no_setup_step k (s ∷ ss) = (refl, no_setup_step k ss)

no_setup_one : (p : Part) (k : ℕ) (o : Option (List ℕ)) → is_setup p ≡ false → Each NoSetup (one_block p k o)
no_setup_one p k None e = tt
no_setup_one p k (Some v) e = (e, tt)

no_setup_sessions : (k : ℕ) (ss : List SessionText) → Each NoSetup (blocks_from k ss)
no_setup_sessions k [] = tt
no_setup_sessions k (s ∷ ss) =
    each_append NoSetup (session_blocks k s) (blocks_from (k + 1) ss)
    (each_append NoSetup (one_block parts.SessionSetup k s.setup) _ (no_setup_one parts.SessionSetup k s.setup refl)
    (each_append NoSetup (map (step_block k) s.steps) _ (no_setup_step k s.steps) (no_setup_one parts.SessionTeardown k s.teardown refl)))
    (no_setup_sessions (k + 1) ss)

-- ---- all of it

names_size : (ss : List SessionText) → length (map (λ s. s.name) ss) ≡ length ss
names_size [] = refl
names_size (s ∷ ss) = ap suc (names_size ss)

pub sound_file : (f : File) → Keeps limits f → length (blocks_of f) < 2 ^ 32 → IsSound (spec_of f)
sound_file f k few =
    let count : length f.sessions ≡ length (spec_of f).sessions = sym (names_size f.sessions) in
    let most = k.sessions in
    record {
      blocks = subst (λ (n : ℕ). Fit n (blocks_of f)) count (fit_file f);
      permutations = all_at_numbers (blocks_of f) f.permutations k.named;
      setups = map setup_block f.setups;
      others = one_block parts.Teardown 0 f.teardown ++ blocks_from 1 f.sessions;
      order = refl;
      setups_are = all_setups f.setups;
      others_are = each_append NoSetup (one_block parts.Teardown 0 f.teardown) _ (no_setup_one parts.Teardown 0 f.teardown refl) (no_setup_sessions 1 f.sessions);
      few_sessions = omega (arith, most, count);
      few_blocks = few;
    }

pub sound_spec : (f : File) (spec : Spec) → Keeps limits f → spec ≡ spec_of f → length spec.blocks < 2 ^ 32 → IsSound spec
sound_spec f spec k e few = subst (λ (s : Spec). IsSound s) (sym e) (sound_file f k (subst (λ (s : Spec). length s.blocks < 2 ^ 32) e few))
