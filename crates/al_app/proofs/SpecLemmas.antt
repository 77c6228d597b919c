-- A spec of a file, and its blocks.
use Rattle.std.proofs.Common.{◌≡◌, ℕ, zero, suc, ◌+◌, ◌<◌, ◌≤◌, List, [], ◌∷◌, ◌++◌, length, take, refl, sym, ap, subst, Some, None, true, false, arith, ◌∙◌, slice_get, option_map}
use Rattle.std.specs.List.{AllByRecursion}
use Rattle.al_spec.specs.Keeps.{Each}
use Rattle.al_spec.specs.declared.spec.Part.{Part}
use Rattle.al_spec.specs.declared.spec.Part.TheVariants as parts
use Rattle.al_spec.specs.declared.spec.Block.{Block}
use Rattle.al_spec.specs.declared.spec.Spec.{Spec}
use Rattle.al_history.specs.declared.statement.ScriptBlock.{ScriptBlock}
use Rattle.al_history.specs.declared.statement.Scripts.{Scripts}
use Rattle.al_history.specs.Whole.{is_setup, is_teardown, session_for, of_setup}
use Rattle.al_engine.specs.Ran.{IsOfSession, AreOfSessions}
use Rattle.al_spec.specs.Sound.{PartFits, BlockFits, IsStepAt, IsSound}
use Rattle.al_app.specs.Scripts.{EachWith, IsScriptOf}
use Rattle.al_app.specs.Runs.{IsRunnable}

pub all_at : {A : Type 0} (P : A → Type 0) (items : List A) (at : ℕ) (item : A) → Each P items → slice_get items at ≡ Some item → P item
all_at P [] at item all is = absurd cc
all_at P (i ∷ items) zero item all is = let e : i ≡ item = cc in subst P e all.0
all_at P (i ∷ items) (suc at) item all is = all_at P items at item all.1 is

-- ---- sessions

known_of : (part : Part) (sessions s : ℕ) → PartFits sessions part s → s ≤ sessions
known_of parts.Setup sessions s is = omega (arith, is)
known_of parts.Teardown sessions s is = omega (arith, is)
known_of parts.SessionSetup sessions s is = is.1
known_of parts.Step sessions s is = is.1
known_of parts.SessionTeardown sessions s is = is.1

pub block_known : (spec : Spec) (number : ℕ) (block : Block) → IsSound spec → slice_get spec.blocks number ≡ Some block → block.session ≤ length spec.sessions
block_known spec number block sound there = known_of block.part (length spec.sessions) block.session (all_at (BlockFits (length spec.sessions)) spec.blocks number block sound.blocks there)

control_of : (part : Part) (sessions s : ℕ) → PartFits sessions part s → is_teardown part ≡ true → s ≡ 0
control_of parts.Setup sessions s is test = is
control_of parts.Teardown sessions s is test = is
control_of parts.SessionSetup sessions s is test = absurd cc
control_of parts.Step sessions s is test = absurd cc
control_of parts.SessionTeardown sessions s is test = absurd cc

-- the main teardown block is given to the control session
pub teardown_session : (spec : Spec) (number : ℕ) (block : Block) → IsSound spec → slice_get spec.blocks number ≡ Some block → is_teardown block.part ≡ true → block.session ≡ 0
teardown_session spec number block sound there test = control_of block.part (length spec.sessions) block.session (all_at (BlockFits (length spec.sessions)) spec.blocks number block sound.blocks there) test

-- the session that a block of the spec is given to
pub session_of_block : (spec : Spec) (number : ℕ) (block : Block) → slice_get spec.blocks number ≡ Some block → session_for spec number ≡ block.session
session_of_block spec number block there = rw there refl

-- ---- scripts

each_at : (blocks : List Block) (scripts : List ScriptBlock) (number : ℕ) (block : Block) → EachWith IsScriptOf blocks scripts → slice_get blocks number ≡ Some block → option_map (λ (b : ScriptBlock). b.session) (slice_get scripts number) ≡ Some block.session
each_at [] scripts number block each there = absurd cc
each_at (b ∷ blocks) [] number block each there = absurd each
each_at (b ∷ blocks) (s ∷ scripts) zero block each there = let e : b ≡ block = cc in rw (each.0.session, e) refl
each_at (b ∷ blocks) (s ∷ scripts) (suc number) block each there = each_at blocks scripts number block each.1 there

-- a block of the spec may be given to its session
pub of_session_at : (spec : Spec) (scripts : Scripts) (number : ℕ) (block : Block) → IsRunnable spec scripts → slice_get spec.blocks number ≡ Some block → option_map (λ (b : ScriptBlock). b.session) (slice_get scripts.blocks number) ≡ Some block.session
of_session_at spec scripts number block runnable there = each_at spec.blocks scripts.blocks number block runnable.are_scripts.each there

-- the session of a block is one of the run's
pub session_known : (spec : Spec) (scripts : Scripts) (number : ℕ) (block : Block) → IsRunnable spec scripts → slice_get spec.blocks number ≡ Some block → block.session < scripts.sessions
session_known spec scripts number block runnable there = omega (arith, block_known spec number block runnable.sound there, runnable.are_scripts.sessions)

all_known : (sessions : ℕ) (blocks : List Block) (scripts : List ScriptBlock) (all : ℕ) → all ≡ sessions + 1 → Each (BlockFits sessions) blocks → EachWith IsScriptOf blocks scripts → AllByRecursion (IsOfSession all) scripts
all_known sessions [] [] all n placed each = tt
all_known sessions [] (s ∷ scripts) all n placed each = absurd each
all_known sessions (b ∷ blocks) [] all n placed each = absurd each
all_known sessions (b ∷ blocks) (s ∷ scripts) all n placed each =
    let le = known_of b.part sessions b.session placed.0 in
    let same = each.0.session in
    (omega (arith, le, n, same), all_known sessions blocks scripts all n placed.1 each.1)

-- the sessions of all blocks are the run's
pub are_of_sessions : (spec : Spec) (scripts : Scripts) → IsRunnable spec scripts → AreOfSessions scripts
are_of_sessions spec scripts runnable = all_known (length spec.sessions) spec.blocks scripts.blocks scripts.sessions runnable.are_scripts.sessions runnable.sound.blocks runnable.are_scripts.each

-- ---- parts

pub of_setup_not : (spec : Spec) (number : ℕ) (block : Block) → slice_get spec.blocks number ≡ Some block → is_setup block.part ≡ false → of_setup spec (Some number) ≡ None
of_setup_not spec number block there part = rw (there, part) refl

pub of_setup_is : (spec : Spec) (number : ℕ) (block : Block) → slice_get spec.blocks number ≡ Some block → is_setup block.part ≡ true → of_setup spec (Some number) ≡ Some number
of_setup_is spec number block there part = rw (there, part) refl

-- a step of a permutation
pub step_not_setup : (spec : Spec) (steps : List ℕ) (at step : ℕ) (block : Block) → Each (IsStepAt spec.blocks) steps → slice_get steps at ≡ Some step → slice_get spec.blocks step ≡ Some block → of_setup spec (Some step) ≡ None
step_not_setup spec steps at step block all is there =
    let named = all_at (IsStepAt spec.blocks) steps at step all is in
    let same : named.block ≡ block = let e : Some named.block ≡ Some block = sym named.there ∙ there in cc in
    let part : block.part ≡ parts.Step = subst (λ (b : Block). b.part ≡ parts.Step) same named.step in
    of_setup_not spec step block there (rw part refl)

-- ---- two lists, with one item more at the end of each

pub each_more : {A B : Type 0} (R : A → B → Type 0) (xs : List A) (ys : List B) (x : A) (y : B) → EachWith R xs ys → R x y → EachWith R (xs ++ x ∷ []) (ys ++ y ∷ [])
each_more R [] [] x y each is = (is, tt)
each_more R [] (b ∷ ys) x y each is = absurd each
each_more R (a ∷ xs) [] x y each is = absurd each
each_more R (a ∷ xs) (b ∷ ys) x y each is = (each.0, each_more R xs ys x y each.1 is)

pub take_with : {T : Type 0} (items : List T) (at : ℕ) (item : T) → slice_get items at ≡ Some item → take (at + 1) items ≡ take at items ++ item ∷ []
take_with {T} [] at item is = absurd cc
take_with {T} (i ∷ items) zero item is = let e : i ≡ item = cc in rw e refl
take_with {T} (i ∷ items) (suc at) item is = let n : suc at + 1 ≡ suc (at + 1) = omega arith in rw n (ap (λ (xs : List T). i ∷ xs) (take_with items at item is))
