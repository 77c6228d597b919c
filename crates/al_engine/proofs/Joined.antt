-- The list of sessions, which is joined from their steps and from what is kept beside.
use Rattle.std.proofs.Common.{◌≡◌, ℕ, zero, suc, ◌+◌, ◌-◌, ◌<◌, ◌≤◌, List, [], ◌∷◌, map, length, refl, sym, ap, cond, true, false, Bool, Option, Some, None, arith, ◌∙◌, slice_get, slice_set, take, replicate, get_or, unwrap_or}
use Rattle.std.specs.Prelude.{nat_lt, if◌then◌else◌, option_and_then, IsSome}
use Rattle.std.specs.List.{list_any}
use Rattle.std.proofs.lemmas.Bool.{ltb-true, ltb-false, lt-ltb, le-ltb}
use Rattle.std.proofs.lemmas.Option.{slice_get-get_or, slice_get_past, slice_get_read}
use Rattle.al_history.specs.declared.statement.Terms.{Terms}
use Rattle.al_history.specs.Fate.{is_that}
use Rattle.al_sessions.specs.declared.block.Control.{Control}
use Rattle.al_sessions.specs.declared.block.Control.TheVariants.{Begins, EndsBlock, Other}
use Rattle.al_sessions.specs.declared.block.BlockState.{BlockState}
use Rattle.al_sessions.specs.declared.block.BlockState.TheVariants as states
use Rattle.al_sessions.specs.declared.step.InStep.{InStep}
use Rattle.al_sessions.specs.declared.step.Progress.{Progress}
use Rattle.al_sessions.specs.declared.step.Next.TheVariants.{Run, Finish}
use Rattle.al_sessions.specs.declared.step.How.{How}
use Rattle.al_sessions.specs.declared.step.How.TheVariants.{Done, Refused}
use Rattle.al_sessions.specs.Blocks.{moved, failed}
use Rattle.al_sessions.specs.Steps.{at_rest, progress_of, next_of, given as put, after, after_done}
use Rattle.al_engine.specs.declared.sessions.Block.{Block}
use Rattle.al_engine.specs.declared.sessions.Session.{Session}
use Rattle.al_engine.specs.declared.sessions.Beside.{Beside}
use Rattle.al_engine.specs.Sessions.{given, passed, stopped, onward, idle_session, light, light_of, wakened, xact_in, xacts_in, is_open_in}
use Rattle.al_engine.specs.Listed.{listed, nothing_beside, hand_in, block_in, refuse_of, joined, all_joined, controls_in, controls_at, control_in, moved_block, failed_block, IsAfterwards, IsAfter, AreControlled, KeepsControls, HasSameStep, IsFree}

-- ---- one of the sessions

pub length_joined : (ps : List Progress) (bs : List Beside) → length ps ≡ length bs → length (all_joined ps bs) ≡ length bs
length_joined [] [] same = refl
length_joined [] (b ∷ bs) same = absurd cc
length_joined (p ∷ ps) [] same = absurd cc
length_joined (p ∷ ps) (b ∷ bs) same = ap suc (length_joined ps bs (omega arith))

pub got_joined : (ps : List Progress) (bs : List Beside) (n : ℕ) (b : Beside) → length ps ≡ length bs → n < length (all_joined ps bs) → b ≡ get_or bs n b → slice_get (all_joined ps bs) n ≡ Some (joined (progress_of ps n) b)
got_joined [] bs n b same lt is = absurd (omega arith)
got_joined (p ∷ ps) [] n b same lt is = absurd (omega arith)
got_joined (p ∷ ps) (c ∷ bs) zero b same lt is = rw (← is) refl
got_joined (p ∷ ps) (c ∷ bs) (suc n) b same lt is = got_joined ps bs n b (omega arith) (omega arith) is

-- both have changed
pub set_joined : (ps : List Progress) (bs : List Beside) (n : ℕ) (p : Progress) (b : Beside) → all_joined (slice_set ps n p) (slice_set bs n b) ≡ slice_set (all_joined ps bs) n (joined p b)
set_joined [] [] n p b = refl
set_joined [] (c ∷ bs) n p b = refl
set_joined (q ∷ ps) [] zero p b = refl
set_joined (q ∷ ps) [] (suc n) p b = refl
set_joined (q ∷ ps) (c ∷ bs) zero p b = refl
set_joined (q ∷ ps) (c ∷ bs) (suc n) p b = ap (λ (ts : List Session). joined q c ∷ ts) (set_joined ps bs n p b)

-- what is kept beside has changed
pub set_beside : (ps : List Progress) (bs : List Beside) (n : ℕ) (b : Beside) → all_joined ps (slice_set bs n b) ≡ slice_set (all_joined ps bs) n (joined (progress_of ps n) b)
set_beside [] [] n b = refl
set_beside [] (c ∷ bs) n b = refl
set_beside (q ∷ ps) [] zero b = refl
set_beside (q ∷ ps) [] (suc n) b = refl
set_beside (q ∷ ps) (c ∷ bs) zero b = refl
set_beside (q ∷ ps) (c ∷ bs) (suc n) b = ap (λ (ts : List Session). joined q c ∷ ts) (set_beside ps bs n b)

pub replicate_joined : (n : ℕ) → all_joined (replicate n at_rest) (replicate n nothing_beside) ≡ replicate n idle_session
replicate_joined zero = refl
replicate_joined (suc n) = ap (λ (ts : List Session). idle_session ∷ ts) (replicate_joined n)

pub xacts_joined : (ps : List Progress) (bs : List Beside) → length ps ≡ length bs → xacts_in (all_joined ps bs) ≡ map (λ (b : Beside). b.xact) bs
xacts_joined [] [] same = refl
xacts_joined [] (b ∷ bs) same = absurd cc
xacts_joined (p ∷ ps) [] same = absurd cc
xacts_joined (p ∷ ps) (b ∷ bs) same = ap (λ (xs : List (Option ℕ)). b.xact ∷ xs) (xacts_joined ps bs (omega arith))

pub xact_joined : (ps : List Progress) (bs : List Beside) (n : ℕ) → length ps ≡ length bs → xact_in (all_joined ps bs) n ≡ unwrap_or (option_and_then (λ (b : Beside). b.xact) (slice_get bs n)) 0
xact_joined [] [] n same = refl
xact_joined [] (b ∷ bs) n same = absurd cc
xact_joined (p ∷ ps) [] n same = absurd cc
xact_joined (p ∷ ps) (b ∷ bs) zero same = refl
xact_joined (p ∷ ps) (b ∷ bs) (suc n) same = xact_joined ps bs n (omega arith)

pub open_joined : (ps : List Progress) (bs : List Beside) (x : ℕ) → length ps ≡ length bs → is_open_in (all_joined ps bs) x ≡ list_any (λ (b : Beside). is_that b.xact x) bs
open_joined [] [] x same = refl
open_joined [] (b ∷ bs) x same = absurd cc
open_joined (p ∷ ps) [] x same = absurd cc
open_joined (p ∷ ps) (b ∷ bs) x same = rw (open_joined ps bs x (omega arith)) refl

-- ---- what the statements of its step do

pub controls_got : (ps : List Progress) (n : ℕ) → get_or (map controls_in ps) n [] ≡ controls_in (progress_of ps n)
controls_got [] n = refl
controls_got (p ∷ ps) zero = refl
controls_got (p ∷ ps) (suc n) = controls_got ps n

hand_some : (step : InStep) (block : ℕ) → hand_in (next_of (Some step)) block ≡ Some block
hand_some step block = by_test (nat_lt step.done (length step.controls)) where
  by_test : (more : Bool) → hand_in (if more then Run step.done else Finish) block ≡ Some block
  by_test true = refl
  by_test false = refl

-- one session has changed: where it still has a step in hand, that is of the same block
abbrev pub HasStayed : Progress → Beside → Progress → Beside → Type 0
HasStayed p b q c = (block : ℕ) → (joined q c).hand ≡ Some block → ((joined p b).hand ≡ Some block) × (controls_in q ≡ controls_in p)

pub keeps_set : (ps : List Progress) (bs : List Beside) (n : ℕ) (q : Progress) (c : Beside) → ((b : Beside) → slice_get bs n ≡ Some b → HasStayed (progress_of ps n) b q c) → KeepsControls (listed ps bs) (listed (slice_set ps n q) (slice_set bs n c))
keeps_set [] [] n q c stayed terms held s block t got busy = held s block t got busy
keeps_set [] (b ∷ bs) n q c stayed terms held s block t got busy = held s block t got busy
keeps_set (p ∷ ps) [] zero q c stayed terms held s block t got busy = absurd cc
keeps_set (p ∷ ps) [] (suc n) q c stayed terms held s block t got busy = absurd cc
keeps_set (p ∷ ps) (b ∷ bs) zero q c stayed terms held zero block t got busy =
    let same : joined q c ≡ t = cc in
    let was = stayed b refl block (ap (λ (u : Session). u.hand) same ∙ busy) in
    rw was.1 (held zero block (joined p b) refl was.0)
keeps_set (p ∷ ps) (b ∷ bs) zero q c stayed terms held (suc s) block t got busy = held (suc s) block t got busy
keeps_set (p ∷ ps) (b ∷ bs) (suc n) q c stayed terms held zero block t got busy = held zero block t got busy
keeps_set (p ∷ ps) (b ∷ bs) (suc n) q c stayed terms held (suc s) block t got busy = keeps_set ps bs n q c stayed terms (λ r. held (suc r)) s block t got busy

pub keeps_beside : (ps : List Progress) (bs : List Beside) (n : ℕ) (c : Beside) → ((b : Beside) → slice_get bs n ≡ Some b → b.block ≡ c.block) → KeepsControls (listed ps bs) (listed ps (slice_set bs n c))
keeps_beside [] [] n c same terms held s block t got busy = held s block t got busy
keeps_beside [] (b ∷ bs) n c same terms held s block t got busy = held s block t got busy
keeps_beside (p ∷ ps) [] zero c same terms held s block t got busy = absurd cc
keeps_beside (p ∷ ps) [] (suc n) c same terms held s block t got busy = absurd cc
keeps_beside (p ∷ ps) (b ∷ bs) zero c same terms held zero block t got busy =
    let is : joined p c ≡ t = cc in
    held zero block (joined p b) refl (rw (same b refl) (ap (λ (u : Session). u.hand) is ∙ busy))
keeps_beside (p ∷ ps) (b ∷ bs) zero c same terms held (suc s) block t got busy = held (suc s) block t got busy
keeps_beside (p ∷ ps) (b ∷ bs) (suc n) c same terms held zero block t got busy = held zero block t got busy
keeps_beside (p ∷ ps) (b ∷ bs) (suc n) c same terms held (suc s) block t got busy = keeps_beside ps bs n c same terms (λ r. held (suc r)) s block t got busy

-- ---- the statement in hand is done, or refused

block_moved : (c : Control) (st : BlockState) (refuse : ℕ) → block_in (moved c st) (refuse_of (moved_block (Some c) (block_in st refuse)) refuse) ≡ moved_block (Some c) (block_in st refuse)
block_moved Begins states.Outside refuse = refl
block_moved Begins states.Open refuse = refl
block_moved Begins states.Failed refuse = refl
block_moved EndsBlock st refuse = refl
block_moved Other states.Outside refuse = refl
block_moved Other states.Open refuse = refl
block_moved Other states.Failed refuse = refl

block_same : (st : BlockState) (refuse : ℕ) → block_in st (refuse_of (block_in st refuse) refuse) ≡ block_in st refuse
block_same states.Outside refuse = refl
block_same states.Open refuse = refl
block_same states.Failed refuse = refl

block_failed : (st : BlockState) (refuse place : ℕ) → block_in (failed st) (refuse_of (failed_block place (block_in st refuse)) refuse) ≡ failed_block place (block_in st refuse)
block_failed states.Outside refuse place = refl
block_failed states.Open refuse place = refl
block_failed states.Failed refuse place = refl

-- what is kept beside then
abbrev pub beside_then : Beside → Option ℕ → Block → Beside
beside_then b x block = record { block = b.block; refuse = refuse_of block b.refuse; xact = x; looked = false; wants = None; closed = b.closed }

abbrev in_step : List Control → ℕ → BlockState → Progress
in_step controls done state = record { step = Some (record { controls = controls; done = done }); state = state }

abbrev block_then : Progress → Beside → Block
block_then p b = moved_block (control_in (controls_in p) (joined p b)) (block_in p.state b.refuse)

abbrev IsPassed : Progress → Beside → Option ℕ → Type 0
IsPassed p b x = joined (after_done p) (beside_then b x (block_then p b)) ≡ passed (record (joined p b) { xact = x; block = block_then p b })

passed_at : (controls : List Control) (done : ℕ) (st : BlockState) (b : Beside) (x : Option ℕ) → IsPassed (in_step controls done st) b x
passed_at controls done st b x = by_place (nat_lt done (length controls)) refl where
  goes : (c : Control) → slice_get controls done ≡ Some c → nat_lt done (length controls) ≡ true → (more : Bool) → nat_lt (done + 1) (length controls) ≡ more → IsPassed (in_step controls done st) b x
  goes c there lt true is =
      let far : done + 1 < length controls = ltb-true (done + 1) (length controls) is in
      let some : nat_lt 0 (length controls - done) ≡ true = lt-ltb 0 (length controls - done) (omega (arith, far)) in
      let two : nat_lt 1 (length controls - done) ≡ true = lt-ltb 1 (length controls - done) (omega (arith, far)) in
      let fewer : length controls - (done + 1) ≡ length controls - done - 1 = omega arith in
      rw (lt, is, is, some, two, there, fewer, block_moved c st b.refuse) refl
  goes c there lt false is =
      let near : length controls ≤ done + 1 = ltb-false (done + 1) (length controls) is in
      let some : nat_lt 0 (length controls - done) ≡ true = lt-ltb 0 (length controls - done) (omega (arith, ltb-true done (length controls) lt)) in
      let one : nat_lt 1 (length controls - done) ≡ false = le-ltb 1 (length controls - done) (omega (arith, near)) in
      rw (lt, is, some, one, there, block_moved c st b.refuse) refl

  by_place : (within : Bool) → nat_lt done (length controls) ≡ within → IsPassed (in_step controls done st) b x
  by_place true is = goes (get_or controls done Other) (slice_get-get_or controls done Other (ltb-true done (length controls) is)) is (nat_lt (done + 1) (length controls)) refl
  by_place false is =
      let past : length controls ≤ done = ltb-false done (length controls) is in
      let next : nat_lt (done + 1) (length controls) ≡ false = le-ltb (done + 1) (length controls) (omega (arith, past)) in
      let none : nat_lt 0 (length controls - done) ≡ false = le-ltb 0 (length controls - done) (omega (arith, past)) in
      let one : nat_lt 1 (length controls - done) ≡ false = le-ltb 1 (length controls - done) (omega (arith, past)) in
      rw (is, next, none, one, slice_get_past controls done past, block_same st b.refuse) refl

passed_joined : (p : Progress) (b : Beside) (x : Option ℕ) → IsSome (joined p b).hand → IsPassed p b x
passed_joined p b x busy = by_step p.step refl busy where
  by_step : (o : Option InStep) → p.step ≡ o → IsSome (hand_in (next_of o) b.block) → IsPassed p b x
  by_step None is busy = absurd (let wrong : false ≡ true = busy in cc)
  by_step (Some step) is busy = rw is (passed_at step.controls step.done p.state b x)

passed_block : (t : Session) → (passed t).block ≡ t.block
passed_block t = by_test (nat_lt 1 t.left) where
  by_test : (more : Bool) → (cond more (onward t t.xact t.block) (stopped t t.xact t.block)).block ≡ t.block
  by_test true = refl
  by_test false = refl

passed_rests : (t : Session) → ((passed t).looked ≡ false) × ((passed t).wants ≡ None)
passed_rests t = by_test (nat_lt 1 t.left) where
  by_test : (more : Bool) → ((cond more (onward t t.xact t.block) (stopped t t.xact t.block)).looked ≡ false) × ((cond more (onward t t.xact t.block) (stopped t t.xact t.block)).wants ≡ None)
  by_test true = (refl, refl)
  by_test false = (refl, refl)

-- what is kept beside of a session that is in this state now
abbrev pub beside_of : Beside → Session → Beside
beside_of b t = record { block = b.block; refuse = refuse_of t.block b.refuse; xact = t.xact; looked = t.looked; wants = t.wants; closed = b.closed }

joined_after : (how : How) (p : Progress) (b : Beside) (state : Session) → IsAfterwards how (controls_in p) (Some (joined p b)) state → joined (after how p) (beside_of b state) ≡ state
joined_after Done p b state is =
    let u : Session = record (joined p b) { xact = state.xact; block = block_then p b } in
    let now_is : state ≡ passed u = is.1 in
    let looked : state.looked ≡ false = ap (λ (t : Session). t.looked) now_is ∙ (passed_rests u).0 in
    let wants : state.wants ≡ None = ap (λ (t : Session). t.wants) now_is ∙ (passed_rests u).1 in
    let block : state.block ≡ block_then p b = ap (λ (t : Session). t.block) now_is ∙ passed_block u in
    (rw (looked, wants, block) (passed_joined p b state.xact is.0)) ∙ sym now_is
joined_after Refused p b state is =
    let place : ℕ = is.1.0 in
    let now_is : state ≡ stopped (joined p b) state.xact (failed_block place (block_in p.state b.refuse)) = is.1.1 in
    let looked : state.looked ≡ false = ap (λ (t : Session). t.looked) now_is in
    let wants : state.wants ≡ None = ap (λ (t : Session). t.wants) now_is in
    let block : state.block ≡ failed_block place (block_in p.state b.refuse) = ap (λ (t : Session). t.block) now_is in
    (rw (looked, wants, block, block_failed p.state b.refuse place) refl) ∙ sym now_is

stayed_at : (o : Option InStep) (st : BlockState) (b c : Beside) → c.block ≡ b.block → HasStayed (record { step = o; state = st }) b (after_done (record { step = o; state = st })) c
stayed_at None st b c same = λ block busy. absurd cc
stayed_at (Some step) st b c same = λ block busy. on block (nat_lt (step.done + 1) (length step.controls)) refl busy where
  on : (block : ℕ) (more : Bool) → nat_lt (step.done + 1) (length step.controls) ≡ more → (joined (after_done (record { step = Some step; state = st })) c).hand ≡ Some block → ((joined (record { step = Some step; state = st }) b).hand ≡ Some block) × (controls_in (after_done (record { step = Some step; state = st })) ≡ step.controls)
  on block true is busy =
      let its : c.block ≡ block = (let e : Some c.block ≡ Some block = sym (hand_some (record { controls = step.controls; done = step.done + 1 }) c.block) ∙ (rw is at busy) in cc) in
      (hand_some step b.block ∙ ap Some (sym same ∙ its), rw is refl)
  on block false is busy = absurd (let wrong : ◌≡◌ {A = Option ℕ} None (Some block) = rw is at busy in cc)

after_stayed : (how : How) (p : Progress) (b c : Beside) → c.block ≡ b.block → HasStayed p b (after how p) c
after_stayed Refused p b c same = λ block busy. absurd cc
after_stayed Done p b c same = stayed_at p.step p.state b c same

-- ---- the calls

get_same : (bs : List Beside) (n : ℕ) → n < length bs → get_or bs n nothing_beside ≡ get_or bs n (get_or bs n nothing_beside)
get_same [] n lt = absurd (omega arith)
get_same (b ∷ bs) zero lt = refl
get_same (b ∷ bs) (suc n) lt = get_same bs n (omega arith)

pub within_all : (ps : List Progress) (bs : List Beside) → length ps ≡ length bs → (n : ℕ) → n < length bs → n < length (all_joined ps bs)
within_all ps bs same n lt = rw (length_joined ps bs same) lt

-- who isn't there isn't woken
pub beyond_all : (ps : List Progress) (bs : List Beside) → length ps ≡ length bs → (n : ℕ) → length bs ≤ n → all_joined ps bs ≡ wakened n (all_joined ps bs)
beyond_all ps bs same n le =
    let none : slice_get (all_joined ps bs) n ≡ None = slice_get_past (all_joined ps bs) n (rw (length_joined ps bs same) le) in
    rw none refl

module _ (ps : List Progress) (bs : List Beside) (same : length ps ≡ length bs) (n : ℕ) (known : n < length (all_joined ps bs)) where
  pub within_beside : n < length bs
  within_beside = rw (length_joined ps bs same) at known

  pub within_steps : n < length ps
  within_steps = rw same within_beside

  pub got_here : (b : Beside) → b ≡ get_or bs n b → slice_get (all_joined ps bs) n ≡ Some (joined (progress_of ps n) b)
  got_here b is = got_joined ps bs n b same known is

  after_in_hand : (how : How) (state : Session) (b : Beside) → b ≡ get_or bs n b → IsAfter how (listed ps bs) n state → IsSome (progress_of ps n).step
  after_in_hand how state b is goes = by_step (progress_of ps n).step (rw (got_here b is) at goes).0 where
    by_step : (o : Option InStep) → IsSome (hand_in (next_of o) b.block) → IsSome o
    by_step None busy = absurd (let wrong : false ≡ true = busy in cc)
    by_step (Some step) busy = refl

  pub after_busy : (how : How) (state : Session) → IsAfter how (listed ps bs) n state → IsSome (progress_of ps n).step
  after_busy how state goes = after_in_hand how state (get_or bs n nothing_beside) (get_same bs n within_beside) goes

  pub after_list : (how : How) (state : Session) (b : Beside) → b ≡ get_or bs n b → IsAfter how (listed ps bs) n state → all_joined (slice_set ps n (after how (progress_of ps n))) (slice_set bs n (beside_of b state)) ≡ slice_set (all_joined ps bs) n state
  after_list how state b is goes =
      let its : IsAfterwards how (controls_in (progress_of ps n)) (Some (joined (progress_of ps n) b)) state = rw (got_here b is, controls_got ps n) at goes in
      set_joined ps bs n (after how (progress_of ps n)) (beside_of b state) ∙ ap (λ (t : Session). slice_set (all_joined ps bs) n t) (joined_after how (progress_of ps n) b state its)

  pub after_keeps : (how : How) (b c : Beside) → b ≡ get_or bs n b → c.block ≡ b.block → KeepsControls (listed ps bs) (listed (slice_set ps n (after how (progress_of ps n))) (slice_set bs n c))
  after_keeps how b c is block_same = keeps_set ps bs n (after how (progress_of ps n)) c (λ d there. let its : d ≡ b = same_of d b (sym there ∙ slice_get_read bs (length bs) n b refl within_beside is) in rw its (after_stayed how (progress_of ps n) b c block_same)) where
    same_of : (d b : Beside) → Some d ≡ Some b → d ≡ b
    same_of d b e = cc

  pub keep_list : (state : Session) (b : Beside) → b ≡ get_or bs n b → HasSameStep (slice_get (all_joined ps bs) n) state → all_joined ps (slice_set bs n (record b { xact = state.xact; looked = state.looked; wants = state.wants; closed = state.closed })) ≡ slice_set (all_joined ps bs) n state
  keep_list state b is stays =
      let its : joined (progress_of ps n) b ≡ record state { xact = b.xact; looked = b.looked; wants = b.wants; closed = b.closed } = rw (got_here b is) at stays in
      let now_is : joined (progress_of ps n) (record b { xact = state.xact; looked = state.looked; wants = state.wants; closed = state.closed }) ≡ state = ap (λ (t : Session). record t { xact = state.xact; looked = state.looked; wants = state.wants; closed = state.closed }) its in
      set_beside ps bs n (record b { xact = state.xact; looked = state.looked; wants = state.wants; closed = state.closed }) ∙ ap (λ (t : Session). slice_set (all_joined ps bs) n t) now_is

  pub keep_keeps : (b c : Beside) → b ≡ get_or bs n b → c.block ≡ b.block → KeepsControls (listed ps bs) (listed ps (slice_set bs n c))
  keep_keeps b c is block_same = keeps_beside ps bs n c (λ d there. let its : d ≡ b = same_of d b (sym there ∙ slice_get_read bs (length bs) n b refl within_beside is) in rw its (sym block_same)) where
    same_of : (d b : Beside) → Some d ≡ Some b → d ≡ b
    same_of d b e = cc

  pub wake_list : (b : Beside) → b ≡ get_or bs n b → all_joined ps (slice_set bs n (record b { wants = None })) ≡ wakened n (all_joined ps bs)
  wake_list b is = set_beside ps bs n (record b { wants = None }) ∙ rw (got_here b is) refl

  pub free_step : IsFree (slice_get (all_joined ps bs) n) → (progress_of ps n).step ≡ None
  free_step free = by_step (progress_of ps n).step (rw (got_here (get_or bs n nothing_beside) (get_same bs n within_beside)) at free) where
    by_step : (o : Option InStep) → hand_in (next_of o) (get_or bs n nothing_beside).block ≡ None → o ≡ None
    by_step None none = refl
    by_step (Some step) none = absurd (let wrong : ◌≡◌ {A = Option ℕ} (Some (get_or bs n nothing_beside).block) None = sym (hand_some step (get_or bs n nothing_beside).block) ∙ none in cc)

  pub give_list : (block : ℕ) (does : List Control) (b : Beside) → b ≡ get_or bs n b → IsFree (slice_get (all_joined ps bs) n) → (t : Session) → slice_get (all_joined ps bs) n ≡ Some t → all_joined (slice_set ps n (put does (progress_of ps n))) (slice_set bs n (record b { block = block; looked = false; wants = None })) ≡ slice_set (all_joined ps bs) n (given t block (length does))
  give_list block does b is free t there =
      let its : joined (progress_of ps n) b ≡ t = same_of (joined (progress_of ps n) b) t (sym (got_here b is) ∙ there) in
      set_joined ps bs n (put does (progress_of ps n)) (record b { block = block; looked = false; wants = None }) ∙ ap (λ (u : Session). slice_set (all_joined ps bs) n u) (given_joined (progress_of ps n) ∙ ap (λ (u : Session). given u block (length does)) its) where
        same_of : (d b : Session) → Some d ≡ Some b → d ≡ b
        same_of d b e = cc

        given_joined : (p : Progress) → joined (put does p) (record b { block = block; looked = false; wants = None }) ≡ given (joined p b) block (length does)
        given_joined p = by_test (nat_lt 0 (length does)) refl where
          whole : length does - 0 ≡ length does
          whole = omega arith

          by_test : (more : Bool) → nat_lt 0 (length does) ≡ more → joined (put does p) (record b { block = block; looked = false; wants = None }) ≡ given (joined p b) block (length does)
          by_test true is = rw (is, whole) refl
          by_test false is = rw (is, whole) refl

-- what was given is of its block
pub give_keeps_controls : (ps : List Progress) (bs : List Beside) (n block : ℕ) (does : List Control) (b : Beside) (terms : Terms) → length ps ≡ length bs → does ≡ controls_at terms block → AreControlled terms (listed ps bs) → AreControlled terms (listed (slice_set ps n (put does (progress_of ps n))) (slice_set bs n (record b { block = block; looked = false; wants = None })))
give_keeps_controls [] bs n block does b terms same is held s other t got busy = held s other t got busy
give_keeps_controls (p ∷ ps) [] n block does b terms same is held s other t got busy = absurd (let wrong : suc (length ps) ≡ 0 = same in omega arith)
give_keeps_controls (p ∷ ps) (c ∷ bs) zero block does b terms same is held zero other t got busy =
    let its : joined (put does p) (record b { block = block; looked = false; wants = None }) ≡ t = cc in
    let here : Some block ≡ Some other = sym (hand_some (record { controls = does; done = 0 }) block) ∙ (ap (λ (u : Session). u.hand) its ∙ busy) in
    let same_block : block ≡ other = cc in
    rw (is, same_block) refl
give_keeps_controls (p ∷ ps) (c ∷ bs) zero block does b terms same is held (suc s) other t got busy = held (suc s) other t got busy
give_keeps_controls (p ∷ ps) (c ∷ bs) (suc n) block does b terms same is held zero other t got busy = held zero other t got busy
give_keeps_controls (p ∷ ps) (c ∷ bs) (suc n) block does b terms same is held (suc s) other t got busy = give_keeps_controls ps bs n block does b terms (omega arith) is (λ r. held (suc r)) s other t got busy

-- ---- light entries

pub light_take : (sessions : List Session) (n : ℕ) → length sessions ≤ n → light (take n sessions) ≡ light sessions
light_take [] zero le = refl
light_take [] (suc n) le = refl
light_take (t ∷ sessions) zero le = absurd (omega arith)
light_take (t ∷ sessions) (suc n) le = ap (λ (m : ℕ). light_of t + m) (light_take sessions n (omega arith))

light_none : (sessions : List Session) → light (take 0 sessions) ≡ 0
light_none [] = refl
light_none (t ∷ sessions) = refl

pub light_next : (sessions : List Session) (n m : ℕ) (t : Session) → m ≡ n + 1 → slice_get sessions n ≡ Some t → light (take n sessions) + light_of t ≡ light (take m sessions)
light_next [] n m t is got = absurd cc
light_next (u ∷ sessions) n zero t is got = absurd (omega arith)
light_next (u ∷ sessions) zero (suc zero) t is got = let same : t ≡ u = cc in let its : light_of t ≡ light_of u = ap light_of same in omega (arith, its, light_none sessions)
light_next (u ∷ sessions) zero (suc (suc m)) t is got = absurd (omega arith)
light_next (u ∷ sessions) (suc n) (suc m) t is got = omega (arith, light_next sessions n m t (omega arith) got)
