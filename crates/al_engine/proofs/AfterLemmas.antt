-- What becomes of a session's step by the list of sessions is what the journal says of it.
use Rattle.std.proofs.Common.{◌≡◌, ℕ, ◌<◌, ◌≤◌, List, [], ◌∷◌, refl, sym, ap, cond, true, false, Bool, Option, Some, None, arith, ◌∙◌, slice_get, get_or, subst}
use Rattle.std.specs.Prelude.{nat_lt, IsSome, option_map, option_and_then, Result, Ok, Err}
use Rattle.std.proofs.lemmas.Bool.{lt-ltb, le-ltb}
use Rattle.std.proofs.lemmas.Option.{slice_get-map, get_or_from_slice_get}
use Rattle.al_statements.specs.declared.reply.Reply.{Reply}
use Rattle.al_statements.specs.declared.reply.Reply.TheVariants as replies
use Rattle.al_history.specs.declared.entry.Want.{Want}
use Rattle.al_history.specs.declared.statement.ScriptBlock.{ScriptBlock}
use Rattle.al_statements.specs.declared.fault.SqlFault.{SqlFault}
use Rattle.al_history.specs.declared.statement.Statement.{Statement}
use Rattle.al_history.specs.declared.statement.Statement.TheVariants as statements
use Rattle.al_history.specs.declared.statement.Terms.{Terms}
use Rattle.al_history.specs.Past.{Past}
use Rattle.al_history.specs.Hand.{acts_of, opened, failed_at, block_after, statement_in, statement_of}
use Rattle.al_history.specs.Rules.{Answers, commit_tag}
use Rattle.al_sessions.specs.declared.block.Control.{Control}
use Rattle.al_sessions.specs.declared.block.Control.TheVariants.{Begins, EndsBlock}
use Rattle.al_sessions.specs.declared.step.How.TheVariants.{Done, Refused}
use Rattle.al_sessions.specs.Blocks.{control_of}
use Rattle.al_engine.specs.declared.sessions.Block.{Block}
use Rattle.al_engine.specs.declared.sessions.Block.TheVariants as blocks
use Rattle.al_engine.specs.declared.sessions.Session.{Session}
use Rattle.al_engine.specs.Sessions.{state_of, IsCounted, script_length, passed, onward, stopped}
use Rattle.al_engine.specs.Listed.{Listed, AreControlled, controls_by, controls_for, controls_at, control_in, moved_block, failed_block, IsAfter}
use Rattle.al_engine.specs.Kept.{CanBeDone}
use Rattle.al_engine.proofs.OverLemmas.{answered}
use Rattle.al_engine.proofs.TurnLemmas.{statement_within}

-- a block is told by its state
pub same_block : (a b : Block) → state_of a ≡ state_of b → a ≡ b
same_block blocks.Outside blocks.Outside is = refl
same_block blocks.Open blocks.Open is = refl
same_block (blocks.Failed p) (blocks.Failed q) is = let same : p ≡ q = cc in ap (λ (place : ℕ). blocks.Failed place) same
same_block blocks.Outside blocks.Open is = absurd cc
same_block blocks.Outside (blocks.Failed q) is = absurd cc
same_block blocks.Open blocks.Outside is = absurd cc
same_block blocks.Open (blocks.Failed q) is = absurd cc
same_block (blocks.Failed p) blocks.Outside is = absurd cc
same_block (blocks.Failed p) blocks.Open is = absurd cc

-- ---- what a statement does to a block

control_by : (script : Result (List Statement) SqlFault) (n : ℕ) → slice_get (controls_by script) n ≡ option_map control_of (statement_in script n)
control_by (Ok script) n = slice_get-map control_of script n
control_by (Err fault) n = refl

pub control_at : (terms : Terms) (block n : ℕ) → slice_get (controls_at terms block) n ≡ option_map control_of (statement_of terms (Some block) n)
control_at terms block n = by_block (slice_get terms.scripts.blocks block) where
  by_block : (o : Option ScriptBlock) → slice_get (controls_for o) n ≡ option_map control_of (option_and_then (λ (b : ScriptBlock). statement_in b.script n) o)
  by_block None = refl
  by_block (Some b) = control_by b.script n

-- that of the statement in hand
pub control_there : (terms : Terms) (block : ℕ) (t : Session) (statement : Statement) → IsCounted terms block t.done t.left → statement_of terms (Some block) t.done ≡ Some statement → control_in (controls_at terms block) t ≡ Some (control_of statement)
control_there terms block t statement counted is =
    let within : t.done < script_length terms block = statement_within terms block t.done statement is in
    let some_left : 0 < t.left = omega (arith, counted.all) in
    rw (lt-ltb 0 t.left some_left, control_at terms block t.done, is) refl

pub control_none : (terms : Terms) (block : ℕ) (t : Session) → statement_of terms (Some block) t.done ≡ None → control_in (controls_at terms block) t ≡ None
control_none terms block t is = rw (control_at terms block t.done, is) (by_left (nat_lt 0 t.left)) where
  by_left : (b : Bool) → cond b (option_map control_of None) None ≡ None
  by_left true = refl
  by_left false = refl

begins : (b : Block) → state_of (moved_block (Some Begins) b) ≡ opened (state_of b)
begins blocks.Outside = refl
begins blocks.Open = refl
begins (blocks.Failed p) = refl

commits : (b : Block) → state_of (moved_block (Some EndsBlock) b) ≡ block_after (replies.Tag (commit_tag (state_of b)) 0) (state_of b)
commits blocks.Outside = refl
commits blocks.Open = refl
commits (blocks.Failed p) = refl

-- it is what its reply says
pub moves : (statement : Statement) (acts : List ℕ) (x : Option ℕ) (b : Block) (reply : Reply) → Answers (Some statement) acts x (state_of b) reply → state_of (moved_block (Some (control_of statement)) b) ≡ block_after reply (state_of b)
moves statements.Begin [] (Some x) b reply is = rw is (begins b)
moves statements.Commit [] None b reply is = rw is (commits b)
moves statements.Rollback [] None b reply is = rw is refl
moves (statements.CreateTable name columns) (act ∷ []) x b reply is = rw is refl
moves (statements.Insert name written) (act ∷ []) x b reply is = rw is refl
moves (statements.Select name) (act ∷ []) x b reply is = rw is refl
moves (statements.AddColumn name column) (act ∷ []) x b reply is = rw is refl
moves statement acts x b reply is = absurd is

pub ends_control : (commits : Bool) → control_of (cond commits statements.Commit statements.Rollback) ≡ EndsBlock
ends_control true = refl
ends_control false = refl

pub moved_begin : (a b : Block) → state_of a ≡ opened (state_of b) → a ≡ moved_block (Some Begins) b
moved_begin a b is = same_block a (moved_block (Some Begins) b) (is ∙ sym (begins b))

fails : (place : ℕ) (b : Block) → state_of (failed_block place b) ≡ failed_at place (state_of b)
fails place blocks.Outside = refl
fails place blocks.Open = refl
fails place (blocks.Failed p) = refl

-- ---- what becomes of it

pub after_done : (terms : Terms) (l : Listed) (s block : ℕ) (t : Session) (w : Option Want) (x : Option ℕ) (b : Block) (c : Option Control) → AreControlled terms l → slice_get l.list s ≡ Some (record t { wants = w }) → t.hand ≡ Some block → control_in (controls_at terms block) t ≡ c → b ≡ moved_block c t.block → IsAfter Done l s (passed (record t { xact = x; block = b }))
after_done terms l s block t w x b c controlled there busy control_is moved_is =
    let its : get_or l.controls s [] ≡ controls_at terms block = get_or_from_slice_get l.controls s (controls_at terms block) [] (controlled s block (record t { wants = w }) there busy) in
    rw (there, its, control_is, moved_is) (rw busy refl, by_left (nat_lt 1 t.left)) where
      by_left : (more : Bool) → cond more (onward t x (moved_block c t.block)) (stopped t x (moved_block c t.block)) ≡ cond more (onward t (cond more (onward t x (moved_block c t.block)) (stopped t x (moved_block c t.block))).xact (moved_block c t.block)) (stopped t (cond more (onward t x (moved_block c t.block)) (stopped t x (moved_block c t.block))).xact (moved_block c t.block))
      by_left true = refl
      by_left false = refl

pub after_refused : (l : Listed) (s place : ℕ) (t : Session) (w : Option Want) (x : Option ℕ) (b : Block) → slice_get l.list s ≡ Some (record t { wants = w }) → IsSome t.hand → state_of b ≡ failed_at place (state_of t.block) → IsAfter Refused l s (stopped t x b)
after_refused l s place t w x b there busy is =
    let same : b ≡ failed_block place t.block = same_block b (failed_block place t.block) (is ∙ sym (fails place t.block)) in
    rw there (busy, (place, rw same refl))

module _ (terms : Terms) (l : Listed) (s block : ℕ) (t : Session) (w : Option Want) (x : Option ℕ) (b : Block) (c : Option Control) (controlled : AreControlled terms l) (there : slice_get l.list s ≡ Some (record t { wants = w })) (busy : t.hand ≡ Some block) (control_is : control_in (controls_at terms block) t ≡ c) (moved_is : b ≡ moved_block c t.block) where
  pub goes_after : 1 < t.left → IsAfter Done l s (onward t x b)
  goes_after more =
      let same : passed (record t { xact = x; block = b }) ≡ onward t x b = rw (lt-ltb 1 t.left more) refl in
      rw (← same) (after_done terms l s block t w x b c controlled there busy control_is moved_is)

  pub ends_after : t.left ≤ 1 → IsAfter Done l s (stopped t x b)
  ends_after last =
      let same : passed (record t { xact = x; block = b }) ≡ stopped t x b = rw (le-ltb 1 t.left last) refl in
      rw (← same) (after_done terms l s block t w x b c controlled there busy control_is moved_is)

-- a statement is done that leaves its block as it is
pub record StaysIn (terms : Terms) (block : ℕ) (t : Session) : Type 0 where
  pub control : Option Control
  pub is : control_in (controls_at terms block) t ≡ control
  pub stays : t.block ≡ moved_block control t.block

pub stays_in : (terms : Terms) (past : Past) (s block : ℕ) (t : Session) (reply : Reply) → CanBeDone terms past s t reply → t.hand ≡ Some block → StaysIn terms block t
stays_in terms past s block t reply done busy =
    let there = answered (statement_of terms t.hand t.done) (acts_of past s) t.xact (state_of t.block) reply done.answers in
    let in_hand : statement_of terms (Some block) t.done ≡ Some there.0 = ap (λ (o : Option ℕ). statement_of terms o t.done) (sym busy) ∙ there.1 in
    let moved_is : state_of (moved_block (Some (control_of there.0)) t.block) ≡ block_after reply (state_of t.block) = moves there.0 (acts_of past s) t.xact t.block reply (subst (λ (o : Option Statement). Answers o (acts_of past s) t.xact (state_of t.block) reply) there.1 done.answers) in
    record {
      control = Some (control_of there.0);
      is = control_there terms block t there.0 (done.counted block busy) in_hand;
      stays = sym (same_block (moved_block (Some (control_of there.0)) t.block) t.block (moved_is ∙ done.keeps_block));
    }
