-- In a failed block no transaction is open.
use Rattle.std.proofs.Common.{◌≡◌, ℕ, [], ◌∷◌, length, refl, sym, cond, true, false, Bool, Option, Some, None, ◌∙◌}
use Rattle.std.specs.Prelude.{◌==◌, option_map}
use Rattle.std.proofs.lemmas.Bool.{eqb-true}
use Rattle.al_history.specs.declared.entry.Entry.{Entry}
use Rattle.al_history.specs.declared.entry.Entry.TheVariants.{Start, Lock, Done, Refuse, Commit, Abort}
use Rattle.al_statements.specs.declared.reply.Reply.{Reply}
use Rattle.al_statements.specs.declared.reply.Reply.TheVariants as replies
use Rattle.al_statements.specs.declared.reply.Tag.TheVariants as tags
use Rattle.al_history.specs.declared.statement.Statement.{Statement}
use Rattle.al_history.specs.declared.statement.Terms.{Terms}
use Rattle.al_history.specs.Past.{Past}
use Rattle.al_history.specs.Fate.{is_that}
use Rattle.al_history.specs.Hand.{BlockState, NoBlock, OpenBlock, FailedBlock, in_hand, xact_of, block_state, block_after, failed_at}
use Rattle.al_history.specs.Rules.{starts}
use Rattle.al_history.specs.Tail.{owed, Follows}
use Rattle.al_history.specs.Legal.{Legal}
use Rattle.al_history.proofs.Pasts.{if_same}

-- where an Abort is owed nothing else may come
owed_alone : (o : Option Entry) (x : ℕ) (e : Entry) → o ≡ Some (Abort x) → Follows o e → e ≡ Abort x
owed_alone o x e owes follows = rw owes at follows

-- a block that has failed by the time of a Done had failed before
failed_before : (reply : Reply) (state : BlockState) (r : ℕ) → block_after reply state ≡ FailedBlock r → state ≡ FailedBlock r
failed_before (replies.Tag tags.Begin count) NoBlock r is = absurd cc
failed_before (replies.Tag tags.Begin count) OpenBlock r is = absurd cc
failed_before (replies.Tag tags.Begin count) (FailedBlock q) r is = is
failed_before (replies.Tag tags.Commit count) state r is = absurd cc
failed_before (replies.Tag tags.Rollback count) state r is = absurd cc
failed_before reply state r is = is

none_starts : (o : Option Statement) (state : BlockState) (r : ℕ) → state ≡ FailedBlock r → option_map (starts state) o ≡ Some true → ⊥
none_starts None state r is begins = absurd cc
none_starts (Some statement) state r is begins = let wrong : false ≡ true = cc in absurd cc

-- the open transaction of a failed block has to be aborted at once
pub failed_aborts : (terms : Terms) (past : Past) (s x r : ℕ) → Legal terms past → xact_of past s ≡ Some x → block_state past s ≡ FailedBlock r → owed terms past ≡ Some (Abort x)
failed_aborts terms [] s x r legal is failed = absurd cc
failed_aborts terms (Start q level ∷ past) s x r legal is failed = by_session (q == s) refl is (λ h. failed_aborts terms past s x r legal.1 h failed) where
  by_session : (b : Bool) → (q == s) ≡ b → cond b (Some (length past)) (xact_of past s) ≡ Some x → (xact_of past s ≡ Some x → owed terms past ≡ Some (Abort x)) → owed terms (Start q level ∷ past) ≡ Some (Abort x)
  by_session true own is more = absurd (none_starts (in_hand terms past q) (block_state past q) r (rw (eqb-true q s own) failed) legal.0.rule.statement)
  by_session false other is more = absurd (let wrong : Start q level ≡ Abort x = owed_alone _ x _ (more is) legal.0.follows in cc)
failed_aborts terms (Commit y ∷ past) s x r legal is failed = by_that (is_that (xact_of past s) y) is (λ h. failed_aborts terms past s x r legal.1 h failed) where
  by_that : (b : Bool) → cond b None (xact_of past s) ≡ Some x → (xact_of past s ≡ Some x → owed terms past ≡ Some (Abort x)) → owed terms (Commit y ∷ past) ≡ Some (Abort x)
  by_that true is more = absurd cc
  by_that false is more = absurd (let wrong : Commit y ≡ Abort x = owed_alone _ x _ (more is) legal.0.follows in cc)
failed_aborts terms (Abort y ∷ past) s x r legal is failed = by_that (is_that (xact_of past s) y) refl is (λ h. failed_aborts terms past s x r legal.1 h failed) where
  by_that : (b : Bool) → is_that (xact_of past s) y ≡ b → cond b None (xact_of past s) ≡ Some x → (xact_of past s ≡ Some x → owed terms past ≡ Some (Abort x)) → owed terms (Abort y ∷ past) ≡ Some (Abort x)
  by_that true that is more = absurd cc
  by_that false that is more =
      let same : ◌≡◌ {A = Entry} (Abort y) (Abort x) = owed_alone _ x _ (more is) legal.0.follows in
      let one : y ≡ x = cc in
      absurd (let wrong : true ≡ false = rw (is, one, if_same x) at that in cc)
failed_aborts terms (Refuse q cause ∷ past) s x r legal is failed = by_session (q == s) refl failed (λ h. failed_aborts terms past s x r legal.1 is h) where
  by_session : (b : Bool) → (q == s) ≡ b → cond b (failed_at (length past) (block_state past s)) (block_state past s) ≡ FailedBlock r → (block_state past s ≡ FailedBlock r → owed terms past ≡ Some (Abort x)) → owed terms (Refuse q cause ∷ past) ≡ Some (Abort x)
  by_session true own failed more = rw (eqb-true q s own, is) refl
  by_session false other failed more = absurd (let wrong : Refuse q cause ≡ Abort x = owed_alone _ x _ (more failed) legal.0.follows in cc)
failed_aborts terms (Done q reply ∷ past) s x r legal is failed = by_session (q == s) failed (λ h. failed_aborts terms past s x r legal.1 is h) where
  by_session : (b : Bool) → cond b (block_after reply (block_state past s)) (block_state past s) ≡ FailedBlock r → (block_state past s ≡ FailedBlock r → owed terms past ≡ Some (Abort x)) → owed terms (Done q reply ∷ past) ≡ Some (Abort x)
  by_session true failed more = absurd (let wrong : Done q reply ≡ Abort x = owed_alone _ x _ (more (failed_before reply (block_state past s) r failed)) legal.0.follows in cc)
  by_session false failed more = absurd (let wrong : Done q reply ≡ Abort x = owed_alone _ x _ (more failed) legal.0.follows in cc)
failed_aborts terms (Lock y table mode ∷ past) s x r legal is failed = failed_aborts terms past s x r legal.1 is failed
failed_aborts terms (e ∷ past) s x r legal is failed = absurd (let wrong : e ≡ Abort x = owed_alone _ x _ (failed_aborts terms past s x r legal.1 is failed) legal.0.follows in cc)

-- so where nothing is owed, no block has failed in which a transaction is open
pub open_unfailed : (terms : Terms) (past : Past) (s x r : ℕ) → Legal terms past → owed terms past ≡ None → xact_of past s ≡ Some x → block_state past s ≡ FailedBlock r → ⊥
open_unfailed terms past s x r legal none is failed = absurd (let wrong : None ≡ Some (Abort x) = sym none ∙ failed_aborts terms past s x r legal is failed in cc)
