-- Columns of open transactions stand in tables that these have made, or have alone.
use Rattle.std.proofs.Common.{◌≡◌, ℕ, suc, ◌<◌, List, [], ◌∷◌, ◌++◌, length, refl, cond, true, false, Bool, Option, Some, arith, ◌⊎◌, inl, inr}
use Rattle.std.specs.Prelude.{◌==◌}
use Rattle.std.proofs.lemmas.Bool.{eq-eqb, eqb-true, ne_eqb}
use Rattle.al_modes.specs.declared.mode.Mode.TheVariants.{AccessExclusive}
use Rattle.al_history.specs.declared.entry.Entry.TheVariants.{Start, Lock, Make, Add, Alter, Commit, Abort}
use Rattle.al_history.specs.declared.entry.Rewritten.{Rewritten}
use Rattle.al_history.specs.declared.statement.Column.{Column}
use Rattle.al_history.specs.declared.statement.Statement.{Statement}
use Rattle.al_history.specs.declared.statement.Terms.{Terms}
use Rattle.al_history.specs.Past.{Past}
use Rattle.al_history.specs.Fate.{Open, Committed, Aborted, fate}
use Rattle.al_history.specs.Hand.{hand, session_of, xact_of, statement_of, in_hand}
use Rattle.al_history.specs.Locks.{Claim, claim, without, held, is_held}
use Rattle.al_history.specs.View.{latest}
use Rattle.al_history.specs.Store.{Slot, KeptTable, sees, kept_row, kept_slot, slots_of, store}
use Rattle.al_history.specs.Rules.{AlterRule}
use Rattle.al_history.specs.Legal.{Legal}
use Rattle.al_history.proofs.Claims.{held_still, held_besides}
use Rattle.al_history.proofs.Needs.{IsAddition, addition, lock_held}
use Rattle.al_history.proofs.Makers.{Each, each_push, each_with, slot_added, slot_each, AreMade, Began, makers_began}
use Rattle.al_history.proofs.Xacts.{is_start, open_own}

-- a transaction began at a place before
pub began_below : (past : Past) (y : ℕ) → is_start past y ≡ true → y < length past
began_below [] y began = absurd cc
began_below (Start r level ∷ past) y began = by_test (length past == y) refl began (λ h. began_below past y h) where
  by_test : (b : Bool) → (length past == y) ≡ b → cond b true (is_start past y) ≡ true → (is_start past y ≡ true → y < length past) → y < suc (length past)
  by_test true here began more = let same : length past ≡ y = eqb-true (length past) y here in omega arith
  by_test false here began more = let before : y < length past = more began in omega arith
began_below (e ∷ past) y began = omega (arith, began_below past y began)

-- the lock by which a session has a table alone
abbrev pub sole_claim : ℕ → ℕ → Claim
sole_claim s table = record { session = s; table = table; mode = AccessExclusive }

-- a column that y made, in a table of this number and maker
abbrev pub IsOwned : Past → ℕ → ℕ → ℕ → Type 0
IsOwned past number maker y = fate past y ≡ Open → (y ≡ maker) ⊎ (is_held (held past) (sole_claim (session_of past y) number) ≡ true)

abbrev pub AreOwned : Past → KeptTable → Type 0
AreOwned past t = Each (λ (slot : Slot). IsOwned past t.number t.maker slot.maker) t.slots

-- what begun transactions own they own later
owned_more : (past after : Past) (tables : List KeptTable) → ((n m y : ℕ) → Began past y → IsOwned past n m y → IsOwned after n m y) → Each (AreMade (Began past)) tables → Each (AreOwned past) tables → Each (AreOwned after) tables
owned_more past after [] more made owned = tt
owned_more past after (t ∷ tables) more made owned = (slots t.slots made.0.1 owned.0, owned_more past after tables more made.1 owned.1) where
  slots : (slots : List Slot) → Each (λ (slot : Slot). Began past slot.maker) slots → Each (λ (slot : Slot). IsOwned past t.number t.maker slot.maker) slots → Each (λ (slot : Slot). IsOwned after t.number t.maker slot.maker) slots
  slots [] began owned = tt
  slots (slot ∷ rest) began owned = (more t.number t.maker slot.maker began.0 owned.0, slots rest began.1 owned.1)

pub owned_start : (past : Past) (r place n m y : ℕ) → length past ≡ place → Began past y → IsOwned past n m y → fate past y ≡ Open → (y ≡ m) ⊎ (is_held (held past) (sole_claim (cond (place == y) r (session_of past y)) n) ≡ true)
owned_start past r place n m y at began owned undecided = let other : (place == y) ≡ false = ne_eqb place y (λ e. omega (arith, began_below past y began)) in rw other (owned undecided)

pub owned_lock : (past : Past) (c : Claim) (n m y : ℕ) → IsOwned past n m y → fate past y ≡ Open → (y ≡ m) ⊎ (is_held (held past ++ c ∷ []) (sole_claim (session_of past y) n) ≡ true)
owned_lock past c n m y owned undecided = by_case (owned undecided) where
  by_case : (y ≡ m) ⊎ (is_held (held past) (sole_claim (session_of past y) n) ≡ true) → (y ≡ m) ⊎ (is_held (held past ++ c ∷ []) (sole_claim (session_of past y) n) ≡ true)
  by_case (inl own) = inl own
  by_case (inr there) = inr (held_still (held past) (sole_claim (session_of past y) n) c there)

-- another transaction's end leaves what y owns
owned_end : (terms : Terms) (past : Past) (x n m y : ℕ) → Legal terms past → xact_of past (session_of past x) ≡ Some x → (x == y) ≡ false → Began past y → IsOwned past n m y → fate past y ≡ Open → (y ≡ m) ⊎ (is_held (without (session_of past x) (held past)) (sole_claim (session_of past y) n) ≡ true)
owned_end terms past x n m y legal own other began owned undecided = by_case (owned undecided) where
  apart : (session_of past y == session_of past x) ≡ false
  apart = ne_eqb _ _ (λ e.
      let of_y : xact_of past (session_of past y) ≡ Some y = open_own terms past y legal began undecided in
      let of_x : xact_of past (session_of past y) ≡ Some x = rw e own in
      let same : x ≡ y = cc in
      let yes : (x == y) ≡ true = eq-eqb x y same in
      absurd cc)

  by_case : (y ≡ m) ⊎ (is_held (held past) (sole_claim (session_of past y) n) ≡ true) → (y ≡ m) ⊎ (is_held (without (session_of past x) (held past)) (sole_claim (session_of past y) n) ≡ true)
  by_case (inl own) = inl own
  by_case (inr there) = inr (held_besides (session_of past x) (held past) (sole_claim (session_of past y) n) apart there)

pub owned_commit : (terms : Terms) (past : Past) (x n m y : ℕ) → Legal terms past → xact_of past (session_of past x) ≡ Some x → Began past y → IsOwned past n m y → IsOwned (Commit x ∷ past) n m y
owned_commit terms past x n m y legal own began owned undecided = by_test (x == y) refl undecided where
  by_test : (b : Bool) → (x == y) ≡ b → cond b Committed (fate past y) ≡ Open → (y ≡ m) ⊎ (is_held (without (session_of past x) (held past)) (sole_claim (session_of past y) n) ≡ true)
  by_test true here undecided = absurd cc
  by_test false here undecided = owned_end terms past x n m y legal own here began owned undecided

pub owned_abort : (terms : Terms) (past : Past) (x n m y : ℕ) → Legal terms past → xact_of past (session_of past x) ≡ Some x → Began past y → IsOwned past n m y → IsOwned (Abort x ∷ past) n m y
owned_abort terms past x n m y legal own began owned undecided = by_test (x == y) refl undecided where
  by_test : (b : Bool) → (x == y) ≡ b → cond b Aborted (fate past y) ≡ Open → (y ≡ m) ⊎ (is_held (without (session_of past x) (held past)) (sole_claim (session_of past y) n) ≡ true)
  by_test true here undecided = absurd cc
  by_test false here undecided = owned_end terms past x n m y legal own here began owned undecided

owned_slots : (past : Past) (n x : ℕ) (columns : List Column) → Each (λ (slot : Slot). IsOwned past n x slot.maker) (slots_of x columns)
owned_slots past n x [] = tt
owned_slots past n x (c ∷ columns) = ((λ undecided. inl refl), owned_slots past n x columns)

-- an ALTER TABLE has its table alone
pub alter_held : (terms : Terms) (past : Past) (x table statement : ℕ) (rewritten : List Rewritten) → AlterRule terms past x table statement rewritten → is_held (held past) (sole_claim (session_of past x) table) ≡ true
alter_held terms past x table statement rewritten rule =
    let is : IsAddition (in_hand terms past (session_of past x)) (latest terms past x) table = addition (in_hand terms past (session_of past x)) (latest terms past x) table rule.alters in
    rw is.number (lock_held terms past x _ is.name is.t rule.act.locked is.is refl is.found)

-- each column whose maker is open is in a table that this made, or has alone
pub slots_owned : (terms : Terms) (past : Past) → Legal terms past → Each (AreOwned past) (store terms past)
slots_owned terms [] legal = tt
slots_owned terms (Start r level ∷ past) legal = owned_more past (Start r level ∷ past) (store terms past) (λ n m y began owned. owned_start past r (length past) n m y refl began owned) (makers_began terms past legal.1) (slots_owned terms past legal.1)
slots_owned terms (Lock x table mode ∷ past) legal = owned_more past (Lock x table mode ∷ past) (store terms past) (λ n m y began owned. owned_lock past (claim past x table mode) n m y owned) (makers_began terms past legal.1) (slots_owned terms past legal.1)
slots_owned terms (Commit x ∷ past) legal = owned_more past (Commit x ∷ past) (store terms past) (λ n m y. owned_commit terms past x n m y legal.1 legal.0.rule.open_xact) (makers_began terms past legal.1) (slots_owned terms past legal.1)
slots_owned terms (Abort x ∷ past) legal = owned_more past (Abort x ∷ past) (store terms past) (λ n m y. owned_abort terms past x n m y legal.1 legal.0.rule.open_xact) (makers_began terms past legal.1) (slots_owned terms past legal.1)
slots_owned terms (Make x table name shape ∷ past) legal = each_push (AreOwned past) (store terms past) _ (slots_owned terms past legal.1) (owned_slots past table x shape)
slots_owned terms (Add x table row ∷ past) legal = each_with (AreOwned past) (AreOwned past) table (kept_row (length past) x (sees past (Some x)) row) (store terms past) (λ t owned. owned) (λ t here owned. owned) (slots_owned terms past legal.1)
slots_owned terms (Alter x table statement rewritten ∷ past) legal =
    let o : Option Statement = statement_of terms (hand past (session_of past x)) statement in
    let alone : is_held (held past) (sole_claim (session_of past x) table) ≡ true = alter_held terms past x table statement rewritten legal.0.rule in
    each_with (AreOwned past) (AreOwned past) table (kept_slot o x) (store terms past) (λ t owned. owned) (λ t here owned. rw ((slot_added o x t).number, (slot_added o x t).maker) (slot_each (λ (slot : Slot). IsOwned past t.number t.maker slot.maker) o x t owned (λ column undecided. inr (rw here alone)))) (slots_owned terms past legal.1)
slots_owned terms (e ∷ past) legal = slots_owned terms past legal.1
