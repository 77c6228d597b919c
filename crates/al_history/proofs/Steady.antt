-- What a statement found at its Look it finds still: its table, and while this is locked, the table's columns.
use Rattle.std.proofs.Common.{◌≡◌, ℕ, List, [], ◌∷◌, ◌++◌, length, refl, sym, cond, true, false, Bool, Some, None, ◌∙◌, ◌⊎◌, inl, inr}
use Rattle.std.specs.Prelude.{◌==◌, ◌||◌, IsSome, is_some}
use Rattle.std.proofs.lemmas.Bool.{eq-eqb, eqb-true, ne_eqb, or_cases, or_left}
use Rattle.al_modes.specs.declared.mode.Mode.{Mode}
use Rattle.al_modes.specs.declared.mode.Mode.TheVariants.{AccessShare}
use Rattle.al_history.specs.declared.entry.Entry.{Entry}
use Rattle.al_history.specs.declared.entry.Entry.TheVariants.{Give, Start, Lock, Look, Make, Add, Read, Alter, Done, Refuse, Commit, Abort, End}
use Rattle.al_history.specs.declared.statement.Terms.{Terms}
use Rattle.al_history.specs.Past.{Past}
use Rattle.al_history.specs.Database.{Table, Database, named}
use Rattle.al_history.specs.Fate.{Fate, Open, Committed, Aborted, fate, is_that, Absent, standing}
use Rattle.al_history.specs.Hand.{hand, refused, in_hand, statement_of, xact_of, session_of, look_of, acts_of}
use Rattle.al_history.specs.Locks.{Claim, claim, held, is_held}
use Rattle.al_history.specs.View.{latest}
use Rattle.al_history.specs.Store.{is_committed, shown, sees, stands, store}
use Rattle.al_history.specs.Fits.{CanSee, Agree, EachOf, Fits}
use Rattle.al_history.specs.Rules.{LookRule}
use Rattle.al_history.specs.Legal.{Legal}
use Rattle.al_history.proofs.Claims.{is_that_so, held_still, held_besides}
use Rattle.al_history.proofs.Looks.{not_none, not_true, looked_open}
use Rattle.al_history.proofs.Names.{NamesOnce, names_once, IsFound, found_so, found_after_make, found_after_add, found_after_alter}
use Rattle.al_history.proofs.Sights.{found_wider, agree_locked}
use Rattle.al_history.proofs.Stores.{serves_all, latest_shown}
use Rattle.al_history.proofs.Xacts.{xact_is, turn}

-- ---- what is found, step by step

found_then : (before after : Database) (name : List ℕ) (u : Table) (Asked Now : Type 0) → (Now → Asked) → IsFound before name u Asked → ((t : Table) → named before name ≡ Some t → t.number ≡ u.number → IsFound after name t Now) → IsFound after name u Now
found_then before after name u Asked Now asks found next =
    let then : IsFound after name found.t Now = next found.t found.is found.number in
    record { t = then.t; is = then.is; number = then.number ∙ found.number; columns = λ now. then.columns now ∙ found.columns (asks now) }

found_less : (db : Database) (name : List ℕ) (u : Table) (Asked Now : Type 0) → (Now → Asked) → IsFound db name u Asked → IsFound db name u Now
found_less db name u Asked Now asks found = record { t = found.t; is = found.is; number = found.number; columns = λ now. found.columns (asks now) }

-- ---- the end of another transaction

-- what x sees after it could be seen before
can_see_end : (past : Past) (x y : ℕ) (end : Fate) → fate past x ≡ Open → fate past y ≡ Open → CanSee past (λ z. (x == z) || is_committed (cond (y == z) end (fate past z)))
can_see_end past x y end of_x of_y = record {
  committed = λ z e. rw (apart y z Committed of_y e (λ s. cc), e) (or_true (x == z));
  aborted = λ z e. rw (apart x z Aborted of_x e (λ s. cc), apart y z Aborted of_y e (λ s. cc), e) refl;
} where
  apart : (a z : ℕ) (k : Fate) → fate past a ≡ Open → fate past z ≡ k → (◌≡◌ {A = Fate} Open k → ⊥) → (a == z) ≡ false
  apart a z k of_a of_z not_open = ne_eqb a z (λ (same : a ≡ z). not_open (sym of_a ∙ rw same of_z))

  or_true : (b : Bool) → (b || true) ≡ true
  or_true true = refl
  or_true false = refl

-- a set of transactions that may be seen, x among them, has what x sees
sees_less : (past : Past) (x : ℕ) (f : ℕ → Bool) → CanSee past f → f x ≡ true → (z : ℕ) → sees past (Some x) z ≡ true → f z ≡ true
sees_less past x f can seen z sees_it = by_case (or_cases (x == z) (is_committed (fate past z)) sees_it) where
  done : (k : Fate) → is_committed k ≡ true → k ≡ Committed
  done Open is = absurd cc
  done Committed is = refl
  done Aborted is = absurd cc

  by_case : ((x == z) ≡ true) ⊎ (is_committed (fate past z) ≡ true) → f z ≡ true
  by_case (inl same) = rw (← eqb-true x z same) seen
  by_case (inr is) = can.committed z (done (fate past z) is)

-- a table that x finds is found by all who see x, with its columns where it is locked for x
seen_found : (terms : Terms) (past : Past) (s x : ℕ) (mode : Mode) (f : ℕ → Bool) (name : List ℕ) (u : Table) → Legal terms past → Fits terms past → xact_of past s ≡ Some x → CanSee past f → f x ≡ true → named (latest terms past x) name ≡ Some u → IsFound (shown f (store terms past)) name u (is_held (held past) (record { session = s; table = u.number; mode = mode }) ≡ true)
seen_found terms past s x mode f name u legal fits own can seen is =
    let undecided : fate past x ≡ Open = (xact_is terms past s x legal own).undecided in
    let here : named (shown (sees past (Some x)) (store terms past)) name ≡ Some u = rw (latest_shown terms past x fits undecided) at is in
    let once : NamesOnce (shown f (store terms past)) = rw (serves_all terms past f fits can) at (names_once terms (stands f) past) in
    found_less (shown f (store terms past)) name u (EachOf u.number (λ t. sees past (Some x) t.maker ≡ true → Agree f (sees past (Some x)) t.slots) (store terms past)) _ (λ lock. agree_locked terms past s x u.number mode f legal own undecided lock can seen) (found_wider (sees past (Some x)) f (store terms past) name u (sees_less past x f can seen) once here)

-- x finds its tables after another's end
found_commit : (terms : Terms) (past : Past) (s x y : ℕ) (mode : Mode) (name : List ℕ) (u : Table) → Legal terms past → Fits terms (Commit y ∷ past) → xact_of past s ≡ Some x → (y == x) ≡ false → named (latest terms past x) name ≡ Some u → IsFound (latest terms (Commit y ∷ past) x) name u (is_held (held past) (record { session = s; table = u.number; mode = mode }) ≡ true)
found_commit terms past s x y mode name u legal fits own other is =
    let undecided : fate past x ≡ Open = (xact_is terms past s x legal own).undecided in
    let still : fate (Commit y ∷ past) x ≡ Open = rw other undecided in
    rw (latest_shown terms (Commit y ∷ past) x fits still) (seen_found terms past s x mode (sees (Commit y ∷ past) (Some x)) name u legal fits.1 own (can_see_end past x y Committed undecided fits.0) (or_left (x == x) _ (eq-eqb x x refl)) is)

found_abort : (terms : Terms) (past : Past) (s x y : ℕ) (mode : Mode) (name : List ℕ) (u : Table) → Legal terms past → Fits terms (Abort y ∷ past) → xact_of past s ≡ Some x → (y == x) ≡ false → named (latest terms past x) name ≡ Some u → IsFound (latest terms (Abort y ∷ past) x) name u (is_held (held past) (record { session = s; table = u.number; mode = mode }) ≡ true)
found_abort terms past s x y mode name u legal fits own other is =
    let undecided : fate past x ≡ Open = (xact_is terms past s x legal own).undecided in
    let still : fate (Abort y ∷ past) x ≡ Open = rw other undecided in
    rw (latest_shown terms (Abort y ∷ past) x fits still) (seen_found terms past s x mode (sees (Abort y ∷ past) (Some x)) name u legal fits.1 own (can_see_end past x y Aborted undecided fits.0) (or_left (x == x) _ (eq-eqb x x refl)) is)

-- a transaction finds its tables still, whatever comes while it is open
pub still_found : (terms : Terms) (past : Past) (e : Entry) (s x : ℕ) (name : List ℕ) (u : Table) → Legal terms (e ∷ past) → Fits terms (e ∷ past) → xact_of past s ≡ Some x → xact_of (e ∷ past) s ≡ Some x → named (latest terms past x) name ≡ Some u → IsFound (latest terms (e ∷ past) x) name u ⊥
still_found terms past (Make y table other shape) s x name u legal fits own later is = found_after_make (standing past past (Some x) y) table other shape (latest terms past x) name u ⊥ is
still_found terms past (Add y table row) s x name u legal fits own later is = found_after_add (standing past past (Some x) y) (length past) table row (latest terms past x) name u ⊥ is
still_found terms past (Alter y table statement rewritten) s x name u legal fits own later is = found_after_alter (standing past past (Some x) y) (statement_of terms (hand past (session_of past y)) statement) table (latest terms past x) name u ⊥ (λ asked. absurd asked) is
still_found terms past (Commit y) s x name u legal fits own later is =
    let other : is_that (xact_of past s) y ≡ false = (not_none (is_that (xact_of past s) y) (xact_of past s) x later).0 in
    found_less (latest terms (Commit y ∷ past) x) name u _ ⊥ (λ asked. absurd asked) (found_commit terms past s x y AccessShare name u legal.1 fits own (turn x y (rw own at other)) is)
still_found terms past (Abort y) s x name u legal fits own later is =
    let other : is_that (xact_of past s) y ≡ false = (not_none (is_that (xact_of past s) y) (xact_of past s) x later).0 in
    found_less (latest terms (Abort y ∷ past) x) name u _ ⊥ (λ asked. absurd asked) (found_abort terms past s x y AccessShare name u legal.1 fits own (turn x y (rw own at other)) is)
still_found terms past e s x name u legal fits own later is = found_so (latest terms past x) name u ⊥ is

-- ---- from the Look on

-- what is known of a session's statement since its Look
pub record IsSteady (terms : Terms) (past look : Past) (s x : ℕ) : Type 0 where
  pub own : session_of look x ≡ s
  pub was_legal : Legal terms look
  pub rule : LookRule terms look x
  pub statement : in_hand terms look s ≡ in_hand terms past s
  pub locks : (c : Claim) → c.session ≡ s → is_held (held look) c ≡ true → is_held (held past) c ≡ true
  pub finds : (name : List ℕ) (u : Table) (mode : Mode) → named (latest terms look x) name ≡ Some u → IsFound (latest terms past x) name u ((is_held (held look) (record { session = s; table = u.number; mode = mode }) ≡ true) × (acts_of past s ≡ []))

none_acted : (b : Bool) (acts : List ℕ) (place : ℕ) → cond b (acts ++ place ∷ []) acts ≡ [] → (b ≡ false) × (acts ≡ [])
none_acted true [] place none = absurd cc
none_acted true (act ∷ acts) place none = absurd cc
none_acted false acts place none = (refl, none)

another_session : (past : Past) (s x y : ℕ) → xact_of past s ≡ Some x → xact_of past (session_of past y) ≡ Some y → (y == x) ≡ false → (s == session_of past y) ≡ false
another_session past s x y own its other = ne_eqb _ _ (λ same. let its_too : xact_of past s ≡ Some y = rw same its in let yes : y ≡ x = cc in let no : (y == x) ≡ true = eq-eqb y x yes in absurd cc)

-- a transaction's table while the statement does nothing
step_found : (terms : Terms) (past look : Past) (s x : ℕ) (after : Database) (Next : Type 0) (name : List ℕ) (u : Table) (mode : Mode) → IsSteady terms past look s x → named (latest terms look x) name ≡ Some u → (Next → acts_of past s ≡ []) → ((t : Table) → named (latest terms past x) name ≡ Some t → IsFound after name t (Next × (is_held (held past) (record { session = s; table = t.number; mode = mode }) ≡ true))) → IsFound after name u ((is_held (held look) (record { session = s; table = u.number; mode = mode }) ≡ true) × Next)
step_found terms past look s x after Next name u mode steady is none next = found_then (latest terms past x) after name u _ _ (λ asked. (asked.0, none asked.1)) (steady.finds name u mode is) (λ t found number. found_less after name t _ _ (λ asked. (asked.1, rw number (steady.locks (record { session = s; table = u.number; mode = mode }) refl asked.0))) (next t found))

pub steady : (terms : Terms) (past look : Past) (s x block : ℕ) → Legal terms past → Fits terms past → xact_of past s ≡ Some x → look_of past s ≡ Some look → hand past s ≡ Some block → refused past s ≡ false → IsSteady terms past look s x
steady terms [] look s x block legal fits own looked step kept = absurd cc
steady terms (Give r given ∷ past) look s x block legal fits own looked step kept =
    let other : ((r == s) ≡ false) × (look_of past s ≡ Some look) = not_none (r == s) (look_of past s) look looked in
    let p : IsSteady terms past look s x = steady terms past look s x block legal.1 fits own other.1 (rw other.0 at step) (rw other.0 at kept) in
    record { own = p.own; was_legal = p.was_legal; rule = p.rule; statement = rw other.0 p.statement; locks = p.locks; finds = rw other.0 p.finds }
steady terms (Start r level ∷ past) look s x block legal fits own looked step kept = by_test (r == s) refl own (λ h. steady terms past look s x block legal.1 fits h looked step kept) where
  by_test : (b : Bool) → (r == s) ≡ b → cond b (Some (length past)) (xact_of past s) ≡ Some x → (xact_of past s ≡ Some x → IsSteady terms past look s x) → IsSteady terms (Start r level ∷ past) look s x
  by_test true same own more =
      let none : xact_of past s ≡ None = rw (eqb-true r s same) at legal.0.rule.none_open in
      let some : IsSome (xact_of past s) = looked_open terms past look s block legal.1 looked step kept in
      let no : is_some {T = ℕ} None ≡ true = rw none at some in
      absurd cc
  by_test false other own more =
      let p : IsSteady terms past look s x = more own in
      record { own = p.own; was_legal = p.was_legal; rule = p.rule; statement = p.statement; locks = p.locks; finds = p.finds }
steady terms (Lock y table mode ∷ past) look s x block legal fits own looked step kept =
    let p : IsSteady terms past look s x = steady terms past look s x block legal.1 fits own looked step kept in
    record { own = p.own; was_legal = p.was_legal; rule = p.rule; statement = p.statement; locks = λ c its there. held_still (held past) c (claim past y table mode) (p.locks c its there); finds = p.finds }
steady terms (Look y ∷ past) look s x block legal fits own looked step kept = by_test (is_that (xact_of past s) y) refl looked (λ h. steady terms past look s x block legal.1 fits own h step kept) where
  here : past ≡ look → y ≡ x → IsSteady terms (Look y ∷ past) look s x
  here at is = rw (← at) (record { own = (xact_is terms past s x legal.1 own).own; was_legal = legal.1; rule = rw (← is) legal.0.rule; statement = refl; locks = λ c its there. there; finds = λ name u mode found. found_so (latest terms past x) name u _ found })

  by_test : (b : Bool) → is_that (xact_of past s) y ≡ b → cond b (Some past) (look_of past s) ≡ Some look → (look_of past s ≡ Some look → IsSteady terms past look s x) → IsSteady terms (Look y ∷ past) look s x
  by_test true its looked more = let that : xact_of past s ≡ Some y = is_that_so (xact_of past s) y its in
      let at : past ≡ look = cc in
      let is : y ≡ x = cc in
      here at is
  by_test false other looked more =
      let p : IsSteady terms past look s x = more looked in
      record { own = p.own; was_legal = p.was_legal; rule = p.rule; statement = p.statement; locks = p.locks; finds = p.finds }
steady terms (Make y table other shape ∷ past) look s x block legal fits own looked step kept =
    let p : IsSteady terms past look s x = steady terms past look s x block legal.1 fits.1 own looked step kept in
    record { own = p.own; was_legal = p.was_legal; rule = p.rule; statement = p.statement; locks = p.locks; finds = λ name u mode is. step_found terms past look s x (latest terms (Make y table other shape ∷ past) x) _ name u mode p is (λ none. (none_acted _ _ _ none).1) (λ t found. found_after_make (standing past past (Some x) y) table other shape (latest terms past x) name t _ found) }
steady terms (Add y table row ∷ past) look s x block legal fits own looked step kept =
    let p : IsSteady terms past look s x = steady terms past look s x block legal.1 fits.1 own looked step kept in
    record { own = p.own; was_legal = p.was_legal; rule = p.rule; statement = p.statement; locks = p.locks; finds = λ name u mode is. step_found terms past look s x (latest terms (Add y table row ∷ past) x) _ name u mode p is (λ none. (none_acted _ _ _ none).1) (λ t found. found_after_add (standing past past (Some x) y) (length past) table row (latest terms past x) name t _ found) }
steady terms (Read y names rows ∷ past) look s x block legal fits own looked step kept =
    let p : IsSteady terms past look s x = steady terms past look s x block legal.1 fits own looked step kept in
    record { own = p.own; was_legal = p.was_legal; rule = p.rule; statement = p.statement; locks = p.locks; finds = λ name u mode is. step_found terms past look s x (latest terms past x) _ name u mode p is (λ none. (none_acted _ _ _ none).1) (λ t found. found_so (latest terms past x) name t _ found) }
steady terms (Alter y table statement rewritten ∷ past) look s x block legal fits own looked step kept =
    let p : IsSteady terms past look s x = steady terms past look s x block legal.1 fits.1 own looked step kept in
    let undecided : fate past y ≡ Open = (xact_is terms past (session_of past y) y legal.1 legal.0.rule.act.open_xact).undecided in
    record { own = p.own; was_legal = p.was_legal; rule = p.rule; statement = p.statement; locks = p.locks; finds = λ name u mode is. step_found terms past look s x (latest terms (Alter y table statement rewritten ∷ past) x) _ name u mode p is (λ none. (none_acted _ _ _ none).1) (λ t found. found_after_alter (standing past past (Some x) y) (statement_of terms (hand past (session_of past y)) statement) table (latest terms past x) name t _ (λ asked. absent undecided (none_acted _ _ _ asked.0).0) found) } where
      absent : fate past y ≡ Open → is_that (xact_of past s) y ≡ false → standing past past (Some x) y ≡ Absent
      absent undecided other = let others : (x == y) ≡ false = rw own at other in rw (others, undecided) refl
steady terms (Done r reply ∷ past) look s x block legal fits own looked step kept =
    let other : ((r == s) ≡ false) × (look_of past s ≡ Some look) = not_none (r == s) (look_of past s) look looked in
    let p : IsSteady terms past look s x = steady terms past look s x block legal.1 fits own other.1 step kept in
    record { own = p.own; was_legal = p.was_legal; rule = p.rule; statement = rw other.0 p.statement; locks = p.locks; finds = rw other.0 p.finds }
steady terms (Refuse r cause ∷ past) look s x block legal fits own looked step kept =
    let p : IsSteady terms past look s x = steady terms past look s x block legal.1 fits own looked step (not_true (r == s) (refused past s) kept).1 in
    record { own = p.own; was_legal = p.was_legal; rule = p.rule; statement = p.statement; locks = p.locks; finds = p.finds }
steady terms (End r ∷ past) look s x block legal fits own looked step kept =
    let other : ((r == s) ≡ false) × (hand past s ≡ Some block) = not_none (r == s) (hand past s) block step in
    let p : IsSteady terms past look s x = steady terms past look s x block legal.1 fits own looked other.1 kept in
    record { own = p.own; was_legal = p.was_legal; rule = p.rule; statement = rw other.0 p.statement; locks = p.locks; finds = p.finds }
steady terms (Commit y ∷ past) look s x block legal fits own looked step kept =
    let before : (is_that (xact_of past s) y ≡ false) × (xact_of past s ≡ Some x) = not_none (is_that (xact_of past s) y) (xact_of past s) x own in
    let p : IsSteady terms past look s x = steady terms past look s x block legal.1 fits.1 before.1 looked step kept in
    let apart : (y == x) ≡ false = turn x y (rw before.1 at before.0) in
    record { own = p.own; was_legal = p.was_legal; rule = p.rule; statement = p.statement; locks = λ c its there. held_besides (session_of past y) (held past) c (rw its (another_session past s x y before.1 legal.0.rule.open_xact apart)) (p.locks c its there); finds = λ name u mode is. step_found terms past look s x (latest terms (Commit y ∷ past) x) _ name u mode p is (λ none. none) (λ t found. found_less _ name t _ _ (λ asked. asked.1) (found_commit terms past s x y mode name t legal.1 fits before.1 apart found)) }
steady terms (Abort y ∷ past) look s x block legal fits own looked step kept =
    let before : (is_that (xact_of past s) y ≡ false) × (xact_of past s ≡ Some x) = not_none (is_that (xact_of past s) y) (xact_of past s) x own in
    let p : IsSteady terms past look s x = steady terms past look s x block legal.1 fits.1 before.1 looked step kept in
    let apart : (y == x) ≡ false = turn x y (rw before.1 at before.0) in
    record { own = p.own; was_legal = p.was_legal; rule = p.rule; statement = p.statement; locks = λ c its there. held_besides (session_of past y) (held past) c (rw its (another_session past s x y before.1 legal.0.rule.open_xact apart)) (p.locks c its there); finds = λ name u mode is. step_found terms past look s x (latest terms (Abort y ∷ past) x) _ name u mode p is (λ none. none) (λ t found. found_less _ name t _ _ (λ asked. asked.1) (found_abort terms past s x y mode name t legal.1 fits before.1 apart found)) }
steady terms (e ∷ past) look s x block legal fits own looked step kept =
    let p : IsSteady terms past look s x = steady terms past look s x block legal.1 fits own looked step kept in
    record { own = p.own; was_legal = p.was_legal; rule = p.rule; statement = p.statement; locks = p.locks; finds = p.finds }
