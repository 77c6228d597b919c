-- What a session is doing, and how each entry moves it on: of the entry's own session by a small machine, of the others not at
-- all.
use Rattle.std.proofs.Common.{◌≡◌, ℕ, ◌+◌, List, [], ◌∷◌, ◌++◌, length, refl, sym, ap, true, false, Bool, Option, Some, None, ◌∙◌}
use Rattle.std.specs.Prelude.{◌==◌}
use Rattle.std.proofs.lemmas.Bool.{eqb-true}
use Rattle.al_history.specs.declared.entry.Entry.{Entry}
use Rattle.al_history.specs.declared.entry.Entry.TheVariants.{Give, Start, Wait, Lock, Look, Make, Add, Read, Alter, Done, Refuse, Commit, Abort, Cancel, End, Close}
use Rattle.al_history.specs.declared.entry.Want.{Want}
use Rattle.al_history.specs.declared.statement.Terms.{Terms}
use Rattle.al_history.specs.Past.{Past}
use Rattle.al_history.specs.Fate.{is_that}
use Rattle.al_history.specs.Hand.{BlockState, hand, dones, refused, xact_of, session_of, look_of, acts_of, closed, block_state, block_after, failed_at}
use Rattle.al_history.specs.Made.{made_by}
use Rattle.al_history.specs.Waits.{wanted_by}
use Rattle.al_history.specs.Legal.{Legal}
use Rattle.al_history.proofs.Pasts.{if_same}
use Rattle.al_history.proofs.Xacts.{xact_is}

-- what a session is doing
pub record Doing : Type 0 where
  pub hand : Option ℕ
  pub dones : ℕ
  pub refused : Bool
  pub xact : Option ℕ
  pub look : Option Past
  pub acts : List ℕ
  pub block : BlockState
  pub closed : Bool
  pub wants : Option Want

abbrev pub doing : Past → ℕ → Doing
doing past s = record { hand = hand past s; dones = dones past s; refused = refused past s; xact = xact_of past s; look = look_of past s; acts = acts_of past s; block = block_state past s; closed = closed past s; wants = wanted_by past s }

-- one more thing done
abbrev pub acted : Past → Doing → Doing
acted past d = record d { acts = d.acts ++ length past ∷ []; wants = None }

-- what the session is doing after an entry of its own
abbrev pub moved : Past → Entry → Doing → Doing
moved past (Give s block) d = record d { hand = Some block; dones = 0; refused = false; look = None; acts = []; wants = None }
moved past (Start s level) d = record d { xact = Some (length past); wants = None }
moved past (Wait x want) d = record d { wants = Some want }
moved past (Lock x table mode) d = record d { wants = None }
moved past (Look x) d = record d { look = Some past; wants = None }
moved past (Make x table name shape) d = acted past d
moved past (Add x table row) d = acted past d
moved past (Read x names rows) d = acted past d
moved past (Alter x table statement rewritten) d = acted past d
moved past (Done s reply) d = record d { dones = d.dones + 1; look = None; acts = []; block = block_after reply d.block; wants = None }
moved past (Refuse s cause) d = record d { refused = true; block = failed_at (length past) d.block; wants = None }
moved past (Commit x) d = record d { xact = None; wants = None }
moved past (Abort x) d = record d { xact = None; wants = None }
moved past (Cancel s) d = record d { wants = None }
moved past (End s) d = record d { hand = None; wants = None }
moved past (Close s) d = record d { closed = true; wants = None }

-- an entry of a transaction is of the session whose open transaction it is
pub record IsXact (past : Past) (s x : ℕ) : Type 0 where
  pub session : session_of past x ≡ s
  pub open_xact : xact_of past s ≡ Some x

-- an entry is the session's
abbrev pub IsBy : Past → ℕ → Entry → Type 0
IsBy past s (Give r block) = r ≡ s
IsBy past s (Start r level) = r ≡ s
IsBy past s (Wait x want) = IsXact past s x
IsBy past s (Lock x table mode) = IsXact past s x
IsBy past s (Look x) = IsXact past s x
IsBy past s (Make x table name shape) = IsXact past s x
IsBy past s (Add x table row) = IsXact past s x
IsBy past s (Read x names rows) = IsXact past s x
IsBy past s (Alter x table statement rewritten) = IsXact past s x
IsBy past s (Done r reply) = r ≡ s
IsBy past s (Refuse r cause) = r ≡ s
IsBy past s (Commit x) = IsXact past s x
IsBy past s (Abort x) = IsXact past s x
IsBy past s (Cancel r) = r ≡ s
IsBy past s (End r) = r ≡ s
IsBy past s (Close r) = r ≡ s

pub made_so : (past : Past) (s : ℕ) (e : Entry) → IsBy past s e → made_by past e ≡ s
made_so past s (Give r block) by = by
made_so past s (Start r level) by = by
made_so past s (Wait x want) by = by.session
made_so past s (Lock x table mode) by = by.session
made_so past s (Look x) by = by.session
made_so past s (Make x table name shape) by = by.session
made_so past s (Add x table row) by = by.session
made_so past s (Read x names rows) by = by.session
made_so past s (Alter x table statement rewritten) by = by.session
made_so past s (Done r reply) by = by
made_so past s (Refuse r cause) by = by
made_so past s (Commit x) by = by.session
made_so past s (Abort x) by = by.session
made_so past s (Cancel r) by = by
made_so past s (End r) by = by
made_so past s (Close r) by = by

-- an entry moves its own session
pub own_moves : (past : Past) (s : ℕ) (e : Entry) → IsBy past s e → doing (e ∷ past) s ≡ moved past e (doing past s)
own_moves past s (Give r block) by = rw (by, if_same s) refl
own_moves past s (Start r level) by = rw (by, if_same s) refl
own_moves past s (Wait x want) by = rw (by.session, if_same s) refl
own_moves past s (Lock x table mode) by = rw (by.session, if_same s) refl
own_moves past s (Look x) by = rw (by.session, by.open_xact, if_same s, if_same x) refl
own_moves past s (Make x table name shape) by = rw (by.session, by.open_xact, if_same s, if_same x) refl
own_moves past s (Add x table row) by = rw (by.session, by.open_xact, if_same s, if_same x) refl
own_moves past s (Read x names rows) by = rw (by.session, by.open_xact, if_same s, if_same x) refl
own_moves past s (Alter x table statement rewritten) by = rw (by.session, by.open_xact, if_same s, if_same x) refl
own_moves past s (Done r reply) by = rw (by, if_same s) refl
own_moves past s (Refuse r cause) by = rw (by, if_same s) refl
own_moves past s (Commit x) by = rw (by.session, by.open_xact, if_same s, if_same x) refl
own_moves past s (Abort x) by = rw (by.session, by.open_xact, if_same s, if_same x) refl
own_moves past s (Cancel r) by = rw (by, if_same s) refl
own_moves past s (End r) by = rw (by, if_same s) refl
own_moves past s (Close r) by = rw (by, if_same s) refl

-- a transaction is of one session alone
pub apart : (terms : Terms) (past : Past) (s r x : ℕ) → Legal terms past → IsXact past s x → (s == r) ≡ false → is_that (xact_of past r) x ≡ false
apart terms past s r x legal by other = by_xact (xact_of past r) refl where
  by_number : (y : ℕ) → xact_of past r ≡ Some y → (b : Bool) → (y == x) ≡ b → b ≡ false
  by_number y is false e = refl
  by_number y is true e =
      let same : y ≡ x = eqb-true y x e in
      let own : session_of past y ≡ r = (xact_is terms past r y legal is).own in
      let one : s ≡ r = sym by.session ∙ ap (session_of past) (sym same) ∙ own in
      absurd (let wrong : true ≡ false = rw (one, if_same r) at other in cc)

  by_xact : (o : Option ℕ) → xact_of past r ≡ o → is_that o x ≡ false
  by_xact None is = refl
  by_xact (Some y) is = by_number y is (y == x) refl

-- and leaves the others as they were
module _ (terms : Terms) (past : Past) (s r : ℕ) (legal : Legal terms past) (other : (s == r) ≡ false) where
  pub others_stay : (e : Entry) → IsBy past s e → doing (e ∷ past) r ≡ doing past r
  others_stay (Give q block) by = rw (by, other) refl
  others_stay (Start q level) by = rw (by, other) refl
  others_stay (Wait x want) by = rw (by.session, other) refl
  others_stay (Lock x table mode) by = rw (by.session, other) refl
  others_stay (Look x) by = rw (by.session, other, apart terms past s r x legal by other) refl
  others_stay (Make x table name shape) by = rw (by.session, other, apart terms past s r x legal by other) refl
  others_stay (Add x table row) by = rw (by.session, other, apart terms past s r x legal by other) refl
  others_stay (Read x names rows) by = rw (by.session, other, apart terms past s r x legal by other) refl
  others_stay (Alter x table statement rewritten) by = rw (by.session, other, apart terms past s r x legal by other) refl
  others_stay (Done q reply) by = rw (by, other) refl
  others_stay (Refuse q cause) by = rw (by, other) refl
  others_stay (Commit x) by = rw (by.session, other, apart terms past s r x legal by other) refl
  others_stay (Abort x) by = rw (by.session, other, apart terms past s r x legal by other) refl
  others_stay (Cancel q) by = rw (by, other) refl
  others_stay (End q) by = rw (by, other) refl
  others_stay (Close q) by = rw (by, other) refl
