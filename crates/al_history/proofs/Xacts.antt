-- Laws of open transactions.
use Rattle.std.proofs.Common.{◌≡◌, ℕ, ◌<◌, ◌≤◌, [], ◌∷◌, length, refl, sym, cond, true, false, Bool, Some, None, arith, ◌∙◌}
use Rattle.std.specs.Prelude.{◌==◌}
use Rattle.std.proofs.lemmas.Bool.{eq-eqb, eqb-true, ne_eqb}
use Rattle.al_history.specs.declared.entry.Entry.TheVariants.{Start, Commit, Abort}
use Rattle.al_history.specs.declared.statement.Terms.{Terms}
use Rattle.al_history.specs.Past.{Past}
use Rattle.al_history.specs.Fate.{Open, Committed, Aborted, fate, is_that}
use Rattle.al_history.specs.Hand.{xact_of, session_of}
use Rattle.al_history.specs.Legal.{Legal}
use Rattle.al_history.proofs.Pasts.{xact_below, if_same}

-- whether a transaction began at this place
abbrev pub is_start : Past → ℕ → Bool
is_start [] y = false
is_start (Start r level ∷ past) y = cond (length past == y) true (is_start past y)
is_start (e ∷ past) y = is_start past y

-- places to come are of no transaction that has ended
pub open_ahead : (terms : Terms) (past : Past) (z : ℕ) → Legal terms past → length past ≤ z → fate past z ≡ Open
open_ahead terms [] z legal le = refl
open_ahead terms (Commit x ∷ past) z legal le =
    let before : x < length past = xact_below past (session_of past x) x legal.0.rule.open_xact in
    let other : (x == z) ≡ false = ne_eqb x z (λ e. omega arith) in
    rw other (open_ahead terms past z legal.1 (omega arith))
open_ahead terms (Abort x ∷ past) z legal le =
    let before : x < length past = xact_below past (session_of past x) x legal.0.rule.open_xact in
    let other : (x == z) ≡ false = ne_eqb x z (λ e. omega arith) in
    rw other (open_ahead terms past z legal.1 (omega arith))
open_ahead terms (e ∷ past) z legal le = open_ahead terms past z legal.1 (omega arith)

-- x is the open transaction of the session
pub record IsXactOf (past : Past) (s x : ℕ) : Type 0 where
  pub own : session_of past x ≡ s
  pub undecided : fate past x ≡ Open
  pub below : x < length past
  pub began : is_start past x ≡ true

grown : (past after : Past) (s x : ℕ) → session_of after x ≡ session_of past x → fate after x ≡ fate past x → is_start after x ≡ is_start past x → length past ≤ length after → IsXactOf past s x → IsXactOf after s x
grown past after s x session same start le is = record { own = session ∙ is.own; undecided = same ∙ is.undecided; below = omega (arith, is.below); began = start ∙ is.began }

-- numbers that differ do so both ways
pub turn : (a b : ℕ) → (a == b) ≡ false → (b == a) ≡ false
turn a b other = ne_eqb b a (λ e. let same : (a == b) ≡ true = eq-eqb a b (sym e) in absurd cc)

-- the end of a transaction that isn't the session's is that of another
other_end : (past : Past) (s x y : ℕ) → xact_of past s ≡ Some x → is_that (xact_of past s) y ≡ false → (y == x) ≡ false
other_end past s x y is same = let other : (x == y) ≡ false = rw is at same in turn x y other

-- what a session's transaction is
pub xact_is : (terms : Terms) (past : Past) (s x : ℕ) → Legal terms past → xact_of past s ≡ Some x → IsXactOf past s x
xact_is terms [] s x legal e = absurd cc
xact_is terms (Start r level ∷ past) s x legal e = by_test (r == s) refl (λ h. xact_is terms past s x legal.1 h) e where
  by_test : (b : Bool) → (r == s) ≡ b → (xact_of past s ≡ Some x → IsXactOf past s x) → cond b (Some (length past)) (xact_of past s) ≡ Some x → IsXactOf (Start r level ∷ past) s x
  by_test true same more is =
      let here : length past ≡ x = cc in
      let here_so : (length past == x) ≡ true = eq-eqb (length past) x here in
      record { own = rw here_so (eqb-true r s same); undecided = open_ahead terms past x legal.1 (omega arith); below = omega arith; began = rw here_so refl }
  by_test false same more is =
      let before : IsXactOf past s x = more is in
      let other : (length past == x) ≡ false = ne_eqb (length past) x (λ e. omega (arith, before.below)) in
      grown past _ s x (rw other refl) refl (rw other refl) (omega arith) before
xact_is terms (Commit y ∷ past) s x legal e = by_test (is_that (xact_of past s) y) refl (λ h. xact_is terms past s x legal.1 h) e where
  by_test : (b : Bool) → is_that (xact_of past s) y ≡ b → (xact_of past s ≡ Some x → IsXactOf past s x) → cond b None (xact_of past s) ≡ Some x → IsXactOf (Commit y ∷ past) s x
  by_test true same more is = absurd cc
  by_test false same more is = grown past _ s x refl (rw (other_end past s x y is same) refl) refl (omega arith) (more is)
xact_is terms (Abort y ∷ past) s x legal e = by_test (is_that (xact_of past s) y) refl (λ h. xact_is terms past s x legal.1 h) e where
  by_test : (b : Bool) → is_that (xact_of past s) y ≡ b → (xact_of past s ≡ Some x → IsXactOf past s x) → cond b None (xact_of past s) ≡ Some x → IsXactOf (Abort y ∷ past) s x
  by_test true same more is = absurd cc
  by_test false same more is = grown past _ s x refl (rw (other_end past s x y is same) refl) refl (omega arith) (more is)
xact_is terms (e ∷ past) s x legal is = grown past _ s x refl refl refl (omega arith) (xact_is terms past s x legal.1 is)

-- a transaction that has begun and hasn't ended is that of its session
pub open_own : (terms : Terms) (past : Past) (y : ℕ) → Legal terms past → is_start past y ≡ true → fate past y ≡ Open → xact_of past (session_of past y) ≡ Some y
open_own terms [] y legal began undecided = absurd cc
open_own terms (Start r level ∷ past) y legal began undecided = by_test (length past == y) refl began (λ h. open_own terms past y legal.1 h undecided) where
  by_session : (b : Bool) → (r == session_of past y) ≡ b → xact_of past (session_of past y) ≡ Some y → cond b (Some (length past)) (xact_of past (session_of past y)) ≡ Some y
  by_session true same is = let here : r ≡ session_of past y = eqb-true r (session_of past y) same in let none : xact_of past (session_of past y) ≡ None = rw (← here) legal.0.rule.none_open in absurd cc
  by_session false same is = is

  by_test : (b : Bool) → (length past == y) ≡ b → cond b true (is_start past y) ≡ true → (is_start past y ≡ true → xact_of past (session_of past y) ≡ Some y) → xact_of (Start r level ∷ past) (cond b r (session_of past y)) ≡ Some y
  by_test true here began more = rw (if_same r, eqb-true (length past) y here) refl
  by_test false here began more = by_session (r == session_of past y) refl (more began)
open_own terms (Commit x ∷ past) y legal began undecided = by_test (x == y) refl undecided (λ h. open_own terms past y legal.1 began h) where
  by_test : (b : Bool) → (x == y) ≡ b → cond b Committed (fate past y) ≡ Open → (fate past y ≡ Open → xact_of past (session_of past y) ≡ Some y) → xact_of (Commit x ∷ past) (session_of past y) ≡ Some y
  by_test true here undecided more = absurd cc
  by_test false here undecided more = let turned : (y == x) ≡ false = turn x y here in rw (more undecided, turned) refl
open_own terms (Abort x ∷ past) y legal began undecided = by_test (x == y) refl undecided (λ h. open_own terms past y legal.1 began h) where
  by_test : (b : Bool) → (x == y) ≡ b → cond b Aborted (fate past y) ≡ Open → (fate past y ≡ Open → xact_of past (session_of past y) ≡ Some y) → xact_of (Abort x ∷ past) (session_of past y) ≡ Some y
  by_test true here undecided more = absurd cc
  by_test false here undecided more = let turned : (y == x) ≡ false = turn x y here in rw (more undecided, turned) refl
open_own terms (e ∷ past) y legal began undecided = open_own terms past y legal.1 began undecided
