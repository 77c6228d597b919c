-- Laws of views.
use Rattle.std.proofs.Common.{◌≡◌, ℕ, ◌<◌, ◌≤◌, [], ◌∷◌, length, refl, ap, cond, true, false, Bool, Some, None, arith}
use Rattle.std.specs.Prelude.{◌==◌}
use mathlib.Core.Path.{fun_ext}
use Rattle.std.proofs.lemmas.Bool.{eqb-true, ne_eqb}
use Rattle.al_history.specs.declared.entry.Entry.TheVariants.{Give, Start, Wait, Lock, Look, Make, Add, Read, Alter, Done, Refuse, Commit, Abort, Cancel, End, Close}
use Rattle.al_history.specs.declared.statement.Terms.{Terms}
use Rattle.al_history.specs.Past.{Past}
use Rattle.al_history.specs.Fate.{Open, Committed, Aborted, fate, Standing, Inside, standing, inside_if, outside_if}
use Rattle.al_history.specs.Hand.{session_of}
use Rattle.al_history.specs.View.{view_by, latest, committed}
use Rattle.al_history.specs.Legal.{Legal, HoldAlways}
use Rattle.al_history.proofs.Pasts.{xact_below}

-- two ways to stand that agree on all transactions of a legal journal give one view
pub views_agree : (terms : Terms) (past : Past) (f g : ℕ → Standing) → Legal terms past → ((z : ℕ) → z < length past → f z ≡ g z) → view_by terms f past ≡ view_by terms g past
views_agree terms [] f g l h = refl
views_agree terms (Give r block ∷ past) f g l h = views_agree terms past f g l.1 (λ z lt. h z (omega arith))
views_agree terms (Start r level ∷ past) f g l h = views_agree terms past f g l.1 (λ z lt. h z (omega arith))
views_agree terms (Wait x want ∷ past) f g l h = views_agree terms past f g l.1 (λ z lt. h z (omega arith))
views_agree terms (Lock x table mode ∷ past) f g l h = views_agree terms past f g l.1 (λ z lt. h z (omega arith))
views_agree terms (Look x ∷ past) f g l h = views_agree terms past f g l.1 (λ z lt. h z (omega arith))
views_agree terms (Make x table name shape ∷ past) f g l h =
    let db : view_by terms f past ≡ view_by terms g past = views_agree terms past f g l.1 (λ z lt. h z (omega arith)) in
    let before : x < length past = xact_below past (session_of past x) x l.0.rule.act.open_xact in
    let stands : f x ≡ g x = h x (omega arith) in
    cc
views_agree terms (Add x table row ∷ past) f g l h =
    let db : view_by terms f past ≡ view_by terms g past = views_agree terms past f g l.1 (λ z lt. h z (omega arith)) in
    let before : x < length past = xact_below past (session_of past x) x l.0.rule.act.open_xact in
    let stands : f x ≡ g x = h x (omega arith) in
    cc
views_agree terms (Read x names rows ∷ past) f g l h = views_agree terms past f g l.1 (λ z lt. h z (omega arith))
views_agree terms (Alter x table statement rewritten ∷ past) f g l h =
    let db : view_by terms f past ≡ view_by terms g past = views_agree terms past f g l.1 (λ z lt. h z (omega arith)) in
    let before : x < length past = xact_below past (session_of past x) x l.0.rule.act.open_xact in
    let stands : f x ≡ g x = h x (omega arith) in
    cc
views_agree terms (Done r reply ∷ past) f g l h = views_agree terms past f g l.1 (λ z lt. h z (omega arith))
views_agree terms (Refuse r cause ∷ past) f g l h = views_agree terms past f g l.1 (λ z lt. h z (omega arith))
views_agree terms (Commit x ∷ past) f g l h = views_agree terms past f g l.1 (λ z lt. h z (omega arith))
views_agree terms (Abort x ∷ past) f g l h = views_agree terms past f g l.1 (λ z lt. h z (omega arith))
views_agree terms (Cancel r ∷ past) f g l h = views_agree terms past f g l.1 (λ z lt. h z (omega arith))
views_agree terms (End r ∷ past) f g l h = views_agree terms past f g l.1 (λ z lt. h z (omega arith))
views_agree terms (Close r ∷ past) f g l h = views_agree terms past f g l.1 (λ z lt. h z (omega arith))

-- a Commit makes the transaction's own database the committed one
stands_after_commit : (past : Past) (x z : ℕ) → standing (Commit x ∷ past) (Commit x ∷ past) None z ≡ standing past past (Some x) z
stands_after_commit past x z = by_test (x == z) where
  by_test : (b : Bool) → cond false Inside (inside_if (cond b Committed (fate past z)) (outside_if (cond b Committed (fate past z)))) ≡ cond b Inside (inside_if (fate past z) (outside_if (fate past z)))
  by_test true = refl
  by_test false = refl

pub committed_by_commit : (terms : Terms) (past : Past) (x : ℕ) → committed terms (Commit x ∷ past) ≡ latest terms past x
committed_by_commit terms past x = ap (λ (s : ℕ → Standing). view_by terms s past) (fun_ext (stands_after_commit past x))

-- an Abort of an open transaction leaves the committed database
stands_after_abort : (past : Past) (x z : ℕ) → fate past x ≡ Open → standing (Abort x ∷ past) (Abort x ∷ past) None z ≡ standing past past None z
stands_after_abort past x z open_fate = by_test (x == z) (eqb-true x z) where
  by_test : (b : Bool) → (b ≡ true → x ≡ z) → cond false Inside (inside_if (cond b Aborted (fate past z)) (outside_if (cond b Aborted (fate past z)))) ≡ cond false Inside (inside_if (fate past z) (outside_if (fate past z)))
  by_test true same = let e : fate past z ≡ Open = cc (same refl) in rw e refl
  by_test false same = refl

pub committed_by_abort : (terms : Terms) (past : Past) (x : ℕ) → fate past x ≡ Open → committed terms (Abort x ∷ past) ≡ committed terms past
committed_by_abort terms past x open_fate = ap (λ (s : ℕ → Standing). view_by terms s past) (fun_ext (λ z. stands_after_abort past x z open_fate))

-- a transaction that begins now finds what is committed
stands_at_start : (past : Past) (x z : ℕ) → z < x → standing past past (Some x) z ≡ standing past past None z
stands_at_start past x z lt = let other : (x == z) ≡ false = ne_eqb x z (λ e. omega arith) in rw other refl

pub latest_at_start : (terms : Terms) (past : Past) (x : ℕ) → Legal terms past → length past ≤ x → latest terms past x ≡ committed terms past
latest_at_start terms past x legal le = views_agree terms past (standing past past (Some x)) (standing past past None) legal (λ z lt. stands_at_start past x z (omega arith))

-- no constraint asks anything so far, so all hold
pub hold_always : (terms : Terms) (past : Past) → HoldAlways terms past
hold_always terms [] = λ t there c there' valid. absurd c.demand
hold_always terms (e ∷ past) = (λ t there c there' valid. absurd c.demand, hold_always terms past)
