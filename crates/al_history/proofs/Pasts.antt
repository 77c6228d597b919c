-- Laws of pasts.
use Rattle.std.proofs.Common.{◌≡◌, ℕ, suc, ◌<◌, List, [], ◌∷◌, ◌++◌, length, reverse, refl, cond, true, false, Bool, Option, Some, None, arith}
use Rattle.std.specs.Prelude.{◌==◌}
use Rattle.std.proofs.lemmas.List.{reverse-append, length-reverse}
use Rattle.std.proofs.lemmas.Bool.{eq-eqb}
use Rattle.al_history.specs.declared.entry.Entry.{Entry}
use Rattle.al_history.specs.declared.entry.Entry.TheVariants.{Give, Start, Wait, Lock, Look, Make, Add, Read, Alter, Done, Refuse, Commit, Abort, Cancel, End, Close}
use Rattle.al_history.specs.Past.{Past}
use Rattle.al_history.specs.Hand.{xact_of}
use Rattle.al_history.specs.Fate.{is_that}

-- an entry at the end of a journal is the newest of its past
pub past_grows : (entries : List Entry) (e : Entry) → reverse (entries ++ e ∷ []) ≡ e ∷ reverse entries
past_grows entries e = reverse-append entries (e ∷ [])

pub past_length : (entries : List Entry) → length (reverse entries) ≡ length entries
past_length entries = length-reverse entries

pub if_same : (n : ℕ) → (n == n) ≡ true
if_same n = eq-eqb n n refl

-- one of two answers is the wanted one
pub some_of_cond : {A : Type 0} (b : Bool) (x y : Option A) (z : A) (P : A → Type 0) → (x ≡ Some z → P z) → (y ≡ Some z → P z) → cond b x y ≡ Some z → P z
some_of_cond true x y z P f g e = f e
some_of_cond false x y z P f g e = g e

-- a transaction is named by a place before
pub xact_below : (past : Past) (s x : ℕ) → xact_of past s ≡ Some x → x < length past
xact_below [] s x e = absurd cc
xact_below (Give r block ∷ past) s x e = omega (arith, xact_below past s x e)
xact_below (Start r level ∷ past) s x e = some_of_cond (r == s) (Some (length past)) (xact_of past s) x (λ y. y < suc (length past)) (λ h. let same : length past ≡ x = cc in omega arith) (λ h. omega (arith, xact_below past s x h)) e
xact_below (Wait y want ∷ past) s x e = omega (arith, xact_below past s x e)
xact_below (Lock y table mode ∷ past) s x e = omega (arith, xact_below past s x e)
xact_below (Look y ∷ past) s x e = omega (arith, xact_below past s x e)
xact_below (Make y table name shape ∷ past) s x e = omega (arith, xact_below past s x e)
xact_below (Add y table row ∷ past) s x e = omega (arith, xact_below past s x e)
xact_below (Read y names rows ∷ past) s x e = omega (arith, xact_below past s x e)
xact_below (Alter y table statement rewritten ∷ past) s x e = omega (arith, xact_below past s x e)
xact_below (Done r reply ∷ past) s x e = omega (arith, xact_below past s x e)
xact_below (Refuse r cause ∷ past) s x e = omega (arith, xact_below past s x e)
xact_below (Commit y ∷ past) s x e = some_of_cond (is_that (xact_of past s) y) None (xact_of past s) x (λ z. z < suc (length past)) (λ h. absurd cc) (λ h. omega (arith, xact_below past s x h)) e
xact_below (Abort y ∷ past) s x e = some_of_cond (is_that (xact_of past s) y) None (xact_of past s) x (λ z. z < suc (length past)) (λ h. absurd cc) (λ h. omega (arith, xact_below past s x h)) e
xact_below (Cancel r ∷ past) s x e = omega (arith, xact_below past s x e)
xact_below (End r ∷ past) s x e = omega (arith, xact_below past s x e)
xact_below (Close r ∷ past) s x e = omega (arith, xact_below past s x e)
