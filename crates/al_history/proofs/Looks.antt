-- What is known of a session from its statement's Look on.
use Rattle.std.proofs.Common.{◌≡◌, ℕ, [], ◌∷◌, refl, cond, true, false, Bool, Option, Some, None, ◌∙◌, ◌⊎◌, inl, inr}
use Rattle.std.specs.Prelude.{◌==◌, IsSome, is_some, option_map}
use Rattle.std.proofs.lemmas.Bool.{eq-eqb, eqb-true, false_from_ne_true}
use Rattle.al_history.specs.declared.entry.Entry.{Entry}
use Rattle.al_history.specs.declared.entry.Entry.TheVariants.{Give, Start, Lock, Look, Make, Add, Read, Alter, Done, Refuse, Commit, Abort, End}
use Rattle.al_history.specs.declared.statement.Statement.{Statement}
use Rattle.al_history.specs.declared.statement.Statement.TheVariants as statements
use Rattle.al_history.specs.declared.statement.Terms.{Terms}
use Rattle.al_history.specs.Past.{Past}
use Rattle.al_history.specs.Fate.{is_that}
use Rattle.al_history.specs.Hand.{hand, dones, refused, in_hand, statement_of, xact_of, implicit_of, session_of, look_of, acts_of}
use Rattle.al_history.specs.Tail.{abort_or_end, owed, Follows}
use Rattle.al_history.specs.Need.{has_place}
use Rattle.al_history.specs.Rules.{ActRule}
use Rattle.al_history.specs.Legal.{Legal}
use Rattle.al_history.proofs.Pasts.{if_same}
use Rattle.al_history.proofs.Claims.{is_that_so, some_is, open_start}
use Rattle.al_history.proofs.Xacts.{xact_is}

-- ---- tests

pub not_none : {A : Type 0} (b : Bool) (o : Option A) (y : A) → cond b None o ≡ Some y → (b ≡ false) × (o ≡ Some y)
not_none true o y is = absurd cc
not_none false o y is = (refl, is)

pub not_true : (b c : Bool) → cond b true c ≡ false → (b ≡ false) × (c ≡ false)
not_true true c is = absurd cc
not_true false c is = (refl, is)

-- ---- a refused step

abbrev pub IsEnding : Entry → Type 0
IsEnding (Abort x) = Unit {0}
IsEnding (End s) = Unit {0}
IsEnding e = ⊥

is_ending : (o : Option ℕ) (s : ℕ) (e : Entry) → e ≡ abort_or_end o s → IsEnding e
is_ending None s e is = rw is tt
is_ending (Some x) s e is = rw is tt

-- after a refusal an Abort or an End comes
pub ends_next : (o : Option Entry) (e : Entry) (x : Option ℕ) (s : ℕ) → Follows o e → o ≡ Some (abort_or_end x s) → e ≡ abort_or_end x s
ends_next None e x s follows is = absurd cc
ends_next (Some next) e x s follows is = let same : next ≡ abort_or_end x s = cc in follows ∙ same

-- what is owed to a session whose step was refused: the Abort of its open transaction, or the End of the step
pub refused_owes : (terms : Terms) (past : Past) (s block : ℕ) → Legal terms past → refused past s ≡ true → hand past s ≡ Some block → owed terms past ≡ Some (abort_or_end (xact_of past s) s)
refused_owes terms [] s block legal was step = absurd cc
refused_owes terms (Give r given ∷ past) s block legal was step = by_test (r == s) was step (λ w h. ends_next (owed terms past) (Give r given) (xact_of past s) s legal.0.follows (refused_owes terms past s block legal.1 w h)) where
  by_test : (b : Bool) → cond b false (refused past s) ≡ true → cond b (Some given) (hand past s) ≡ Some block → (refused past s ≡ true → hand past s ≡ Some block → Give r given ≡ abort_or_end (xact_of past s) s) → owed terms (Give r given ∷ past) ≡ Some (abort_or_end (xact_of past s) s)
  by_test true was step next = absurd cc
  by_test false was step next = absurd (is_ending (xact_of past s) s (Give r given) (next was step))
refused_owes terms (Lock x table mode ∷ past) s block legal was step = refused_owes terms past s block legal.1 was step
refused_owes terms (Refuse r cause ∷ past) s block legal was step = by_test (r == s) refl was (λ w. ends_next (owed terms past) (Refuse r cause) (xact_of past s) s legal.0.follows (refused_owes terms past s block legal.1 w step)) where
  by_test : (b : Bool) → (r == s) ≡ b → cond b true (refused past s) ≡ true → (refused past s ≡ true → Refuse r cause ≡ abort_or_end (xact_of past s) s) → owed terms (Refuse r cause ∷ past) ≡ Some (abort_or_end (xact_of past s) s)
  by_test true own was next = rw (eqb-true r s own) refl
  by_test false own was next = absurd (is_ending (xact_of past s) s (Refuse r cause) (next was))
refused_owes terms (Abort x ∷ past) s block legal was step =
    let next : Abort x ≡ abort_or_end (xact_of past s) s = ends_next (owed terms past) (Abort x) (xact_of past s) s legal.0.follows (refused_owes terms past s block legal.1 was step) in
    let its : xact_of past s ≡ Some x = aborted (xact_of past s) next in
    let own : session_of past x ≡ s = (xact_is terms past s x legal.1 its).own in
    rw (own, step, was, its, if_same x) refl where
      aborted : (o : Option ℕ) → Abort x ≡ abort_or_end o s → o ≡ Some x
      aborted None next = absurd cc
      aborted (Some y) next = let same : x ≡ y = cc in rw same refl
refused_owes terms (End r ∷ past) s block legal was step =
    let other : ((r == s) ≡ false) × (hand past s ≡ Some block) = not_none (r == s) (hand past s) block step in
    let next : End r ≡ abort_or_end (xact_of past s) s = ends_next (owed terms past) (End r) (xact_of past s) s legal.0.follows (refused_owes terms past s block legal.1 was other.1) in
    absurd (ended (xact_of past s) next other.0) where
      ended : (o : Option ℕ) → End r ≡ abort_or_end o s → (r == s) ≡ false → ⊥
      ended None next other = let same : r ≡ s = cc in let yes : (r == s) ≡ true = eq-eqb r s same in absurd cc
      ended (Some y) next other = absurd cc
refused_owes terms (e ∷ past) s block legal was step = absurd (is_ending (xact_of past s) s e (ends_next (owed terms past) e (xact_of past s) s legal.0.follows (refused_owes terms past s block legal.1 was step)))

-- a step wasn't refused where what comes is no end
pub step_kept : (terms : Terms) (past : Past) (s block : ℕ) (e : Entry) → Legal terms past → hand past s ≡ Some block → Follows (owed terms past) e → (IsEnding e → ⊥) → refused past s ≡ false
step_kept terms past s block e legal step follows no_end = false_from_ne_true (refused past s) (λ was. no_end (is_ending (xact_of past s) s e (ends_next (owed terms past) e (xact_of past s) s follows (refused_owes terms past s block legal was step))))

-- so it was where nothing is owed
pub step_kept_between : (terms : Terms) (past : Past) (s block : ℕ) → Legal terms past → hand past s ≡ Some block → owed terms past ≡ None → refused past s ≡ false
step_kept_between terms past s block legal step nothing = false_from_ne_true (refused past s) (λ was. let owing : owed terms past ≡ Some (abort_or_end (xact_of past s) s) = refused_owes terms past s block legal was step in absurd cc)

-- ---- a statement that has looked

-- a session with a statement in hand has a step in hand
pub record IsInStep (past : Past) (s : ℕ) : Type 0 where
  pub block : ℕ
  pub step : hand past s ≡ Some block

pub in_step : (terms : Terms) (past : Past) (s : ℕ) (statement : Statement) → in_hand terms past s ≡ Some statement → IsInStep past s
in_step terms past s statement is = by_hand (hand past s) refl is where
  by_hand : (o : Option ℕ) → hand past s ≡ o → statement_of terms o (dones past s) ≡ Some statement → IsInStep past s
  by_hand None step is = absurd cc
  by_hand (Some block) step is = record { block = block; step = step }

-- the Look that there is
pub record HasLooked (past : Past) (s : ℕ) : Type 0 where
  pub look : Past
  pub looked : look_of past s ≡ Some look

pub has_looked : (past : Past) (s : ℕ) → IsSome (look_of past s) → HasLooked past s
has_looked past s some = by_look (look_of past s) refl some where
  by_look : (o : Option Past) → look_of past s ≡ o → is_some o ≡ true → HasLooked past s
  by_look None is some = absurd cc
  by_look (Some look) is some = record { look = look; looked = is }

-- it has a place
pub looked_placed : (terms : Terms) (past look : Past) (s block : ℕ) → Legal terms past → look_of past s ≡ Some look → hand past s ≡ Some block → option_map has_place (in_hand terms past s) ≡ Some true
looked_placed terms [] look s block legal looked step = absurd cc
looked_placed terms (Give r given ∷ past) look s block legal looked step =
    let other : ((r == s) ≡ false) × (look_of past s ≡ Some look) = not_none (r == s) (look_of past s) look looked in
    rw other.0 (looked_placed terms past look s block legal.1 other.1 (rw other.0 at step))
looked_placed terms (Done r reply ∷ past) look s block legal looked step =
    let other : ((r == s) ≡ false) × (look_of past s ≡ Some look) = not_none (r == s) (look_of past s) look looked in
    rw other.0 (looked_placed terms past look s block legal.1 other.1 step)
looked_placed terms (Look x ∷ past) look s block legal looked step = by_test (is_that (xact_of past s) x) refl looked (λ h. looked_placed terms past look s block legal.1 h step) where
  by_test : (b : Bool) → is_that (xact_of past s) x ≡ b → cond b (Some past) (look_of past s) ≡ Some look → (look_of past s ≡ Some look → option_map has_place (in_hand terms past s) ≡ Some true) → option_map has_place (in_hand terms past s) ≡ Some true
  by_test true its looked more = rw (← (xact_is terms past s x legal.1 (is_that_so (xact_of past s) x its)).own) legal.0.rule.statement
  by_test false other looked more = more looked
looked_placed terms (End r ∷ past) look s block legal looked step =
    let other : ((r == s) ≡ false) × (hand past s ≡ Some block) = not_none (r == s) (hand past s) block step in
    rw other.0 (looked_placed terms past look s block legal.1 looked other.1)
looked_placed terms (e ∷ past) look s block legal looked step = looked_placed terms past look s block legal.1 looked step

-- its transaction is open, unless its step was refused
pub looked_open : (terms : Terms) (past look : Past) (s block : ℕ) → Legal terms past → look_of past s ≡ Some look → hand past s ≡ Some block → refused past s ≡ false → IsSome (xact_of past s)
looked_open terms [] look s block legal looked step kept = absurd cc
looked_open terms (Give r given ∷ past) look s block legal looked step kept =
    let other : ((r == s) ≡ false) × (look_of past s ≡ Some look) = not_none (r == s) (look_of past s) look looked in
    looked_open terms past look s block legal.1 other.1 (rw other.0 at step) (rw other.0 at kept)
looked_open terms (Start r level ∷ past) look s block legal looked step kept = open_start (r == s) _ _ (looked_open terms past look s block legal.1 looked step kept)
looked_open terms (Done r reply ∷ past) look s block legal looked step kept =
    let other : ((r == s) ≡ false) × (look_of past s ≡ Some look) = not_none (r == s) (look_of past s) look looked in
    looked_open terms past look s block legal.1 other.1 step kept
looked_open terms (Look x ∷ past) look s block legal looked step kept = by_test (is_that (xact_of past s) x) refl looked (λ h. looked_open terms past look s block legal.1 h step kept) where
  by_test : (b : Bool) → is_that (xact_of past s) x ≡ b → cond b (Some past) (look_of past s) ≡ Some look → (look_of past s ≡ Some look → IsSome (xact_of past s)) → IsSome (xact_of past s)
  by_test true its looked more = some_is (is_that_so (xact_of past s) x its)
  by_test false other looked more = more looked
looked_open terms (Refuse r cause ∷ past) look s block legal looked step kept = looked_open terms past look s block legal.1 looked step (not_true (r == s) (refused past s) kept).1
looked_open terms (Commit x ∷ past) look s block legal looked step kept = by_test (is_that (xact_of past s) x) refl (looked_open terms past look s block legal.1 looked step kept) where
  placed : option_map has_place (in_hand terms past s) ≡ Some true
  placed = looked_placed terms past look s block legal.1 looked step

  ends : ((in_hand terms past s ≡ None) × (implicit_of past s ≡ Some x)) ⊎ (in_hand terms past s ≡ Some statements.Commit) → ⊥
  ends (inl none) = let e : option_map has_place None ≡ Some true = rw none.0 at placed in absurd cc
  ends (inr is) = let e : option_map has_place (Some statements.Commit) ≡ Some true = rw is at placed in absurd cc

  by_test : (b : Bool) → is_that (xact_of past s) x ≡ b → IsSome (xact_of past s) → IsSome (cond b None (xact_of past s))
  by_test true its some = absurd (ends (rw (xact_is terms past s x legal.1 (is_that_so (xact_of past s) x its)).own at legal.0.rule.ends))
  by_test false other some = some
looked_open terms (Abort x ∷ past) look s block legal looked step kept = by_test (is_that (xact_of past s) x) refl (looked_open terms past look s block legal.1 looked step kept) where
  placed : option_map has_place (in_hand terms past s) ≡ Some true
  placed = looked_placed terms past look s block legal.1 looked step

  ends : ((refused past s ≡ true) ⊎ (hand past s ≡ None)) ⊎ (in_hand terms past s ≡ Some statements.Rollback) → ⊥
  ends (inl (inl was)) = absurd cc
  ends (inl (inr idle)) = absurd cc
  ends (inr is) = let e : option_map has_place (Some statements.Rollback) ≡ Some true = rw is at placed in absurd cc

  by_test : (b : Bool) → is_that (xact_of past s) x ≡ b → IsSome (xact_of past s) → IsSome (cond b None (xact_of past s))
  by_test true its some = absurd (ends (rw (xact_is terms past s x legal.1 (is_that_so (xact_of past s) x its)).own at legal.0.rule.refused_or_idle))
  by_test false other some = some
looked_open terms (End r ∷ past) look s block legal looked step kept =
    let other : ((r == s) ≡ false) × (hand past s ≡ Some block) = not_none (r == s) (hand past s) block step in
    looked_open terms past look s block legal.1 looked other.1 kept
looked_open terms (e ∷ past) look s block legal looked step kept = looked_open terms past look s block legal.1 looked step kept

-- what acts is of no session whose statement hasn't looked
before_look : (terms : Terms) (past : Past) (s x : ℕ) → Legal terms past → ActRule terms past x → look_of past s ≡ None → is_that (xact_of past s) x ≡ false
before_look terms past s x legal act none = false_from_ne_true (is_that (xact_of past s) x) (λ its.
    let own : session_of past x ≡ s = (xact_is terms past s x legal (is_that_so (xact_of past s) x its)).own in
    let there : is_some (look_of past s) ≡ true = rw own at act.looked in
    let no : is_some {T = Past} None ≡ true = rw none at there in
    absurd cc)

-- before its Look a statement has done nothing
pub none_done : (terms : Terms) (past : Past) (s : ℕ) → Legal terms past → look_of past s ≡ None → acts_of past s ≡ []
none_done terms [] s legal none = refl
none_done terms (Give r block ∷ past) s legal none = by_test (r == s) none (λ h. none_done terms past s legal.1 h) where
  by_test : (b : Bool) → cond b None (look_of past s) ≡ None → (look_of past s ≡ None → acts_of past s ≡ []) → cond b [] (acts_of past s) ≡ []
  by_test true none more = refl
  by_test false none more = more none
none_done terms (Done r reply ∷ past) s legal none = by_test (r == s) none (λ h. none_done terms past s legal.1 h) where
  by_test : (b : Bool) → cond b None (look_of past s) ≡ None → (look_of past s ≡ None → acts_of past s ≡ []) → cond b [] (acts_of past s) ≡ []
  by_test true none more = refl
  by_test false none more = more none
none_done terms (Look x ∷ past) s legal none = by_test (is_that (xact_of past s) x) none (λ h. none_done terms past s legal.1 h) where
  by_test : (b : Bool) → cond b (Some past) (look_of past s) ≡ None → (look_of past s ≡ None → acts_of past s ≡ []) → acts_of past s ≡ []
  by_test true none more = absurd cc
  by_test false none more = more none
none_done terms (Make x table name shape ∷ past) s legal none = rw (before_look terms past s x legal.1 legal.0.rule.act none) (none_done terms past s legal.1 none)
none_done terms (Add x table row ∷ past) s legal none = rw (before_look terms past s x legal.1 legal.0.rule.act none) (none_done terms past s legal.1 none)
none_done terms (Read x names rows ∷ past) s legal none = rw (before_look terms past s x legal.1 legal.0.rule.act none) (none_done terms past s legal.1 none)
none_done terms (Alter x table statement rewritten ∷ past) s legal none = rw (before_look terms past s x legal.1 legal.0.rule.act none) (none_done terms past s legal.1 none)
none_done terms (e ∷ past) s legal none = none_done terms past s legal.1 none
