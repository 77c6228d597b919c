-- A session has one request that waits at most.
use Rattle.std.proofs.Common.{◌≡◌, ℕ, List, [], ◌∷◌, ◌++◌, refl, sym, ap, cond, true, false, Bool, Option, Some, None, ◌∙◌, ◌⊎◌, inl, inr}
use Rattle.std.specs.Prelude.{◌==◌, ◌||◌, not, is_some}
use Rattle.std.specs.List.{list_any}
use Rattle.std.proofs.lemmas.Bool.{eq-eqb, eqb-true, and_parts, or_parts, or_from, or_left, or_right, not-true, not-false, false_from_ne_true, or_cases}
use Rattle.al_modes.specs.declared.mode.Mode.{Mode}
use Rattle.al_history.specs.declared.entry.Want.{Want}
use Rattle.al_history.specs.declared.entry.Want.TheVariants as wants
use Rattle.al_statements.specs.declared.reply.Reply.{Reply}
use Rattle.al_history.specs.declared.entry.Entry.{Entry}
use Rattle.al_history.specs.declared.entry.Entry.TheVariants.{Give, Start, Wait, Lock, Look, Make, Add, Read, Alter, Done, Refuse, Commit, Abort, Cancel, End, Close}
use Rattle.al_history.specs.declared.statement.Statement.{Statement}
use Rattle.al_history.specs.declared.statement.Statement.TheVariants as statements
use Rattle.al_history.specs.declared.statement.Terms.{Terms}
use Rattle.al_history.specs.Past.{Past}
use Rattle.al_history.specs.Database.{Table, named}
use Rattle.al_history.specs.Fate.{is_that}
use Rattle.al_history.specs.Hand.{hand, refused, in_hand, xact_of, session_of, look_of, acts_of, BlockState, block_state}
use Rattle.al_history.specs.Cause.{used_name}
use Rattle.al_history.specs.Locks.{Claim, claim, same_claim, without, held, waiting, grantable, is_settled, is_held, without_claim, is_grant}
use Rattle.al_history.specs.Waits.{wanted_by, can_go_on, holds_up}
use Rattle.al_history.specs.Need.{lacking}
use Rattle.al_history.specs.View.{latest}
use Rattle.al_history.specs.Tail.{abort_or_end, owed, Follows}
use Rattle.al_history.specs.Rules.{Answers, ActRule, HasNoMore, LacksLock, WaitsForLock}
use Rattle.al_history.specs.Legal.{Legal}
use Rattle.al_history.proofs.Pasts.{if_same}
use Rattle.al_history.proofs.Claims.{is_that_so, true_of_none, claim_itself, held_push, held_left, waiting_open, one_claim}
use Rattle.al_history.proofs.Looks.{ends_next, refused_owes, IsInStep, in_step, none_done}
use Rattle.al_history.proofs.Names.{IsFound}
use Rattle.al_history.proofs.Needs.{needed_mode, lock_held, LacksInHand, lacks_in_hand}
use Rattle.al_history.proofs.Steady.{still_found}
use Rattle.al_history.proofs.Suffices.{locks_suffice}
use Rattle.al_history.proofs.Xacts.{xact_is, turn}

-- ---- who waits

-- the session of a request waits for it: nothing came from it since, and it lacks the lock still
pub record IsAwaiting (terms : Terms) (past : Past) (c : Claim) : Type 0 where
  pub x : ℕ
  pub own : xact_of past c.session ≡ Some x
  pub wanted : wanted_by past c.session ≡ Some (wants.Table c.table c.mode)
  pub before_look : look_of past c.session ≡ None
  pub statement : Statement
  pub name : List ℕ
  pub t : Table
  pub is : in_hand terms past c.session ≡ Some statement
  pub uses : used_name statement ≡ Some name
  pub found : named (latest terms past x) name ≡ Some t
  pub claimed : c ≡ record { session = c.session; table = t.number; mode = needed_mode statement }
  pub absent : is_held (held past) c ≡ false

-- the session is refused, or its transaction aborted, next
abbrev pub IsLeaving : Past → Option Entry → ℕ → Type 0
IsLeaving past (Some (Refuse r cause)) s = r ≡ s
IsLeaving past (Some (Abort x)) s = session_of past x ≡ s
IsLeaving past o s = ⊥

pub leaves_next : (past : Past) (o : Option Entry) (e : Entry) (s : ℕ) → Follows o e → IsLeaving past o s → IsLeaving past (Some e) s
leaves_next past None e s follows leaving = absurd leaving
leaves_next past (Some next) e s follows leaving = rw follows leaving

-- who leaves has left once its transaction is aborted
leaves_on : (terms : Terms) (past : Past) (e : Entry) (c : Claim) → Legal terms (e ∷ past) → is_held (waiting past) c ≡ true → is_held (waiting (e ∷ past)) c ≡ true → IsLeaving past (owed terms past) c.session → IsLeaving (e ∷ past) (owed terms (e ∷ past)) c.session
leaves_on terms past (Lock x table mode) c legal before there leaving = leaving
leaves_on terms past (Refuse r cause) c legal before there leaving =
    let same : r ≡ c.session = leaves_next past (owed terms past) (Refuse r cause) c.session legal.0.follows leaving in
    by_xact (xact_of past c.session) refl (waiting_open terms past legal.1 c before) same where
      by_xact : (o : Option ℕ) → xact_of past c.session ≡ o → is_some o ≡ true → r ≡ c.session → IsLeaving (Refuse r cause ∷ past) (Some (abort_or_end (xact_of past r) r)) c.session
      by_xact None is some same = absurd cc
      by_xact (Some x) is some same = rw (same, is) (xact_is terms past c.session x legal.1 is).own
leaves_on terms past (Abort x) c legal before there leaving =
    let same : session_of past x ≡ c.session = leaves_next past (owed terms past) (Abort x) c.session legal.0.follows leaving in
    let other : (c.session == session_of past x) ≡ false = (held_left (session_of past x) (waiting past) c there).1 in
    let yes : (c.session == session_of past x) ≡ true = eq-eqb c.session (session_of past x) (sym same) in
    absurd cc
leaves_on terms past e c legal before there leaving = absurd (leaves_next past (owed terms past) e c.session legal.0.follows leaving)

-- ---- entries of others

-- what stays as it was leaves the session waiting
awaits_on : (terms : Terms) (past after : Past) (c : Claim) → (a : IsAwaiting terms past c) → xact_of after c.session ≡ xact_of past c.session → wanted_by after c.session ≡ wanted_by past c.session → look_of after c.session ≡ look_of past c.session → in_hand terms after c.session ≡ in_hand terms past c.session → IsFound (latest terms after a.x) a.name a.t ⊥ → is_held (held after) c ≡ false → IsAwaiting terms after c
awaits_on terms past after c a xact wanted look statement found absent = record {
  x = a.x;
  own = xact ∙ a.own;
  wanted = wanted ∙ a.wanted;
  before_look = look ∙ a.before_look;
  statement = a.statement;
  name = a.name;
  t = found.t;
  is = statement ∙ a.is;
  uses = a.uses;
  found = found.is;
  claimed = rw found.number a.claimed;
  absent = absent;
}

-- an entry of another session is of another transaction
not_its : (terms : Terms) (past : Past) (s y : ℕ) → Legal terms past → (session_of past y == s) ≡ false → is_that (xact_of past s) y ≡ false
not_its terms past s y legal other = false_from_ne_true (is_that (xact_of past s) y) (λ its.
    let own : session_of past y ≡ s = (xact_is terms past s y legal (is_that_so (xact_of past s) y its)).own in
    let yes : (session_of past y == s) ≡ true = eq-eqb (session_of past y) s own in
    absurd cc)

-- a lock of another session isn't the one that is awaited
not_got : (claims : List Claim) (c d : Claim) → is_held claims c ≡ false → (c.session == d.session) ≡ false → is_held (claims ++ d ∷ []) c ≡ false
not_got claims c d absent other = false_from_ne_true (is_held (claims ++ d ∷ []) c) (λ there. by_case (held_push claims c d there)) where
  by_case : (is_held claims c ≡ true) ⊎ (d ≡ c) → ⊥
  by_case (inl before) = absurd cc
  by_case (inr same) = let yes : (c.session == d.session) ≡ true = eq-eqb c.session d.session (ap (λ (u : Claim). u.session) (sym same)) in absurd cc

not_left : (s : ℕ) (claims : List Claim) (c : Claim) → is_held claims c ≡ false → is_held (without s claims) c ≡ false
not_left s claims c absent = false_from_ne_true (is_held (without s claims) c) (λ there. let before : is_held claims c ≡ true = (held_left s claims c there).0 in absurd cc)

found_still : (terms : Terms) (past : Past) (e : Entry) (c : Claim) → (a : IsAwaiting terms past c) → Legal terms (e ∷ past) → xact_of (e ∷ past) c.session ≡ Some a.x → IsFound (latest terms (e ∷ past) a.x) a.name a.t ⊥
found_still terms past e c a legal later = still_found terms past e c.session a.x a.name a.t legal (locks_suffice terms (e ∷ past) legal) a.own later a.found

-- ---- entries of the session itself

-- a statement that has done nothing isn't done, unless it uses no table
none_answers : (statement : Statement) (name : List ℕ) (x : ℕ) (state : BlockState) (reply : Reply) → used_name statement ≡ Some name → Answers (Some statement) [] (Some x) state reply → ⊥
none_answers statements.Begin name x state reply uses answers = absurd cc
none_answers statement name x state reply uses answers = answers

-- nobody waits again who waits already
pub waits_once : (terms : Terms) (past : Past) (c : Claim) → is_settled past ≡ true → is_held (waiting past) c ≡ true → IsAwaiting terms past c → can_go_on past c.session ≡ true → ⊥
waits_once terms past c settled there a can =
    let parts = and_parts (is_some (hand past c.session)) (not (holds_up past c.session (wanted_by past c.session))) can in
    let free : not (not (grantable past c)) ≡ true = rw a.wanted at parts.1 in
    let yes : grantable past c ≡ true = not-false (grantable past c) (not-true (not (grantable past c)) free) in
    let no : grantable past c ≡ false = true_of_none (grantable past) (waiting past) c there (not-true (list_any (grantable past) (waiting past)) settled) in
    absurd cc

-- nothing has its place that lacks its lock
pub no_look : (terms : Terms) (past : Past) (c : Claim) (y : ℕ) → IsAwaiting terms past c → session_of past y ≡ c.session → xact_of past (session_of past y) ≡ Some y → lacking terms past y ≡ None → ⊥
no_look terms past c y a session own none =
    let its : xact_of past c.session ≡ Some y = rw session at own in
    let same : a.x ≡ y = of_some a.x y (sym a.own ∙ its) in
    let lock : is_held (held past) (record { session = session_of past y; table = a.t.number; mode = needed_mode a.statement }) ≡ true = lock_held terms past y a.statement a.name a.t none (rw session a.is) a.uses (rw same at a.found) in
    let yes : is_held (held past) c ≡ true = rw a.claimed (rw session at lock) in
    let no : is_held (held past) c ≡ false = a.absent in
    absurd cc where
      of_some : (n m : ℕ) → Some n ≡ Some m → n ≡ m
      of_some n m e = cc

-- nothing acts that hasn't looked
pub no_act : (terms : Terms) (past : Past) (c : Claim) (y : ℕ) → IsAwaiting terms past c → session_of past y ≡ c.session → ActRule terms past y → ⊥
no_act terms past c y a session act =
    let there : is_some (look_of past c.session) ≡ true = rw session at act.looked in
    let no : is_some {T = Past} None ≡ true = rw a.before_look at there in
    absurd cc

no_done : (terms : Terms) (past : Past) (c : Claim) (reply : Reply) → Legal terms past → IsAwaiting terms past c → Answers (in_hand terms past c.session) (acts_of past c.session) (xact_of past c.session) (block_state past c.session) reply → ⊥
no_done terms past c reply legal a answers = none_answers a.statement a.name a.x (block_state past c.session) reply a.uses (rw (a.is, none_done terms past c.session legal a.before_look, a.own) at answers)

no_end : (terms : Terms) (past : Past) (c : Claim) → Legal terms past → IsAwaiting terms past c → Follows (owed terms past) (End c.session) → HasNoMore terms past c.session ⊎ (refused past c.session ≡ true) → ⊥
no_end terms past c legal a follows (inl more) = let none : in_hand terms past c.session ≡ None = more.none_left in let is : in_hand terms past c.session ≡ Some a.statement = a.is in absurd cc
no_end terms past c legal a follows (inr was) =
    let i : IsInStep past c.session = in_step terms past c.session a.statement a.is in
    let next : End c.session ≡ abort_or_end (xact_of past c.session) c.session = ends_next (owed terms past) (End c.session) (xact_of past c.session) c.session follows (refused_owes terms past c.session i.block legal was i.step) in
    let other : ◌≡◌ {A = Entry} (End c.session) (Abort a.x) = rw a.own at next in
    absurd cc

-- ---- each entry

-- a session that waits goes on waiting, or leaves
-- the lock that comes is another session's
abbrev IsFar : Past → Entry → Claim → Type 0
IsFar past (Lock y table mode) c = (c.session == session_of past y) ≡ false
IsFar past e c = Unit {0}

awaits_step : (terms : Terms) (past : Past) (e : Entry) (c : Claim) → Legal terms (e ∷ past) → is_held (waiting past) c ≡ true → is_held (waiting (e ∷ past)) c ≡ true → IsFar past e c → IsAwaiting terms past c → IsAwaiting terms (e ∷ past) c ⊎ IsLeaving (e ∷ past) (owed terms (e ∷ past)) c.session
awaits_step terms past (Give r block) c legal before there far a = by_test (r == c.session) refl where
  by_test : (b : Bool) → (r == c.session) ≡ b → IsAwaiting terms (Give r block ∷ past) c ⊎ IsLeaving (Give r block ∷ past) (owed terms (Give r block ∷ past)) c.session
  by_test true same = let its : r ≡ c.session = eqb-true _ _ same in let i : IsInStep past c.session = in_step terms past c.session a.statement a.is in let idle : hand past c.session ≡ None = rw its at legal.0.rule.idle in let step : hand past c.session ≡ Some i.block = i.step in absurd cc
  by_test false other = inl (awaits_on terms past (Give r block ∷ past) c a refl (rw other refl) (rw other refl) (rw other refl) (found_still terms past (Give r block) c a legal a.own) a.absent)
awaits_step terms past (Start r level) c legal before there far a = by_test (r == c.session) refl where
  by_test : (b : Bool) → (r == c.session) ≡ b → IsAwaiting terms (Start r level ∷ past) c ⊎ IsLeaving (Start r level ∷ past) (owed terms (Start r level ∷ past)) c.session
  by_test true same = let its : r ≡ c.session = eqb-true _ _ same in let none : xact_of past c.session ≡ None = rw its at legal.0.rule.none_open in let own : xact_of past c.session ≡ Some a.x = a.own in absurd cc
  by_test false other = inl (awaits_on terms past (Start r level ∷ past) c a (rw other refl) (rw other refl) refl refl (found_still terms past (Start r level) c a legal (rw other a.own)) a.absent)
awaits_step terms past (Wait y want) c legal before there far a = by_test (session_of past y == c.session) refl where
  by_test : (b : Bool) → (session_of past y == c.session) ≡ b → IsAwaiting terms (Wait y want ∷ past) c ⊎ IsLeaving (Wait y want ∷ past) (owed terms (Wait y want ∷ past)) c.session
  by_test true same = let its : session_of past y ≡ c.session = eqb-true _ _ same in absurd (waits_once terms past c legal.0.settled before a (rw its at legal.0.rule.in_step))
  by_test false other = inl (awaits_on terms past (Wait y want ∷ past) c a refl (rw other refl) refl refl (found_still terms past (Wait y want) c a legal a.own) a.absent)
awaits_step terms past (Lock y table mode) c legal before there far a =
    let apart : (c.session == session_of past y) ≡ false = far in
    let other : (session_of past y == c.session) ≡ false = turn c.session (session_of past y) apart in
    inl (awaits_on terms past (Lock y table mode ∷ past) c a refl (rw other refl) refl refl (found_still terms past (Lock y table mode) c a legal a.own) (not_got (held past) c (claim past y table mode) a.absent apart))
awaits_step terms past (Look y) c legal before there far a = by_test (session_of past y == c.session) refl where
  by_test : (b : Bool) → (session_of past y == c.session) ≡ b → IsAwaiting terms (Look y ∷ past) c ⊎ IsLeaving (Look y ∷ past) (owed terms (Look y ∷ past)) c.session
  by_test true same = let its : session_of past y ≡ c.session = eqb-true _ _ same in absurd (no_look terms past c y a its legal.0.rule.open_xact legal.0.rule.locked)
  by_test false other = inl (awaits_on terms past (Look y ∷ past) c a refl (rw other refl) (rw (not_its terms past c.session y legal.1 other) refl) refl (found_still terms past (Look y) c a legal a.own) a.absent)
awaits_step terms past (Make y table name shape) c legal before there far a = by_test (session_of past y == c.session) refl where
  by_test : (b : Bool) → (session_of past y == c.session) ≡ b → IsAwaiting terms (Make y table name shape ∷ past) c ⊎ IsLeaving (Make y table name shape ∷ past) (owed terms (Make y table name shape ∷ past)) c.session
  by_test true same = let its : session_of past y ≡ c.session = eqb-true _ _ same in absurd (no_act terms past c y a its legal.0.rule.act)
  by_test false other = inl (awaits_on terms past (Make y table name shape ∷ past) c a refl (rw other refl) refl refl (found_still terms past (Make y table name shape) c a legal a.own) a.absent)
awaits_step terms past (Add y table row) c legal before there far a = by_test (session_of past y == c.session) refl where
  by_test : (b : Bool) → (session_of past y == c.session) ≡ b → IsAwaiting terms (Add y table row ∷ past) c ⊎ IsLeaving (Add y table row ∷ past) (owed terms (Add y table row ∷ past)) c.session
  by_test true same = let its : session_of past y ≡ c.session = eqb-true _ _ same in absurd (no_act terms past c y a its legal.0.rule.act)
  by_test false other = inl (awaits_on terms past (Add y table row ∷ past) c a refl (rw other refl) refl refl (found_still terms past (Add y table row) c a legal a.own) a.absent)
awaits_step terms past (Read y names rows) c legal before there far a = by_test (session_of past y == c.session) refl where
  by_test : (b : Bool) → (session_of past y == c.session) ≡ b → IsAwaiting terms (Read y names rows ∷ past) c ⊎ IsLeaving (Read y names rows ∷ past) (owed terms (Read y names rows ∷ past)) c.session
  by_test true same = let its : session_of past y ≡ c.session = eqb-true _ _ same in absurd (no_act terms past c y a its legal.0.rule.act)
  by_test false other = inl (awaits_on terms past (Read y names rows ∷ past) c a refl (rw other refl) refl refl (found_still terms past (Read y names rows) c a legal a.own) a.absent)
awaits_step terms past (Alter y table statement rewritten) c legal before there far a = by_test (session_of past y == c.session) refl where
  by_test : (b : Bool) → (session_of past y == c.session) ≡ b → IsAwaiting terms (Alter y table statement rewritten ∷ past) c ⊎ IsLeaving (Alter y table statement rewritten ∷ past) (owed terms (Alter y table statement rewritten ∷ past)) c.session
  by_test true same = let its : session_of past y ≡ c.session = eqb-true _ _ same in absurd (no_act terms past c y a its legal.0.rule.act)
  by_test false other = inl (awaits_on terms past (Alter y table statement rewritten ∷ past) c a refl (rw other refl) refl refl (found_still terms past (Alter y table statement rewritten) c a legal a.own) a.absent)
awaits_step terms past (Done r reply) c legal before there far a = by_test (r == c.session) refl where
  by_test : (b : Bool) → (r == c.session) ≡ b → IsAwaiting terms (Done r reply ∷ past) c ⊎ IsLeaving (Done r reply ∷ past) (owed terms (Done r reply ∷ past)) c.session
  by_test true same = let its : r ≡ c.session = eqb-true _ _ same in absurd (no_done terms past c reply legal.1 a (rw its at legal.0.rule.answers))
  by_test false other = inl (awaits_on terms past (Done r reply ∷ past) c a refl (rw other refl) (rw other refl) (rw other refl) (found_still terms past (Done r reply) c a legal a.own) a.absent)
awaits_step terms past (Refuse r cause) c legal before there far a = by_test (r == c.session) refl where
  by_test : (b : Bool) → (r == c.session) ≡ b → IsAwaiting terms (Refuse r cause ∷ past) c ⊎ IsLeaving (Refuse r cause ∷ past) (owed terms (Refuse r cause ∷ past)) c.session
  by_test true same = let its : r ≡ c.session = eqb-true _ _ same in inr (rw (its, a.own) (xact_is terms past c.session a.x legal.1 a.own).own)
  by_test false other = inl (awaits_on terms past (Refuse r cause ∷ past) c a refl (rw other refl) refl refl (found_still terms past (Refuse r cause) c a legal a.own) a.absent)
awaits_step terms past (Commit y) c legal before there far a =
    let apart : (c.session == session_of past y) ≡ false = (held_left (session_of past y) (waiting past) c there).1 in
    let other : (session_of past y == c.session) ≡ false = turn c.session (session_of past y) apart in
    inl (awaits_on terms past (Commit y ∷ past) c a (rw (not_its terms past c.session y legal.1 other) refl) (rw other refl) refl refl (found_still terms past (Commit y) c a legal (rw (not_its terms past c.session y legal.1 other) a.own)) (not_left (session_of past y) (held past) c a.absent))
awaits_step terms past (Abort y) c legal before there far a =
    let apart : (c.session == session_of past y) ≡ false = (held_left (session_of past y) (waiting past) c there).1 in
    let other : (session_of past y == c.session) ≡ false = turn c.session (session_of past y) apart in
    inl (awaits_on terms past (Abort y ∷ past) c a (rw (not_its terms past c.session y legal.1 other) refl) (rw other refl) refl refl (found_still terms past (Abort y) c a legal (rw (not_its terms past c.session y legal.1 other) a.own)) (not_left (session_of past y) (held past) c a.absent))
awaits_step terms past (Cancel r) c legal before there far a = by_test (r == c.session) refl where
  by_test : (b : Bool) → (r == c.session) ≡ b → IsAwaiting terms (Cancel r ∷ past) c ⊎ IsLeaving (Cancel r ∷ past) (owed terms (Cancel r ∷ past)) c.session
  by_test true same = let its : r ≡ c.session = eqb-true _ _ same in inr its
  by_test false other = inl (awaits_on terms past (Cancel r ∷ past) c a refl (rw other refl) refl refl (found_still terms past (Cancel r) c a legal a.own) a.absent)
awaits_step terms past (End r) c legal before there far a = by_test (r == c.session) refl where
  by_test : (b : Bool) → (r == c.session) ≡ b → IsAwaiting terms (End r ∷ past) c ⊎ IsLeaving (End r ∷ past) (owed terms (End r ∷ past)) c.session
  by_test true same = let its : r ≡ c.session = eqb-true _ _ same in absurd (no_end terms past c legal.1 a (rw its at legal.0.follows) (rw its at legal.0.rule.over))
  by_test false other = inl (awaits_on terms past (End r ∷ past) c a refl (rw other refl) refl (rw other refl) (found_still terms past (End r) c a legal a.own) a.absent)
awaits_step terms past (Close r) c legal before there far a = by_test (r == c.session) refl where
  by_test : (b : Bool) → (r == c.session) ≡ b → IsAwaiting terms (Close r ∷ past) c ⊎ IsLeaving (Close r ∷ past) (owed terms (Close r ∷ past)) c.session
  by_test true same = let its : r ≡ c.session = eqb-true _ _ same in let none : xact_of past c.session ≡ None = rw its at legal.0.rule.none_open in let own : xact_of past c.session ≡ Some a.x = a.own in absurd cc
  by_test false other = inl (awaits_on terms past (Close r ∷ past) c a refl (rw other refl) refl refl (found_still terms past (Close r) c a legal a.own) a.absent)

-- the session of a new request waits
awaits_new : (terms : Terms) (past : Past) (y table : ℕ) (mode : Mode) → Legal terms (Wait y (wants.Table table mode) ∷ past) → IsAwaiting terms (Wait y (wants.Table table mode) ∷ past) (claim past y table mode)
awaits_new terms past y table mode legal =
    let l : LacksInHand terms past y (claim past y table mode) = lacks_in_hand terms past y (claim past y table mode) legal.0.rule.waits_for.1 in
    record {
      x = y;
      own = legal.0.rule.open_xact;
      wanted = rw (if_same (session_of past y)) refl;
      before_look = legal.0.rule.waits_for.0;
      statement = l.statement;
      name = l.lacks.name;
      t = l.lacks.t;
      is = l.is;
      uses = l.lacks.uses;
      found = l.lacks.found;
      claimed = l.lacks.is;
      absent = l.lacks.absent;
    }

awaits_go : (terms : Terms) (past : Past) (e : Entry) (c : Claim) → Legal terms (e ∷ past) → is_held (waiting past) c ≡ true → is_held (waiting (e ∷ past)) c ≡ true → IsFar past e c → IsAwaiting terms past c ⊎ IsLeaving past (owed terms past) c.session → IsAwaiting terms (e ∷ past) c ⊎ IsLeaving (e ∷ past) (owed terms (e ∷ past)) c.session
awaits_go terms past e c legal before there far (inl a) = awaits_step terms past e c legal before there far a
awaits_go terms past e c legal before there far (inr leaving) = inr (leaves_on terms past e c legal before there leaving)

-- ---- one request a session

-- whether a session has a request among these
abbrev pub has_request : List Claim → ℕ → Bool
has_request claims s = list_any (λ (c : Claim). c.session == s) claims

-- each is of another session
abbrev pub AreDistinct : List Claim → Type 0
AreDistinct [] = Unit {0}
AreDistinct (c ∷ claims) = (has_request claims c.session ≡ false) × AreDistinct claims

pub record IsRequest (claims : List Claim) (s : ℕ) : Type 0 where
  pub c : Claim
  pub there : is_held claims c ≡ true
  pub own : c.session ≡ s

pub request_of : (claims : List Claim) (s : ℕ) → has_request claims s ≡ true → IsRequest claims s
request_of [] s has = absurd cc
request_of (c ∷ claims) s has = by_test (c.session == s) refl has (λ h. request_of claims s h) where
  by_test : (b : Bool) → (c.session == s) ≡ b → (b || has_request claims s) ≡ true → (has_request claims s ≡ true → IsRequest claims s) → IsRequest (c ∷ claims) s
  by_test true own has more = record { c = c; there = or_left (same_claim c c) (is_held claims c) (claim_itself c); own = eqb-true c.session s own }
  by_test false other has more = let rest : IsRequest claims s = more has in record { c = rest.c; there = or_right (same_claim rest.c c) (is_held claims rest.c) rest.there; own = rest.own }

none_pushed : (claims : List Claim) (d : Claim) (s : ℕ) → has_request claims s ≡ false → (d.session == s) ≡ false → has_request (claims ++ d ∷ []) s ≡ false
none_pushed [] d s none other = rw other refl
none_pushed (c ∷ claims) d s none other =
    let parts = or_parts (c.session == s) (has_request claims s) none in
    or_from (c.session == s) (has_request (claims ++ d ∷ []) s) parts.0 (none_pushed claims d s parts.1 other)

distinct_push : (claims : List Claim) (d : Claim) → AreDistinct claims → has_request claims d.session ≡ false → AreDistinct (claims ++ d ∷ [])
distinct_push [] d distinct none = (refl, tt)
distinct_push (c ∷ claims) d distinct none =
    let parts = or_parts (c.session == d.session) (has_request claims d.session) none in
    (none_pushed claims d c.session distinct.0 (turn c.session d.session parts.0), distinct_push claims d distinct.1 parts.1)

none_left : (r : ℕ) (claims : List Claim) (s : ℕ) → has_request claims s ≡ false → has_request (without r claims) s ≡ false
none_left r [] s none = refl
none_left r (c ∷ claims) s none = by_test (c.session == r) (or_parts (c.session == s) (has_request claims s) none).0 (none_left r claims s (or_parts (c.session == s) (has_request claims s) none).1) where
  by_test : (b : Bool) → (c.session == s) ≡ false → has_request (without r claims) s ≡ false → has_request (cond b (without r claims) (c ∷ without r claims)) s ≡ false
  by_test true other rest = rest
  by_test false other rest = or_from (c.session == s) (has_request (without r claims) s) other rest

distinct_left : (r : ℕ) (claims : List Claim) → AreDistinct claims → AreDistinct (without r claims)
distinct_left r [] distinct = tt
distinct_left r (c ∷ claims) distinct = by_test (c.session == r) (distinct_left r claims distinct.1) where
  by_test : (b : Bool) → AreDistinct (without r claims) → AreDistinct (cond b (without r claims) (c ∷ without r claims))
  by_test true rest = rest
  by_test false rest = (none_left r claims c.session distinct.0, rest)

-- who is among these has a request
its_request : (claims : List Claim) (d : Claim) → is_held claims d ≡ true → has_request claims d.session ≡ true
its_request [] d there = absurd cc
its_request (u ∷ claims) d there = by_case (or_cases (same_claim d u) (is_held claims d) there) (λ h. its_request claims d h) where
  by_case : (same_claim d u ≡ true) ⊎ (is_held claims d ≡ true) → (is_held claims d ≡ true → has_request claims d.session ≡ true) → has_request (u ∷ claims) d.session ≡ true
  by_case (inl same) more = or_left (u.session == d.session) (has_request claims d.session) (rw (one_claim d u same) (if_same d.session))
  by_case (inr rest) more = or_right (u.session == d.session) (has_request claims d.session) (more rest)

-- a claim of another session is another claim
other_session : (d u : Claim) → (u.session == d.session) ≡ false → same_claim d u ≡ false
other_session d u other = rw other refl

-- a request that is there, or of a session that has none: what isn't it is what isn't its session's
pub takes_own : (d : Claim) (claims : List Claim) → AreDistinct claims → (is_held claims d ≡ true) ⊎ (has_request claims d.session ≡ false) → without_claim d claims ≡ without d.session claims
takes_own d [] distinct is = refl
takes_own d (u ∷ claims) distinct is = by_session (u.session == d.session) refl is (takes_own d claims distinct.1) where
  is_it : (u.session == d.session) ≡ true → (same_claim d u ≡ true) ⊎ (is_held claims d ≡ true) → same_claim d u ≡ true
  is_it own (inl same) = same
  is_it own (inr rest) =
      let one : u.session ≡ d.session = eqb-true u.session d.session own in
      let has : has_request claims u.session ≡ true = rw one (its_request claims d rest) in
      let none : has_request claims u.session ≡ false = distinct.0 in
      absurd cc

  rest_of : (u.session == d.session) ≡ false → (is_held (u ∷ claims) d ≡ true) ⊎ (has_request (u ∷ claims) d.session ≡ false) → (is_held claims d ≡ true) ⊎ (has_request claims d.session ≡ false)
  rest_of other (inr none) = inr (or_parts (u.session == d.session) (has_request claims d.session) none).1
  rest_of other (inl there) = by_case (or_cases (same_claim d u) (is_held claims d) there) where
    by_case : (same_claim d u ≡ true) ⊎ (is_held claims d ≡ true) → (is_held claims d ≡ true) ⊎ (has_request claims d.session ≡ false)
    by_case (inl same) = let not : same_claim d u ≡ false = other_session d u other in absurd cc
    by_case (inr rest) = inl rest

  by_session : (b : Bool) → (u.session == d.session) ≡ b → (is_held (u ∷ claims) d ≡ true) ⊎ (has_request (u ∷ claims) d.session ≡ false) → ((is_held claims d ≡ true) ⊎ (has_request claims d.session ≡ false) → without_claim d claims ≡ without d.session claims) → without_claim d (u ∷ claims) ≡ without d.session (u ∷ claims)
  by_session true own (inl there) more =
      let same : same_claim d u ≡ true = is_it own (or_cases (same_claim d u) (is_held claims d) there) in
      let one : u.session ≡ d.session = eqb-true u.session d.session own in
      let none : has_request claims d.session ≡ false = rw one at distinct.0 in
      rw (same, own) (more (inr none))
  by_session true own (inr none) more =
      let not : (u.session == d.session) ≡ false = (or_parts (u.session == d.session) (has_request claims d.session) none).0 in
      absurd cc
  by_session false other there more = rw (other_session d u other, other, more (rest_of other there)) refl

-- ---- all requests

-- the session of each request waits for it, or leaves; and no session has two
pub record AreWaiting (terms : Terms) (past : Past) : Type 0 where
  pub each : (c : Claim) → is_held (waiting past) c ≡ true → IsAwaiting terms past c ⊎ IsLeaving past (owed terms past) c.session
  pub distinct : AreDistinct (waiting past)

-- who makes an entry that isn't owed and can go on has no request yet
none_asked : (terms : Terms) (past : Past) (e : Entry) (s : ℕ) → AreWaiting terms past → is_settled past ≡ true → Follows (owed terms past) e → (IsLeaving past (Some e) s → ⊥) → can_go_on past s ≡ true → has_request (waiting past) s ≡ false
none_asked terms past e s all settled follows stays can = false_from_ne_true (has_request (waiting past) s) (λ has.
    let r : IsRequest (waiting past) s = request_of (waiting past) s has in
    by_case r (all.each r.c r.there)) where
      by_case : (r : IsRequest (waiting past) s) → IsAwaiting terms past r.c ⊎ IsLeaving past (owed terms past) r.c.session → ⊥
      by_case r (inl a) = waits_once terms past r.c settled r.there a (rw r.own can)
      by_case r (inr leaving) = stays (rw r.own at (leaves_next past (owed terms past) e r.c.session follows leaving))

-- who gets a lock that it hasn't asked for lacks it, and so it has no request
lacks_none : (terms : Terms) (past : Past) (y table : ℕ) (mode : Mode) → AreWaiting terms past → Legal terms (Lock y table mode ∷ past) → LacksLock terms past y (claim past y table mode) → has_request (waiting past) (session_of past y) ≡ false
lacks_none terms past y table mode all legal l = false_from_ne_true (has_request (waiting past) (session_of past y)) (λ has.
    let r : IsRequest (waiting past) (session_of past y) = request_of (waiting past) (session_of past y) has in
    by_case r (all.each r.c r.there)) where
      unasked : is_grant past (Lock y table mode) ≡ false
      unasked = l.not_waiting

      follows : Follows (owed terms past) (Lock y table mode)
      follows = rw unasked at legal.0.follows

      lacks : LacksInHand terms past y (claim past y table mode)
      lacks = lacks_in_hand terms past y (claim past y table mode) l.lacks

      by_case : (r : IsRequest (waiting past) (session_of past y)) → IsAwaiting terms past r.c ⊎ IsLeaving past (owed terms past) r.c.session → ⊥
      by_case r (inr leaving) = leaves_next past (owed terms past) (Lock y table mode) r.c.session follows leaving
      by_case r (inl a) =
          let its : xact_of past (session_of past y) ≡ Some a.x = rw r.own at a.own in
          let own : xact_of past (session_of past y) ≡ Some y = legal.0.rule.open_xact in
          let same_x : a.x ≡ y = cc in
          let hand_a : in_hand terms past (session_of past y) ≡ Some a.statement = rw r.own at a.is in
          let hand_l : in_hand terms past (session_of past y) ≡ Some lacks.statement = lacks.is in
          let same_statement : a.statement ≡ lacks.statement = cc in
          let name_a : used_name lacks.statement ≡ Some a.name = rw same_statement at a.uses in
          let name_l : used_name lacks.statement ≡ Some lacks.lacks.name = lacks.lacks.uses in
          let same_name : a.name ≡ lacks.lacks.name = cc in
          let found_a : named (latest terms past y) lacks.lacks.name ≡ Some a.t = rw (same_x, same_name) at a.found in
          let found_l : named (latest terms past y) lacks.lacks.name ≡ Some lacks.lacks.t = lacks.lacks.found in
          let same_t : a.t ≡ lacks.lacks.t = cc in
          let one : r.c ≡ claim past y table mode = a.claimed ∙ rw (r.own, same_t, same_statement) (sym lacks.lacks.is) in
          let there : is_held (waiting past) (claim past y table mode) ≡ true = rw one at r.there in
          let not : is_held (waiting past) (claim past y table mode) ≡ false = l.not_waiting in
          absurd cc

-- the lock that comes takes all requests of its session
lock_takes : (terms : Terms) (past : Past) (y table : ℕ) (mode : Mode) → AreWaiting terms past → Legal terms (Lock y table mode ∷ past) → waiting (Lock y table mode ∷ past) ≡ without (session_of past y) (waiting past)
lock_takes terms past y table mode all legal = takes_own (claim past y table mode) (waiting past) all.distinct (by_asked legal.0.rule.asked) where
  by_asked : WaitsForLock past (claim past y table mode) ⊎ LacksLock terms past y (claim past y table mode) → (is_held (waiting past) (claim past y table mode) ≡ true) ⊎ (has_request (waiting past) (session_of past y) ≡ false)
  by_asked (inl w) = inl w.waits
  by_asked (inr l) = inr (lacks_none terms past y table mode all legal l)

pub are_waiting : (terms : Terms) (past : Past) → Legal terms past → AreWaiting terms past
are_waiting terms [] legal = record { each = λ c there. absurd (let no : false ≡ true = there in cc); distinct = tt }
are_waiting terms (Wait y (wants.Table table mode) ∷ past) legal =
    let all : AreWaiting terms past = are_waiting terms past legal.1 in
    record {
      each = λ c there. by_case c there (held_push (waiting past) c (claim past y table mode) there) (λ before. awaits_go terms past (Wait y (wants.Table table mode)) c legal before there tt (all.each c before));
      distinct = distinct_push (waiting past) (claim past y table mode) all.distinct (none_asked terms past (Wait y (wants.Table table mode)) (session_of past y) all legal.0.settled legal.0.follows (λ wrong. wrong) legal.0.rule.in_step);
    } where
      by_case : (c : Claim) → is_held (waiting (Wait y (wants.Table table mode) ∷ past)) c ≡ true → (is_held (waiting past) c ≡ true) ⊎ (claim past y table mode ≡ c) → (is_held (waiting past) c ≡ true → IsAwaiting terms (Wait y (wants.Table table mode) ∷ past) c ⊎ IsLeaving (Wait y (wants.Table table mode) ∷ past) (owed terms (Wait y (wants.Table table mode) ∷ past)) c.session) → IsAwaiting terms (Wait y (wants.Table table mode) ∷ past) c ⊎ IsLeaving (Wait y (wants.Table table mode) ∷ past) (owed terms (Wait y (wants.Table table mode) ∷ past)) c.session
      by_case c there (inl before) more = more before
      by_case c there (inr new) more = inl (rw (← new) (awaits_new terms past y table mode legal))
are_waiting terms (Wait y (wants.Ends z) ∷ past) legal =
    let all : AreWaiting terms past = are_waiting terms past legal.1 in
    record { each = λ c there. awaits_go terms past (Wait y (wants.Ends z)) c legal there there tt (all.each c there); distinct = all.distinct }
are_waiting terms (Lock y table mode ∷ past) legal =
    let all : AreWaiting terms past = are_waiting terms past legal.1 in
    let is : waiting (Lock y table mode ∷ past) ≡ without (session_of past y) (waiting past) = lock_takes terms past y table mode all legal in
    record {
      each = λ c there. (let left = held_left (session_of past y) (waiting past) c (rw is at there) in awaits_go terms past (Lock y table mode) c legal left.0 there left.1 (all.each c left.0));
      distinct = rw is (distinct_left (session_of past y) (waiting past) all.distinct);
    }
are_waiting terms (Commit y ∷ past) legal =
    let all : AreWaiting terms past = are_waiting terms past legal.1 in
    record {
      each = λ c there. (let before : is_held (waiting past) c ≡ true = (held_left (session_of past y) (waiting past) c there).0 in awaits_go terms past (Commit y) c legal before there tt (all.each c before));
      distinct = distinct_left (session_of past y) (waiting past) all.distinct;
    }
are_waiting terms (Abort y ∷ past) legal =
    let all : AreWaiting terms past = are_waiting terms past legal.1 in
    record {
      each = λ c there. (let before : is_held (waiting past) c ≡ true = (held_left (session_of past y) (waiting past) c there).0 in awaits_go terms past (Abort y) c legal before there tt (all.each c before));
      distinct = distinct_left (session_of past y) (waiting past) all.distinct;
    }
are_waiting terms (e ∷ past) legal =
    let all : AreWaiting terms past = are_waiting terms past legal.1 in
    record { each = λ c there. awaits_go terms past e c legal there there tt (all.each c there); distinct = all.distinct }

-- the session of a request waits for it, or leaves
pub awaiting : (terms : Terms) (past : Past) → Legal terms past → (c : Claim) → is_held (waiting past) c ≡ true → IsAwaiting terms past c ⊎ IsLeaving past (owed terms past) c.session
awaiting terms past legal c there = (are_waiting terms past legal).each c there

-- a session has one request that waits at most
pub one_request : (terms : Terms) (past : Past) → Legal terms past → AreDistinct (waiting past)
one_request terms past legal = (are_waiting terms past legal).distinct

-- the lock that comes takes all requests of its session
pub waiting_lock : (terms : Terms) (past : Past) (y table : ℕ) (mode : Mode) → Legal terms (Lock y table mode ∷ past) → waiting (Lock y table mode ∷ past) ≡ without (session_of past y) (waiting past)
waiting_lock terms past y table mode legal = lock_takes terms past y table mode (are_waiting terms past legal.1) legal

-- who begins to wait has no request yet
pub none_waits : (terms : Terms) (past : Past) (y : ℕ) (want : Want) → Legal terms (Wait y want ∷ past) → has_request (waiting past) (session_of past y) ≡ false
none_waits terms past y want legal = none_asked terms past (Wait y want) (session_of past y) (are_waiting terms past legal.1) legal.0.settled legal.0.follows (λ wrong. wrong) legal.0.rule.in_step
