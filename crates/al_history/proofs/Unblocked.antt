-- Who makes an entry of its statement isn't blocked.
use Rattle.std.proofs.Common.{◌≡◌, ℕ, List, [], ◌∷◌, ◌++◌, refl, sym, ap, subst, cond, true, false, Bool, Option, Some, None, ◌∙◌, ◌⊎◌, inl, inr}
use Rattle.std.specs.Prelude.{◌==◌, ◌&&◌, ◌||◌, not, IsSome, is_some, option_and_then}
use Rattle.std.specs.List.{list_any}
use Rattle.std.proofs.lemmas.Bool.{eq-eqb, eqb-true, or_left, or_right, or_cases}
use Rattle.al_modes.specs.declared.mode.Mode.{Mode}
use Rattle.al_history.specs.declared.entry.Entry.{Entry}
use Rattle.al_history.specs.declared.entry.Entry.TheVariants.{Give, Start, Wait, Lock, Look, Make, Add, Read, Alter, Done, Refuse, Commit, Abort, Cancel, End, Close}
use Rattle.al_history.specs.declared.entry.Want.{Want}
use Rattle.al_history.specs.declared.entry.Want.TheVariants as wants
use Rattle.al_history.specs.declared.statement.Statement.{Statement}
use Rattle.al_history.specs.declared.statement.Statement.TheVariants as statements
use Rattle.al_history.specs.declared.statement.Terms.{Terms}
use Rattle.al_history.specs.Past.{Past}
use Rattle.al_history.specs.Database.{same_name}
use Rattle.al_history.specs.Fate.{fate}
use Rattle.al_history.specs.Hand.{hand, in_hand, statement_of, xact_of, session_of, look_of}
use Rattle.al_history.specs.Made.{made_by}
use Rattle.al_history.specs.Locks.{Claim, claim, is_waiting}
use Rattle.al_history.specs.Need.{lacking, makers, first_open, name_taker}
use Rattle.al_history.specs.Waits.{wanted_by, is_open, holds_up, is_blocked, can_go_on}
use Rattle.al_history.specs.Tail.{owed, Follows}
use Rattle.al_history.specs.Rules.{Rule, LacksLock, ActRule}
use Rattle.al_history.specs.Legal.{Legal}
use Rattle.al_history.proofs.Doings.{Doing, doing, IsBy, others_stay}
use Rattle.al_history.proofs.Needs.{LacksInHand, lacks_in_hand}
use Rattle.al_history.proofs.Requests.{IsAwaiting, IsLeaving, leaves_next, no_look, no_act, awaiting}
use Rattle.al_history.proofs.Stays.{kept_want, wants_waits}

-- ---- whose an entry is

-- an entry that keeps its rule is of the session that makes it
pub by_rule : (terms : Terms) (past : Past) (e : Entry) → Rule terms past e → IsBy past (made_by past e) e
by_rule terms past (Give s block) rule = refl
by_rule terms past (Start s level) rule = refl
by_rule terms past (Wait x want) rule = record { session = refl; open_xact = rule.open_xact }
by_rule terms past (Lock x table mode) rule = record { session = refl; open_xact = rule.open_xact }
by_rule terms past (Look x) rule = record { session = refl; open_xact = rule.open_xact }
by_rule terms past (Make x table name shape) rule = record { session = refl; open_xact = rule.act.open_xact }
by_rule terms past (Add x table row) rule = record { session = refl; open_xact = rule.act.open_xact }
by_rule terms past (Read x names rows) rule = record { session = refl; open_xact = rule.act.open_xact }
by_rule terms past (Alter x table statement rewritten) rule = record { session = refl; open_xact = rule.act.open_xact }
by_rule terms past (Done s reply) rule = refl
by_rule terms past (Refuse s cause) rule = refl
by_rule terms past (Commit x) rule = record { session = refl; open_xact = rule.open_xact }
by_rule terms past (Abort x) rule = record { session = refl; open_xact = rule.open_xact }
by_rule terms past (Cancel s) rule = refl
by_rule terms past (End s) rule = refl
by_rule terms past (Close s) rule = refl

-- ---- who has made a table of a name

abbrev pub is_among : List ℕ → ℕ → Bool
is_among ys y = list_any (λ (z : ℕ). z == y) ys

among_still : (ys : List ℕ) (y z : ℕ) → is_among ys y ≡ true → is_among (ys ++ z ∷ []) y ≡ true
among_still [] y z there = absurd cc
among_still (u ∷ ys) y z there = by_case (or_cases (u == y) (is_among ys y) there) (λ h. among_still ys y z h) where
  by_case : (u == y) ≡ true ⊎ (is_among ys y ≡ true) → (is_among ys y ≡ true → is_among (ys ++ z ∷ []) y ≡ true) → is_among (u ∷ (ys ++ z ∷ [])) y ≡ true
  by_case (inl first) more = or_left (u == y) (is_among (ys ++ z ∷ []) y) first
  by_case (inr rest) more = or_right (u == y) (is_among (ys ++ z ∷ []) y) (more rest)

-- a maker stays one
makers_stay : (past : Past) (e : Entry) (name : List ℕ) (y : ℕ) → is_among (makers past name) y ≡ true → is_among (makers (e ∷ past) name) y ≡ true
makers_stay past (Make x table other shape) name y there = by_test (same_name other name) where
  by_test : (b : Bool) → is_among (cond b (makers past name ++ x ∷ []) (makers past name)) y ≡ true
  by_test true = among_still (makers past name) y x there
  by_test false = there
makers_stay past e name y there = there

-- who is in the way is among them, and another
taker_among : (past : Past) (x y : ℕ) (ys : List ℕ) → first_open past x ys ≡ Some y → (is_among ys y ≡ true) × ((y == x) ≡ false)
taker_among past x y [] taken = absurd cc
taker_among past x y (z ∷ ys) taken = by_test (z == x) (is_open (fate past z)) refl taken (λ h. taker_among past x y ys h) where
  rest : (is_among ys y ≡ true) × ((y == x) ≡ false) → (is_among (z ∷ ys) y ≡ true) × ((y == x) ≡ false)
  rest there = (or_right (z == y) (is_among ys y) there.0, there.1)

  by_test : (b c : Bool) → (z == x) ≡ b → cond (not b && c) (Some z) (first_open past x ys) ≡ Some y → (first_open past x ys ≡ Some y → (is_among ys y ≡ true) × ((y == x) ≡ false)) → (is_among (z ∷ ys) y ≡ true) × ((y == x) ≡ false)
  by_test true c other taken more = rest (more taken)
  by_test false true other taken more =
      let here : z ≡ y = cc in
      (or_left (z == y) (is_among ys y) (eq-eqb z y here), rw (← here) other)
  by_test false false other taken more = rest (more taken)

-- while another of them is open, somebody is in the way
still_taken : (past : Past) (x y : ℕ) (ys : List ℕ) → is_among ys y ≡ true → (y == x) ≡ false → is_open (fate past y) ≡ true → first_open past x ys ≡ None → ⊥
still_taken past x y [] there other undecided free = cc
still_taken past x y (z ∷ ys) there other undecided free = by_test (z == y) refl there (λ h f. still_taken past x y ys h other undecided f) where
  free_rest : (b : Bool) → cond b (Some z) (first_open past x ys) ≡ None → first_open past x ys ≡ None
  free_rest true free = absurd cc
  free_rest false free = free

  by_test : (b : Bool) → (z == y) ≡ b → (b || is_among ys y) ≡ true → (is_among ys y ≡ true → first_open past x ys ≡ None → ⊥) → ⊥
  by_test true here there more =
      let same : z ≡ y = eqb-true z y here in
      let taken : cond (not (z == x) && is_open (fate past z)) (Some z) (first_open past x ys) ≡ None = free in
      let none : ◌≡◌ {A = Option ℕ} (Some y) None = rw (same, other, undecided) at taken in
      cc
  by_test false here there more = more there (free_rest _ free)

-- ---- who waits for a transaction's end

-- The session waits for the end of y since it looked: its CREATE TABLE has done nothing, and y has made a table of the name.
pub record IsAwaitingEnd (terms : Terms) (past : Past) (s y : ℕ) : Type 0 where
  pub x : ℕ
  pub name : List ℕ
  pub columns : List (List ℕ)
  pub own : xact_of past s ≡ Some x
  pub looked : IsSome (look_of past s)
  pub is : in_hand terms past s ≡ Some (statements.CreateTable name columns)
  pub among : is_among (makers past name) y ≡ true
  pub other : (y == x) ≡ false

-- entries of others leave it waiting
end_stays : (terms : Terms) (past : Past) (e : Entry) (s y : ℕ) → Legal terms (e ∷ past) → (made_by past e == s) ≡ false → IsAwaitingEnd terms past s y → IsAwaitingEnd terms (e ∷ past) s y
end_stays terms past e s y legal apart a =
    let same : doing (e ∷ past) s ≡ doing past s = others_stay terms past (made_by past e) s legal.1 apart e (by_rule terms past e legal.0.rule) in
    record {
      x = a.x;
      name = a.name;
      columns = a.columns;
      own = ap (λ (d : Doing). d.xact) same ∙ a.own;
      looked = subst (λ (d : Doing). IsSome d.look) (sym same) a.looked;
      is = ap (λ (d : Doing). statement_of terms d.hand d.dones) same ∙ a.is;
      among = makers_stay past e a.name y a.among;
      other = a.other;
    }

-- only a CREATE TABLE has somebody in the way of its name
pub record IsTaken (past : Past) (x y : ℕ) (o : Option Statement) : Type 0 where
  pub name : List ℕ
  pub columns : List (List ℕ)
  pub is : o ≡ Some (statements.CreateTable name columns)
  pub taken : first_open past x (makers past name) ≡ Some y

pub taken_by : (past : Past) (x y : ℕ) (o : Option Statement) → option_and_then (name_taker past x) o ≡ Some y → IsTaken past x y o
taken_by past x y None taken = absurd cc
taken_by past x y (Some (statements.CreateTable name columns)) taken = record { name = name; columns = columns; is = refl; taken = taken }
taken_by past x y (Some statement) taken = absurd cc

end_begins : (terms : Terms) (past : Past) (x y : ℕ) → Legal terms (Wait x (wants.Ends y) ∷ past) → IsAwaitingEnd terms (Wait x (wants.Ends y) ∷ past) (session_of past x) y
end_begins terms past x y legal =
    let t : IsTaken past x y (in_hand terms past (session_of past x)) = taken_by past x y (in_hand terms past (session_of past x)) legal.0.rule.waits_for.1 in
    let a = taker_among past x y (makers past t.name) t.taken in
    record { x = x; name = t.name; columns = t.columns; own = legal.0.rule.open_xact; looked = legal.0.rule.waits_for.0; is = t.is; among = a.0; other = a.1 }

pub awaiting_end : (terms : Terms) (past : Past) (s y : ℕ) → Legal terms past → wanted_by past s ≡ Some (wants.Ends y) → IsAwaitingEnd terms past s y
awaiting_end terms [] s y legal wanted = absurd cc
awaiting_end terms (Wait x want ∷ past) s y legal wanted = by_test (session_of past x == s) refl wanted (λ w. awaiting_end terms past s y legal.1 w) where
  by_test : (b : Bool) → (session_of past x == s) ≡ b → cond b (Some want) (wanted_by past s) ≡ Some (wants.Ends y) → (wanted_by past s ≡ Some (wants.Ends y) → IsAwaitingEnd terms past s y) → IsAwaitingEnd terms (Wait x want ∷ past) s y
  by_test true its w before =
      let want_is : want ≡ wants.Ends y = cc in
      let now : Legal terms (Wait x (wants.Ends y) ∷ past) = subst (λ (v : Want). Legal terms (Wait x v ∷ past)) want_is legal in
      rw (want_is, ← eqb-true (session_of past x) s its) (end_begins terms past x y now)
  by_test false apart w before = end_stays terms past (Wait x want) s y legal apart (before w)
awaiting_end terms (e ∷ past) s y legal wanted =
    let was = kept_want (made_by past e == s) _ _ wanted in
    end_stays terms past e s y legal was.0 (awaiting_end terms past s y legal.1 was.1)

-- ---- who isn't blocked

module _ (terms : Terms) (past : Past) (e : Entry) (s : ℕ) (legal : Legal terms past) (follows : Follows (owed terms past) e) where
  -- who neither waits for a lock, nor for the end of an open transaction, nor leaves
  unblocked : (IsLeaving past (Some e) s → ⊥) → ((c : Claim) → c.session ≡ s → is_waiting past c ≡ true → IsAwaiting terms past c → ⊥) → ((y : ℕ) → IsAwaitingEnd terms past s y → is_open (fate past y) ≡ true → ⊥) → is_blocked past s ≡ false
  unblocked stays no_lock no_end = by_want (wanted_by past s) refl where
    by_fate : (y : ℕ) → wanted_by past s ≡ Some (wants.Ends y) → (b : Bool) → is_open (fate past y) ≡ b → b ≡ false
    by_fate y wanted true undecided = absurd (no_end y (awaiting_end terms past s y legal wanted) undecided)
    by_fate y wanted false undecided = refl

    by_case : (c : Claim) → c.session ≡ s → is_waiting past c ≡ true → IsAwaiting terms past c ⊎ IsLeaving past (owed terms past) c.session → ⊥
    by_case c own there (inl a) = no_lock c own there a
    by_case c own there (inr leaving) = stays (leaves_next past (owed terms past) e s follows (rw own at leaving))

    by_want : (o : Option Want) → wanted_by past s ≡ o → holds_up past s o ≡ false
    by_want None wanted = refl
    by_want (Some (wants.Table table mode)) wanted =
        let there : is_waiting past (record { session = s; table = table; mode = mode }) ≡ true = wants_waits past s table mode wanted in
        absurd (by_case (record { session = s; table = table; mode = mode }) refl there (awaiting terms past legal (record { session = s; table = table; mode = mode }) there))
    by_want (Some (wants.Ends y)) wanted = by_fate y wanted (is_open (fate past y)) refl

not_looked : (past : Past) (s : ℕ) → look_of past s ≡ None → IsSome (look_of past s) → ⊥
not_looked past s none looked = let no : is_some {T = Past} None ≡ true = rw none at looked in cc

-- a lock that is lacking is the one that is awaited
one_lock : (terms : Terms) (past : Past) (x : ℕ) (c d : Claim) → IsAwaiting terms past c → c.session ≡ session_of past x → xact_of past (session_of past x) ≡ Some x → lacking terms past x ≡ Some d → d ≡ c
one_lock terms past x c d a session own lacks =
    let l : LacksInHand terms past x d = lacks_in_hand terms past x d lacks in
    let x_same : a.x ≡ x = of_some a.x x (sym (rw session at a.own) ∙ own) in
    let statement_same : a.statement ≡ l.statement = of_some a.statement l.statement (sym (rw session at a.is) ∙ l.is) in
    let name_same : a.name ≡ l.lacks.name = of_some a.name l.lacks.name (sym (rw statement_same at a.uses) ∙ l.lacks.uses) in
    let table_same : a.t ≡ l.lacks.t = of_some a.t l.lacks.t (sym (rw (x_same, name_same) at a.found) ∙ l.lacks.found) in
    l.lacks.is ∙ sym (a.claimed ∙ rw (session, statement_same, table_same) refl) where
      of_some : {A : Type 0} (u v : A) → Some u ≡ Some v → u ≡ v
      of_some u v e = cc

pub lock_unblocked : (terms : Terms) (past : Past) (x table : ℕ) (mode : Mode) → Legal terms past → Follows (owed terms past) (Lock x table mode) → xact_of past (session_of past x) ≡ Some x → LacksLock terms past x (claim past x table mode) → is_blocked past (session_of past x) ≡ false
lock_unblocked terms past x table mode legal follows own lacks = unblocked terms past (Lock x table mode) (session_of past x) legal follows (λ leaving. leaving) no_lock (λ y a undecided. not_looked past (session_of past x) lacks.before_look a.looked) where
  no_lock : (c : Claim) → c.session ≡ session_of past x → is_waiting past c ≡ true → IsAwaiting terms past c → ⊥
  no_lock c session there a =
      let same : claim past x table mode ≡ c = one_lock terms past x c (claim past x table mode) a session own lacks.lacks in
      let none : is_waiting past c ≡ false = subst (λ (d : Claim). is_waiting past d ≡ false) same lacks.not_waiting in
      cc

pub look_unblocked : (terms : Terms) (past : Past) (x : ℕ) → Legal terms past → Follows (owed terms past) (Look x) → xact_of past (session_of past x) ≡ Some x → look_of past (session_of past x) ≡ None → lacking terms past x ≡ None → is_blocked past (session_of past x) ≡ false
look_unblocked terms past x legal follows own first locked = unblocked terms past (Look x) (session_of past x) legal follows (λ leaving. leaving) (λ c session there a. no_look terms past c x a (sym session) own locked) (λ y a undecided. not_looked past (session_of past x) first a.looked)

-- An act leaves no session, and is no CREATE TABLE of a name that another has made.
pub act_unblocked : (terms : Terms) (past : Past) (e : Entry) (x : ℕ) → Legal terms past → Follows (owed terms past) e → (IsLeaving past (Some e) (session_of past x) → ⊥) → ActRule terms past x → ((name : List ℕ) (columns : List (List ℕ)) → in_hand terms past (session_of past x) ≡ Some (statements.CreateTable name columns) → first_open past x (makers past name) ≡ None) → is_blocked past (session_of past x) ≡ false
act_unblocked terms past e x legal follows stays act free = unblocked terms past e (session_of past x) legal follows stays (λ c session there a. no_act terms past c x a (sym session) act) no_end where
  of_some : (n m : ℕ) → Some n ≡ Some m → n ≡ m
  of_some n m e = cc

  no_end : (y : ℕ) → IsAwaitingEnd terms past (session_of past x) y → is_open (fate past y) ≡ true → ⊥
  no_end y a undecided =
      let same : a.x ≡ x = of_some a.x x (sym a.own ∙ act.open_xact) in
      still_taken past x y (makers past a.name) a.among (rw same at a.other) undecided (free a.name a.columns a.is)

-- who can go on isn't blocked
pub goes_unblocked : (past : Past) (s : ℕ) → can_go_on past s ≡ true → is_blocked past s ≡ false
goes_unblocked past s goes = by_tests (is_some (hand past s)) (is_blocked past s) goes where
  by_tests : (a b : Bool) → (a && not b) ≡ true → b ≡ false
  by_tests a false goes = refl
  by_tests false true goes = absurd cc
  by_tests true true goes = absurd cc
