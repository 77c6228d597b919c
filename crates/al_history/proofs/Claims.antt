-- Laws of the locks that are held, and of the requests that wait.
use Rattle.std.proofs.Common.{◌≡◌, ℕ, List, [], ◌∷◌, ◌++◌, refl, sym, ap, cond, true, false, Bool, Option, Some, None, ◌∙◌, ◌⊎◌, inl, inr}
use Rattle.std.specs.Prelude.{◌==◌, ◌&&◌, ◌||◌, not, IsSome}
use Rattle.std.specs.List.{list_any}
use Rattle.std.proofs.lemmas.Bool.{eq-eqb, eqb-true, ne_eqb, and_parts, or_cases, or_parts, or_left, or_right, not-true}
use Rattle.al_modes.specs.declared.mode.Mode.{Mode}
use Rattle.al_modes.specs.declared.mode.Mode.TheVariants.{AccessShare, RowShare, RowExclusive, ShareUpdateExclusive, Share, ShareRowExclusive, Exclusive, AccessExclusive}
use Rattle.al_modes.specs.Conflicts.{strictness, conflict}
use Rattle.al_modes.proofs.Table.{symmetric}
use Rattle.al_history.specs.declared.entry.Want.TheVariants as wants
use Rattle.al_history.specs.declared.entry.Entry.TheVariants.{Start, Wait, Lock, Commit, Abort}
use Rattle.al_history.specs.declared.statement.Terms.{Terms}
use Rattle.al_history.specs.Past.{Past}
use Rattle.al_history.specs.Fate.{is_that}
use Rattle.al_history.specs.Hand.{xact_of, session_of}
use Rattle.al_history.specs.Locks.{Claim, claim, same_claim, without, without_claim, held, waiting, in_way, grantable, is_held}
use Rattle.al_history.specs.Legal.{Legal}
use Rattle.al_history.proofs.Pasts.{if_same}
use Rattle.al_history.proofs.Makers.{Each}
use Rattle.al_history.proofs.Xacts.{xact_is}

-- ---- modes

abbrev mode_at : ℕ → Mode
mode_at n = cond (n == 1) AccessShare (cond (n == 2) RowShare (cond (n == 3) RowExclusive (cond (n == 4) ShareUpdateExclusive (cond (n == 5) Share (cond (n == 6) ShareRowExclusive (cond (n == 7) Exclusive AccessExclusive))))))

mode_again : (m : Mode) → mode_at (strictness m) ≡ m
mode_again AccessShare = refl
mode_again RowShare = refl
mode_again RowExclusive = refl
mode_again ShareUpdateExclusive = refl
mode_again Share = refl
mode_again ShareRowExclusive = refl
mode_again Exclusive = refl
mode_again AccessExclusive = refl

-- no two modes are equally strict
pub one_mode : (a b : Mode) → strictness a ≡ strictness b → a ≡ b
one_mode a b e = sym (mode_again a) ∙ (ap mode_at e ∙ mode_again b)

-- ACCESS EXCLUSIVE conflicts with every mode
pub conflicts_with_all : (m : Mode) → conflict AccessExclusive m ≡ true
conflicts_with_all AccessShare = refl
conflicts_with_all RowShare = refl
conflicts_with_all RowExclusive = refl
conflicts_with_all ShareUpdateExclusive = refl
conflicts_with_all Share = refl
conflicts_with_all ShareRowExclusive = refl
conflicts_with_all Exclusive = refl
conflicts_with_all AccessExclusive = refl

-- ---- claims in a list

pub one_claim : (c d : Claim) → same_claim c d ≡ true → d ≡ c
one_claim c d same =
    let parts = and_parts (d.session == c.session) ((d.table == c.table) && (strictness d.mode == strictness c.mode)) same in
    let rest = and_parts (d.table == c.table) (strictness d.mode == strictness c.mode) parts.1 in
    of_fields d c (eqb-true _ _ parts.0) (eqb-true _ _ rest.0) (one_mode _ _ (eqb-true _ _ rest.1)) where
      of_fields : (a b : Claim) → a.session ≡ b.session → a.table ≡ b.table → a.mode ≡ b.mode → a ≡ b
      of_fields a b session table mode = let e : ◌≡◌ {A = Claim} (record { session = a.session; table = a.table; mode = a.mode }) (record { session = b.session; table = b.table; mode = b.mode }) = rw (session, table, mode) refl in e

pub claim_itself : (c : Claim) → same_claim c c ≡ true
claim_itself c = rw (if_same c.session, if_same c.table, if_same (strictness c.mode)) refl

-- what is true of none of the claims isn't true of one that is there
pub true_of_none : (p : Claim → Bool) (claims : List Claim) (c : Claim) → is_held claims c ≡ true → list_any p claims ≡ false → p c ≡ false
true_of_none p [] c there none = absurd cc
true_of_none p (d ∷ claims) c there none = by_test (or_cases (same_claim c d) (is_held claims c) there) (λ h. true_of_none p claims c h (or_parts (p d) (list_any p claims) none).1) where
  by_test : (same_claim c d ≡ true) ⊎ (is_held claims c ≡ true) → (is_held claims c ≡ true → p c ≡ false) → p c ≡ false
  by_test (inl same) more = rw (← one_claim c d same) (or_parts (p d) (list_any p claims) none).0
  by_test (inr rest) more = more rest

pub held_push : (claims : List Claim) (c d : Claim) → is_held (claims ++ d ∷ []) c ≡ true → (is_held claims c ≡ true) ⊎ (d ≡ c)
held_push [] c d there = inr (by_test (or_cases (same_claim c d) false there)) where
  by_test : (same_claim c d ≡ true) ⊎ (false ≡ true) → d ≡ c
  by_test (inl same) = one_claim c d same
  by_test (inr other) = absurd cc
held_push (u ∷ claims) c d there = by_test (or_cases (same_claim c u) (is_held (claims ++ d ∷ []) c) there) (λ h. held_push claims c d h) where
  by_rest : (is_held claims c ≡ true) ⊎ (d ≡ c) → ((same_claim c u || is_held claims c) ≡ true) ⊎ (d ≡ c)
  by_rest (inl rest) = inl (or_right (same_claim c u) (is_held claims c) rest)
  by_rest (inr same) = inr same

  by_test : (same_claim c u ≡ true) ⊎ (is_held (claims ++ d ∷ []) c ≡ true) → (is_held (claims ++ d ∷ []) c ≡ true → (is_held claims c ≡ true) ⊎ (d ≡ c)) → ((same_claim c u || is_held claims c) ≡ true) ⊎ (d ≡ c)
  by_test (inl same) more = inl (or_left (same_claim c u) (is_held claims c) same)
  by_test (inr rest) more = by_rest (more rest)

pub held_still : (claims : List Claim) (c d : Claim) → is_held claims c ≡ true → is_held (claims ++ d ∷ []) c ≡ true
held_still [] c d there = absurd cc
held_still (u ∷ claims) c d there = by_test (or_cases (same_claim c u) (is_held claims c) there) (λ h. held_still claims c d h) where
  by_test : (same_claim c u ≡ true) ⊎ (is_held claims c ≡ true) → (is_held claims c ≡ true → is_held (claims ++ d ∷ []) c ≡ true) → (same_claim c u || is_held (claims ++ d ∷ []) c) ≡ true
  by_test (inl same) more = or_left (same_claim c u) (is_held (claims ++ d ∷ []) c) same
  by_test (inr rest) more = or_right (same_claim c u) (is_held (claims ++ d ∷ []) c) (more rest)

-- what is left without a session's claims is another's
pub held_left : (s : ℕ) (claims : List Claim) (c : Claim) → is_held (without s claims) c ≡ true → (is_held claims c ≡ true) × ((c.session == s) ≡ false)
held_left s [] c there = absurd cc
held_left s (u ∷ claims) c there = by_test (u.session == s) refl there (λ h. held_left s claims c h) where
  by_claim : (u.session == s) ≡ false → (same_claim c u ≡ true) ⊎ (is_held (without s claims) c ≡ true) → (is_held (without s claims) c ≡ true → (is_held claims c ≡ true) × ((c.session == s) ≡ false)) → (is_held (u ∷ claims) c ≡ true) × ((c.session == s) ≡ false)
  by_claim other (inl same) more = (or_left (same_claim c u) (is_held claims c) same, rw (← one_claim c u same) other)
  by_claim other (inr rest) more = (or_right (same_claim c u) (is_held claims c) (more rest).0, (more rest).1)

  by_test : (b : Bool) → (u.session == s) ≡ b → is_held (cond b (without s claims) (u ∷ without s claims)) c ≡ true → (is_held (without s claims) c ≡ true → (is_held claims c ≡ true) × ((c.session == s) ≡ false)) → (is_held (u ∷ claims) c ≡ true) × ((c.session == s) ≡ false)
  by_test true own there more = (or_right (same_claim c u) (is_held claims c) (more there).0, (more there).1)
  by_test false own there more = by_claim own (or_cases (same_claim c u) (is_held (without s claims) c) there) more

pub held_besides : (s : ℕ) (claims : List Claim) (c : Claim) → (c.session == s) ≡ false → is_held claims c ≡ true → is_held (without s claims) c ≡ true
held_besides s [] c other there = absurd cc
held_besides s (u ∷ claims) c other there = by_test (u.session == s) refl (or_cases (same_claim c u) (is_held claims c) there) (λ h. held_besides s claims c other h) where
  by_test : (b : Bool) → (u.session == s) ≡ b → (same_claim c u ≡ true) ⊎ (is_held claims c ≡ true) → (is_held claims c ≡ true → is_held (without s claims) c ≡ true) → is_held (cond b (without s claims) (u ∷ without s claims)) c ≡ true
  by_test true own (inl same) more = let not_own : (u.session == s) ≡ false = rw (one_claim c u same) other in absurd cc
  by_test true own (inr rest) more = more rest
  by_test false own (inl same) more = or_left (same_claim c u) (is_held (without s claims) c) same
  by_test false own (inr rest) more = or_right (same_claim c u) (is_held (without s claims) c) (more rest)

-- what is left without a claim is another
pub held_but : (d : Claim) (claims : List Claim) (c : Claim) → is_held (without_claim d claims) c ≡ true → (is_held claims c ≡ true) × (same_claim d c ≡ false)
held_but d [] c there = absurd cc
held_but d (u ∷ claims) c there = by_test (same_claim d u) refl there (λ h. held_but d claims c h) where
  by_claim : same_claim d u ≡ false → (same_claim c u ≡ true) ⊎ (is_held (without_claim d claims) c ≡ true) → (is_held (without_claim d claims) c ≡ true → (is_held claims c ≡ true) × (same_claim d c ≡ false)) → (is_held (u ∷ claims) c ≡ true) × (same_claim d c ≡ false)
  by_claim other (inl same) more = (or_left (same_claim c u) (is_held claims c) same, rw (← one_claim c u same) other)
  by_claim other (inr rest) more = (or_right (same_claim c u) (is_held claims c) (more rest).0, (more rest).1)

  by_test : (b : Bool) → same_claim d u ≡ b → is_held (cond b (without_claim d claims) (u ∷ without_claim d claims)) c ≡ true → (is_held (without_claim d claims) c ≡ true → (is_held claims c ≡ true) × (same_claim d c ≡ false)) → (is_held (u ∷ claims) c ≡ true) × (same_claim d c ≡ false)
  by_test true own there more = (or_right (same_claim c u) (is_held claims c) (more there).0, (more there).1)
  by_test false own there more = by_claim own (or_cases (same_claim c u) (is_held (without_claim d claims) c) there) more

pub held_beside : (d : Claim) (claims : List Claim) (c : Claim) → same_claim d c ≡ false → is_held claims c ≡ true → is_held (without_claim d claims) c ≡ true
held_beside d [] c other there = absurd cc
held_beside d (u ∷ claims) c other there = by_test (same_claim d u) refl (or_cases (same_claim c u) (is_held claims c) there) (λ h. held_beside d claims c other h) where
  by_test : (b : Bool) → same_claim d u ≡ b → (same_claim c u ≡ true) ⊎ (is_held claims c ≡ true) → (is_held claims c ≡ true → is_held (without_claim d claims) c ≡ true) → is_held (cond b (without_claim d claims) (u ∷ without_claim d claims)) c ≡ true
  by_test true own (inl same) more = let not_own : same_claim d u ≡ false = rw (one_claim c u same) other in absurd cc
  by_test true own (inr rest) more = more rest
  by_test false own (inl same) more = or_left (same_claim c u) (is_held (without_claim d claims) c) same
  by_test false own (inr rest) more = or_right (same_claim c u) (is_held (without_claim d claims) c) (more rest)

-- what holds of what is there holds of each
pub each_claim : (P : Claim → Type 0) (claims : List Claim) → ((c : Claim) → is_held claims c ≡ true → P c) → Each P claims
each_claim P [] there = tt
each_claim P (c ∷ claims) there = (there c (or_left (same_claim c c) (is_held claims c) (claim_itself c)), each_claim P claims (λ d later. there d (or_right (same_claim d c) (is_held claims d) later)))

-- ---- whose they are

abbrev AreOpen : Past → List Claim → Type 0
AreOpen past claims = (c : Claim) → is_held claims c ≡ true → IsSome (xact_of past c.session)

-- a claim more, of a transaction that is open
open_push : (past : Past) (claims : List Claim) (d : Claim) → AreOpen past claims → IsSome (xact_of past d.session) → AreOpen past (claims ++ d ∷ [])
open_push past claims d open_so own c there = by_case (held_push claims c d there) where
  by_case : (is_held claims c ≡ true) ⊎ (d ≡ c) → IsSome (xact_of past c.session)
  by_case (inl before) = open_so c before
  by_case (inr same) = rw (← same) own

pub is_that_so : (o : Option ℕ) (x : ℕ) → is_that o x ≡ true → o ≡ Some x
is_that_so None x same = absurd cc
is_that_so (Some y) x same = ap (λ (z : ℕ). Some z) (eqb-true y x same)

-- what is left after a transaction's end
open_left : (terms : Terms) (past : Past) (x : ℕ) (claims : List Claim) → Legal terms past → AreOpen past claims → (c : Claim) → is_held (without (session_of past x) claims) c ≡ true → IsSome (cond (is_that (xact_of past c.session) x) None (xact_of past c.session))
open_left terms past x claims legal open_so c there = by_test (is_that (xact_of past c.session) x) refl where
  left : (is_held claims c ≡ true) × ((c.session == session_of past x) ≡ false)
  left = held_left (session_of past x) claims c there

  by_test : (b : Bool) → is_that (xact_of past c.session) x ≡ b → IsSome (cond b None (xact_of past c.session))
  by_test true same =
      let its : session_of past x ≡ c.session = (xact_is terms past c.session x legal (is_that_so (xact_of past c.session) x same)).own in
      let yes : (c.session == session_of past x) ≡ true = eq-eqb _ _ (sym its) in
      let no : (c.session == session_of past x) ≡ false = left.1 in
      absurd cc
  by_test false other = open_so c left.0

-- a session that begins a transaction has an open one, and the others stay as they are
pub open_start : (b : Bool) (place : ℕ) (o : Option ℕ) → IsSome o → IsSome (cond b (Some place) o)
open_start true place o some = refl
open_start false place o some = some

pub some_is : {o : Option ℕ} {x : ℕ} → o ≡ Some x → IsSome o
some_is e = rw e refl

-- who holds a lock has an open transaction
pub held_open : (terms : Terms) (past : Past) → Legal terms past → (c : Claim) → is_held (held past) c ≡ true → IsSome (xact_of past c.session)
held_open terms [] legal c there = absurd cc
held_open terms (Start r level ∷ past) legal c there = open_start (r == c.session) _ _ (held_open terms past legal.1 c there)
held_open terms (Lock x table mode ∷ past) legal c there = open_push past (held past) (claim past x table mode) (held_open terms past legal.1) (some_is legal.0.rule.open_xact) c there
held_open terms (Commit x ∷ past) legal c there = open_left terms past x (held past) legal.1 (held_open terms past legal.1) c there
held_open terms (Abort x ∷ past) legal c there = open_left terms past x (held past) legal.1 (held_open terms past legal.1) c there
held_open terms (e ∷ past) legal c there = held_open terms past legal.1 c there

-- who waits for a lock has an open transaction
pub waiting_open : (terms : Terms) (past : Past) → Legal terms past → (c : Claim) → is_held (waiting past) c ≡ true → IsSome (xact_of past c.session)
waiting_open terms [] legal c there = absurd cc
waiting_open terms (Start r level ∷ past) legal c there = open_start (r == c.session) _ _ (waiting_open terms past legal.1 c there)
waiting_open terms (Wait x (wants.Table table mode) ∷ past) legal c there = open_push past (waiting past) (claim past x table mode) (waiting_open terms past legal.1) (some_is legal.0.rule.open_xact) c there
waiting_open terms (Wait x (wants.Ends y) ∷ past) legal c there = waiting_open terms past legal.1 c there
waiting_open terms (Lock x table mode ∷ past) legal c there = waiting_open terms past legal.1 c (held_but (claim past x table mode) (waiting past) c there).0
waiting_open terms (Commit x ∷ past) legal c there = open_left terms past x (waiting past) legal.1 (waiting_open terms past legal.1) c there
waiting_open terms (Abort x ∷ past) legal c there = open_left terms past x (waiting past) legal.1 (waiting_open terms past legal.1) c there
waiting_open terms (e ∷ past) legal c there = waiting_open terms past legal.1 c there

-- ---- locks of two sessions

abbrev AreApart : List Claim → Type 0
AreApart claims = (c d : Claim) → is_held claims c ≡ true → is_held claims d ≡ true → (c.session ≡ d.session → ⊥) → c.table ≡ d.table → conflict c.mode d.mode ≡ false

-- what isn't in the way of another session's claim of the table doesn't conflict with it
beside : (request other : Claim) → in_way request other ≡ false → (other.session ≡ request.session → ⊥) → other.table ≡ request.table → conflict other.mode request.mode ≡ false
beside request other clear apart same =
    let table : (other.table == request.table) ≡ true = eq-eqb _ _ same in
    let session : (other.session == request.session) ≡ false = ne_eqb _ _ apart in
    let e : ((other.table == request.table) && (not (other.session == request.session) && conflict other.mode request.mode)) ≡ false = clear in
    rw (table, session) at e

apart_push : (claims : List Claim) (e : Claim) → AreApart claims → list_any (in_way e) claims ≡ false → AreApart (claims ++ e ∷ [])
apart_push claims e apart clear c d there there' other same = by_case (held_push claims c e there) (held_push claims d e there') where
  by_case : (is_held claims c ≡ true) ⊎ (e ≡ c) → (is_held claims d ≡ true) ⊎ (e ≡ d) → conflict c.mode d.mode ≡ false
  by_case (inl before) (inl before') = apart c d before before' other same
  by_case (inl before) (inr last) = let here : in_way d c ≡ false = rw (← last) (true_of_none (in_way e) claims c before clear) in beside d c here other same
  by_case (inr last) (inl before) = let here : in_way c d ≡ false = rw (← last) (true_of_none (in_way e) claims d before clear) in symmetric c.mode d.mode ∙ beside c d here (λ e. other (sym e)) (sym same)
  by_case (inr last) (inr last') = absurd (other (let e : c ≡ d = sym last ∙ last' in ap (λ (u : Claim). u.session) e))

apart_left : (s : ℕ) (claims : List Claim) → AreApart claims → AreApart (without s claims)
apart_left s claims apart c d there there' = apart c d (held_left s claims c there).0 (held_left s claims d there').0

-- no lock that can be granted has a held one in its way
pub none_in_way : (past : Past) (request : Claim) → grantable past request ≡ true → list_any (in_way request) (held past) ≡ false
none_in_way past request can = (or_parts (list_any (in_way request) (held past)) _ (not-true _ can)).0

-- locks of one table that two sessions hold don't conflict
pub held_apart : (terms : Terms) (past : Past) → Legal terms past → (c d : Claim) → is_held (held past) c ≡ true → is_held (held past) d ≡ true → (c.session ≡ d.session → ⊥) → c.table ≡ d.table → conflict c.mode d.mode ≡ false
held_apart terms [] legal c d there = absurd cc
held_apart terms (Lock x table mode ∷ past) legal c d there = apart_push (held past) (claim past x table mode) (held_apart terms past legal.1) (none_in_way past (claim past x table mode) legal.0.rule.can_be) c d there
held_apart terms (Commit x ∷ past) legal c d there = apart_left (session_of past x) (held past) (held_apart terms past legal.1) c d there
held_apart terms (Abort x ∷ past) legal c d there = apart_left (session_of past x) (held past) (held_apart terms past legal.1) c d there
held_apart terms (e ∷ past) legal c d there = held_apart terms past legal.1 c d there

-- where a session has a table alone, all locks of the table are its own
pub alone_held : (terms : Terms) (past : Past) → Legal terms past → (c d : Claim) → is_held (held past) c ≡ true → is_held (held past) d ≡ true → c.mode ≡ AccessExclusive → c.table ≡ d.table → c.session ≡ d.session
alone_held terms past legal c d there there' mode same = by_test (c.session == d.session) refl where
  by_test : (b : Bool) → (c.session == d.session) ≡ b → c.session ≡ d.session
  by_test true own = eqb-true c.session d.session own
  by_test false other =
      let none : conflict c.mode d.mode ≡ false = held_apart terms past legal c d there there' (λ e. let yes : (c.session == d.session) ≡ true = eq-eqb c.session d.session e in absurd cc) same in
      let all : conflict c.mode d.mode ≡ true = rw mode (conflicts_with_all d.mode) in
      absurd cc
