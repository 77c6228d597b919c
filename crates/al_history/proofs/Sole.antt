-- No entry that keeps its rule uses a table that another has alone.
use Rattle.std.proofs.Common.{◌≡◌, ℕ, List, [], ◌∷◌, refl, sym, cond, true, false, Bool, Option, Some, None, ◌∙◌}
use Rattle.std.specs.Prelude.{◌==◌, ◌&&◌, not, option_and_then}
use Rattle.std.proofs.lemmas.Bool.{eq-eqb, eqb-true, and_from, or_left, or_right}
use Rattle.al_modes.specs.declared.mode.Mode.{Mode}
use Rattle.al_modes.specs.declared.mode.Mode.TheVariants.{RowExclusive, AccessExclusive}
use Rattle.al_modes.specs.Conflicts.{strictness}
use Rattle.al_history.specs.declared.entry.Entry.{Entry}
use Rattle.al_history.specs.declared.entry.Entry.TheVariants.{Lock, Look, Add, Read, Alter}
use Rattle.al_history.specs.declared.statement.Statement.{Statement}
use Rattle.al_history.specs.declared.statement.Statement.TheVariants as statements
use Rattle.al_history.specs.declared.statement.Terms.{Terms}
use Rattle.al_values.specs.declared.scalar.Value.{Value}
use Rattle.al_history.specs.Past.{Past}
use Rattle.al_history.specs.Database.{Table, named}
use Rattle.al_history.specs.Hand.{hand, in_hand, refused, session_of, look_of}
use Rattle.al_history.specs.Cause.{used_name}
use Rattle.al_history.specs.Locks.{Claim, claim, same_claim, held, in_way, grantable, is_held, is_grant}
use Rattle.al_history.specs.Need.{lacking}
use Rattle.al_history.specs.View.{latest}
use Rattle.al_history.specs.Tail.{owed, Follows}
use Rattle.al_history.specs.Rules.{ActRule, AddRule, Rule}
use Rattle.al_history.specs.Alone.{sole_among, sole_user, used_table, IsNumbered, IsUser, UsesOwn, Alone}
use Rattle.al_history.specs.Legal.{Unless, Legal}
use Rattle.al_history.proofs.Claims.{conflicts_with_all, true_of_none, none_in_way, alone_held}
use Rattle.al_history.proofs.Looks.{step_kept, IsInStep, in_step}
use Rattle.al_history.proofs.Names.{IsFound}
use Rattle.al_history.proofs.Needs.{IsInsertion, insertion, needed_mode, lock_held}
use Rattle.al_history.proofs.Owners.{sole_claim}
use Rattle.al_history.proofs.Steady.{IsSteady, steady}
use Rattle.al_history.proofs.Suffices.{locks_suffice}

-- ---- who has a table alone

-- who has a table alone holds it in ACCESS EXCLUSIVE mode
pub sole_held : (claims : List Claim) (table r : ℕ) → sole_among claims table ≡ Some r → is_held claims (sole_claim r table) ≡ true
sole_held [] table r is = absurd cc
sole_held (c ∷ claims) table r is = by_test ((c.table == table) && (strictness c.mode == strictness AccessExclusive)) refl is (λ h. sole_held claims table r h) where
  by_test : (b : Bool) → ((c.table == table) && (strictness c.mode == strictness AccessExclusive)) ≡ b → cond b (Some c.session) (sole_among claims table) ≡ Some r → (sole_among claims table ≡ Some r → is_held claims (sole_claim r table) ≡ true) → is_held (c ∷ claims) (sole_claim r table) ≡ true
  by_test true same is more = let its : c.session ≡ r = cc in or_left (same_claim (sole_claim r table) c) (is_held claims (sole_claim r table)) (and_from (c.session == r) _ (eq-eqb c.session r its) same)
  by_test false other is more = or_right (same_claim (sole_claim r table) c) (is_held claims (sole_claim r table)) (more is)

user_from : (o : Option ℕ) (s : ℕ) → ((r : ℕ) → o ≡ Some r → r ≡ s) → IsUser o s
user_from None s own = tt
user_from (Some r) s own = sym (own r refl)

-- who has locked a table may use it
pub locked_alone : (terms : Terms) (past : Past) (s table : ℕ) (mode : Mode) → Legal terms past → is_held (held past) (record { session = s; table = table; mode = mode }) ≡ true → IsUser (sole_user past table) s
locked_alone terms past s table mode legal lock = user_from (sole_user past table) s (λ r is. alone_held terms past legal (sole_claim r table) (record { session = s; table = table; mode = mode }) (sole_held (held past) table r is) lock refl refl)

-- ---- a Lock

-- a lock that can be granted is of no table that another has alone
pub grant_alone : (past : Past) (x table : ℕ) (mode : Mode) → grantable past (claim past x table mode) ≡ true → IsUser (sole_user past table) (session_of past x)
grant_alone past x table mode can = user_from (sole_user past table) (session_of past x) (λ r is. by_test r (r == session_of past x) refl (true_of_none (in_way (claim past x table mode)) (held past) (sole_claim r table) (sole_held (held past) table r is) (none_in_way past (claim past x table mode) can))) where
  by_test : (r : ℕ) (b : Bool) → (r == session_of past x) ≡ b → in_way (claim past x table mode) (sole_claim r table) ≡ false → r ≡ session_of past x
  by_test r true same clear = eqb-true r (session_of past x) same
  by_test r false other clear =
      let no : (true && (not false && true)) ≡ false = rw (eq-eqb table table refl, other, conflicts_with_all mode) at clear in
      absurd cc

-- ---- the table of a statement

pub record IsUsing (terms : Terms) (past : Past) (x : ℕ) (look : Past) (table : ℕ) : Type 0 where
  pub statement : Statement
  pub name : List ℕ
  pub t : Table
  pub is : in_hand terms past (session_of past x) ≡ Some statement
  pub uses : used_name statement ≡ Some name
  pub found : named (latest terms look x) name ≡ Some t
  pub number : t.number ≡ table

pub using : (terms : Terms) (past : Past) (x : ℕ) (look : Past) (table : ℕ) → IsNumbered (used_table terms past x look) table → IsUsing terms past x look table
using terms past x look table uses = by_statement (in_hand terms past (session_of past x)) refl uses where
  by_table : (statement : Statement) (name : List ℕ) (o : Option Table) → in_hand terms past (session_of past x) ≡ Some statement → used_name statement ≡ Some name → named (latest terms look x) name ≡ o → IsNumbered o table → IsUsing terms past x look table
  by_table statement name None is named_so found uses = absurd uses
  by_table statement name (Some t) is named_so found uses = record { statement = statement; name = name; t = t; is = is; uses = named_so; found = found; number = uses }

  by_name : (statement : Statement) (o : Option (List ℕ)) → in_hand terms past (session_of past x) ≡ Some statement → used_name statement ≡ o → IsNumbered (option_and_then (named (latest terms look x)) o) table → IsUsing terms past x look table
  by_name statement None is named_so uses = absurd uses
  by_name statement (Some name) is named_so uses = by_table statement name (named (latest terms look x) name) is named_so refl uses

  by_statement : (o : Option Statement) → in_hand terms past (session_of past x) ≡ o → IsNumbered (option_and_then (named (latest terms look x)) (option_and_then used_name o)) table → IsUsing terms past x look table
  by_statement None is uses = absurd uses
  by_statement (Some statement) is uses = by_name statement (used_name statement) is refl uses

-- a Look comes where its statement's locks are held
pub look_alone : (terms : Terms) (past : Past) (x : ℕ) → Legal terms past → lacking terms past x ≡ None → UsesOwn terms past x (Some past)
look_alone terms past x legal none table uses =
    let u : IsUsing terms past x past table = using terms past x past table uses in
    locked_alone terms past (session_of past x) table (needed_mode u.statement) legal (rw u.number at (lock_held terms past x u.statement u.name u.t none u.is u.uses u.found))

-- what a statement used at its Look it has locked still, where its step wasn't refused
pub act_alone : (terms : Terms) (past : Past) (x : ℕ) → Legal terms past → ((block : ℕ) → hand past (session_of past x) ≡ Some block → refused past (session_of past x) ≡ false) → ActRule terms past x → UsesOwn terms past x (look_of past (session_of past x))
act_alone terms past x legal kept rule = by_look (look_of past (session_of past x)) refl where
  by_steady : (look : Past) (table : ℕ) → (u : IsUsing terms past x look table) → IsSteady terms past look (session_of past x) x → IsUser (sole_user past table) (session_of past x)
  by_steady look table u p =
      let now : IsFound (latest terms past x) u.name u.t _ = p.finds u.name u.t (needed_mode u.statement) u.found in
      locked_alone terms past (session_of past x) table (needed_mode u.statement) legal (rw (now.number ∙ u.number) at (lock_held terms past x u.statement u.name now.t rule.locked u.is u.uses now.is))

  by_look : (o : Option Past) → look_of past (session_of past x) ≡ o → UsesOwn terms past x o
  by_look None looked = tt
  by_look (Some look) looked = λ table uses.
      let u : IsUsing terms past x look table = using terms past x look table uses in
      let i : IsInStep past (session_of past x) = in_step terms past (session_of past x) u.statement u.is in
      by_steady look table u (steady terms past look (session_of past x) x i.block legal (locks_suffice terms past legal) rule.open_xact looked i.step (kept i.block i.step))

-- a row comes into a table that is locked
pub add_alone : (terms : Terms) (past : Past) (x table : ℕ) (row : List Value) → Legal terms past → AddRule terms past x table row → IsUser (sole_user past table) (session_of past x)
add_alone terms past x table row legal rule =
    let is : IsInsertion (in_hand terms past (session_of past x)) (latest terms past x) table row = insertion (in_hand terms past (session_of past x)) (latest terms past x) table row rule.inserts in
    rw is.number (locked_alone terms past (session_of past x) is.t.number RowExclusive legal (lock_held terms past x (statements.Insert is.name is.written) is.name is.t rule.act.locked is.is refl is.found))

-- ---- every entry

-- an entry that keeps its rule, and is the one that is owed where one is, uses no table that another has alone
pub rule_alone : (terms : Terms) (past : Past) (e : Entry) → Legal terms past → Rule terms past e → Unless (is_grant past e) (Follows (owed terms past) e) → Alone terms past e
rule_alone terms past (Lock x table mode) legal rule follows = grant_alone past x table mode rule.can_be
rule_alone terms past (Look x) legal rule follows = look_alone terms past x legal rule.locked
rule_alone terms past (Add x table row) legal rule follows = add_alone terms past x table row legal rule
rule_alone terms past (Read x names rows) legal rule follows = act_alone terms past x legal (λ block step. step_kept terms past (session_of past x) block (Read x names rows) legal step follows (λ none. none)) rule.act
rule_alone terms past (Alter x table statement rewritten) legal rule follows = act_alone terms past x legal (λ block step. step_kept terms past (session_of past x) block (Alter x table statement rewritten) legal step follows (λ none. none)) rule.act
rule_alone terms past e legal rule follows = tt
