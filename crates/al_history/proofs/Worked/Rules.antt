-- Each entry of a vector may come where what its rule asks computes: one lemma for each kind of entry.
use Rattle.std.specs.Prelude.{◌≡◌, ◌==◌, refl, ℕ, List, [], ◌∷◌, Bool, true, false, Option, Some, None, IsSome, slice_get, option_map, option_and_then, length, ◌⊎◌, ◌<◌}
use Rattle.al_values.specs.declared.scalar.Value.{Value}
use Rattle.al_modes.specs.declared.level.Level.TheVariants as levels
use Rattle.al_modes.specs.declared.mode.Mode.{Mode}
use Rattle.al_statements.specs.declared.reply.Reply.{Reply}
use Rattle.al_statements.specs.declared.cause.Cause.{Cause}
use Rattle.al_history.specs.declared.entry.Want.TheVariants as wants
use Rattle.al_history.specs.declared.entry.Entry.{Entry}
use Rattle.al_history.specs.declared.entry.Entry.TheVariants.{Give, Start, Wait, Lock, Look, Make, Add, Read, Alter, Done, Refuse, Commit, Abort, Cancel, End, Close}
use Rattle.al_history.specs.declared.statement.Column.{Column}
use Rattle.al_history.specs.declared.statement.ScriptBlock.{ScriptBlock}
use Rattle.al_history.specs.declared.statement.Statement.TheVariants as statements
use Rattle.al_history.specs.declared.statement.Terms.{Terms}
use Rattle.al_history.specs.Past.{Past}
use Rattle.al_history.specs.Hand.{hand, refused, dones, in_hand, xact_of, implicit_of, session_of, look_of, acts_of, closed, BlockState, NoBlock, OpenBlock, FailedBlock, block_state, if_no_block, fault_of}
use Rattle.al_history.specs.View.{latest}
use Rattle.al_history.specs.Cause.{cause_of}
use Rattle.al_history.specs.Tail.{owed, Follows}
use Rattle.std.proofs.Common.{inl, inr}
use Rattle.std.proofs.lemmas.Bool.{eq-eqb}
use Rattle.al_history.specs.Database.{Table}
use Rattle.al_history.specs.Locks.{claim, grantable, is_settled, is_waiting, is_grant}
use Rattle.al_history.specs.Waits.{can_go_on}
use Rattle.al_history.specs.Need.{has_place, lacking, makers, first_open, name_taker}
use Rattle.al_history.specs.Rules.{starts, Ascends, ActRule, Creates, Inserts, Selects, Alters, Answers, looked_at, HasNoMore}
use Rattle.al_history.specs.Alone.{sole_user, used_table, IsNumbered, IsUser, UsesOwn}
use Rattle.al_history.specs.Legal.{Unless, MayCome, Legal, comes_in_time}

-- a legal journal and one more entry that may come
infixl 10 ◌▸◌
pub ◌▸◌ : {terms : Terms} {past : Past} {e : Entry} → Legal terms past → MayCome terms past e → Legal terms (e ∷ past)
legal ▸ may = (may, legal)

-- what is asked of the statement's table: where someone has it alone, it is that session
abbrev pub OwnTable : Past → ℕ → Option Table → Type 0
OwnTable past s None = Unit {0}
OwnTable past s (Some t) = IsUser (sole_user past t.number) s

abbrev pub OwnAt : Terms → Past → ℕ → Option Past → Type 0
OwnAt terms past x None = Unit {0}
OwnAt terms past x (Some look) = OwnTable past (session_of past x) (used_table terms past x look)

own_table : (past : Past) (s : ℕ) (o : Option Table) → OwnTable past s o → (table : ℕ) → IsNumbered o table → IsUser (sole_user past table) s
own_table past s None own table used = absurd used
own_table past s (Some t) own table used = rw (← used) own

pub uses_own : (terms : Terms) (past : Past) (x : ℕ) (look : Option Past) → OwnAt terms past x look → UsesOwn terms past x look
uses_own terms past x None own = tt
uses_own terms past x (Some look) own = own_table past (session_of past x) (used_table terms past x look) own

-- what is waived where the entry is the lock of a request that waits
waived : (b : Bool) (asked : Type 0) → b ≡ true → Unless b asked
waived b asked e = rw e tt

-- a Give may come
pub may_give : {terms : Terms} {past : Past} {s block : ℕ} → s < terms.scripts.sessions → option_map (λ (b : ScriptBlock). b.session) (slice_get terms.scripts.blocks block) ≡ Some s → closed past s ≡ false → hand past s ≡ None → is_settled past ≡ true → Follows (owed terms past) (Give s block) → MayCome terms past (Give s block)
may_give known of_session not_closed idle settled follows = record { rule = record { known = known; of_session = of_session; not_closed = not_closed; idle = idle }; settled = settled; follows = follows; timely = refl; alone = tt }

-- a Start of READ COMMITTED
pub may_start : {terms : Terms} {past : Past} {s : ℕ} → comes_in_time terms past (Start s levels.ReadCommitted) ≡ true → option_map (starts (block_state past s)) (in_hand terms past s) ≡ Some true → xact_of past s ≡ None → is_settled past ≡ true → Follows (owed terms past) (Start s levels.ReadCommitted) → MayCome terms past (Start s levels.ReadCommitted)
may_start timely statement none_open settled follows = record { rule = record { statement = statement; none_open = none_open; read_committed = refl }; settled = settled; follows = follows; timely = timely; alone = tt }

-- a Wait for a lock
pub may_wait_for_lock : {terms : Terms} {past : Past} {x table : ℕ} {mode : Mode} → comes_in_time terms past (Wait x (wants.Table table mode)) ≡ true → xact_of past (session_of past x) ≡ Some x → can_go_on past (session_of past x) ≡ true → look_of past (session_of past x) ≡ None → lacking terms past x ≡ Some (claim past x table mode) → grantable past (claim past x table mode) ≡ false → cause_of terms past (session_of past x) ≡ None → is_settled past ≡ true → Follows (owed terms past) (Wait x (wants.Table table mode)) → MayCome terms past (Wait x (wants.Table table mode))
may_wait_for_lock timely open_xact in_step before_look lacks held_up not_refused settled follows = record { rule = record { open_xact = open_xact; in_step = in_step; waits_for = (before_look, lacks, held_up); not_refused = not_refused }; settled = settled; follows = follows; timely = timely; alone = tt }

-- a Wait for the end of the transaction that has made a table of the new one's name
pub may_wait_for_end : {terms : Terms} {past : Past} {x y : ℕ} → comes_in_time terms past (Wait x (wants.Ends y)) ≡ true → xact_of past (session_of past x) ≡ Some x → can_go_on past (session_of past x) ≡ true → IsSome (look_of past (session_of past x)) → option_and_then (name_taker past x) (in_hand terms past (session_of past x)) ≡ Some y → acts_of past (session_of past x) ≡ [] → cause_of terms past (session_of past x) ≡ None → is_settled past ≡ true → Follows (owed terms past) (Wait x (wants.Ends y)) → MayCome terms past (Wait x (wants.Ends y))
may_wait_for_end timely open_xact in_step looked taken first not_refused settled follows = record { rule = record { open_xact = open_xact; in_step = in_step; waits_for = (looked, taken, first); not_refused = not_refused }; settled = settled; follows = follows; timely = timely; alone = tt }

-- a Lock that is got at once
pub may_lock : {terms : Terms} {past : Past} {x table : ℕ} {mode : Mode} → comes_in_time terms past (Lock x table mode) ≡ true → xact_of past (session_of past x) ≡ Some x → grantable past (claim past x table mode) ≡ true → is_waiting past (claim past x table mode) ≡ false → lacking terms past x ≡ Some (claim past x table mode) → look_of past (session_of past x) ≡ None → cause_of terms past (session_of past x) ≡ None → Unless (is_grant past (Lock x table mode)) (is_settled past ≡ true) → Unless (is_grant past (Lock x table mode)) (Follows (owed terms past) (Lock x table mode)) → IsUser (sole_user past table) (session_of past x) → MayCome terms past (Lock x table mode)
may_lock timely open_xact can_be not_waiting lacks before_look not_refused settled follows own = record { rule = record { open_xact = open_xact; can_be = can_be; asked = inr (record { not_waiting = not_waiting; lacks = lacks; before_look = before_look; not_refused = not_refused }) }; settled = settled; follows = follows; timely = timely; alone = own }

-- the Lock of a request that waited
pub may_be_granted : {terms : Terms} {past : Past} {x table : ℕ} {mode : Mode} → xact_of past (session_of past x) ≡ Some x → grantable past (claim past x table mode) ≡ true → is_waiting past (claim past x table mode) ≡ true → Ascends past table → IsUser (sole_user past table) (session_of past x) → MayCome terms past (Lock x table mode)
may_be_granted open_xact can_be waits ascends own = record { rule = record { open_xact = open_xact; can_be = can_be; asked = inl (record { waits = waits; ascends = ascends }) }; settled = waived _ _ waits; follows = waived _ _ waits; timely = rw waits refl; alone = own }

-- a Look
pub may_look : {terms : Terms} {past : Past} {x : ℕ} → comes_in_time terms past (Look x) ≡ true → xact_of past (session_of past x) ≡ Some x → option_map has_place (in_hand terms past (session_of past x)) ≡ Some true → look_of past (session_of past x) ≡ None → lacking terms past x ≡ None → cause_of terms past (session_of past x) ≡ None → is_settled past ≡ true → Follows (owed terms past) (Look x) → OwnTable past (session_of past x) (used_table terms past x past) → MayCome terms past (Look x)
may_look {terms} {past} {x} timely open_xact statement first locked not_refused settled follows own = record { rule = record { open_xact = open_xact; statement = statement; first = first; locked = locked; not_refused = not_refused }; settled = settled; follows = follows; timely = timely; alone = uses_own terms past x (Some past) own }

-- what a statement does
pub may_act : {terms : Terms} {past : Past} {x : ℕ} → xact_of past (session_of past x) ≡ Some x → IsSome (look_of past (session_of past x)) → acts_of past (session_of past x) ≡ [] → lacking terms past x ≡ None → cause_of terms past (session_of past x) ≡ None → ActRule terms past x
may_act open_xact looked first locked not_refused = record { open_xact = open_xact; looked = looked; first = first; locked = locked; not_refused = not_refused }

-- a Make
pub may_make : {terms : Terms} {past : Past} {x table : ℕ} {name : List ℕ} {shape : List Column} → comes_in_time terms past (Make x table name shape) ≡ true → ActRule terms past x → first_open past x (makers past name) ≡ None → Creates (in_hand terms past (session_of past x)) name shape → table ≡ length past → is_settled past ≡ true → Follows (owed terms past) (Make x table name shape) → MayCome terms past (Make x table name shape)
may_make timely act free creates number settled follows = record { rule = record { act = act; free = free; creates = creates; number = number }; settled = settled; follows = follows; timely = timely; alone = tt }

-- an Add
pub may_add : {terms : Terms} {past : Past} {x table : ℕ} {row : List Value} → comes_in_time terms past (Add x table row) ≡ true → ActRule terms past x → Inserts (in_hand terms past (session_of past x)) (latest terms past x) table row → is_settled past ≡ true → Follows (owed terms past) (Add x table row) → IsUser (sole_user past table) (session_of past x) → MayCome terms past (Add x table row)
may_add timely act inserts settled follows own = record { rule = record { act = act; inserts = inserts }; settled = settled; follows = follows; timely = timely; alone = own }

-- a Read
pub may_read : {terms : Terms} {past : Past} {x : ℕ} {names : List (List ℕ)} {rows : List (List Value)} → comes_in_time terms past (Read x names rows) ≡ true → ActRule terms past x → Selects (in_hand terms past (session_of past x)) (looked_at terms (look_of past (session_of past x)) x) names rows → is_settled past ≡ true → Follows (owed terms past) (Read x names rows) → OwnAt terms past x (look_of past (session_of past x)) → MayCome terms past (Read x names rows)
may_read {terms} {past} {x} timely act selects settled follows own = record { rule = record { act = act; selects = selects }; settled = settled; follows = follows; timely = timely; alone = uses_own terms past x (look_of past (session_of past x)) own }

-- an Alter that rewrites nothing
pub may_alter : {terms : Terms} {past : Past} {x table statement : ℕ} → comes_in_time terms past (Alter x table statement []) ≡ true → ActRule terms past x → Alters (in_hand terms past (session_of past x)) (latest terms past x) table → statement ≡ dones past (session_of past x) → is_settled past ≡ true → Follows (owed terms past) (Alter x table statement []) → OwnAt terms past x (look_of past (session_of past x)) → MayCome terms past (Alter x table statement [])
may_alter {terms} {past} {x} timely act alters number settled follows own = record { rule = record { act = act; alters = alters; number = number; none_rewritten = refl }; settled = settled; follows = follows; timely = timely; alone = uses_own terms past x (look_of past (session_of past x)) own }

-- a Done
pub may_be_done : {terms : Terms} {past : Past} {s : ℕ} {reply : Reply} → comes_in_time terms past (Done s reply) ≡ true → Answers (in_hand terms past s) (acts_of past s) (xact_of past s) (block_state past s) reply → is_settled past ≡ true → Follows (owed terms past) (Done s reply) → MayCome terms past (Done s reply)
may_be_done timely answers settled follows = record { rule = record { answers = answers }; settled = settled; follows = follows; timely = timely; alone = tt }

-- a Refuse
pub may_refuse : {terms : Terms} {past : Past} {s : ℕ} {cause : Cause} → comes_in_time terms past (Refuse s cause) ≡ true → cause_of terms past s ≡ Some cause → is_settled past ≡ true → Follows (owed terms past) (Refuse s cause) → MayCome terms past (Refuse s cause)
may_refuse timely first_true settled follows = record { rule = record { first_true = first_true }; settled = settled; follows = follows; timely = timely; alone = tt }

implicit_is_open : (state : BlockState) (o : Option ℕ) (x : ℕ) → if_no_block state o ≡ Some x → o ≡ Some x
implicit_is_open NoBlock o x e = e
implicit_is_open OpenBlock o x e = absurd cc
implicit_is_open (FailedBlock refuse) o x e = absurd cc

-- a Commit
pub may_commit : {terms : Terms} {past : Past} {x : ℕ} → comes_in_time terms past (Commit x) ≡ true → implicit_of past (session_of past x) ≡ Some x → IsSome (hand past (session_of past x)) → in_hand terms past (session_of past x) ≡ None → refused past (session_of past x) ≡ false → is_settled past ≡ true → Follows (owed terms past) (Commit x) → MayCome terms past (Commit x)
may_commit {terms} {past} {x} timely implicit in_step none_left none_refused settled follows = record { rule = record { open_xact = implicit_is_open (block_state past (session_of past x)) (xact_of past (session_of past x)) x implicit; in_step = in_step; none_refused = none_refused; ends = inl (none_left, implicit) }; settled = settled; follows = follows; timely = timely; alone = tt }

-- an Abort
pub may_abort : {terms : Terms} {past : Past} {x : ℕ} → comes_in_time terms past (Abort x) ≡ true → xact_of past (session_of past x) ≡ Some x → (refused past (session_of past x) ≡ true) ⊎ (hand past (session_of past x) ≡ None) → is_settled past ≡ true → Follows (owed terms past) (Abort x) → MayCome terms past (Abort x)
may_abort timely open_xact refused_or_idle settled follows = record { rule = record { open_xact = open_xact; refused_or_idle = inl refused_or_idle }; settled = settled; follows = follows; timely = timely; alone = tt }

-- the Commit of a COMMIT
pub commits : {terms : Terms} {past : Past} {x : ℕ} → comes_in_time terms past (Commit x) ≡ true → xact_of past (session_of past x) ≡ Some x → in_hand terms past (session_of past x) ≡ Some statements.Commit → IsSome (hand past (session_of past x)) → refused past (session_of past x) ≡ false → is_settled past ≡ true → Follows (owed terms past) (Commit x) → MayCome terms past (Commit x)
commits timely open_xact is in_step none settled follows = record { rule = record { open_xact = open_xact; in_step = in_step; none_refused = none; ends = inr is }; settled = settled; follows = follows; timely = timely; alone = tt }

-- the Abort of a ROLLBACK
pub rolls_back : {terms : Terms} {past : Past} {x : ℕ} → comes_in_time terms past (Abort x) ≡ true → xact_of past (session_of past x) ≡ Some x → in_hand terms past (session_of past x) ≡ Some statements.Rollback → is_settled past ≡ true → Follows (owed terms past) (Abort x) → MayCome terms past (Abort x)
rolls_back timely open_xact is settled follows = record { rule = record { open_xact = open_xact; refused_or_idle = inr is }; settled = settled; follows = follows; timely = timely; alone = tt }

-- a Cancel
pub may_cancel : {terms : Terms} {past : Past} {s : ℕ} → IsSome (hand past s) → is_settled past ≡ true → Follows (owed terms past) (Cancel s) → MayCome terms past (Cancel s)
may_cancel in_step settled follows = record { rule = record { in_step = in_step }; settled = settled; follows = follows; timely = refl; alone = tt }

-- no statement of the step's script is left
pub no_more : {terms : Terms} {past : Past} {s : ℕ} → fault_of terms (hand past s) ≡ None → in_hand terms past s ≡ None → HasNoMore terms past s
no_more is_script none_left = record { is_script = is_script; none_left = none_left }

-- an End
pub may_end : {terms : Terms} {past : Past} {s : ℕ} → comes_in_time terms past (End s) ≡ true → IsSome (hand past s) → HasNoMore terms past s ⊎ (refused past s ≡ true) → implicit_of past s ≡ None → is_settled past ≡ true → Follows (owed terms past) (End s) → MayCome terms past (End s)
may_end timely in_step over none_implicit settled follows = record { rule = record { in_step = in_step; over = over; none_implicit = none_implicit }; settled = settled; follows = follows; timely = timely; alone = tt }

-- a Close
pub may_close : {terms : Terms} {past : Past} {s : ℕ} → s < terms.scripts.sessions → hand past s ≡ None → closed past s ≡ false → xact_of past s ≡ None → is_settled past ≡ true → Follows (owed terms past) (Close s) → MayCome terms past (Close s)
may_close known idle not_closed none_open settled follows = record { rule = record { known = known; idle = idle; not_closed = not_closed; none_open = none_open }; settled = settled; follows = follows; timely = refl; alone = tt }

-- what isn't so: each takes just the field that a wrong journal breaks
pub false_true : false ≡ true → ⊥
false_true e = cc

pub true_false : true ≡ false → ⊥
true_false e = cc

pub none_some : {A : Type 0} {a : A} → None ≡ Some a → ⊥
none_some e = cc

pub some_none : {A : Type 0} {a : A} → Some a ≡ None → ⊥
some_none e = cc

pub differ : (m n : ℕ) → m ≡ n → (m == n) ≡ false → ⊥
differ m n e not = cc (eq-eqb m n e)

-- a step of eight entries, newest first, each of which came in its turn, after what came before
pub in_turn_eight : {A B C D E F G H I : Type 0} → A → B → C → D → E → F → G → H → I → A × (B × (C × (D × (E × (F × (G × (H × I)))))))
in_turn_eight a b c d e f g h before = (a, (b, (c, (d, (e, (f, (g, (h, before))))))))

-- the same for a step of seven entries
pub in_turn_seven : {A B C D E F G H : Type 0} → A → B → C → D → E → F → G → H → A × (B × (C × (D × (E × (F × (G × H))))))
in_turn_seven a b c d e f g before = (a, (b, (c, (d, (e, (f, (g, before)))))))

-- the same for a step of six entries
pub in_turn_six : {A B C D E F H : Type 0} → A → B → C → D → E → F → H → A × (B × (C × (D × (E × (F × H)))))
in_turn_six a b c d e f before = (a, (b, (c, (d, (e, (f, before))))))
