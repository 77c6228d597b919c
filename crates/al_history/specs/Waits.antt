-- Who waits, and who can go on (13.3.1, 13.3.4).
use Rattle.std.specs.Prelude.{ℕ, [], ◌∷◌, Bool, true, false, not, cond, ◌==◌, ◌&&◌, Option, Some, None, is_some}
use Rattle.al_history.specs.declared.entry.Want.{Want}
use Rattle.al_history.specs.declared.entry.Want.TheVariants as wants
use Rattle.al_history.specs.declared.entry.Entry.TheVariants.{Wait}
use Rattle.al_history.specs.Past.{Past}
use Rattle.al_history.specs.Fate.{Fate, Open, fate}
use Rattle.al_history.specs.Hand.{hand, session_of}
use Rattle.al_history.specs.Made.{made_by}
use Rattle.al_history.specs.Locks.{grantable}

-- what the session's last entry waits for, where that is a Wait
abbrev pub wanted_by : Past → ℕ → Option Want
wanted_by [] s = None
wanted_by (Wait x want ∷ past) s = cond (session_of past x == s) (Some want) (wanted_by past s)
wanted_by (e ∷ past) s = cond (made_by past e == s) None (wanted_by past s)

abbrev pub is_open : Fate → Bool
is_open Open = true
is_open fate = false

-- somebody holds up what is wanted: a lock that can't be granted, or a transaction that is open still
abbrev pub holds_up : Past → ℕ → Option Want → Bool
holds_up past s None = false
holds_up past s (Some (wants.Table table mode)) = not (grantable past (record { session = s; table = table; mode = mode }))
holds_up past s (Some (wants.Ends y)) = is_open (fate past y)

abbrev pub is_blocked : Past → ℕ → Bool
is_blocked past s = holds_up past s (wanted_by past s)

-- a session can go on where it has a step in hand and isn't blocked
abbrev pub can_go_on : Past → ℕ → Bool
can_go_on past s = is_some (hand past s) && not (is_blocked past s)
