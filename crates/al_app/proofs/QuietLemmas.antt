-- Entries that aren't the driver's leave what is due as it was.
use Rattle.std.proofs.Common.{◌≡◌, ℕ, ◌≤◌, List, [], ◌∷◌, ◌++◌, length, refl, ap, Option, Some, None, true, arith, ◌∙◌, length-append}
use Rattle.al_history.specs.declared.entry.Entry.{Entry}
use Rattle.al_history.specs.declared.entry.Entry.TheVariants.{Give, Refuse, Abort, Cancel, End, Close}
use Rattle.al_statements.specs.declared.cause.Cause.TheVariants as causes
use Rattle.al_history.specs.Past.{Past}
use Rattle.al_history.specs.Locks.{is_grant}
use Rattle.al_history.specs.Made.{Extends}
use Rattle.al_spec.specs.declared.spec.Spec.{Spec}
use Rattle.al_history.specs.Whole.{driver, left}
use Rattle.al_engine.specs.Ran.{Ran, aborted_by, AreGrants, IsAborted, IsCancelled}
use Rattle.al_app.specs.Runs.{IsQuietly}

-- an entry that isn't the driver's
abbrev pub IsQuiet : Entry → Type 0
IsQuiet (Give s block) = ⊥
IsQuiet (Cancel s) = ⊥
IsQuiet (Close s) = ⊥
IsQuiet e = Unit {0}

abbrev pub AreQuiet : List Entry → Type 0
AreQuiet [] = Unit {0}
AreQuiet (e ∷ entries) = IsQuiet e × AreQuiet entries

pub quietly_not : (past : Past) → IsQuietly past past
quietly_not past = record { as_due = λ spec steps all. all; closed_same = λ s. refl }

pub quietly_then : (old mid new : Past) → IsQuietly old mid → IsQuietly mid new → IsQuietly old new
quietly_then old mid new first then = record {
  as_due = λ spec steps all. then.as_due spec steps (first.as_due spec steps all);
  closed_same = λ s. then.closed_same s ∙ first.closed_same s;
}

quietly_one : (e : Entry) (past : Past) → IsQuiet e → IsQuietly past (e ∷ past)
quietly_one (Give s block) past quiet = absurd quiet
quietly_one (Cancel s) past quiet = absurd quiet
quietly_one (Close s) past quiet = absurd quiet
quietly_one e past quiet = record { as_due = λ spec steps all. all; closed_same = λ s. refl }

quietly_all : (entries : List Entry) (past : Past) → AreQuiet entries → IsQuietly past (entries ++ past)
quietly_all [] past quiet = quietly_not past
quietly_all (e ∷ entries) past quiet = quietly_then _ _ _ (quietly_all entries past quiet.1) (quietly_one e (entries ++ past) quiet.0)

-- ---- what the driver did tells which entries are its own

driver_grows : (e : Entry) (past : Past) → length (driver past) ≤ length (driver (e ∷ past))
driver_grows (Give s block) past = omega (arith, length-append (driver past) (Give s block ∷ []))
driver_grows (Cancel s) past = omega (arith, length-append (driver past) (Cancel s ∷ []))
driver_grows (Close s) past = omega (arith, length-append (driver past) (Close s ∷ []))
driver_grows e past = omega arith

driver_grows_all : (entries : List Entry) (past : Past) → length (driver past) ≤ length (driver (entries ++ past))
driver_grows_all [] past = omega arith
driver_grows_all (e ∷ entries) past = omega (arith, driver_grows_all entries past, driver_grows e (entries ++ past))

quiet_one : (e : Entry) (past : Past) → length (driver (e ∷ past)) ≤ length (driver past) → IsQuiet e
quiet_one (Give s block) past le = absurd (omega (arith, length-append (driver past) (Give s block ∷ [])))
quiet_one (Cancel s) past le = absurd (omega (arith, length-append (driver past) (Cancel s ∷ [])))
quiet_one (Close s) past le = absurd (omega (arith, length-append (driver past) (Close s ∷ [])))
quiet_one e past le = tt

quiet_all : (entries : List Entry) (past : Past) → length (driver (entries ++ past)) ≤ length (driver past) → AreQuiet entries
quiet_all [] past le = tt
quiet_all (e ∷ entries) past le =
    let below = driver_grows e (entries ++ past) in
    let above = driver_grows_all entries past in
    (quiet_one e (entries ++ past) (omega arith), quiet_all entries past (omega arith))

-- entries of sessions and grants, among which the driver has none
pub quietly_extended : (s : ℕ) (old new : Past) → Extends s old new → driver new ≡ driver old → IsQuietly old new
quietly_extended s old new more same =
    let lengths : length (driver (more.entries ++ old)) ≡ length (driver old) = ap length (rw more.more at same) in
    rw more.more (quietly_all more.entries old (quiet_all more.entries old (omega arith)))

-- ---- aborts and grants

quiet_grant : (e : Entry) (past : Past) → is_grant past e ≡ true → IsQuiet e
quiet_grant (Give s block) past grant = cc
quiet_grant (Cancel s) past grant = cc
quiet_grant (Close s) past grant = cc
quiet_grant e past grant = tt

quiet_grants : (entries : List Entry) (past : Past) → AreGrants entries past → AreQuiet entries
quiet_grants [] past grants = tt
quiet_grants (e ∷ entries) past grants = (quiet_grant e (entries ++ past) grants.0, quiet_grants entries past grants.1)

quietly_aborted_by : (x : Option ℕ) (past : Past) → IsQuietly past (aborted_by x past)
quietly_aborted_by None past = quietly_not past
quietly_aborted_by (Some x) past = quietly_one (Abort x) past tt

pub quietly_aborted : (x : Option ℕ) (old new : Past) → IsAborted x old new → IsQuietly old new
quietly_aborted x old new did = rw did.is (quietly_then _ _ _ (quietly_aborted_by x old) (quietly_all did.grants _ (quiet_grants did.grants _ did.are_grants)))

-- ---- a cancel

-- all after the Cancel is quiet
pub quietly_after_cancel : (old new : Ran) (s : ℕ) → IsCancelled old new s → IsQuietly (Cancel s ∷ old.past) new.past
quietly_after_cancel old new s did =
    let refused = quietly_one (Refuse s (causes.Cancelled (length old.past))) (Cancel s ∷ old.past) tt in
    let aborted = quietly_aborted _ _ _ did.is_aborted in
    let over = quietly_one (End s) did.aborted tt in
    rw did.is (quietly_then _ _ _ refused (quietly_then _ _ _ aborted over))

-- ---- what is left after an abort

-- an entry that is neither the driver's nor a refusal
abbrev IsSilent : Entry → Type 0
IsSilent (Give s block) = ⊥
IsSilent (Cancel s) = ⊥
IsSilent (Close s) = ⊥
IsSilent (Refuse s cause) = ⊥
IsSilent e = Unit {0}

left_silent : (spec : Spec) (steps : List ℕ) (e : Entry) (past : Past) → IsSilent e → left spec steps (e ∷ past) ≡ left spec steps past
left_silent spec steps (Give s block) past silent = absurd silent
left_silent spec steps (Cancel s) past silent = absurd silent
left_silent spec steps (Close s) past silent = absurd silent
left_silent spec steps (Refuse s cause) past silent = absurd silent
left_silent spec steps e past silent = refl

silent_grant : (e : Entry) (past : Past) → is_grant past e ≡ true → IsSilent e
silent_grant (Give s block) past grant = cc
silent_grant (Cancel s) past grant = cc
silent_grant (Close s) past grant = cc
silent_grant (Refuse s cause) past grant = cc
silent_grant e past grant = tt

left_grants : (spec : Spec) (steps : List ℕ) (entries : List Entry) (past : Past) → AreGrants entries past → left spec steps (entries ++ past) ≡ left spec steps past
left_grants spec steps [] past grants = refl
left_grants spec steps (e ∷ entries) past grants = left_silent spec steps e (entries ++ past) (silent_grant e (entries ++ past) grants.0) ∙ left_grants spec steps entries past grants.1

left_aborted_by : (spec : Spec) (steps : List ℕ) (x : Option ℕ) (past : Past) → left spec steps (aborted_by x past) ≡ left spec steps past
left_aborted_by spec steps None past = refl
left_aborted_by spec steps (Some x) past = refl

pub left_aborted : (spec : Spec) (steps : List ℕ) (x : Option ℕ) (old new : Past) → IsAborted x old new → left spec steps new ≡ left spec steps old
left_aborted spec steps x old new did = ap (left spec steps) did.is ∙ left_grants spec steps did.grants (aborted_by x old) did.are_grants ∙ left_aborted_by spec steps x old
