-- What stands together at the end of a statement.
use Rattle.std.specs.Prelude.{◌≡◌, ℕ, ◌∷◌, length, Bool, true, false, Option, Some, None}
use Rattle.al_history.specs.declared.entry.Entry.{Entry}
use Rattle.al_history.specs.declared.entry.Entry.TheVariants.{Lock, Done, Refuse, Commit, Abort, Cancel, End, Close}
use Rattle.al_statements.specs.declared.cause.Cause.TheVariants as causes
use Rattle.al_statements.specs.declared.reply.Reply.TheVariants as replies
use Rattle.al_statements.specs.declared.reply.Tag.TheVariants as tags
use Rattle.al_history.specs.declared.statement.Statement.{Statement}
use Rattle.al_history.specs.declared.statement.Terms.{Terms}
use Rattle.al_history.specs.Past.{Past}
use Rattle.al_history.specs.Hand.{hand, refused, in_hand, xact_of, implicit_of, session_of}

abbrev pub abort_or_end : Option ℕ → ℕ → Entry
abort_or_end None s = End s
abort_or_end (Some x) s = Abort x

abbrev pub commit_or_end : Option ℕ → ℕ → Entry
commit_or_end None s = End s
commit_or_end (Some x) s = Commit x

-- after a Commit: the Done of a COMMIT, or the End of a step whose transaction was implicit
abbrev pub done_or_end : Option Statement → ℕ → Entry
done_or_end None s = End s
done_or_end (Some statement) s = Done s (replies.Tag tags.Commit 0)

-- after an Abort: the Close of an idle session, the End of a step that was refused, or the Done of a ROLLBACK
abbrev pub after_abort : Option ℕ → Bool → ℕ → Entry
after_abort None refused s = Close s
after_abort (Some block) true s = End s
after_abort (Some block) false s = Done s (replies.Tag tags.Rollback 0)

abbrev pub if_last : Option Statement → Entry → Option Entry
if_last None next = Some next
if_last (Some statement) next = None

-- the entry that has to come next, where one has to: after a Cancel the Refuse of the statement in hand; after a Refuse
-- the Abort of an open transaction; after the last Done the Commit of an implicit one; after these the Done of a COMMIT
-- or ROLLBACK, the End of the step, or the Close of an idle session. Locks that become free are granted in between.
abbrev pub owed : Terms → Past → Option Entry
owed terms (Cancel s ∷ past) = Some (Refuse s (causes.Cancelled (length past)))
owed terms (Refuse s cause ∷ past) = Some (abort_or_end (xact_of past s) s)
owed terms (Done s reply ∷ past) = if_last (in_hand terms (Done s reply ∷ past) s) (commit_or_end (implicit_of (Done s reply ∷ past) s) s)
owed terms (Commit x ∷ past) = Some (done_or_end (in_hand terms past (session_of past x)) (session_of past x))
owed terms (Abort x ∷ past) = Some (after_abort (hand past (session_of past x)) (refused past (session_of past x)) (session_of past x))
owed terms (Lock x table mode ∷ past) = owed terms past
owed terms past = None

-- the entry is the one that is owed, where one is
abbrev pub Follows : Option Entry → Entry → Type 0
Follows None e = Unit {0}
Follows (Some next) e = e ≡ next
