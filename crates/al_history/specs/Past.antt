-- A journal read from its end.
use Rattle.std.specs.Prelude.{List, reverse}
use Rattle.al_history.specs.declared.entry.Entry.{Entry}
use Rattle.al_history.specs.Kept.{Kept}

-- the entries so far, newest first: a prefix of the journal is a tail of the past, and a place is the length of what
-- stands before it
abbrev pub Past : Type 0
Past = List Entry

-- the past of a journal
abbrev pub past_of : Kept → Past
past_of journal = reverse journal.entries
