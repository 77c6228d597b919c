use Rattle.std.proofs.Common.{◌≡◌, ◌≤◌, true, length}
use Rattle.al_lexemes.specs.Words.{ascending, kind_in, rows_of}
use Rattle.al_lexemes.proofs.words.kind_in.Given as goal

abbrev pub invariant-loop-word : goal.invariant-loop-word
invariant-loop-word l = record {
  rise : ascending (rows_of l.rows) ≡ true;
  same : kind_in (rows_of l.rows) l.other l.word ≡ kind_in (rows_of l.table) l.other l.word;
  fewer : length l.rows ≤ length l.table;
}

abbrev pub decreases-loop-word : goal.decreases-loop-word
decreases-loop-word l = length l.rows
