use Rattle.std.proofs.Common.{◌≡◌, length}
use Rattle.al_lexemes.specs.Words.{is_in, texts_of}
use Rattle.al_lexemes.proofs.words.is_in.Given as goal

abbrev pub invariant-loop-rest : goal.invariant-loop-rest
invariant-loop-rest l = is_in (texts_of l.rest) l.word ≡ is_in (texts_of l.words) l.word

abbrev pub decreases-loop-rest : goal.decreases-loop-rest
decreases-loop-rest l = length l.rest
