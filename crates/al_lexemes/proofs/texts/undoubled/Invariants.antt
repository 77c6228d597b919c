use Rattle.std.proofs.Common.{◌≡◌, length, ◌++◌}
use Rattle.std.specs.Prelude.{string_bytes}
use denote.Shadow.{shadow}
use denote.Text.{Utf8}
use Rattle.al_lexemes.specs.Classes.{undoubled}
use Rattle.al_lexemes.proofs.texts.undoubled.Given as goal

abbrev pub invariant-loop-found : goal.invariant-loop-found
invariant-loop-found l = record {
  same : string_bytes l.made ++ undoubled l.quote l.rest ≡ undoubled l.quote l.text;
  text : shadow (Utf8 l.rest);
}

abbrev pub decreases-loop-found : goal.decreases-loop-found
decreases-loop-found l = length l.rest
