use Rattle.std.proofs.Common.{◌≡◌, ◌<◌, ◌^◌, drop, length}
use Rattle.al_spec.specs.Notes.{note_all, nothing_noted}
use Rattle.al_spec.specs.Indexed.{Indexed}
use Rattle.al_spec.proofs.notes.note_all.Given as goal

abbrev pub invariant-loop-token : goal.invariant-loop-token
invariant-loop-token l = record {
  gives : note_all nothing_noted l.tokens ≡ note_all l.noted (drop l.token-index l.tokens);
  few : length l.noted.blocks < 2 ^ 32;
  indexed : Indexed l.index l.noted.blocks;
}
