use Rattle.std.proofs.Common.{length, ◌-◌, ℕ, List, ◌++◌, ◌≡◌, ◌≤◌, ◌<◌, ◌+◌}
use Rattle.std.specs.Prelude.{IsCharBoundary, string_bytes}
use Rattle.al_spec.specs.Bytes.{at, Quoted}
use Rattle.al_spec.proofs.lex.quoted_anew.Given as goal

abbrev pub invariant-loop-place : goal.invariant-loop-place
invariant-loop-place l = record {
  rises : l.start < l.place;
  within : l.place ≤ length l.text;
  boundary : IsCharBoundary l.text l.place;
  to : (end : ℕ) (n : List ℕ) → Quoted l.text end l.place n → Quoted l.text end (l.start + 1) (string_bytes l.name ++ n);
  back : (end : ℕ) (n : List ℕ) → Quoted l.text end (l.start + 1) n → (rest : List ℕ) × Quoted l.text end l.place rest;
  no_feed : (k : ℕ) → l.start < k → k < l.place → at l.text k ≡ 10 → ⊥;
}

abbrev pub decreases-loop-place : goal.decreases-loop-place
decreases-loop-place l = length l.text - l.place
