use Rattle.std.proofs.Common.{ℕ, List, subst}
use Rattle.al_spec.specs.Bytes.{Run}
use Rattle.al_spec.proofs.Pieces.{on_after_run}
use Rattle.al_spec.proofs.lex.plain_piece.Goals as goal

pub returns-clause-on : goal.returns-clause-on
returns-clause-on c = on_after_run _ _ _ c.requires.inside c.requires.begins (subst (λ (t : List ℕ). Run t c.args.place c.run_end-end.result) c.as_bytes.ensures.value c.run_end-end.ensures)
