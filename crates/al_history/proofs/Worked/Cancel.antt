-- A step that is cancelled.
use Rattle.std.specs.Prelude.{[], ◌∷◌, refl}
use Rattle.std.proofs.Common.{arith, inl, inr}
use Rattle.al_modes.specs.declared.level.Level.TheVariants as levels
use Rattle.al_statements.specs.declared.cause.Cause.TheVariants as causes
use Rattle.al_history.specs.declared.entry.Entry.TheVariants.{Give, Start, Refuse, Abort, Cancel, End}
use Rattle.al_history.specs.Legal.{IsLegal}
use Rattle.al_history.proofs.Worked.Journals.{name_t, insert}
use Rattle.al_history.proofs.Worked.Causes.{one_block}
use Rattle.al_history.proofs.Worked.Rules.{◌▸◌, may_give, may_start, may_refuse, may_abort, may_cancel, may_end, false_true}

-- before its statement begins
pub cancelled_is_legal : IsLegal (one_block insert) (Give 0 0 ∷ Cancel 0 ∷ Refuse 0 (causes.Cancelled 1) ∷ End 0 ∷ [])
cancelled_is_legal =
    tt
    ▸ may_give (omega arith) refl refl refl refl tt
    ▸ may_cancel refl refl tt
    ▸ may_refuse refl refl refl refl
    ▸ may_end refl refl (inr refl) refl refl refl

-- in its transaction, which is aborted; that its table isn't there is no matter
pub cancelled_in_transaction_is_legal : IsLegal (one_block insert) (Give 0 0 ∷ Start 0 levels.ReadCommitted ∷ Cancel 0 ∷ Refuse 0 (causes.Cancelled 2) ∷ Abort 1 ∷ End 0 ∷ [])
cancelled_in_transaction_is_legal =
    tt
    ▸ may_give (omega arith) refl refl refl refl tt
    ▸ may_start refl refl refl refl tt
    ▸ may_cancel refl refl tt
    ▸ may_refuse refl refl refl refl
    ▸ may_abort refl refl (inl refl) refl refl
    ▸ may_end refl refl (inr refl) refl refl refl

-- a session with no step in hand is cancelled
cancelled_idle : IsLegal (one_block insert) (Cancel 0 ∷ []) → ⊥
cancelled_idle l = false_true l.0.rule.in_step

-- a cancelled step goes on
goes_on_after_cancel : IsLegal (one_block insert) (Give 0 0 ∷ Cancel 0 ∷ Start 0 levels.ReadCommitted ∷ []) → ⊥
goes_on_after_cancel l = cc l.0.follows

-- a cancelled step is refused for another cause, though it is true
other_cause_after_cancel : IsLegal (one_block insert) (Give 0 0 ∷ Start 0 levels.ReadCommitted ∷ Cancel 0 ∷ Refuse 0 (causes.NoTable name_t) ∷ []) → ⊥
other_cause_after_cancel l = cc l.0.follows

-- its transaction stays open
open_after_cancel : IsLegal (one_block insert) (Give 0 0 ∷ Start 0 levels.ReadCommitted ∷ Cancel 0 ∷ Refuse 0 (causes.Cancelled 2) ∷ End 0 ∷ []) → ⊥
open_after_cancel l = cc l.0.follows

-- a refusal tells of a cancel that there wasn't
cancelled_by_none : IsLegal (one_block insert) (Give 0 0 ∷ Start 0 levels.ReadCommitted ∷ Refuse 0 (causes.Cancelled 1) ∷ []) → ⊥
cancelled_by_none l = cc l.0.rule.first_true
