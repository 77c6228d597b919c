-- Notes on a list in two parts.
use Rattle.std.proofs.Common.{◌≡◌, List, [], ◌∷◌, ◌++◌, Result, Ok, Err, refl}
use Rattle.al_spec.specs.declared.kinds.Token.{Token}
use Rattle.al_spec.specs.declared.spec.SpecFault.{SpecFault}
use Rattle.al_spec.specs.declared.notes.Noted.{Noted}
use Rattle.al_spec.specs.Notes.{note, note_all, and_note}

and_again : (r : Result Noted SpecFault) (a b : List Token) → ((m : Noted) → note_all m (a ++ b) ≡ and_note (note_all m a) (λ k. note_all k b))
    → and_note r (λ m. note_all m (a ++ b)) ≡ and_note (and_note r (λ m. note_all m a)) (λ k. note_all k b)
and_again (Ok m) a b ih = ih m
and_again (Err f) a b ih = refl

pub notes_append : (n : Noted) (a b : List Token) → note_all n (a ++ b) ≡ and_note (note_all n a) (λ m. note_all m b)
notes_append n [] b = refl
notes_append n (t ∷ a) b = and_again (note n t) a b (λ m. notes_append m a b)
