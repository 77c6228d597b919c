-- Who waits goes on waiting while another session's entries come, and the least session that can go on stays so.
use Rattle.std.proofs.Common.{◌≡◌, ℕ, List, [], ◌∷◌, ◌++◌, refl, sym, cond, true, false, Bool, Option, Some, None, ◌∙◌}
use Rattle.std.specs.Prelude.{◌==◌, ◌||◌, not}
use Rattle.std.specs.List.{list_any}
use Rattle.std.proofs.lemmas.Bool.{eqb-true, ne_eqb}
use Rattle.al_modes.specs.declared.mode.Mode.{Mode}
use Rattle.al_history.specs.declared.entry.Entry.TheVariants.{Give, Start, Wait, Lock, Look, Make, Add, Read, Alter, Done, Refuse, Commit, Abort, Cancel, End, Close}
use Rattle.al_history.specs.declared.entry.Want.{Want}
use Rattle.al_history.specs.declared.entry.Want.TheVariants as wants
use Rattle.al_history.specs.Past.{Past}
use Rattle.al_history.specs.Fate.{fate}
use Rattle.al_history.specs.Hand.{hand, session_of}
use Rattle.al_history.specs.Locks.{Claim, claim, same_claim, waiting, entered, grantable, is_settled, is_held, is_waiting}
use Rattle.al_history.specs.Waits.{wanted_by, is_open, can_go_on}
use Rattle.al_history.specs.Whole.{IsLeast}
use Rattle.al_history.proofs.Pasts.{if_same}
use Rattle.al_history.proofs.Claims.{claim_itself, held_still, held_besides, held_beside, true_of_none}
use Rattle.std.proofs.Common.{arith}

abbrev its : ℕ → ℕ → Mode → Claim
its s table mode = record { session = s; table = table; mode = mode }

-- what an entry of another leaves: a want is kept, and is the session's own
pub kept_want : (b : Bool) (o : Option Want) (w : Want) → cond b None o ≡ Some w → (b ≡ false) × (o ≡ Some w)
kept_want true o w is = absurd cc
kept_want false o w is = (refl, is)

in_queue : (claims : List Claim) (c : Claim) → is_held (claims ++ c ∷ []) c ≡ true
in_queue [] c = rw (claim_itself c) refl
in_queue (d ∷ claims) c = rw (in_queue claims c) (or_true (same_claim c d)) where
  or_true : (b : Bool) → (b || true) ≡ true
  or_true true = refl
  or_true false = refl

apart_from : (q s : ℕ) → (q == s) ≡ false → (s == q) ≡ false
apart_from q s other = ne_eqb s q (λ (e : s ≡ q). let wrong : true ≡ false = sym (rw (e, if_same q) at (sym other)) in cc)

-- who waits for a lock has a request among those that wait
pub wants_waits : (past : Past) (s table : ℕ) (mode : Mode) → wanted_by past s ≡ Some (wants.Table table mode) → is_waiting past (its s table mode) ≡ true
wants_waits [] s table mode wanted = absurd cc
wants_waits (Wait x want ∷ past) s table mode wanted = by_session (session_of past x == s) refl wanted (λ w. wants_waits past s table mode w) where
  entered_still : (w : Want) → is_waiting past (its s table mode) ≡ true → is_held (entered (session_of past x) w (waiting past)) (its s table mode) ≡ true
  entered_still (wants.Table t m) there = held_still (waiting past) (its s table mode) _ there
  entered_still (wants.Ends y) there = there

  by_session : (b : Bool) → (session_of past x == s) ≡ b → cond b (Some want) (wanted_by past s) ≡ Some (wants.Table table mode) → (wanted_by past s ≡ Some (wants.Table table mode) → is_waiting past (its s table mode) ≡ true) → is_held (entered (session_of past x) want (waiting past)) (its s table mode) ≡ true
  by_session true own is before =
      let w : want ≡ wants.Table table mode = cc in
      let same : session_of past x ≡ s = eqb-true _ _ own in
      rw (w, same) (in_queue (waiting past) (its s table mode))
  by_session false other is before = entered_still want (before is)
wants_waits (Lock x t m ∷ past) s table mode wanted = let was = kept_want (session_of past x == s) _ _ wanted in held_beside (claim past x t m) (waiting past) (its s table mode) (rw (apart_from (session_of past x) s was.0) refl) (wants_waits past s table mode was.1)
wants_waits (Commit x ∷ past) s table mode wanted = let was = kept_want (session_of past x == s) _ _ wanted in held_besides (session_of past x) (waiting past) (its s table mode) (apart_from (session_of past x) s was.0) (wants_waits past s table mode was.1)
wants_waits (Abort x ∷ past) s table mode wanted = let was = kept_want (session_of past x == s) _ _ wanted in held_besides (session_of past x) (waiting past) (its s table mode) (apart_from (session_of past x) s was.0) (wants_waits past s table mode was.1)
wants_waits (Give r block ∷ past) s table mode wanted = wants_waits past s table mode (kept_want (r == s) _ _ wanted).1
wants_waits (Start r level ∷ past) s table mode wanted = wants_waits past s table mode (kept_want (r == s) _ _ wanted).1
wants_waits (Done r reply ∷ past) s table mode wanted = wants_waits past s table mode (kept_want (r == s) _ _ wanted).1
wants_waits (Refuse r cause ∷ past) s table mode wanted = wants_waits past s table mode (kept_want (r == s) _ _ wanted).1
wants_waits (Cancel r ∷ past) s table mode wanted = wants_waits past s table mode (kept_want (r == s) _ _ wanted).1
wants_waits (End r ∷ past) s table mode wanted = wants_waits past s table mode (kept_want (r == s) _ _ wanted).1
wants_waits (Close r ∷ past) s table mode wanted = wants_waits past s table mode (kept_want (r == s) _ _ wanted).1
wants_waits (Look x ∷ past) s table mode wanted = wants_waits past s table mode (kept_want (session_of past x == s) _ _ wanted).1
wants_waits (Make x t name shape ∷ past) s table mode wanted = wants_waits past s table mode (kept_want (session_of past x == s) _ _ wanted).1
wants_waits (Add x t row ∷ past) s table mode wanted = wants_waits past s table mode (kept_want (session_of past x == s) _ _ wanted).1
wants_waits (Read x names rows ∷ past) s table mode wanted = wants_waits past s table mode (kept_want (session_of past x == s) _ _ wanted).1
wants_waits (Alter x t statement rewritten ∷ past) s table mode wanted = wants_waits past s table mode (kept_want (session_of past x == s) _ _ wanted).1

-- where no waiting request can be granted, who waits for a lock is held up
not_any : (p : Claim → Bool) (claims : List Claim) (c : Claim) → is_held claims c ≡ true → not (list_any p claims) ≡ true → p c ≡ false
not_any p [] c there none = absurd cc
not_any p (d ∷ claims) c there none = by_tests (p d) (list_any p claims) refl refl none there where
  by_tests : (a b : Bool) → p d ≡ a → list_any p claims ≡ b → not (a || b) ≡ true → is_held (d ∷ claims) c ≡ true → p c ≡ false
  by_tests true b is rest none there = absurd cc
  by_tests false true is rest none there = absurd cc
  by_tests false false is rest none there = true_of_none p (d ∷ claims) c there (rw (is, rest) refl)

pub held_up_still : (past : Past) (s table : ℕ) (mode : Mode) → is_settled past ≡ true → wanted_by past s ≡ Some (wants.Table table mode) → grantable past (its s table mode) ≡ false
held_up_still past s table mode settled wanted = not_any (grantable past) (waiting past) (its s table mode) (wants_waits past s table mode wanted) settled

-- ---- who can go on

module _ (old new : Past) (settled : is_settled new ≡ true) (fates : (y : ℕ) → fate new y ≡ fate old y) where
  -- a session that doesn't move, and couldn't go on, can't go on still
  stays_stuck : (r : ℕ) → hand new r ≡ hand old r → wanted_by new r ≡ wanted_by old r → can_go_on old r ≡ false → can_go_on new r ≡ false
  stays_stuck r hands wants_same stuck = by_hand (hand old r) refl where
    by_want : (block : ℕ) → hand old r ≡ Some block → (o : Option Want) → wanted_by old r ≡ o → can_go_on new r ≡ false
    by_want block is None free = absurd (let wrong : true ≡ false = rw (is, free) at stuck in cc)
    by_want block is (Some (wants.Table table mode)) wanted =
        let now : wanted_by new r ≡ Some (wants.Table table mode) = wants_same ∙ wanted in
        rw (hands, is, now, held_up_still new r table mode settled now) refl
    by_want block is (Some (wants.Ends y)) wanted =
        let now : wanted_by new r ≡ Some (wants.Ends y) = wants_same ∙ wanted in
        let was : not (is_open (fate old y)) ≡ false = rw (is, wanted) at stuck in
        rw (hands, is, now, fates y) was

    by_hand : (o : Option ℕ) → hand old r ≡ o → can_go_on new r ≡ false
    by_hand None is = rw (hands, is) refl
    by_hand (Some block) is = by_want block is (wanted_by old r) refl

  pub least_stays : (s : ℕ) → ((r : ℕ) → (s == r) ≡ false → (hand new r ≡ hand old r) × (wanted_by new r ≡ wanted_by old r)) → can_go_on new s ≡ true → IsLeast old s → IsLeast new s
  least_stays s others goes least = (goes, λ r lt. let other : (s == r) ≡ false = ne_eqb s r (λ (e : s ≡ r). omega arith) in let so = others r other in stays_stuck r so.0 so.1 (least.1 r lt))
