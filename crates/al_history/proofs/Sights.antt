-- What two readers see of the tables that are stored.
use Rattle.std.proofs.Common.{◌≡◌, ℕ, ◌+◌, ◌<◌, ◌≤◌, List, [], ◌∷◌, refl, sym, ap, cond, true, false, Bool, Some, arith, ◌∙◌, ◌⊎◌, inl, inr}
use Rattle.std.specs.Prelude.{◌==◌, ◌||◌, is_some}
use Rattle.std.proofs.lemmas.Bool.{eq-eqb, eqb-true, ne_eqb, or_cases}
use Rattle.al_modes.specs.declared.mode.Mode.{Mode}
use Rattle.al_history.specs.declared.statement.Terms.{Terms}
use Rattle.al_history.specs.Past.{Past}
use Rattle.al_history.specs.Database.{Table, same_name, named}
use Rattle.al_history.specs.Fate.{Fate, Open, Committed, Aborted, fate}
use Rattle.al_history.specs.Hand.{session_of, xact_of}
use Rattle.al_history.specs.Locks.{held, is_held}
use Rattle.al_history.specs.Store.{is_committed, Slot, KeptTable, shown_columns, shown_table, shown, sees, store}
use Rattle.al_history.specs.Fits.{CanSee, Agree, EachOf}
use Rattle.al_history.specs.Legal.{Legal}
use Rattle.al_history.proofs.Claims.{alone_held}
use Rattle.al_history.proofs.Makers.{Each, Ascend, AreMade, Began, makers_began}
use Rattle.al_history.proofs.Names.{one_name, NamesOnce, IsFound}
use Rattle.al_history.proofs.Owners.{sole_claim, IsOwned, AreOwned, slots_owned}
use Rattle.al_history.proofs.Xacts.{open_own}

-- ---- columns

pub columns_agree : (f g : ℕ → Bool) (slots : List Slot) → Agree f g slots → shown_columns f slots ≡ shown_columns g slots
columns_agree f g [] agree = refl
columns_agree f g (slot ∷ slots) agree = rw (agree.0, columns_agree f g slots agree.1) refl

-- ---- a reader who sees more

-- it finds the same table, and the same columns where the two agree on these
pub found_wider : (f g : ℕ → Bool) (tables : List KeptTable) (name : List ℕ) (u : Table) → ((z : ℕ) → f z ≡ true → g z ≡ true) → NamesOnce (shown g tables) → named (shown f tables) name ≡ Some u → IsFound (shown g tables) name u (EachOf u.number (λ t. f t.maker ≡ true → Agree g f t.slots) tables)
found_wider f g [] name u wider once is = absurd cc
found_wider f g (t ∷ tables) name u wider once is = by_seen (f t.maker) refl (g t.maker) refl once is (λ o h. found_wider f g tables name u wider o h) where
  by_name : (b : Bool) → same_name t.name name ≡ b → f t.maker ≡ true → cond b (Some (shown_table f t)) (named (shown f tables) name) ≡ Some u → (named (shown f tables) name ≡ Some u → IsFound (shown g tables) name u (EachOf u.number (λ v. f v.maker ≡ true → Agree g f v.slots) tables)) → IsFound (shown_table g t ∷ shown g tables) name u (EachOf u.number (λ v. f v.maker ≡ true → Agree g f v.slots) (t ∷ tables))
  by_name true same seen is more =
      let e : shown_table f t ≡ u = cc in
      let number : t.number ≡ u.number = ap (λ (w : Table). w.number) e in
      let columns : shown_columns f t.slots ≡ u.columns = ap (λ (w : Table). w.columns) e in
      record { t = shown_table g t; is = rw same refl; number = number; columns = λ asked. columns_agree g f t.slots (asked.0 number seen) ∙ columns }
  by_name false other seen is more =
      let rest : IsFound (shown g tables) name u (EachOf u.number (λ v. f v.maker ≡ true → Agree g f v.slots) tables) = more is in
      record { t = rest.t; is = rw other rest.is; number = rest.number; columns = λ asked. rest.columns asked.1 }

  by_new : (b : Bool) → same_name t.name name ≡ b → (is_some (named (shown g tables) t.name) ≡ false) → IsFound (shown g tables) name u (EachOf u.number (λ v. f v.maker ≡ true → Agree g f v.slots) tables) → IsFound (shown_table g t ∷ shown g tables) name u (EachOf u.number (λ v. f v.maker ≡ true → Agree g f v.slots) (t ∷ tables))
  by_new true same none rest =
      let here : named (shown g tables) t.name ≡ Some rest.t = rw (one_name t.name name same) rest.is in
      let no : is_some (Some rest.t) ≡ false = rw here at none in
      absurd cc
  by_new false other none rest = record { t = rest.t; is = rw other rest.is; number = rest.number; columns = λ asked. rest.columns asked.1 }

  by_seen : (b : Bool) → f t.maker ≡ b → (c : Bool) → g t.maker ≡ c → NamesOnce (cond c (shown_table g t ∷ shown g tables) (shown g tables)) → named (cond b (shown_table f t ∷ shown f tables) (shown f tables)) name ≡ Some u → (NamesOnce (shown g tables) → named (shown f tables) name ≡ Some u → IsFound (shown g tables) name u (EachOf u.number (λ v. f v.maker ≡ true → Agree g f v.slots) tables)) → IsFound (cond c (shown_table g t ∷ shown g tables) (shown g tables)) name u (EachOf u.number (λ v. f v.maker ≡ true → Agree g f v.slots) (t ∷ tables))
  by_seen true seen true seen' once is more = by_name (same_name t.name name) refl seen is (more once.1)
  by_seen true seen false unseen' once is more = let yes : g t.maker ≡ true = wider t.maker seen in absurd cc
  by_seen false unseen true seen' once is more = by_new (same_name t.name name) refl once.0 (more once.1 is)
  by_seen false unseen false unseen' once is more = let rest : IsFound (shown g tables) name u (EachOf u.number (λ v. f v.maker ≡ true → Agree g f v.slots) tables) = more once is in record { t = rest.t; is = rest.is; number = rest.number; columns = λ asked. rest.columns asked.1 }

-- ---- the table of a number

-- no table from a number on has a lower one
none_of : (P : KeptTable → Type 0) (low next number : ℕ) (tables : List KeptTable) → number < low → Ascend low next tables → EachOf number P tables
none_of P low next number [] lt up = tt
none_of P low next number (t ∷ tables) lt up = ((λ is. absurd (omega (arith, up.0))), none_of P (t.number + 1) next number tables (omega (arith, up.0)) up.2)

found_from : (f : ℕ → Bool) (low next : ℕ) (tables : List KeptTable) (name : List ℕ) (u : Table) → Ascend low next tables → named (shown f tables) name ≡ Some u → low ≤ u.number
found_from f low next [] name u up is = absurd cc
found_from f low next (t ∷ tables) name u up is = by_seen (f t.maker) is (λ h. found_from f (t.number + 1) next tables name u up.2 h) where
  by_name : (b : Bool) → cond b (Some (shown_table f t)) (named (shown f tables) name) ≡ Some u → (named (shown f tables) name ≡ Some u → t.number + 1 ≤ u.number) → low ≤ u.number
  by_name true is more = let e : shown_table f t ≡ u = cc in let number : t.number ≡ u.number = ap (λ (w : Table). w.number) e in omega (arith, up.0)
  by_name false is more = omega (arith, more is, up.0)

  by_seen : (b : Bool) → named (cond b (shown_table f t ∷ shown f tables) (shown f tables)) name ≡ Some u → (named (shown f tables) name ≡ Some u → t.number + 1 ≤ u.number) → low ≤ u.number
  by_seen true is more = by_name (same_name t.name name) is more
  by_seen false is more = omega (arith, more is, up.0)

-- a table that a reader finds is the only one of its number
pub found_each : (f : ℕ → Bool) (low next : ℕ) (tables : List KeptTable) (name : List ℕ) (u : Table) → Ascend low next tables → named (shown f tables) name ≡ Some u → EachOf u.number (λ t. (f t.maker ≡ true) × (shown_table f t ≡ u)) tables
found_each f low next [] name u up is = absurd cc
found_each f low next (t ∷ tables) name u up is = by_seen (f t.maker) refl is (λ h. found_each f (t.number + 1) next tables name u up.2 h) where
  later : named (shown f tables) name ≡ Some u → t.number ≡ u.number → ⊥
  later h same = omega (arith, found_from f (t.number + 1) next tables name u up.2 h)

  by_name : (b : Bool) → f t.maker ≡ true → cond b (Some (shown_table f t)) (named (shown f tables) name) ≡ Some u → (named (shown f tables) name ≡ Some u → EachOf u.number (λ v. (f v.maker ≡ true) × (shown_table f v ≡ u)) tables) → EachOf u.number (λ v. (f v.maker ≡ true) × (shown_table f v ≡ u)) (t ∷ tables)
  by_name true seen is more =
      let e : shown_table f t ≡ u = cc in
      let number : t.number ≡ u.number = ap (λ (w : Table). w.number) e in
      ((λ same. (seen, e)), none_of _ (t.number + 1) next u.number tables (omega arith) up.2)
  by_name false seen is more = ((λ same. absurd (later is same)), more is)

  by_seen : (b : Bool) → f t.maker ≡ b → named (cond b (shown_table f t ∷ shown f tables) (shown f tables)) name ≡ Some u → (named (shown f tables) name ≡ Some u → EachOf u.number (λ v. (f v.maker ≡ true) × (shown_table f v ≡ u)) tables) → EachOf u.number (λ v. (f v.maker ≡ true) × (shown_table f v ≡ u)) (t ∷ tables)
  by_seen true seen is more = by_name (same_name t.name name) seen is more
  by_seen false unseen is more = ((λ same. absurd (later is same)), more is)

-- ---- a table that a session has locked

-- what one sees who sees an open transaction, of what another has made
pub seen_alike : (past : Past) (f : ℕ → Bool) (x y : ℕ) → CanSee past f → fate past x ≡ Open → (fate past y ≡ Open → f y ≡ sees past (Some x) y) → f y ≡ sees past (Some x) y
seen_alike past f x y can undecided own = by_fate (fate past y) refl where
  by_fate : (k : Fate) → fate past y ≡ k → f y ≡ sees past (Some x) y
  by_fate Open is = own is
  by_fate Committed is = rw (can.committed y is, is) (sym (or_true (x == y))) where
    or_true : (b : Bool) → (b || true) ≡ true
    or_true true = refl
    or_true false = refl
  by_fate Aborted is =
      let other : (x == y) ≡ false = ne_eqb x y (λ (same : x ≡ y). let both : ◌≡◌ {A = Fate} Open Aborted = sym undecided ∙ rw same is in cc) in
      rw (can.aborted y is, other, is) refl

seen_own : (past : Past) (f : ℕ → Bool) (x y : ℕ) → f x ≡ true → x ≡ y → f y ≡ sees past (Some x) y
seen_own past f x y seen same = rw (← same, eq-eqb x x refl) seen

-- who sees a transaction sees the columns that it sees, in a table that it has locked
pub agree_locked : (terms : Terms) (past : Past) (s x n : ℕ) (mode : Mode) (f : ℕ → Bool) → Legal terms past → xact_of past s ≡ Some x → fate past x ≡ Open → is_held (held past) (record { session = s; table = n; mode = mode }) ≡ true → CanSee past f → f x ≡ true → EachOf n (λ t. sees past (Some x) t.maker ≡ true → Agree f (sees past (Some x)) t.slots) (store terms past)
agree_locked terms past s x n mode f legal own undecided lock can seen = tables (store terms past) (makers_began terms past legal) (slots_owned terms past legal) where
  of_table : (maker y : ℕ) → sees past (Some x) maker ≡ true → fate past y ≡ Open → y ≡ maker → x ≡ y
  of_table maker y sees_it undecided_y same = by_case (or_cases (x == y) (is_committed (fate past y)) (rw same sees_it)) where
    by_case : ((x == y) ≡ true) ⊎ (is_committed (fate past y) ≡ true) → x ≡ y
    by_case (inl same_so) = eqb-true x y same_so
    by_case (inr done) = let no : is_committed Open ≡ true = rw undecided_y at done in absurd cc

  of_lock : (y : ℕ) → Began past y → fate past y ≡ Open → is_held (held past) (sole_claim (session_of past y) n) ≡ true → x ≡ y
  of_lock y began undecided_y alone =
      let same : session_of past y ≡ s = alone_held terms past legal (sole_claim (session_of past y) n) (record { session = s; table = n; mode = mode }) alone lock refl refl in
      let its : xact_of past (session_of past y) ≡ Some y = open_own terms past y legal began undecided_y in
      let its_too : xact_of past (session_of past y) ≡ Some x = rw same own in
      cc

  own_so : (maker y : ℕ) → sees past (Some x) maker ≡ true → Began past y → fate past y ≡ Open → (y ≡ maker) ⊎ (is_held (held past) (sole_claim (session_of past y) n) ≡ true) → x ≡ y
  own_so maker y sees_it began undecided_y (inl same) = of_table maker y sees_it undecided_y same
  own_so maker y sees_it began undecided_y (inr alone) = of_lock y began undecided_y alone

  slots : (maker : ℕ) (slots : List Slot) → sees past (Some x) maker ≡ true → Each (λ (slot : Slot). Began past slot.maker) slots → Each (λ (slot : Slot). IsOwned past n maker slot.maker) slots → Agree f (sees past (Some x)) slots
  slots maker [] sees_it began owned = tt
  slots maker (slot ∷ rest) sees_it began owned = (seen_alike past f x slot.maker can undecided (λ undecided_y. seen_own past f x slot.maker seen (own_so maker slot.maker sees_it began.0 undecided_y (owned.0 undecided_y))), slots maker rest sees_it began.1 owned.1)

  tables : (tables : List KeptTable) → Each (AreMade (Began past)) tables → Each (AreOwned past) tables → EachOf n (λ t. sees past (Some x) t.maker ≡ true → Agree f (sees past (Some x)) t.slots) tables
  tables [] made owned = tt
  tables (t ∷ rest) made owned = ((λ is sees_it. slots t.maker t.slots sees_it made.0.1 (rw is at owned.0)), tables rest made.1 owned.1)
