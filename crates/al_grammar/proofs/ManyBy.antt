-- A rule any number of times, by what was read so far.
use Rattle.std.proofs.Common.{◌≡◌, ℕ, zero, suc, ◌≤◌, ◌<◌, Bool, true, false, List, [], ◌∷◌, ◌++◌, length, length-append, refl, sym, ap, ◌∙◌, subst, append_assoc, arith}
use Rattle.std.specs.Prelude.{if◌then◌else◌}
use Rattle.al_grammar.specs.Kinds.{apart, starts}
use Rattle.al_grammar.specs.Rules.{Shape, Step, read, fault, Rule, and_then}
use Rattle.al_grammar.specs.State.{IsManyBy, no_more, once_more, many_by_reads, many_by}
use Rattle.al_grammar.specs.Gives.{fold_by}
use Rattle.al_grammar.specs.Laws.{Took, Stuck, Lawful}
use Rattle.al_grammar.proofs.FirstTokens.{clash, starts_neither, starts_more, starts_alike, not_in_first}
use Rattle.al_grammar.proofs.Pair.{took_on}

module _ (T A S : Type 0) (s : Shape) (kind : T → ℕ) (next : S → A → S) (q : S → Rule T s A) (ql : (z : S) → Lawful kind (q z)) (one : s.empty ≡ false) where
  begins_one : (z : S) (text : List T) (v : A) → (q z).Is text v → starts kind false s.first text ≡ true
  begins_one z text v is = subst (λ (b : Bool). starts kind b s.first text ≡ true) one ((ql z).begins text v is)

  -- something is always read
  shorter_by : (used rest ts : List T) → ts ≡ used ++ rest → starts kind false s.first used ≡ true → length rest < length ts
  shorter_by [] rest ts e b = absurd (clash b refl)
  shorter_by (t ∷ used) rest ts e b = let l : length ts ≡ suc (length (used ++ rest)) = ap length e in omega (arith, length-append used rest)

  pub shorter : (z : S) (ts rest : List T) (v : A) → (q z).reads ts ≡ read v rest → length rest < length ts
  shorter z ts rest v e = let t = (ql z).takes ts rest v e in shorter_by t.used rest ts t.split (begins_one z t.used v t.is)

  abbrev times : (z : S) → ℕ → List T → Step T (List A)
  times z n ts = many_by_reads kind s.first (λ y. (q y).reads) next z n ts

  abbrev with_more : A → Step T (List A) → Step T (List A)
  with_more v step = and_then step (λ vs last. read (v ∷ vs) last)

  abbrev round : (z : S) → ℕ → Step T A → Step T (List A)
  round z n step = and_then step (λ v rest. with_more v (times (next z v) n rest))

  enough_step : (z : S) (n m : ℕ) (ts : List T) → ((y : S) (rest : List T) → length rest ≤ n → length rest ≤ m → times y n rest ≡ times y m rest)
      → length ts ≤ suc n → length ts ≤ suc m → (step : Step T A) → (q z).reads ts ≡ step → round z n step ≡ round z m step
  enough_step z n m ts ih a b (read v rest) e =
      let less = shorter z ts rest v e in
      ap (λ (x : Step T (List A)). with_more v x) (ih (next z v) rest (omega (arith, less)) (omega (arith, less)))
  enough_step z n m ts ih a b (fault k) e = refl

  enough_test : (z : S) (n m : ℕ) (ts : List T) → ((y : S) (rest : List T) → length rest ≤ n → length rest ≤ m → times y n rest ≡ times y m rest)
      → length ts ≤ suc n → length ts ≤ suc m → (c : Bool) → (if c then round z n ((q z).reads ts) else read [] ts) ≡ (if c then round z m ((q z).reads ts) else read [] ts)
  enough_test z n m ts ih a b true = enough_step z n m ts ih a b ((q z).reads ts) refl
  enough_test z n m ts ih a b false = refl

  -- as many rounds as there are tokens are enough
  enough : (z : S) (n m : ℕ) (ts : List T) → length ts ≤ n → length ts ≤ m → times z n ts ≡ times z m ts
  enough z zero zero ts a b = refl
  enough z zero (suc m) [] a b = refl
  enough z zero (suc m) (t ∷ ts) a b = absurd (omega (arith, a))
  enough z (suc n) zero [] a b = refl
  enough z (suc n) zero (t ∷ ts) a b = absurd (omega (arith, b))
  enough z (suc n) (suc m) ts a b = enough_test z n m ts (λ y rest x w. enough y n m rest x w) a b (starts kind false s.first ts)

  abbrev all : (z : S) → List T → Step T (List A)
  all z ts = times z (length ts) ts

  abbrev go_on : (z : S) → Step T A → Step T (List A)
  go_on z step = and_then step (λ v rest. with_more v (all (next z v) rest))

  abbrev whole : (z : S) → Bool → List T → Step T (List A)
  whole z b ts = if b then go_on z ((q z).reads ts) else read [] ts

  unfold_step : (z : S) (t : T) (ts : List T) (step : Step T A) → (q z).reads (t ∷ ts) ≡ step → round z (length ts) step ≡ go_on z step
  unfold_step z t ts (read v rest) e =
      let less = shorter z (t ∷ ts) rest v e in
      ap (λ (x : Step T (List A)). with_more v x) (enough (next z v) (length ts) (length rest) rest (omega (arith, less)) (omega arith))
  unfold_step z t ts (fault k) e = refl

  unfold_test : (z : S) (t : T) (ts : List T) (b : Bool) → (if b then round z (length ts) ((q z).reads (t ∷ ts)) else read [] (t ∷ ts)) ≡ whole z b (t ∷ ts)
  unfold_test z t ts true = unfold_step z t ts ((q z).reads (t ∷ ts)) refl
  unfold_test z t ts false = refl

  -- One round, and then all the others.
  pub many_unfolds : (z : S) (ts : List T) → all z ts ≡ whole z (starts kind false s.first ts) ts
  many_unfolds z [] = refl
  many_unfolds z (t ∷ ts) = unfold_test z t ts (starts kind false s.first (t ∷ ts))

  unfolds_at : (z : S) (ts : List T) (b : Bool) → starts kind false s.first ts ≡ b → all z ts ≡ whole z b ts
  unfolds_at z ts b e = many_unfolds z ts ∙ ap (λ (c : Bool). whole z c ts) e

  abbrev IsAll : (z : S) → List T → List A → Type 0
  IsAll z = IsManyBy (λ y. (q y).Is) next z

  starts_still : (z : S) (ts used rest : List T) (b : Bool) (x : T) (r more : List T) → ts ≡ used ++ rest → rest ≡ x ∷ r → starts kind false s.first ts ≡ b → all z (used ++ x ∷ more) ≡ whole z b (used ++ x ∷ more)
  starts_still z ts used rest b x r more split e h =
      let same : ts ≡ used ++ x ∷ r = split ∙ ap (λ (l : List T). used ++ l) e in
      unfolds_at z (used ++ x ∷ more) b (sym (starts_alike T kind s.first used x r more) ∙ ap (starts kind false s.first) (sym same) ∙ h)

  took_none : (z : S) (ts : List T) → starts kind false s.first ts ≡ false → Took (IsAll z) (all z) ts [] ts
  took_none z ts h = record { used = []; split = refl; is = no_more z; alike = λ x r more l. starts_still z ts [] ts false x r more refl l h }

  -- the first round's reading with the others behind it
  first_on : (z : S) (ts mid rest : List T) (v : A) (t : Took (q z).Is (q z).reads ts v mid) (used : List T) → mid ≡ used ++ rest → starts kind false s.first ts ≡ true
      → (x : T) (r more : List T) → rest ≡ x ∷ r → all z ((t.used ++ used) ++ x ∷ more) ≡ with_more v (all (next z v) (used ++ x ∷ more))
  first_on z ts mid rest v t used split h x r more l =
      let first : (q z).reads (t.used ++ (used ++ x ∷ more)) ≡ read v (used ++ x ∷ more) =
      took_on T A (q z).Is (q z).reads ts mid v t used x r more (split ∙ ap (λ (m : List T). used ++ m) l) in
      let again : (q z).reads ((t.used ++ used) ++ x ∷ more) ≡ read v (used ++ x ∷ more) = ap (q z).reads (append_assoc t.used used (x ∷ more)) ∙ first in
      let whole_split : ts ≡ (t.used ++ used) ++ rest = t.split ∙ ap (λ (m : List T). t.used ++ m) split ∙ sym (append_assoc t.used used rest) in
      starts_still z ts (t.used ++ used) rest true x r more whole_split l h ∙ ap (go_on z) again

  took_more : (z : S) (ts mid rest : List T) (v : A) (vs : List A) → starts kind false s.first ts ≡ true → Took (q z).Is (q z).reads ts v mid → Took (IsAll (next z v)) (all (next z v)) mid vs rest → Took (IsAll z) (all z) ts (v ∷ vs) rest
  took_more z ts mid rest v vs h t w = record {
    used = t.used ++ w.used;
    split = t.split ∙ ap (λ (m : List T). t.used ++ m) w.split ∙ sym (append_assoc t.used w.used rest);
    is = once_more z _ t.used w.used v vs refl t.is w.is;
    alike = λ x r more l. first_on z ts mid rest v t w.used w.split h x r more l ∙ ap (λ (step : Step T (List A)). with_more v step) (w.alike x r more l);
  }

  takes_later : (z : S) (ts mid rest : List T) (v : A) (vs : List A) → ((ws : List A) → all (next z v) mid ≡ read ws rest → Took (IsAll (next z v)) (all (next z v)) mid ws rest) → starts kind false s.first ts ≡ true → Took (q z).Is (q z).reads ts v mid
      → (step : Step T (List A)) → all (next z v) mid ≡ step → with_more v step ≡ read vs rest → Took (IsAll z) (all z) ts vs rest
  takes_later z ts mid rest v vs ih h t (read ws last) a e =
      let value : v ∷ ws ≡ vs = cc in
      let left : last ≡ rest = cc in
      subst (λ (x : List A). Took (IsAll z) (all z) ts x rest) value (took_more z ts mid rest v ws h t (ih ws (a ∙ ap (λ (l : List T). read ws l) left)))
  takes_later z ts mid rest v vs ih h t (fault n) a e = absurd cc

  takes_round : (z : S) (n : ℕ) (ts rest : List T) (vs : List A) → ((y : S) (mid : List T) (ws : List A) → length mid ≤ n → all y mid ≡ read ws rest → Took (IsAll y) (all y) mid ws rest) → length ts ≤ suc n → starts kind false s.first ts ≡ true
      → (step : Step T A) → (q z).reads ts ≡ step → go_on z step ≡ read vs rest → Took (IsAll z) (all z) ts vs rest
  takes_round z n ts rest vs ih le h (read v mid) a e =
      let less = shorter z ts mid v a in
      takes_later z ts mid rest v vs (λ ws b. ih (next z v) mid ws (omega (arith, less)) b) h ((ql z).takes ts mid v a) (all (next z v) mid) refl e
  takes_round z n ts rest vs ih le h (fault k) a e = absurd cc

  takes_nothing : (z : S) (ts rest : List T) (vs : List A) → starts kind false s.first ts ≡ false → whole z false ts ≡ read vs rest → Took (IsAll z) (all z) ts vs rest
  takes_nothing z ts rest vs h e =
      let value : [] ≡ vs = cc in
      let left : ts ≡ rest = cc in
      subst (λ (x : List A). Took (IsAll z) (all z) ts x rest) value (subst (λ (l : List T). Took (IsAll z) (all z) ts [] l) left (took_none z ts h))

  takes_test : (z : S) (n : ℕ) (ts rest : List T) (vs : List A) → ((y : S) (mid : List T) (ws : List A) → length mid ≤ n → all y mid ≡ read ws rest → Took (IsAll y) (all y) mid ws rest) → length ts ≤ suc n
      → (b : Bool) → starts kind false s.first ts ≡ b → whole z b ts ≡ read vs rest → Took (IsAll z) (all z) ts vs rest
  takes_test z n ts rest vs ih le true h e = takes_round z n ts rest vs ih le h ((q z).reads ts) refl e
  takes_test z n ts rest vs ih le false h e = takes_nothing z ts rest vs h e

  takes_all : (z : S) (n : ℕ) (ts rest : List T) (vs : List A) → length ts ≤ n → all z ts ≡ read vs rest → Took (IsAll z) (all z) ts vs rest
  takes_all z zero [] rest vs le e = takes_nothing z [] rest vs refl e
  takes_all z zero (t ∷ ts) rest vs le e = absurd (omega (arith, le))
  takes_all z (suc n) ts rest vs le e = takes_test z n ts rest vs (λ y mid ws l a. takes_all y n mid rest ws l a) le (starts kind false s.first ts) refl (sym (many_unfolds z ts) ∙ e)

  -- ---- where it stops

  stuck_first : (z : S) (ts : List T) (n : ℕ) → starts kind false s.first ts ≡ true → Stuck (q z).Is (q z).reads ts n → Stuck (IsAll z) (all z) ts n
  stuck_first z ts n h t = record {
    used = t.used;
    rest = t.rest;
    split = t.split;
    place = t.place;
    more = t.more ++ [];
    value = t.value ∷ [];
    is = once_more z _ (t.used ++ t.more) [] t.value [] (sym (append_assoc t.used t.more [])) t.is (no_more (next z t.value));
    alike = λ x r more l. starts_still z ts t.used t.rest true x r more t.split l h ∙ ap (go_on z) (t.alike x r more l);
  }

  stuck_more : (z : S) (ts mid : List T) (v : A) (n : ℕ) → starts kind false s.first ts ≡ true → Took (q z).Is (q z).reads ts v mid → Stuck (IsAll (next z v)) (all (next z v)) mid n → Stuck (IsAll z) (all z) ts n
  stuck_more z ts mid v n h t w = record {
    used = t.used ++ w.used;
    rest = w.rest;
    split = t.split ∙ ap (λ (m : List T). t.used ++ m) w.split ∙ sym (append_assoc t.used w.used w.rest);
    place = w.place;
    more = w.more;
    value = v ∷ w.value;
    is = once_more z _ t.used (w.used ++ w.more) v w.value (append_assoc t.used w.used w.more) t.is w.is;
    alike = λ x r more l. first_on z ts mid w.rest v t w.used w.split h x r more l ∙ ap (λ (step : Step T (List A)). with_more v step) (w.alike x r more l);
  }

  stops_later : (z : S) (ts mid : List T) (v : A) (n : ℕ) → (all (next z v) mid ≡ fault n → Stuck (IsAll (next z v)) (all (next z v)) mid n) → starts kind false s.first ts ≡ true → Took (q z).Is (q z).reads ts v mid
      → (step : Step T (List A)) → all (next z v) mid ≡ step → with_more v step ≡ fault n → Stuck (IsAll z) (all z) ts n
  stops_later z ts mid v n ih h t (read ws last) a e = absurd cc
  stops_later z ts mid v n ih h t (fault m) a e = let same : m ≡ n = cc in stuck_more z ts mid v n h t (ih (a ∙ ap (λ (k : ℕ). fault k) same))

  stops_round : (z : S) (n m : ℕ) (ts : List T) → ((y : S) (mid : List T) → length mid ≤ n → all y mid ≡ fault m → Stuck (IsAll y) (all y) mid m) → length ts ≤ suc n → starts kind false s.first ts ≡ true
      → (step : Step T A) → (q z).reads ts ≡ step → go_on z step ≡ fault m → Stuck (IsAll z) (all z) ts m
  stops_round z n m ts ih le h (read v mid) a e =
      let less = shorter z ts mid v a in
      stops_later z ts mid v m (λ b. ih (next z v) mid (omega (arith, less)) b) h ((ql z).takes ts mid v a) (all (next z v) mid) refl e
  stops_round z n m ts ih le h (fault k) a e = let same : k ≡ m = cc in stuck_first z ts m h ((ql z).stops ts m (a ∙ ap (λ (j : ℕ). fault j) same))

  stops_test : (z : S) (n m : ℕ) (ts : List T) → ((y : S) (mid : List T) → length mid ≤ n → all y mid ≡ fault m → Stuck (IsAll y) (all y) mid m) → length ts ≤ suc n
      → (b : Bool) → starts kind false s.first ts ≡ b → whole z b ts ≡ fault m → Stuck (IsAll z) (all z) ts m
  stops_test z n m ts ih le true h e = stops_round z n m ts ih le h ((q z).reads ts) refl e
  stops_test z n m ts ih le false h e = absurd cc

  stops_all : (z : S) (n m : ℕ) (ts : List T) → length ts ≤ n → all z ts ≡ fault m → Stuck (IsAll z) (all z) ts m
  stops_all z zero m [] le e = absurd cc
  stops_all z zero m (t ∷ ts) le e = absurd (omega (arith, le))
  stops_all z (suc n) m ts le e = stops_test z n m ts (λ y mid l a. stops_all y n m mid l a) le (starts kind false s.first ts) refl (sym (many_unfolds z ts) ∙ e)

  -- ---- a text is read

  begins_all : (z : S) (text : List T) (vs : List A) → IsAll z text vs → starts kind true s.first text ≡ true
  begins_all z _ _ (no_more state) = refl
  begins_all z _ _ (once_more state text front back v vs split is more) = by_front text front back split (begins_one z front v is)
    where
      by_front : (text front back : List T) → text ≡ front ++ back → starts kind false s.first front ≡ true → starts kind true s.first text ≡ true
      by_front text [] back e b = absurd (clash b refl)
      by_front text (t ∷ front) back e b = rw e b

  module _ (ok : apart s.after s.first ≡ true) where
    not_on : (z : S) (back rest : List T) (vs : List A) → IsAll z back vs → starts kind false s.after rest ≡ false → starts kind false s.after (back ++ rest) ≡ false
    not_on z [] rest vs is h = h
    not_on z (t ∷ back) rest vs is h = not_in_first (kind t) s.after s.first ok (begins_all z (t ∷ back) vs is)

    again_all : (z : S) (text rest : List T) (vs : List A) → IsAll z text vs → starts kind false (s.first ++ s.after) rest ≡ false → all z (text ++ rest) ≡ read vs rest
    again_all z _ rest _ (no_more state) h = unfolds_at z rest false (starts_neither T kind s.first s.after rest h).0
    again_all z _ rest _ (once_more state text front back v vs split is more) h =
        let b : starts kind false s.first (front ++ (back ++ rest)) ≡ true = starts_more T kind s.first front (back ++ rest) (begins_one z front v is) in
        let first : (q z).reads (front ++ (back ++ rest)) ≡ read v (back ++ rest) = (ql z).again front (back ++ rest) v is (not_on (next z v) back rest vs more (starts_neither T kind s.first s.after rest h).1) in
        let others : all (next z v) (back ++ rest) ≡ read vs rest = again_all (next z v) back rest vs more h in
        ap (λ (t : List T). all z (t ++ rest)) split ∙ ap (all z) (append_assoc front back rest) ∙ unfolds_at z (front ++ (back ++ rest)) true b ∙ ap (go_on z) first ∙ ap (λ (step : Step T (List A)). with_more v step) others

    pub lawful_many_by : (z : S) → Lawful kind (many_by kind next q z)
    lawful_many_by z = record {
      takes = λ ts rest vs e. takes_all z (length ts) ts rest vs (omega arith) e;
      stops = λ ts n e. stops_all z (length ts) n ts (omega arith) e;
      again = again_all z;
      begins = begins_all z;
      some_text = [];
      some_value = [];
      some = no_more z;
    }

-- what code reads by a loop: one more, a fault, and the end
module _ (T A S B : Type 0) (s : Shape) (kind : T → ℕ) (next : S → A → S) (q : S → Rule T s A) (ql : (z : S) → Lawful kind (q z)) (one : s.empty ≡ false)
    (f : B → List A → B) (more : B → A → B) (nil : (x : B) → f x [] ≡ x) (cons : (x : B) (v : A) (vs : List A) → f x (v ∷ vs) ≡ f (more x v) vs) where
  abbrev folds : B → Step T (List A) → Step T B
  folds x step = and_then step (λ vs last. read (f x vs) last)

  one_folded : (x : B) (v : A) (step : Step T (List A)) → folds x (and_then step (λ vs last. read (v ∷ vs) last)) ≡ folds (more x v) step
  one_folded x v (read vs last) = ap (λ (w : B). read w last) (cons x v vs)
  one_folded x v (fault n) = refl

  pub by_on : (z : S) (x : B) (v : A) (ts mid : List T) → starts kind false s.first ts ≡ true → (q z).reads ts ≡ read v mid → fold_by kind f next q z x ts ≡ fold_by kind f next q (next z v) (more x v) mid
  by_on z x v ts mid h e =
      let whole = many_unfolds T A S s kind next q ql one z ts in
      rw (whole, h, e) (one_folded x v ((many_by kind next q (next z v)).reads mid))

  pub by_off : (z : S) (x : B) (ts : List T) (n : ℕ) → starts kind false s.first ts ≡ true → (q z).reads ts ≡ fault n → fold_by kind f next q z x ts ≡ fault n
  by_off z x ts n h e =
      let whole = many_unfolds T A S s kind next q ql one z ts in
      rw (whole, h, e) refl

  pub by_stop : (z : S) (x : B) (ts : List T) → starts kind false s.first ts ≡ false → fold_by kind f next q z x ts ≡ read x ts
  by_stop z x ts h =
      let whole = many_unfolds T A S s kind next q ql one z ts in
      rw (whole, h) (ap (λ (w : B). read w ts) (nil x))
