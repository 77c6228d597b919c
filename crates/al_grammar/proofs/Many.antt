-- A rule any number of times.
use Rattle.std.proofs.Common.{◌≡◌, ℕ, zero, suc, ◌≤◌, ◌<◌, Bool, true, false, List, [], ◌∷◌, ◌++◌, length, length-append, refl, sym, ap, ◌∙◌, subst, append_assoc, arith}
use Rattle.std.specs.Prelude.{if◌then◌else◌}
use Rattle.al_grammar.specs.Kinds.{apart, starts}
use Rattle.al_grammar.specs.Rules.{Shape, Step, read, fault, Rule, and_then, IsMany, none, one_more, many_reads, many}
use Rattle.al_grammar.specs.Laws.{Took, Stuck, Lawful}
use Rattle.al_grammar.proofs.FirstTokens.{clash, starts_neither, starts_more, starts_alike, not_in_first}
use Rattle.al_grammar.proofs.Pair.{took_on}

module _ (T A : Type 0) (s : Shape) (kind : T → ℕ) (p : Rule T s A) (pl : Lawful kind p) (one : s.empty ≡ false) where
  begins_one : (text : List T) (v : A) → p.Is text v → starts kind false s.first text ≡ true
  begins_one text v is = subst (λ (b : Bool). starts kind b s.first text ≡ true) one (pl.begins text v is)

  -- something is always read
  shorter_by : (used rest ts : List T) → ts ≡ used ++ rest → starts kind false s.first used ≡ true → length rest < length ts
  shorter_by [] rest ts e b = absurd (clash b refl)
  shorter_by (t ∷ used) rest ts e b = let l : length ts ≡ suc (length (used ++ rest)) = ap length e in omega (arith, length-append used rest)

  pub shorter : (ts rest : List T) (v : A) → p.reads ts ≡ read v rest → length rest < length ts
  shorter ts rest v e = let t = pl.takes ts rest v e in shorter_by t.used rest ts t.split (begins_one t.used v t.is)

  abbrev times : ℕ → List T → Step T (List A)
  times n ts = many_reads kind s.first p.reads n ts

  abbrev with_more : A → Step T (List A) → Step T (List A)
  with_more v step = and_then step (λ vs last. read (v ∷ vs) last)

  abbrev round : ℕ → Step T A → Step T (List A)
  round n step = and_then step (λ v rest. with_more v (times n rest))

  enough_step : (n m : ℕ) (ts : List T) → ((rest : List T) → length rest ≤ n → length rest ≤ m → times n rest ≡ times m rest)
      → length ts ≤ suc n → length ts ≤ suc m → (step : Step T A) → p.reads ts ≡ step → round n step ≡ round m step
  enough_step n m ts ih a b (read v rest) e =
      let less = shorter ts rest v e in
      ap (λ (x : Step T (List A)). with_more v x) (ih rest (omega (arith, less)) (omega (arith, less)))
  enough_step n m ts ih a b (fault k) e = refl

  enough_test : (n m : ℕ) (ts : List T) → ((rest : List T) → length rest ≤ n → length rest ≤ m → times n rest ≡ times m rest)
      → length ts ≤ suc n → length ts ≤ suc m → (c : Bool) → (if c then round n (p.reads ts) else read [] ts) ≡ (if c then round m (p.reads ts) else read [] ts)
  enough_test n m ts ih a b true = enough_step n m ts ih a b (p.reads ts) refl
  enough_test n m ts ih a b false = refl

  -- as many rounds as there are tokens are enough
  enough : (n m : ℕ) (ts : List T) → length ts ≤ n → length ts ≤ m → times n ts ≡ times m ts
  enough zero zero ts a b = refl
  enough zero (suc m) [] a b = refl
  enough zero (suc m) (t ∷ ts) a b = absurd (omega (arith, a))
  enough (suc n) zero [] a b = refl
  enough (suc n) zero (t ∷ ts) a b = absurd (omega (arith, b))
  enough (suc n) (suc m) ts a b = enough_test n m ts (λ rest x y. enough n m rest x y) a b (starts kind false s.first ts)

  abbrev all : List T → Step T (List A)
  all ts = times (length ts) ts

  abbrev go_on : Step T A → Step T (List A)
  go_on step = and_then step (λ v rest. with_more v (all rest))

  abbrev whole : Bool → List T → Step T (List A)
  whole b ts = if b then go_on (p.reads ts) else read [] ts

  unfold_step : (t : T) (ts : List T) (step : Step T A) → p.reads (t ∷ ts) ≡ step → round (length ts) step ≡ go_on step
  unfold_step t ts (read v rest) e =
      let less = shorter (t ∷ ts) rest v e in
      ap (λ (x : Step T (List A)). with_more v x) (enough (length ts) (length rest) rest (omega (arith, less)) (omega arith))
  unfold_step t ts (fault k) e = refl

  unfold_test : (t : T) (ts : List T) (b : Bool) → (if b then round (length ts) (p.reads (t ∷ ts)) else read [] (t ∷ ts)) ≡ whole b (t ∷ ts)
  unfold_test t ts true = unfold_step t ts (p.reads (t ∷ ts)) refl
  unfold_test t ts false = refl

  -- One round, and then all the others.
  pub many_unfolds : (ts : List T) → all ts ≡ whole (starts kind false s.first ts) ts
  many_unfolds [] = refl
  many_unfolds (t ∷ ts) = unfold_test t ts (starts kind false s.first (t ∷ ts))

  unfolds_at : (ts : List T) (b : Bool) → starts kind false s.first ts ≡ b → all ts ≡ whole b ts
  unfolds_at ts b e = many_unfolds ts ∙ ap (λ (c : Bool). whole c ts) e

  abbrev IsAll : List T → List A → Type 0
  IsAll = IsMany p.Is

  starts_still : (ts used rest : List T) (b : Bool) (x : T) (r more : List T) → ts ≡ used ++ rest → rest ≡ x ∷ r → starts kind false s.first ts ≡ b → all (used ++ x ∷ more) ≡ whole b (used ++ x ∷ more)
  starts_still ts used rest b x r more split e h =
      let same : ts ≡ used ++ x ∷ r = split ∙ ap (λ (l : List T). used ++ l) e in
      unfolds_at (used ++ x ∷ more) b (sym (starts_alike T kind s.first used x r more) ∙ ap (starts kind false s.first) (sym same) ∙ h)

  took_none : (ts : List T) → starts kind false s.first ts ≡ false → Took IsAll all ts [] ts
  took_none ts h = record { used = []; split = refl; is = none; alike = λ x r more l. starts_still ts [] ts false x r more refl l h }

  -- the first round's reading with the others behind it
  first_on : (ts mid rest : List T) (v : A) (t : Took p.Is p.reads ts v mid) (used : List T) → mid ≡ used ++ rest → starts kind false s.first ts ≡ true
      → (x : T) (r more : List T) → rest ≡ x ∷ r → all ((t.used ++ used) ++ x ∷ more) ≡ with_more v (all (used ++ x ∷ more))
  first_on ts mid rest v t used split h x r more l =
      let first : p.reads (t.used ++ (used ++ x ∷ more)) ≡ read v (used ++ x ∷ more) =
      took_on T A p.Is p.reads ts mid v t used x r more (split ∙ ap (λ (m : List T). used ++ m) l) in
      let again : p.reads ((t.used ++ used) ++ x ∷ more) ≡ read v (used ++ x ∷ more) = ap p.reads (append_assoc t.used used (x ∷ more)) ∙ first in
      let whole_split : ts ≡ (t.used ++ used) ++ rest = t.split ∙ ap (λ (m : List T). t.used ++ m) split ∙ sym (append_assoc t.used used rest) in
      starts_still ts (t.used ++ used) rest true x r more whole_split l h ∙ ap go_on again

  took_more : (ts mid rest : List T) (v : A) (vs : List A) → starts kind false s.first ts ≡ true → Took p.Is p.reads ts v mid → Took IsAll all mid vs rest → Took IsAll all ts (v ∷ vs) rest
  took_more ts mid rest v vs h t w = record {
    used = t.used ++ w.used;
    split = t.split ∙ ap (λ (m : List T). t.used ++ m) w.split ∙ sym (append_assoc t.used w.used rest);
    is = one_more _ t.used w.used v vs refl t.is w.is;
    alike = λ x r more l. first_on ts mid rest v t w.used w.split h x r more l ∙ ap (λ (step : Step T (List A)). with_more v step) (w.alike x r more l);
  }

  takes_later : (ts mid rest : List T) (v : A) (vs : List A) → ((ws : List A) → all mid ≡ read ws rest → Took IsAll all mid ws rest) → starts kind false s.first ts ≡ true → Took p.Is p.reads ts v mid
      → (step : Step T (List A)) → all mid ≡ step → with_more v step ≡ read vs rest → Took IsAll all ts vs rest
  takes_later ts mid rest v vs ih h t (read ws last) a e =
      let value : v ∷ ws ≡ vs = cc in
      let left : last ≡ rest = cc in
      subst (λ (x : List A). Took IsAll all ts x rest) value (took_more ts mid rest v ws h t (ih ws (a ∙ ap (λ (l : List T). read ws l) left)))
  takes_later ts mid rest v vs ih h t (fault n) a e = absurd cc

  takes_round : (n : ℕ) (ts rest : List T) (vs : List A) → ((mid : List T) (ws : List A) → length mid ≤ n → all mid ≡ read ws rest → Took IsAll all mid ws rest) → length ts ≤ suc n → starts kind false s.first ts ≡ true
      → (step : Step T A) → p.reads ts ≡ step → go_on step ≡ read vs rest → Took IsAll all ts vs rest
  takes_round n ts rest vs ih le h (read v mid) a e =
      let less = shorter ts mid v a in
      takes_later ts mid rest v vs (λ ws b. ih mid ws (omega (arith, less)) b) h (pl.takes ts mid v a) (all mid) refl e
  takes_round n ts rest vs ih le h (fault k) a e = absurd cc

  takes_nothing : (ts rest : List T) (vs : List A) → starts kind false s.first ts ≡ false → whole false ts ≡ read vs rest → Took IsAll all ts vs rest
  takes_nothing ts rest vs h e =
      let value : [] ≡ vs = cc in
      let left : ts ≡ rest = cc in
      subst (λ (x : List A). Took IsAll all ts x rest) value (subst (λ (l : List T). Took IsAll all ts [] l) left (took_none ts h))

  takes_test : (n : ℕ) (ts rest : List T) (vs : List A) → ((mid : List T) (ws : List A) → length mid ≤ n → all mid ≡ read ws rest → Took IsAll all mid ws rest) → length ts ≤ suc n
      → (b : Bool) → starts kind false s.first ts ≡ b → whole b ts ≡ read vs rest → Took IsAll all ts vs rest
  takes_test n ts rest vs ih le true h e = takes_round n ts rest vs ih le h (p.reads ts) refl e
  takes_test n ts rest vs ih le false h e = takes_nothing ts rest vs h e

  takes_all : (n : ℕ) (ts rest : List T) (vs : List A) → length ts ≤ n → all ts ≡ read vs rest → Took IsAll all ts vs rest
  takes_all zero [] rest vs le e = takes_nothing [] rest vs refl e
  takes_all zero (t ∷ ts) rest vs le e = absurd (omega (arith, le))
  takes_all (suc n) ts rest vs le e = takes_test n ts rest vs (λ mid ws l a. takes_all n mid rest ws l a) le (starts kind false s.first ts) refl (sym (many_unfolds ts) ∙ e)

  -- ---- where it stops

  stuck_first : (ts : List T) (n : ℕ) → starts kind false s.first ts ≡ true → Stuck p.Is p.reads ts n → Stuck IsAll all ts n
  stuck_first ts n h t = record {
    used = t.used;
    rest = t.rest;
    split = t.split;
    place = t.place;
    more = t.more ++ [];
    value = t.value ∷ [];
    is = one_more _ (t.used ++ t.more) [] t.value [] (sym (append_assoc t.used t.more [])) t.is none;
    alike = λ x r more l. starts_still ts t.used t.rest true x r more t.split l h ∙ ap go_on (t.alike x r more l);
  }

  stuck_more : (ts mid : List T) (v : A) (n : ℕ) → starts kind false s.first ts ≡ true → Took p.Is p.reads ts v mid → Stuck IsAll all mid n → Stuck IsAll all ts n
  stuck_more ts mid v n h t w = record {
    used = t.used ++ w.used;
    rest = w.rest;
    split = t.split ∙ ap (λ (m : List T). t.used ++ m) w.split ∙ sym (append_assoc t.used w.used w.rest);
    place = w.place;
    more = w.more;
    value = v ∷ w.value;
    is = one_more _ t.used (w.used ++ w.more) v w.value (append_assoc t.used w.used w.more) t.is w.is;
    alike = λ x r more l. first_on ts mid w.rest v t w.used w.split h x r more l ∙ ap (λ (step : Step T (List A)). with_more v step) (w.alike x r more l);
  }

  stops_later : (ts mid : List T) (v : A) (n : ℕ) → (all mid ≡ fault n → Stuck IsAll all mid n) → starts kind false s.first ts ≡ true → Took p.Is p.reads ts v mid
      → (step : Step T (List A)) → all mid ≡ step → with_more v step ≡ fault n → Stuck IsAll all ts n
  stops_later ts mid v n ih h t (read ws last) a e = absurd cc
  stops_later ts mid v n ih h t (fault m) a e = let same : m ≡ n = cc in stuck_more ts mid v n h t (ih (a ∙ ap (λ (k : ℕ). fault k) same))

  stops_round : (n m : ℕ) (ts : List T) → ((mid : List T) → length mid ≤ n → all mid ≡ fault m → Stuck IsAll all mid m) → length ts ≤ suc n → starts kind false s.first ts ≡ true
      → (step : Step T A) → p.reads ts ≡ step → go_on step ≡ fault m → Stuck IsAll all ts m
  stops_round n m ts ih le h (read v mid) a e =
      let less = shorter ts mid v a in
      stops_later ts mid v m (λ b. ih mid (omega (arith, less)) b) h (pl.takes ts mid v a) (all mid) refl e
  stops_round n m ts ih le h (fault k) a e = let same : k ≡ m = cc in stuck_first ts m h (pl.stops ts m (a ∙ ap (λ (j : ℕ). fault j) same))

  stops_test : (n m : ℕ) (ts : List T) → ((mid : List T) → length mid ≤ n → all mid ≡ fault m → Stuck IsAll all mid m) → length ts ≤ suc n
      → (b : Bool) → starts kind false s.first ts ≡ b → whole b ts ≡ fault m → Stuck IsAll all ts m
  stops_test n m ts ih le true h e = stops_round n m ts ih le h (p.reads ts) refl e
  stops_test n m ts ih le false h e = absurd cc

  stops_all : (n m : ℕ) (ts : List T) → length ts ≤ n → all ts ≡ fault m → Stuck IsAll all ts m
  stops_all zero m [] le e = absurd cc
  stops_all zero m (t ∷ ts) le e = absurd (omega (arith, le))
  stops_all (suc n) m ts le e = stops_test n m ts (λ mid l a. stops_all n m mid l a) le (starts kind false s.first ts) refl (sym (many_unfolds ts) ∙ e)

  -- ---- a text is read

  begins_all : (text : List T) (vs : List A) → IsAll text vs → starts kind true s.first text ≡ true
  begins_all _ _ none = refl
  begins_all _ _ (one_more text front back v vs split is more) = by_front text front back split (begins_one front v is)
    where
      by_front : (text front back : List T) → text ≡ front ++ back → starts kind false s.first front ≡ true → starts kind true s.first text ≡ true
      by_front text [] back e b = absurd (clash b refl)
      by_front text (t ∷ front) back e b = rw e b

  module _ (ok : apart s.after s.first ≡ true) where
    not_on : (back rest : List T) (vs : List A) → IsAll back vs → starts kind false s.after rest ≡ false → starts kind false s.after (back ++ rest) ≡ false
    not_on [] rest vs is h = h
    not_on (t ∷ back) rest vs is h = not_in_first (kind t) s.after s.first ok (begins_all (t ∷ back) vs is)

    again_all : (text rest : List T) (vs : List A) → IsAll text vs → starts kind false (s.first ++ s.after) rest ≡ false → all (text ++ rest) ≡ read vs rest
    again_all _ rest _ none h = unfolds_at rest false (starts_neither T kind s.first s.after rest h).0
    again_all _ rest _ (one_more text front back v vs split is more) h =
        let b : starts kind false s.first (front ++ (back ++ rest)) ≡ true = starts_more T kind s.first front (back ++ rest) (begins_one front v is) in
        let first : p.reads (front ++ (back ++ rest)) ≡ read v (back ++ rest) = pl.again front (back ++ rest) v is (not_on back rest vs more (starts_neither T kind s.first s.after rest h).1) in
        let others : all (back ++ rest) ≡ read vs rest = again_all back rest vs more h in
        ap (λ (t : List T). all (t ++ rest)) split ∙ ap all (append_assoc front back rest) ∙ unfolds_at (front ++ (back ++ rest)) true b ∙ ap go_on first ∙ ap (λ (step : Step T (List A)). with_more v step) others

    pub lawful_many : Lawful kind (many kind p)
    lawful_many = record {
      takes = λ ts rest vs e. takes_all (length ts) ts rest vs (omega arith) e;
      stops = λ ts n e. stops_all (length ts) n ts (omega arith) e;
      again = again_all;
      begins = begins_all;
      some_text = [];
      some_value = [];
      some = none;
    }
