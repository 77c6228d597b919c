-- One rule and then another, which may depend on the first's value.
use Rattle.std.proofs.Common.{◌≡◌, ℕ, Bool, true, false, List, [], ◌∷◌, ◌++◌, length, refl, sym, ap, ◌∙◌, subst, append_assoc}
use Rattle.std.specs.Prelude.{◌&&◌, if◌then◌else◌}
use Rattle.al_grammar.specs.Kinds.{apart, starts}
use Rattle.al_grammar.specs.Rules.{Shape, Step, read, fault, Rule, and_then, IsThen, then_reads, then_rule, pair}
use Rattle.al_grammar.specs.Laws.{Took, Stuck, Lawful}
use Rattle.al_grammar.proofs.FirstTokens.{clash, starts_neither, not_in_first, in_first, in_second}

-- what a reader took it takes whatever follows its next token, also where another text stands between
pub took_on : (T A : Type 0) (Is : List T → A → Type 0) (reads : List T → Step T A) (ts rest : List T) (v : A) (t : Took Is reads ts v rest)
    (front : List T) (x : T) (r s : List T) → rest ≡ front ++ x ∷ r → reads (t.used ++ (front ++ x ∷ s)) ≡ read v (front ++ x ∷ s)
took_on T A Is reads ts rest v t [] x r s e = t.alike x r s e
took_on T A Is reads ts rest v t (y ∷ front) x r s e = t.alike y (front ++ x ∷ r) (front ++ x ∷ s) e

module _ (T A B C : Type 0) (s u : Shape) (kind : T → ℕ) (p : Rule T s A) (q : A → Rule T u B) (join : A → B → C)
    (pl : Lawful kind p) (ql : (x : A) → Lawful kind (q x)) (ok : apart s.after u.first ≡ true) where
  abbrev Is : List T → C → Type 0
  Is = IsThen p.Is (λ x. (q x).Is) join

  abbrev reads : List T → Step T C
  reads = then_reads join p.reads (λ x. (q x).reads)

  abbrev then_read : A → List T → Step T C
  then_read x mid = and_then ((q x).reads mid) (λ y rest. read (join x y) rest)

  took_both : (ts mid rest : List T) (x : A) (y : B) → Took p.Is p.reads ts x mid → Took (q x).Is (q x).reads mid y rest → Took Is reads ts (join x y) rest
  took_both ts mid rest x y t w = record {
    used = t.used ++ w.used;
    split = t.split ∙ ap (λ (m : List T). t.used ++ m) w.split ∙ sym (append_assoc t.used w.used rest);
    is = record { front = t.used; back = w.used; first = x; second = y; split = refl; first_is = t.is; second_is = w.is; value_is = refl };
    alike = λ z r more e.
        let first : p.reads (t.used ++ (w.used ++ z ∷ more)) ≡ read x (w.used ++ z ∷ more) =
        took_on T A p.Is p.reads ts mid x t w.used z r more (w.split ∙ ap (λ (m : List T). w.used ++ m) e) in
        let again : p.reads ((t.used ++ w.used) ++ z ∷ more) ≡ read x (w.used ++ z ∷ more) = ap p.reads (append_assoc t.used w.used (z ∷ more)) ∙ first in
        let second : (q x).reads (w.used ++ z ∷ more) ≡ read y (z ∷ more) = w.alike z r more e in
        rw (again, second) refl;
  }

  took_second : (ts mid rest : List T) (x : A) (v : C) → Took p.Is p.reads ts x mid → (step : Step T B) → (q x).reads mid ≡ step → and_then step (λ y last. read (join x y) last) ≡ read v rest → Took Is reads ts v rest
  took_second ts mid rest x v t (read y last) h e =
      let value : join x y ≡ v = cc in
      let left : last ≡ rest = cc in
      subst (λ (w : C). Took Is reads ts w rest) value (took_both ts mid rest x y t ((ql x).takes mid rest y (h ∙ ap (λ (l : List T). read y l) left)))
  took_second ts mid rest x v t (fault n) h e = absurd cc

  took_first : (ts rest : List T) (v : C) (step : Step T A) → p.reads ts ≡ step → and_then step then_read ≡ read v rest → Took Is reads ts v rest
  took_first ts rest v (read x mid) h e = took_second ts mid rest x v (pl.takes ts mid x h) ((q x).reads mid) refl e
  took_first ts rest v (fault n) h e = absurd cc

  -- the first rule stops
  stuck_first : (ts : List T) (n : ℕ) → Stuck p.Is p.reads ts n → Stuck Is reads ts n
  stuck_first ts n t = record {
    used = t.used;
    rest = t.rest;
    split = t.split;
    place = t.place;
    more = t.more ++ (ql t.value).some_text;
    value = join t.value (ql t.value).some_value;
    is = record { front = t.used ++ t.more; back = (ql t.value).some_text; first = t.value; second = (ql t.value).some_value; split = sym (append_assoc t.used t.more (ql t.value).some_text); first_is = t.is; second_is = (ql t.value).some; value_is = refl };
    alike = λ z r more e. let first : p.reads (t.used ++ z ∷ more) ≡ fault (length (z ∷ more)) = t.alike z r more e in rw first refl;
  }

  -- the second rule stops
  stuck_second : (ts mid : List T) (x : A) (n : ℕ) → Took p.Is p.reads ts x mid → Stuck (q x).Is (q x).reads mid n → Stuck Is reads ts n
  stuck_second ts mid x n t w = record {
    used = t.used ++ w.used;
    rest = w.rest;
    split = t.split ∙ ap (λ (m : List T). t.used ++ m) w.split ∙ sym (append_assoc t.used w.used w.rest);
    place = w.place;
    more = w.more;
    value = join x w.value;
    is = record { front = t.used; back = w.used ++ w.more; first = x; second = w.value; split = append_assoc t.used w.used w.more; first_is = t.is; second_is = w.is; value_is = refl };
    alike = λ z r more e.
        let first : p.reads (t.used ++ (w.used ++ z ∷ more)) ≡ read x (w.used ++ z ∷ more) =
        took_on T A p.Is p.reads ts mid x t w.used z r more (w.split ∙ ap (λ (m : List T). w.used ++ m) e) in
        let again : p.reads ((t.used ++ w.used) ++ z ∷ more) ≡ read x (w.used ++ z ∷ more) = ap p.reads (append_assoc t.used w.used (z ∷ more)) ∙ first in
        let second : (q x).reads (w.used ++ z ∷ more) ≡ fault (length (z ∷ more)) = w.alike z r more e in
        rw (again, second) refl;
  }

  stops_second : (ts mid : List T) (x : A) (n : ℕ) → Took p.Is p.reads ts x mid → (step : Step T B) → (q x).reads mid ≡ step → and_then step (λ y last. read (join x y) last) ≡ fault n → Stuck Is reads ts n
  stops_second ts mid x n t (read y last) h e = absurd cc
  stops_second ts mid x n t (fault m) h e = let same : m ≡ n = cc in stuck_second ts mid x n t ((ql x).stops mid n (h ∙ ap (λ (k : ℕ). fault k) same))

  stops_first : (ts : List T) (n : ℕ) (step : Step T A) → p.reads ts ≡ step → and_then step then_read ≡ fault n → Stuck Is reads ts n
  stops_first ts n (read x mid) h e = stops_second ts mid x n (pl.takes ts mid x h) ((q x).reads mid) refl e
  stops_first ts n (fault m) h e = let same : m ≡ n = cc in stuck_first ts n (pl.stops ts n (h ∙ ap (λ (k : ℕ). fault k) same))

  abbrev if_after : Bool → List ℕ
  if_after b = if b then s.after ++ u.after else u.after

  -- what can't go on after both can't go on after the first, with the second's text between
  empty_back : (b : Bool) (rest : List T) → b ≡ true → starts kind false (if_after b) rest ≡ false → starts kind false s.after rest ≡ false
  empty_back true rest e h = (starts_neither T kind s.after u.after rest h).0
  empty_back false rest e h = absurd (clash e refl)

  after_second : (b : Bool) (rest : List T) → starts kind false (if_after b) rest ≡ false → starts kind false u.after rest ≡ false
  after_second true rest h = (starts_neither T kind s.after u.after rest h).1
  after_second false rest h = h

  not_on : (x : A) (back rest : List T) (y : B) → (q x).Is back y → starts kind false (if_after u.empty) rest ≡ false → starts kind false s.after (back ++ rest) ≡ false
  not_on x [] rest y is h = empty_back u.empty rest ((ql x).begins [] y is) h
  not_on x (t ∷ back) rest y is h = not_in_first (kind t) s.after u.first ok ((ql x).begins (t ∷ back) y is)

  again_both : (text rest : List T) (v : C) → Is text v → starts kind false (if_after u.empty) rest ≡ false → reads (text ++ rest) ≡ read v rest
  again_both text rest v is h =
      let first : p.reads (is.front ++ (is.back ++ rest)) ≡ read is.first (is.back ++ rest) = pl.again is.front (is.back ++ rest) is.first is.first_is (not_on is.first is.back rest is.second is.second_is h) in
      let whole : p.reads (text ++ rest) ≡ read is.first (is.back ++ rest) = ap (λ (t : List T). p.reads (t ++ rest)) is.split ∙ ap p.reads (append_assoc is.front is.back rest) ∙ first in
      let second : (q is.first).reads (is.back ++ rest) ≡ read is.second rest = (ql is.first).again is.back rest is.second is.second_is (after_second u.empty rest h) in
      rw (whole, second) (ap (λ (w : C). read w rest) (sym is.value_is))

  -- what a text of both begins with
  begins_first : (b : Bool) (front back : List T) (x : A) (y : B) → b ≡ s.empty → p.Is front x → (q x).Is back y → starts kind (b && u.empty) (if b then s.first ++ u.first else s.first) (front ++ back) ≡ true
  begins_first true [] [] x y e i j = (ql x).begins [] y j
  begins_first true [] (t ∷ back) x y e i j = in_second (kind t) s.first u.first ((ql x).begins (t ∷ back) y j)
  begins_first true (t ∷ front) back x y e i j = in_first (kind t) s.first u.first (pl.begins (t ∷ front) x i)
  begins_first false [] back x y e i j = absurd (clash (pl.begins [] x i) (sym e))
  begins_first false (t ∷ front) back x y e i j = pl.begins (t ∷ front) x i

  begins_both : (text : List T) (v : C) → Is text v → starts kind (s.empty && u.empty) (if s.empty then s.first ++ u.first else s.first) text ≡ true
  begins_both text v is = rw is.split (begins_first s.empty is.front is.back is.first is.second refl is.first_is is.second_is)

  pub lawful_then : Lawful kind (then_rule join p q)
  lawful_then = record {
    takes = λ ts rest v e. took_first ts rest v (p.reads ts) refl e;
    stops = λ ts n e. stops_first ts n (p.reads ts) refl e;
    again = again_both;
    begins = begins_both;
    some_text = pl.some_text ++ (ql pl.some_value).some_text;
    some_value = join pl.some_value (ql pl.some_value).some_value;
    some = record { front = pl.some_text; back = (ql pl.some_value).some_text; first = pl.some_value; second = (ql pl.some_value).some_value; split = refl; first_is = pl.some; second_is = (ql pl.some_value).some; value_is = refl };
  }

-- the same where the other doesn't depend on it
module _ (T A B C : Type 0) (s u : Shape) (kind : T → ℕ) (p : Rule T s A) (q : Rule T u B) (join : A → B → C)
    (pl : Lawful kind p) (ql : Lawful kind q) (ok : apart s.after u.first ≡ true) where
  pub lawful_pair : Lawful kind (pair join p q)
  lawful_pair = lawful_then T A B C s u kind p (λ x. q) join pl (λ x. ql) ok
