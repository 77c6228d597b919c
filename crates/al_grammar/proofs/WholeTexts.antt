-- A lawful reader answers on whole texts as the grammar says.
use Rattle.std.proofs.Common.{◌≡◌, ℕ, ◌+◌, ◌<◌, List, [], ◌∷◌, ◌++◌, length, length-append, append-nil, Ok, Err, refl, sym, ap, ◌∙◌, subst, append_assoc, arith}
use Rattle.al_grammar.specs.Rules.{Shape, Step, read, fault, Rule}
use Rattle.al_grammar.specs.Laws.{Took, Stuck, Lawful}
use Rattle.al_grammar.specs.Whole.{StopsAt, whole_of}

module _ (T A : Type 0) (s : Shape) (kind : T → ℕ) (p : Rule T s A) (pl : Lawful kind p) where
  pub whole_reads : (text : List T) (v : A) → p.Is text v → p.reads text ≡ read v []
  whole_reads text v is = ap p.reads (sym (append-nil text)) ∙ pl.again text [] v is refl

  found_step : (ts : List T) (v : A) (step : Step T A) → p.reads ts ≡ step → whole_of step ≡ Ok v → p.Is ts v
  found_step ts v (read w []) h e =
      let value : w ≡ v = cc in
      let t = pl.takes ts [] w h in
      subst (λ (x : A). p.Is ts x) value (subst (λ (l : List T). p.Is l w) (sym (t.split ∙ append-nil t.used)) t.is)
  found_step ts v (read w (t ∷ rest)) h e = absurd cc
  found_step ts v (fault n) h e = absurd cc

  -- what is answered is what the grammar says
  pub whole_found : (ts : List T) (v : A) → whole_of (p.reads ts) ≡ Ok v → p.Is ts v
  whole_found ts v e = found_step ts v (p.reads ts) refl e

  -- what the grammar says is answered
  pub whole_only : (ts : List T) (v : A) → p.Is ts v → whole_of (p.reads ts) ≡ Ok v
  whole_only ts v is = ap whole_of (whole_reads ts v is)

  -- a text with the token would have been read
  no_more : (text : List T) (v : A) (step : Step T A) → p.reads text ≡ step → (step ≡ read v [] → ⊥) → p.Is text v → ⊥
  no_more text v step h other is = other (sym h ∙ whole_reads text v is)

  stops_past : (ts rest : List T) (t : T) (v : A) → Took p.Is p.reads ts v (t ∷ rest) → StopsAt p.Is ts (length (t ∷ rest))
  stops_past ts rest t v took = record {
    before = took.used;
    from = t ∷ rest;
    split = took.split;
    place = refl;
    more = [];
    value = v;
    begins = subst (λ (l : List T). p.Is l v) (sym (append-nil took.used)) took.is;
    ends = λ x others more w e is. no_more (took.used ++ x ∷ more) w (read v (x ∷ more)) (took.alike x others more e) (λ (k : read v (x ∷ more) ≡ read w []). absurd cc) is;
    early = λ w e is. absurd cc;
  }

  pub stops_stuck : (ts : List T) (n : ℕ) → p.reads ts ≡ fault n → Stuck p.Is p.reads ts n → StopsAt p.Is ts n
  stops_stuck ts n h stuck = record {
    before = stuck.used;
    from = stuck.rest;
    split = stuck.split;
    place = stuck.place;
    more = stuck.more;
    value = stuck.value;
    begins = stuck.is;
    ends = λ x others more w e is. no_more (stuck.used ++ x ∷ more) w (fault (length (x ∷ more))) (stuck.alike x others more e) (λ (k : fault (length (x ∷ more)) ≡ read w []). absurd cc) is;
    early = λ w e is.
        let alone : ts ≡ stuck.used = stuck.split ∙ ap (λ (l : List T). stuck.used ++ l) e ∙ append-nil stuck.used in
        no_more stuck.used w (fault n) (ap p.reads (sym alone) ∙ h) (λ (k : fault n ≡ read w []). absurd cc) is;
  }

  stops_step : (ts : List T) (n : ℕ) (step : Step T A) → p.reads ts ≡ step → whole_of step ≡ Err n → StopsAt p.Is ts n
  stops_step ts n (read v []) h e = absurd cc
  stops_step ts n (read v (t ∷ rest)) h e =
      let same : length (t ∷ rest) ≡ n = cc in
      subst (λ (k : ℕ). StopsAt p.Is ts k) same (stops_past ts rest t v (pl.takes ts (t ∷ rest) v h))
  stops_step ts n (fault m) h e =
      let same : m ≡ n = cc in
      subst (λ (k : ℕ). StopsAt p.Is ts k) same (stops_stuck ts m h (pl.stops ts m h))

  -- a fault's place is the grammar's
  pub whole_stops : (ts : List T) (n : ℕ) → whole_of (p.reads ts) ≡ Err n → StopsAt p.Is ts n
  whole_stops ts n e = stops_step ts n (p.reads ts) refl e

-- ---- a place is the only one, and a text has none

module _ (T A : Type 0) (Is : List T → A → Type 0) where
  no_place : (ts from : List T) (n : ℕ) (v : A) → (h : StopsAt Is ts n) → h.from ≡ from → Is ts v → ⊥
  no_place ts [] n v h e is = h.early v e (subst (λ (l : List T). Is l v) (h.split ∙ ap (λ (l : List T). h.before ++ l) e ∙ append-nil h.before) is)
  no_place ts (x ∷ others) n v h e is = h.ends x others others v e (subst (λ (l : List T). Is l v) (h.split ∙ ap (λ (l : List T). h.before ++ l) e) is)

  -- A text of the grammar has no faulty token.
  pub text_goes_on : (ts : List T) (n : ℕ) (v : A) → StopsAt Is ts n → Is ts v → ⊥
  text_goes_on ts n v h is = no_place ts h.from n v h refl is

  -- a shorter front is a front of the longer one
  pub front_of : (a b c d : List T) → a ++ b ≡ c ++ d → length a < length c → (x : T) × (others : List T) × (more : List T) × (b ≡ x ∷ others) × (c ≡ a ++ x ∷ more)
  front_of [] b [] d e l = absurd (omega (arith, l))
  front_of [] b (x ∷ c) d e l = (x, c ++ d, c, e, refl)
  front_of (y ∷ a) b [] d e l = absurd (omega (arith, l))
  front_of (y ∷ a) b (z ∷ c) d e l =
      let rests : a ++ b ≡ c ++ d = cc in
      let heads : y ≡ z = cc in
      let found = front_of a b c d rests (omega (arith, l)) in
      (found.0, found.1, found.2, found.3, ap (λ (k : T). k ∷ c) (sym heads) ∙ ap (λ (k : List T). y ∷ k) found.4)

  not_before : (ts : List T) (n m : ℕ) → (h : StopsAt Is ts n) (k : StopsAt Is ts m) → length h.before < length k.before → ⊥
  not_before ts n m h k l =
      let found = front_of h.before h.from k.before k.from (sym h.split ∙ k.split) l in
      h.ends found.0 found.1 (found.2 ++ k.more) k.value found.3
      (subst (λ (t : List T). Is t k.value) (ap (λ (t : List T). t ++ k.more) found.4 ∙ append_assoc h.before (found.0 ∷ found.2) k.more) k.begins)

  -- Tokens have one faulty token at most.
  pub one_place : (ts : List T) (n m : ℕ) → StopsAt Is ts n → StopsAt Is ts m → n ≡ m
  one_place ts n m h k =
      let no : length h.before < length k.before → ⊥ = not_before ts n m h k in
      let yes : length k.before < length h.before → ⊥ = not_before ts m n k h in
      let first : length ts ≡ length h.before + length h.from = ap length h.split ∙ length-append h.before h.from in
      let second : length ts ≡ length k.before + length k.from = ap length k.split ∙ length-append k.before k.from in
      let at_first : n ≡ length h.from = h.place in
      let at_second : m ≡ length k.from = k.place in
      omega arith
