-- Another value, one rule or another, and a rule or nothing.
use Rattle.std.proofs.Common.{◌≡◌, ℕ, ◌⊎◌, inl, inr, Bool, true, false, List, [], ◌∷◌, ◌++◌, length, Option, Some, None, refl, sym, ap, ◌∙◌, subst}
use Rattle.std.specs.Prelude.{if◌then◌else◌}
use Rattle.al_grammar.specs.Kinds.{apart, starts}
use Rattle.al_grammar.specs.Rules.{Shape, Step, read, fault, Rule, and_then, IsMapped, mapped, or, IsOptional, left_out, there, optional}
use Rattle.al_grammar.specs.Laws.{Took, Stuck, Lawful}
use Rattle.al_grammar.proofs.FirstTokens.{starts_neither, starts_first, starts_second, starts_more, starts_alike, not_in_first}

-- ---- another value

module _ (T A B : Type 0) (s : Shape) (kind : T → ℕ) (f : A → B) (p : Rule T s A) (pl : Lawful kind p) where
  abbrev new_reads : List T → Step T B
  new_reads ts = and_then (p.reads ts) (λ v rest. read (f v) rest)

  took_new : (ts rest : List T) (v : A) → Took p.Is p.reads ts v rest → Took (IsMapped p.Is f) new_reads ts (f v) rest
  took_new ts rest v t = record {
    used = t.used;
    split = t.split;
    is = record { was = v; was_is = t.is; value_is = refl };
    alike = λ x r more e. let first : p.reads (t.used ++ x ∷ more) ≡ read v (x ∷ more) = t.alike x r more e in rw first refl;
  }

  takes_new : (ts rest : List T) (v : B) (step : Step T A) → p.reads ts ≡ step → and_then step (λ w last. read (f w) last) ≡ read v rest → Took (IsMapped p.Is f) new_reads ts v rest
  takes_new ts rest v (read w last) h e =
      let value : f w ≡ v = cc in
      let left : last ≡ rest = cc in
      subst (λ (x : B). Took (IsMapped p.Is f) new_reads ts x rest) value (took_new ts rest w (pl.takes ts rest w (h ∙ ap (λ (l : List T). read w l) left)))
  takes_new ts rest v (fault n) h e = absurd cc

  stuck_new : (ts : List T) (n : ℕ) → Stuck p.Is p.reads ts n → Stuck (IsMapped p.Is f) new_reads ts n
  stuck_new ts n t = record {
    used = t.used;
    rest = t.rest;
    split = t.split;
    place = t.place;
    more = t.more;
    value = f t.value;
    is = record { was = t.value; was_is = t.is; value_is = refl };
    alike = λ x r more e. let first : p.reads (t.used ++ x ∷ more) ≡ fault (length (x ∷ more)) = t.alike x r more e in rw first refl;
  }

  stops_new : (ts : List T) (n : ℕ) (step : Step T A) → p.reads ts ≡ step → and_then step (λ w last. read (f w) last) ≡ fault n → Stuck (IsMapped p.Is f) new_reads ts n
  stops_new ts n (read w last) h e = absurd cc
  stops_new ts n (fault m) h e = let same : m ≡ n = cc in stuck_new ts n (pl.stops ts n (h ∙ ap (λ (k : ℕ). fault k) same))

  again_new : (text rest : List T) (v : B) → IsMapped p.Is f text v → starts kind false s.after rest ≡ false → new_reads (text ++ rest) ≡ read v rest
  again_new text rest v is h =
      let first : p.reads (text ++ rest) ≡ read is.was rest = pl.again text rest is.was is.was_is h in
      rw first (ap (λ (w : B). read w rest) (sym is.value_is))

  pub lawful_mapped : Lawful kind (mapped f p)
  lawful_mapped = record {
    takes = λ ts rest v e. takes_new ts rest v (p.reads ts) refl e;
    stops = λ ts n e. stops_new ts n (p.reads ts) refl e;
    again = again_new;
    begins = λ text v is. pl.begins text is.was is.was_is;
    some_text = pl.some_text;
    some_value = f pl.some_value;
    some = record { was = pl.some_value; was_is = pl.some; value_is = refl };
  }

-- ---- one rule or another

module _ (T A : Type 0) (s u : Shape) (kind : T → ℕ) (p : Rule T s A) (q : Rule T u A) (pl : Lawful kind p) (ql : Lawful kind q)
    (one : s.empty ≡ false) (other : u.empty ≡ false) (ok : apart s.first u.first ≡ true) where
  abbrev IsEither : List T → A → Type 0
  IsEither text v = p.Is text v ⊎ q.Is text v

  abbrev choice : Bool → List T → Step T A
  choice b ts = if b then p.reads ts else q.reads ts

  abbrev reads : List T → Step T A
  reads ts = choice (starts kind false s.first ts) ts

  chosen : (ts : List T) (b : Bool) → starts kind false s.first ts ≡ b → reads ts ≡ choice b ts
  chosen ts b e = ap (λ (c : Bool). choice c ts) e

  -- the same choice where tokens agree up to one and with it
  same_choice : (ts used rest : List T) (b : Bool) (x : T) (r more : List T) → ts ≡ used ++ rest → rest ≡ x ∷ r → starts kind false s.first ts ≡ b → reads (used ++ x ∷ more) ≡ choice b (used ++ x ∷ more)
  same_choice ts used rest b x r more split e h =
      let whole : ts ≡ used ++ x ∷ r = split ∙ ap (λ (l : List T). used ++ l) e in
      chosen (used ++ x ∷ more) b (sym (starts_alike T kind s.first used x r more) ∙ ap (starts kind false s.first) (sym whole) ∙ h)

  takes_either : (ts rest : List T) (v : A) (b : Bool) → starts kind false s.first ts ≡ b → choice b ts ≡ read v rest → Took IsEither reads ts v rest
  takes_either ts rest v true h e =
      let t = pl.takes ts rest v e in
      record { used = t.used; split = t.split; is = inl t.is; alike = λ x r more l. same_choice ts t.used rest true x r more t.split l h ∙ t.alike x r more l }
  takes_either ts rest v false h e =
      let t = ql.takes ts rest v e in
      record { used = t.used; split = t.split; is = inr t.is; alike = λ x r more l. same_choice ts t.used rest false x r more t.split l h ∙ t.alike x r more l }

  stops_either : (ts : List T) (n : ℕ) (b : Bool) → starts kind false s.first ts ≡ b → choice b ts ≡ fault n → Stuck IsEither reads ts n
  stops_either ts n true h e =
      let t = pl.stops ts n e in
      record { used = t.used; rest = t.rest; split = t.split; place = t.place; more = t.more; value = t.value; is = inl t.is; alike = λ x r more l. same_choice ts t.used t.rest true x r more t.split l h ∙ t.alike x r more l }
  stops_either ts n false h e =
      let t = ql.stops ts n e in
      record { used = t.used; rest = t.rest; split = t.split; place = t.place; more = t.more; value = t.value; is = inr t.is; alike = λ x r more l. same_choice ts t.used t.rest false x r more t.split l h ∙ t.alike x r more l }

  begins_one : (text : List T) (v : A) → p.Is text v → starts kind false s.first text ≡ true
  begins_one text v is = subst (λ (b : Bool). starts kind b s.first text ≡ true) one (pl.begins text v is)

  begins_other : (text : List T) (v : A) → q.Is text v → starts kind false u.first text ≡ true
  begins_other text v is = subst (λ (b : Bool). starts kind b u.first text ≡ true) other (ql.begins text v is)

  not_other : (ts : List T) → starts kind false u.first ts ≡ true → starts kind false s.first ts ≡ false
  not_other [] e = refl
  not_other (t ∷ ts) e = not_in_first (kind t) s.first u.first ok e

  again_either : (text rest : List T) (v : A) → IsEither text v → starts kind false (s.after ++ u.after) rest ≡ false → reads (text ++ rest) ≡ read v rest
  again_either text rest v (inl is) h =
      chosen (text ++ rest) true (starts_more T kind s.first text rest (begins_one text v is)) ∙ pl.again text rest v is (starts_neither T kind s.after u.after rest h).0
  again_either text rest v (inr is) h =
      chosen (text ++ rest) false (not_other (text ++ rest) (starts_more T kind u.first text rest (begins_other text v is))) ∙ ql.again text rest v is (starts_neither T kind s.after u.after rest h).1

  begins_either : (text : List T) (v : A) → IsEither text v → starts kind false (s.first ++ u.first) text ≡ true
  begins_either text v (inl is) = starts_first T kind s.first u.first text (begins_one text v is)
  begins_either text v (inr is) = starts_second T kind s.first u.first text (begins_other text v is)

  pub lawful_or : Lawful kind (or kind p q)
  lawful_or = record {
    takes = λ ts rest v e. takes_either ts rest v (starts kind false s.first ts) refl e;
    stops = λ ts n e. stops_either ts n (starts kind false s.first ts) refl e;
    again = again_either;
    begins = begins_either;
    some_text = pl.some_text;
    some_value = pl.some_value;
    some = inl pl.some;
  }

-- ---- a rule, or nothing

module _ (T A : Type 0) (s : Shape) (kind : T → ℕ) (p : Rule T s A) (pl : Lawful kind p) (one : s.empty ≡ false) where
  abbrev if_there : Bool → List T → Step T (Option A)
  if_there b ts = if b then and_then (p.reads ts) (λ v rest. read (Some v) rest) else read None ts

  abbrev may_read : List T → Step T (Option A)
  may_read ts = if_there (starts kind false s.first ts) ts

  is_chosen : (ts : List T) (b : Bool) → starts kind false s.first ts ≡ b → may_read ts ≡ if_there b ts
  is_chosen ts b e = ap (λ (c : Bool). if_there c ts) e

  still_chosen : (ts used rest : List T) (b : Bool) (x : T) (r more : List T) → ts ≡ used ++ rest → rest ≡ x ∷ r → starts kind false s.first ts ≡ b → may_read (used ++ x ∷ more) ≡ if_there b (used ++ x ∷ more)
  still_chosen ts used rest b x r more split e h =
      let whole : ts ≡ used ++ x ∷ r = split ∙ ap (λ (l : List T). used ++ l) e in
      is_chosen (used ++ x ∷ more) b (sym (starts_alike T kind s.first used x r more) ∙ ap (starts kind false s.first) (sym whole) ∙ h)

  took_some : (ts rest : List T) (w : A) → starts kind false s.first ts ≡ true → Took p.Is p.reads ts w rest → Took (IsOptional p.Is) may_read ts (Some w) rest
  took_some ts rest w h t = record {
    used = t.used;
    split = t.split;
    is = there t.used w t.is;
    alike = λ x r more l.
        let first : p.reads (t.used ++ x ∷ more) ≡ read w (x ∷ more) = t.alike x r more l in
        still_chosen ts t.used rest true x r more t.split l h ∙ ap (λ (step : Step T A). and_then step (λ v last. read (Some v) last)) first;
  }

  takes_some : (ts rest : List T) (v : Option A) (step : Step T A) → starts kind false s.first ts ≡ true → p.reads ts ≡ step → and_then step (λ w last. read (Some w) last) ≡ read v rest → Took (IsOptional p.Is) may_read ts v rest
  takes_some ts rest v (read w last) b h e =
      let value : Some w ≡ v = cc in
      let left : last ≡ rest = cc in
      subst (λ (x : Option A). Took (IsOptional p.Is) may_read ts x rest) value (took_some ts rest w b (pl.takes ts rest w (h ∙ ap (λ (l : List T). read w l) left)))
  takes_some ts rest v (fault n) b h e = absurd cc

  took_nothing : (ts : List T) → starts kind false s.first ts ≡ false → Took (IsOptional p.Is) may_read ts None ts
  took_nothing ts h = record {
    used = [];
    split = refl;
    is = left_out;
    alike = λ x r more l. still_chosen ts [] ts false x r more refl l h;
  }

  takes_maybe : (ts rest : List T) (v : Option A) (b : Bool) → starts kind false s.first ts ≡ b → if_there b ts ≡ read v rest → Took (IsOptional p.Is) may_read ts v rest
  takes_maybe ts rest v true h e = takes_some ts rest v (p.reads ts) h refl e
  takes_maybe ts rest v false h e =
      let value : None ≡ v = cc in
      let left : ts ≡ rest = cc in
      subst (λ (x : Option A). Took (IsOptional p.Is) may_read ts x rest) value (subst (λ (l : List T). Took (IsOptional p.Is) may_read ts None l) left (took_nothing ts h))

  stuck_some : (ts : List T) (n : ℕ) → starts kind false s.first ts ≡ true → Stuck p.Is p.reads ts n → Stuck (IsOptional p.Is) may_read ts n
  stuck_some ts n h t = record {
    used = t.used;
    rest = t.rest;
    split = t.split;
    place = t.place;
    more = t.more;
    value = Some t.value;
    is = there (t.used ++ t.more) t.value t.is;
    alike = λ x r more l.
        let first : p.reads (t.used ++ x ∷ more) ≡ fault (length (x ∷ more)) = t.alike x r more l in
        still_chosen ts t.used t.rest true x r more t.split l h ∙ ap (λ (step : Step T A). and_then step (λ v last. read (Some v) last)) first;
  }

  stops_some : (ts : List T) (n : ℕ) (step : Step T A) → starts kind false s.first ts ≡ true → p.reads ts ≡ step → and_then step (λ w last. read (Some w) last) ≡ fault n → Stuck (IsOptional p.Is) may_read ts n
  stops_some ts n (read w last) b h e = absurd cc
  stops_some ts n (fault m) b h e = let same : m ≡ n = cc in stuck_some ts n b (pl.stops ts n (h ∙ ap (λ (k : ℕ). fault k) same))

  stops_maybe : (ts : List T) (n : ℕ) (b : Bool) → starts kind false s.first ts ≡ b → if_there b ts ≡ fault n → Stuck (IsOptional p.Is) may_read ts n
  stops_maybe ts n true h e = stops_some ts n (p.reads ts) h refl e
  stops_maybe ts n false h e = absurd cc

  begins_there : (text : List T) (v : A) → p.Is text v → starts kind false s.first text ≡ true
  begins_there text v is = subst (λ (b : Bool). starts kind b s.first text ≡ true) one (pl.begins text v is)

  again_maybe : (text rest : List T) (v : Option A) → IsOptional p.Is text v → starts kind false (s.first ++ s.after) rest ≡ false → may_read (text ++ rest) ≡ read v rest
  again_maybe _ rest _ left_out h = is_chosen rest false (starts_neither T kind s.first s.after rest h).0
  again_maybe _ rest _ (there text v is) h =
      let first : p.reads (text ++ rest) ≡ read v rest = pl.again text rest v is (starts_neither T kind s.first s.after rest h).1 in
      is_chosen (text ++ rest) true (starts_more T kind s.first text rest (begins_there text v is)) ∙ ap (λ (step : Step T A). and_then step (λ w last. read (Some w) last)) first

  more_begins : (text : List T) → starts kind false s.first text ≡ true → starts kind true s.first text ≡ true
  more_begins [] e = refl
  more_begins (t ∷ text) e = e

  begins_maybe : (text : List T) (v : Option A) → IsOptional p.Is text v → starts kind true s.first text ≡ true
  begins_maybe _ _ left_out = refl
  begins_maybe _ _ (there text v is) = more_begins text (begins_there text v is)

  pub lawful_optional : Lawful kind (optional kind p)
  lawful_optional = record {
    takes = λ ts rest v e. takes_maybe ts rest v (starts kind false s.first ts) refl e;
    stops = λ ts n e. stops_maybe ts n (starts kind false s.first ts) refl e;
    again = again_maybe;
    begins = begins_maybe;
    some_text = [];
    some_value = None;
    some = left_out;
  }
