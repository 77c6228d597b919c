-- Texts of a rule that begin with none of some kinds are read lawfully, where there is such a text.
use Rattle.std.proofs.Common.{◌≡◌, ℕ, Bool, true, false, List, [], ◌∷◌, ◌++◌, length, refl, sym, ◌∙◌, subst}
use Rattle.std.specs.Prelude.{if◌then◌else◌, ◌==◌}
use Rattle.al_grammar.specs.Kinds.{among, within, starts}
use Rattle.al_grammar.specs.Rules.{Shape, Step, Rule, read, fault}
use Rattle.al_grammar.specs.Laws.{Took, Stuck, Lawful}
use Rattle.al_grammar.proofs.FirstTokens.{clash, or_cases, or_left_false, or_right_false, in_within, not_within}
use Rattle.al_phrases.specs.declared.lexeme.Lexeme.{Lexeme}
use Rattle.al_phrases.specs.Words.{kind_of}
use Rattle.al_sql.specs.Phrases.{IsBarred, barring}

-- a kind of two lists that stands in the second
in_other : (n : ℕ) (ns ms : List ℕ) → among n (ns ++ ms) ≡ true → among n ns ≡ false → among n ms ≡ true
in_other n [] ms e f = e
in_other n (m ∷ ns) ms e f =
    or_cases (n == m) (among n (ns ++ ms)) _ e
    (λ h. absurd (clash h (or_left_false (n == m) (among n ns) f)))
    (λ h. in_other n ns ms h (or_right_false (n == m) (among n ns) f))

module _ (A : Type 0) (s w : Shape) (p : Rule Lexeme s A) (pl : Lawful kind_of p) (kinds : List ℕ) (one : s.empty ≡ false)
    (text : List Lexeme) (value : A) (text_is : p.Is text value) (free : starts kind_of false kinds text ≡ false)
    (first : within s.first (kinds ++ w.first) ≡ true) (after : within s.after w.after ≡ true) where
  abbrev the_step : Step Lexeme A → Step Lexeme A
  the_step step = step

  abbrev other_reads : List Lexeme → Step Lexeme A
  other_reads ts = if starts kind_of false kinds ts then fault (length ts) else p.reads ts

  not_empty : (v : A) → p.Is [] v → ⊥
  not_empty v i = clash (pl.begins [] v i) one

  reads_free : (ts : List Lexeme) → starts kind_of false kinds ts ≡ false → other_reads ts ≡ p.reads ts
  reads_free ts h = rw h refl

  reads_barred : (ts : List Lexeme) → starts kind_of false kinds ts ≡ true → other_reads ts ≡ fault (length ts)
  reads_barred ts h = rw h refl

  read_fault : (n : ℕ) (v : A) (rest : List Lexeme) → (the_step (fault n)) ≡ read v rest → ⊥
  read_fault n v rest e = cc

  free_front : (used rest : List Lexeme) → starts kind_of false kinds (used ++ rest) ≡ false → starts kind_of false kinds used ≡ false
  free_front [] rest h = refl
  free_front (t ∷ used) rest h = h

  free_more : (used rest : List Lexeme) (v : A) → p.Is used v → starts kind_of false kinds used ≡ false → starts kind_of false kinds (used ++ rest) ≡ false
  free_more [] rest v i h = absurd (not_empty v i)
  free_more (t ∷ used) rest v i h = h

  took : (ts rest : List Lexeme) (v : A) → starts kind_of false kinds ts ≡ false → Took p.Is p.reads ts v rest → Took (IsBarred kinds p.Is) other_reads ts v rest
  took ts rest v h t =
      let other : starts kind_of false kinds t.used ≡ false = free_front t.used rest (subst (λ (l : List Lexeme). starts kind_of false kinds l ≡ false) t.split h) in
      record {
        used = t.used;
        split = t.split;
        is = record { is = t.is; other = other };
        alike = λ x r more e. reads_free (t.used ++ x ∷ more) (free_more t.used (x ∷ more) v t.is other) ∙ t.alike x r more e;
      }

  takes_other : (ts rest : List Lexeme) (v : A) (b : Bool) → starts kind_of false kinds ts ≡ b → other_reads ts ≡ read v rest → Took (IsBarred kinds p.Is) other_reads ts v rest
  takes_other ts rest v true h e = absurd (read_fault (length ts) v rest (sym (reads_barred ts h) ∙ e))
  takes_other ts rest v false h e = took ts rest v h (pl.takes ts rest v (sym (reads_free ts h) ∙ e))

  -- where the reader stops with nothing read, the given text stands behind
  stuck_at : (ts : List Lexeme) (n : ℕ) (used rest more : List Lexeme) (v : A) → starts kind_of false kinds ts ≡ false → ts ≡ used ++ rest → n ≡ length rest → p.Is (used ++ more) v
      → ((x : Lexeme) (r others : List Lexeme) → rest ≡ x ∷ r → p.reads (used ++ x ∷ others) ≡ fault (length (x ∷ others)))
      → Stuck (IsBarred kinds p.Is) other_reads ts n
  stuck_at ts n [] rest more v h split place i alike = record {
    used = [];
    rest = rest;
    split = split;
    place = place;
    more = text;
    value = value;
    is = record { is = text_is; other = free };
    alike = λ x r others e. reads_free (x ∷ others) (subst (λ (l : List Lexeme). starts kind_of false kinds l ≡ false) (split ∙ e) h) ∙ alike x r others e;
  }
  stuck_at ts n (t ∷ used) rest more v h split place i alike =
      let front : among (kind_of t) kinds ≡ false = subst (λ (l : List Lexeme). starts kind_of false kinds l ≡ false) split h in
      record {
        used = t ∷ used;
        rest = rest;
        split = split;
        place = place;
        more = more;
        value = v;
        is = record { is = i; other = front };
        alike = λ x r others e. reads_free (t ∷ (used ++ x ∷ others)) front ∙ alike x r others e;
      }

  same_fault : (n m : ℕ) → (the_step (fault n)) ≡ fault m → m ≡ n
  same_fault n m e = cc

  stops_other : (ts : List Lexeme) (n : ℕ) (b : Bool) → starts kind_of false kinds ts ≡ b → other_reads ts ≡ fault n → Stuck (IsBarred kinds p.Is) other_reads ts n
  stops_other ts n true h e = record {
    used = [];
    rest = ts;
    split = refl;
    place = same_fault (length ts) n (sym (reads_barred ts h) ∙ e);
    more = text;
    value = value;
    is = record { is = text_is; other = free };
    alike = λ x r others e. reads_barred (x ∷ others) (subst (λ (l : List Lexeme). starts kind_of false kinds l ≡ true) e h);
  }
  stops_other ts n false h e =
      let t = pl.stops ts n (sym (reads_free ts h) ∙ e) in
      stuck_at ts n t.used t.rest t.more t.value h t.split t.place t.is t.alike

  after_other : (rest : List Lexeme) → starts kind_of false w.after rest ≡ false → starts kind_of false s.after rest ≡ false
  after_other [] e = refl
  after_other (t ∷ ts) e = not_within (kind_of t) s.after w.after after e

  begins_other : (used : List Lexeme) (v : A) → IsBarred kinds p.Is used v → starts kind_of w.empty w.first used ≡ true
  begins_other [] v i = absurd (not_empty v i.is)
  begins_other (t ∷ ts) v i = in_other (kind_of t) kinds w.first (in_within (kind_of t) s.first (kinds ++ w.first) first (pl.begins (t ∷ ts) v i.is)) i.other

  pub lawful_barring : Lawful kind_of (barring kinds w p)
  lawful_barring = record {
    takes = λ ts rest v e. takes_other ts rest v (starts kind_of false kinds ts) refl e;
    stops = λ ts n e. stops_other ts n (starts kind_of false kinds ts) refl e;
    again = λ used rest v i e. reads_free (used ++ rest) (free_more used rest v i.is i.other) ∙ pl.again used rest v i.is (after_other rest e);
    begins = begins_other;
    some_text = text;
    some_value = value;
    some = record { is = text_is; other = free };
  }
