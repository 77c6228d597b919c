-- From what a reader leaves to its answer on a whole text.
use Rattle.std.proofs.Common.{◌≡◌, ℕ, List, [], ◌∷◌, length, take, drop, Ok, Err, refl, sym, ap, ◌∙◌, ◌+◌, ◌-◌, ◌≤◌, length-append, length-drop, arith}
use Rattle.std.proofs.Math.Seq.{drop-append_seam, take-length}
use Rattle.std.proofs.lemmas.List.{drop-drop}
use Rattle.al_grammar.specs.Rules.{Shape, Rule, Step, read, fault}
use Rattle.al_grammar.specs.Laws.{Lawful}
use Rattle.al_grammar.specs.Skim.{skim}
use Rattle.al_grammar.specs.Whole.{whole_of, StopsAt}
use Rattle.al_grammar.proofs.WholeTexts.{whole_stops}
use Rattle.al_spec.specs.declared.kinds.Token.{Token}
use Rattle.al_spec.specs.Grammar.{kind_of, file, file_shape, File}
use Rattle.al_spec.proofs.FileLaws.{lawful_file}

module _ (T A : Type 0) where
  pub none_left : (rest : List T) → length rest ≡ 0 → rest ≡ []
  none_left [] e = refl
  none_left (t ∷ ts) e = absurd (omega (arith, e))

  pub whole_if : (step : Step T A) (rest : List T) → skim step ≡ Ok rest → rest ≡ [] → (v : A) × (whole_of step ≡ Ok v)
  whole_if (read v []) rest e n = (v, refl)
  whole_if (read v (t ∷ ts)) rest e n = absurd cc
  whole_if (fault k) rest e n = absurd cc

  pub left_if : (step : Step T A) (rest : List T) → skim step ≡ Ok rest → (rest ≡ [] → ⊥) → whole_of step ≡ Err (length rest)
  left_if (read v []) rest e n = let same : [] ≡ rest = cc in absurd (n (sym same))
  left_if (read v (t ∷ ts)) rest e n = let same : t ∷ ts ≡ rest = cc in ap (λ (l : List T). Err (length l)) same
  left_if (fault k) rest e n = absurd cc

  pub fault_if : (step : Step T A) (n : ℕ) → skim step ≡ Err n → whole_of step ≡ Err n
  fault_if (read v rest) n e = absurd cc
  fault_if (fault k) n e = let same : k ≡ n = cc in ap (λ (m : ℕ). Err m) same

-- what is left is of the tokens
stop_bound : (ts : List Token) (n : ℕ) → StopsAt file.Is ts n → n ≤ length ts
stop_bound ts n h =
    let all : length ts ≡ length h.before + length h.from = ap length h.split ∙ length-append h.before h.from in
    let at : n ≡ length h.from = h.place in
    omega arith

pub left_bound : (ts : List Token) (n : ℕ) → whole_of (file.reads ts) ≡ Err n → n ≤ length ts
left_bound ts n e = stop_bound ts n (whole_stops Token File file_shape kind_of file lawful_file ts n e)

-- ---- what is left is the list's own end

-- the items from a place on
abbrev pub from_on : {T : Type 0} → List T → ℕ → List T
from_on all from = take (length all - from) (drop from all)

from_on_is : (T : Type 0) (all : List T) (from : ℕ) → from_on all from ≡ drop from all
from_on_is T all from = ap (λ (k : ℕ). take k (drop from all)) (sym (length-drop from all)) ∙ take-length (drop from all)

pub from_on_size : (T : Type 0) (all : List T) (from : ℕ) → length (from_on all from) ≡ length all - from
from_on_size T all from = ap length (from_on_is T all from) ∙ length-drop from all

module _ (T A : Type 0) (s : Shape) (kind : T → ℕ) (p : Rule T s A) (pl : Lawful kind p) where
  left_by : (all : List T) (from : ℕ) (rest : List T) (step : Step T A) → from ≤ length all → p.reads (drop from all) ≡ step → skim step ≡ Ok rest → rest ≡ drop (length all - length rest) all
  left_by all from rest (fault n) le h e = absurd cc
  left_by all from rest (read v last) le h e =
      let same : last ≡ rest = cc in
      let took = pl.takes (drop from all) rest v (h ∙ ap (λ (l : List T). read v l) same) in
      let size : length (drop from all) ≡ length took.used + length rest = ap length took.split ∙ length-append took.used rest in
      let there : from + length took.used ≡ length all - length rest = omega (arith, size, length-drop from all, le) in
      sym (drop-append_seam took.used rest) ∙ ap (λ (l : List T). drop (length took.used) l) (sym took.split) ∙ drop-drop (length took.used) from all ∙ ap (λ (k : ℕ). drop k all) there

  pub left_of : (all : List T) (from : ℕ) (rest : List T) → from ≤ length all → skim (p.reads (from_on all from)) ≡ Ok rest → rest ≡ from_on all (length all - length rest)
  left_of all from rest le e =
      left_by all from rest (p.reads (drop from all)) le refl (ap (λ (l : List T). skim (p.reads l)) (sym (from_on_is T all from)) ∙ e) ∙ sym (from_on_is T all (length all - length rest))
