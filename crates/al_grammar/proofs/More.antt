-- Left folds, and wider shapes.
use Rattle.std.proofs.Common.{◌≡◌, ℕ, true, false, List, [], ◌∷◌, refl}
use Rattle.al_grammar.specs.Kinds.{apart, within, starts}
use Rattle.al_grammar.specs.Rules.{Shape, Rule, pair, many, both, folded, chain, widen}
use Rattle.al_grammar.specs.Laws.{Lawful}
use Rattle.al_grammar.proofs.FirstTokens.{in_within, not_within}
use Rattle.al_grammar.proofs.Pair.{lawful_pair}
use Rattle.al_grammar.proofs.Many.{lawful_many}

module _ (T A O : Type 0) (s u : Shape) (kind : T → ℕ) (f : A → O → A → A) (p : Rule T s A) (q : Rule T u O) (pl : Lawful kind p) (ql : Lawful kind q)
    (one : (both u s).empty ≡ false) (ok : apart u.after s.first ≡ true) (again : apart (both u s).after (both u s).first ≡ true) (then : apart s.after (both u s).first ≡ true) where
  pub lawful_chain : Lawful kind (chain kind f p q)
  lawful_chain =
      let each = lawful_pair T O A (O × A) u s kind q p (λ o x. (o, x)) ql pl ok in
      lawful_pair T A (List (O × A)) A s _ kind p (many kind (pair (λ o x. (o, x)) q p)) (folded f) pl (lawful_many T (O × A) (both u s) kind (pair (λ o x. (o, x)) q p) each one again) then

module _ (T A : Type 0) (s w : Shape) (kind : T → ℕ) (p : Rule T s A) (pl : Lawful kind p)
    (empty : s.empty ≡ true → w.empty ≡ true) (first : within s.first w.first ≡ true) (after : within s.after w.after ≡ true) where
  begins_wide : (text : List T) → starts kind s.empty s.first text ≡ true → starts kind w.empty w.first text ≡ true
  begins_wide [] e = empty e
  begins_wide (t ∷ ts) e = in_within (kind t) s.first w.first first e

  after_wide : (rest : List T) → starts kind false w.after rest ≡ false → starts kind false s.after rest ≡ false
  after_wide [] e = refl
  after_wide (t ∷ ts) e = not_within (kind t) s.after w.after after e

  pub lawful_widen : Lawful kind (widen w p)
  lawful_widen = record {
    takes = pl.takes;
    stops = pl.stops;
    again = λ text rest v is e. pl.again text rest v is (after_wide rest e);
    begins = λ text v is. begins_wide text (pl.begins text v is);
    some_text = pl.some_text;
    some_value = pl.some_value;
    some = pl.some;
  }
