-- The family that a search has met.
use Rattle.std.proofs.Common.{◌≡◌, ℕ, ◌<◌, ◌↔◌, Bool, true, false, not, ◌||◌, List, [], ◌∷◌, refl, sym, ◌∙◌, ap, subst, arith, Result, Ok, Err, IfOk}
use Rattle.std.specs.Prelude.{◌==◌}
use Rattle.std.proofs.lemmas.Bool.{eqb-true, eqb-false, eq-eqb, ne_eqb, and_parts, and_from, not-true, not_from_false, both_ways}
use Rattle.al_tree.specs.declared.line.Line.{Line}
use Rattle.al_tree.specs.Ascending.{AllAbove, Ascends, is_among, without}
use Rattle.al_tree.specs.Links.{Inherits, Descends, IsFamily}
use Rattle.al_tree.specs.Lines.{links_in}
use Rattle.al_tree.proofs.Sorted.{above-out, among-without, without-ascends}

pub family-is : (lines : List Line) (table : ℕ) (met family : List ℕ) → Ascends met
    → ((t : ℕ) → (is_among t met ≡ true) ↔ Descends (links_in lines) table t)
    → family ≡ table ∷ without table met → IsFamily (links_in lines) table family
family-is lines table met family up found e = record {
  others = without table met;
  first = e;
  ascends = without-ascends table met up;
  members = λ t.
      let same = among-without t table met in (
        λ h. let p = and_parts (is_among t met) (not (table == t)) (sym same ∙ h) in ((found t).0 p.0, λ d. eqb-false table t (not-true (table == t) p.1) (sym d)),
        λ d. same ∙ and_from _ _ ((found t).1 d.0) (not_from_false (table == t) (ne_eqb table t (λ f. d.1 (sym f)))),
      );
}

-- two families of a table are the same list

same-rest : (xs ys : List ℕ) → Ascends xs → Ascends ys → ((t : ℕ) → is_among t xs ≡ is_among t ys) → xs ≡ ys
same-rest [] [] a b e = refl
same-rest [] (y ∷ ys) a b e = absurd (both_ways (is_among y (y ∷ ys)) (sym (e y)) (rw (eq-eqb y y refl) refl))
same-rest (x ∷ xs) [] a b e = absurd (both_ways (is_among x (x ∷ xs)) (e x) (rw (eq-eqb x x refl) refl))
same-rest (x ∷ xs) (y ∷ ys) a b e =
    let same : x ≡ y = least (x == y) refl in
    rw same (ap (λ zs. y ∷ zs) (same-rest xs ys a.1 b.1 (λ t. rest t (x == t) refl same))) where
      below : (x y : ℕ) (xs ys : List ℕ) → AllAbove y ys → (x ≡ y → ⊥) → is_among x (y ∷ ys) ≡ true → y < x
      below x y xs [] all apart h = absurd (apart (sym (by (y == x) refl h))) where
        by : (b : Bool) → (y == x) ≡ b → (b || false) ≡ true → y ≡ x
        by true e h = eqb-true y x e
        by false e h = absurd (cc)
      below x y xs (z ∷ zs) all apart h = by (y == x) refl h where
        far : (low : ℕ) (zs : List ℕ) → AllAbove low zs → is_among x zs ≡ true → low < x
        far low [] all h = absurd (cc)
        far low (z ∷ zs) all h = one (z == x) refl h (far low zs all.1) where
          one : (b : Bool) → (z == x) ≡ b → (b || is_among x zs) ≡ true → (is_among x zs ≡ true → low < x) → low < x
          one true e h more = let f = eqb-true z x e in omega (arith, all.0)
          one false e h more = more h

        by : (b : Bool) → (y == x) ≡ b → (b || is_among x (z ∷ zs)) ≡ true → y < x
        by true e h = absurd (apart (sym (eqb-true y x e)))
        by false e h = far y (z ∷ zs) all h

      least : (b : Bool) → (x == y) ≡ b → x ≡ y
      least true f = eqb-true x y f
      least false f =
          let apart : x ≡ y → ⊥ = eqb-false x y f in
          let one : y < x = below x y xs ys b.0 apart (sym (e x) ∙ rw (eq-eqb x x refl) refl) in
          let two : x < y = below y x ys xs a.0 (λ g. apart (sym g)) (e y ∙ rw (eq-eqb y y refl) refl) in
          absurd (omega arith)

      rest : (t : ℕ) (b : Bool) → (x == t) ≡ b → x ≡ y → is_among t xs ≡ is_among t ys
      rest t true f same =
          let here = eqb-true x t f in
          above-out t xs (subst (λ (n : ℕ). AllAbove n xs) here a.0) ∙ sym (above-out t ys (subst (λ (n : ℕ). AllAbove n ys) (sym same ∙ here) b.0))
      rest t false f same =
          let g : (y == t) ≡ false = ap (λ (n : ℕ). n == t) (sym same) ∙ f in
          let h : (false || is_among t xs) ≡ (false || is_among t ys) = ap (λ c. c || is_among t xs) (sym f) ∙ e t ∙ ap (λ c. c || is_among t ys) g in h

same-truth : (a b : Bool) (P : Type 0) → ((a ≡ true) ↔ P) → ((b ≡ true) ↔ P) → a ≡ b
same-truth true b P p q = sym (q.1 (p.0 refl))
same-truth false true P p q = absurd (both_ways false refl (p.1 (q.0 refl)))
same-truth false false P p q = refl

pub one_family : (links : List Inherits) (table : ℕ) (one other : List ℕ) → IsFamily links table one → IsFamily links table other → one ≡ other
one_family links table one other a b =
    a.first ∙ ap (λ ts. table ∷ ts) (same-rest a.others b.others a.ascends b.ascends (λ t. same-truth _ _ _ (a.members t) (b.members t))) ∙ sym b.first

pub family-listed : {E : Type 0} (links : List Inherits) (table : ℕ) (r : Result (List ℕ) E) (lines slice : List Line) (met items : List ℕ) → links_in lines ≡ links → slice ≡ lines
    → Ascends met → ((t : ℕ) → (is_among t met ≡ true) ↔ Descends (links_in slice) table t) → items ≡ met
    → IfOk r (λ family. family ≡ table ∷ without table items) → IfOk r (IsFamily links table)
family-listed links table (Err e) lines slice met items view a up found b h = tt
family-listed links table (Ok family) lines slice met items view a up found b h =
    subst (λ (ls : List Inherits). IsFamily ls table family) view
    (family-is lines table met family up (subst (λ (ls : List Line). (t : ℕ) → (is_among t met ≡ true) ↔ Descends (links_in ls) table t) a found)
    (h ∙ ap (λ (ms : List ℕ). table ∷ without table ms) b))
