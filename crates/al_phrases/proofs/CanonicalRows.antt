-- One more in a row keeps a tree canonical, and so do rows that are added in turn.
use Rattle.std.proofs.Common.{◌≡◌, ℕ, Bool, true, false, List, [], ◌∷◌, ◌++◌, refl, sym, ap, ◌∙◌}
use Rattle.std.specs.Prelude.{◌&&◌, not, ◌==◌, if◌then◌else◌}
use Rattle.std.proofs.lemmas.Bool.{eqb-true, eq-eqb}
use Rattle.al_values.specs.declared.kinds.Kind.{Kind}
use Rattle.al_expr.specs.declared.tree.Operator.{Operator}
use Rattle.al_expr.specs.declared.tree.Operator.TheVariants as operators
use Rattle.al_expr.specs.declared.tree.Arithmetic.TheVariants as arithmetics
use Rattle.al_expr.specs.declared.tree.Prefix.{Prefix}
use Rattle.al_expr.specs.declared.tree.Expr.{Expr, out-Expr, roll-Expr, roll-out-Expr, out-roll-Expr}
use Rattle.al_expr.specs.declared.tree.Expr.TheOpen.{Expr-F}
use Rattle.al_expr.specs.declared.tree.Expr.TheVariants as e
use Rattle.al_phrases.specs.Rows.{Link, precedence, row_precedence, extended_by, extended, prefixed_by, prefixed, cast_by, cast_to, tested_by, tested, in_turn}
use Rattle.al_phrases.specs.Canonical.{row_in, is_prefixed, is_cast, is_test, has_some, all_of, is_row, is_canonical, links_canonical, items_canonical}
use Rattle.al_phrases.proofs.CanonicalNodes.{canonical_chain, canonical_prefixed, canonical_casts, canonical_tests}
use Rattle.al_grammar.proofs.FirstTokens.{and_left, and_right}

both_true : {a b : Bool} → a ≡ true → b ≡ true → (a && b) ≡ true
both_true a b = rw (a, b) refl

same_number : (n : ℕ) → (n == n) ≡ true
same_number n = eq-eqb n n refl

-- ---- operators

links_more : (links : List Link) (link : Link) → links_canonical links ≡ true → is_canonical link.2 ≡ true → links_canonical (links ++ link ∷ []) ≡ true
unfolding links_canonical
links_more [] link ls l = both_true l refl
links_more (other ∷ links) link ls l = both_true (and_left _ _ ls) (links_more links link (and_right _ _ ls) l)

all_more : (p : ℕ) (links : List Link) (link : Link) → all_of p links ≡ true → (precedence link.1 == p) ≡ true → all_of p (links ++ link ∷ []) ≡ true
all_more p [] link ls l = both_true l refl
all_more p (other ∷ links) link ls l = both_true (and_left _ _ ls) (all_more p links link (and_right _ _ ls) l)

row_more : (first : ℕ) (links : List Link) (link : Link) → is_row first links ≡ true → (row_precedence links == precedence link.1) ≡ true → is_row first (links ++ link ∷ []) ≡ true
row_more first [] link row same = absurd cc
row_more first (other ∷ links) link row same =
    let equal : precedence other.1 ≡ precedence link.1 = eqb-true _ _ same in
    both_true (all_more (precedence other.1) links link (and_left _ _ row) (rw equal (same_number (precedence link.1)))) (and_right _ _ row)

-- a row that begins with what is no row of its precedence
new_row : (left : Expr) (link : Link) → is_canonical left ≡ true → is_canonical link.2 ≡ true → (row_in (out-Expr left) == precedence link.1) ≡ false → is_canonical (e.Chain left (link ∷ [])) ≡ true
unfolding links_canonical
new_row left link l r other = canonical_chain left (link ∷ []) ∙ both_true l (both_true (both_true r refl) (rw other refl))

no_row : (o : Operator) → (0 == precedence o) ≡ false
no_row operators.Or = refl
no_row operators.And = refl
no_row (operators.Compare c) = refl
no_row operators.Concat = refl
no_row (operators.Calculate arithmetics.Add) = refl
no_row (operators.Calculate arithmetics.Subtract) = refl
no_row (operators.Calculate arithmetics.Multiply) = refl
no_row (operators.Calculate arithmetics.Divide) = refl
no_row (operators.Calculate arithmetics.Remainder) = refl

chained : (left : Expr) (link : Link) (first : Expr) (links : List Link) → left ≡ e.Chain first links → is_canonical left ≡ true → is_canonical link.2 ≡ true
    → is_canonical (extended_by (Expr-F.Chain first links) left link) ≡ true
chained left link first links is l r = by_test (row_precedence links == precedence link.1) refl where
  parts : (is_canonical first && (links_canonical links && is_row (row_in (out-Expr first)) links)) ≡ true
  parts = sym (canonical_chain first links) ∙ ap is_canonical (sym is) ∙ l

  by_test : (b : Bool) → (row_precedence links == precedence link.1) ≡ b → is_canonical (if b then e.Chain first (links ++ link ∷ []) else e.Chain left (link ∷ [])) ≡ true
  by_test true same =
      canonical_chain first (links ++ link ∷ [])
      ∙ both_true (and_left _ _ parts) (both_true (links_more links link (and_left _ _ (and_right _ _ parts)) r) (row_more _ links link (and_right _ _ (and_right _ _ parts)) same))
  by_test false other = new_row left link l r (rw (is, e.outs-Chain first links) other)

extended_node : (node : Expr-F Expr) (left : Expr) (link : Link) → roll-Expr node ≡ left → is_canonical left ≡ true → is_canonical link.2 ≡ true → is_canonical (extended_by node left link) ≡ true
extended_node (Expr-F.Chain first links) left link is l r = chained left link first links (sym is ∙ e.rolls-Chain first links) l r
extended_node (Expr-F.Literal a b) left link is l r = new_row left link l r (rw (← is, out-roll-Expr (Expr-F.Literal a b)) (no_row link.1))
extended_node (Expr-F.Date a b) left link is l r = new_row left link l r (rw (← is, out-roll-Expr (Expr-F.Date a b)) (no_row link.1))
extended_node (Expr-F.Column a b) left link is l r = new_row left link l r (rw (← is, out-roll-Expr (Expr-F.Column a b)) (no_row link.1))
extended_node (Expr-F.Prefixed a b) left link is l r = new_row left link l r (rw (← is, out-roll-Expr (Expr-F.Prefixed a b)) (no_row link.1))
extended_node (Expr-F.Casts a b) left link is l r = new_row left link l r (rw (← is, out-roll-Expr (Expr-F.Casts a b)) (no_row link.1))
extended_node (Expr-F.IsNull a b) left link is l r = new_row left link l r (rw (← is, out-roll-Expr (Expr-F.IsNull a b)) (no_row link.1))
extended_node (Expr-F.Between a b c d f) left link is l r = new_row left link l r (rw (← is, out-roll-Expr (Expr-F.Between a b c d f)) (no_row link.1))
extended_node (Expr-F.In a b c d) left link is l r = new_row left link l r (rw (← is, out-roll-Expr (Expr-F.In a b c d)) (no_row link.1))
extended_node (Expr-F.Coalesce a b) left link is l r = new_row left link l r (rw (← is, out-roll-Expr (Expr-F.Coalesce a b)) (no_row link.1))
extended_node (Expr-F.Abs a b) left link is l r = new_row left link l r (rw (← is, out-roll-Expr (Expr-F.Abs a b)) (no_row link.1))
extended_node (Expr-F.Length a b) left link is l r = new_row left link l r (rw (← is, out-roll-Expr (Expr-F.Length a b)) (no_row link.1))

pub canonical_extended : (left : Expr) (link : Link) → is_canonical left ≡ true → is_canonical link.2 ≡ true → is_canonical (extended left link) ≡ true
unfolding extended
canonical_extended left link l r = extended_node (out-Expr left) left link (roll-out-Expr left) l r

-- ---- prefixes, casts and tests

some_more : {A : Type 0} (xs : List A) (x : A) → has_some (xs ++ x ∷ []) ≡ true
some_more [] x = refl
some_more (y ∷ ys) x = refl

module _ (left : Expr) (l : is_canonical left ≡ true) where
  prefixed_node : (node : Expr-F Expr) (prefix : ℕ × Prefix) → out-Expr left ≡ node → left ≡ roll-Expr node → is_canonical (prefixed_by node left prefix) ≡ true
  prefixed_node (Expr-F.Prefixed operand prefixes) prefix out is =
      let parts : (is_canonical operand && (has_some prefixes && not (is_prefixed (out-Expr operand)))) ≡ true = sym (canonical_prefixed operand prefixes) ∙ ap is_canonical (sym (is ∙ e.rolls-Prefixed operand prefixes)) ∙ l in
      canonical_prefixed operand (prefixes ++ prefix ∷ []) ∙ both_true (and_left _ _ parts) (both_true (some_more prefixes prefix) (and_right _ _ (and_right _ _ parts)))
  prefixed_node (Expr-F.Literal a b) prefix out is = canonical_prefixed left (prefix ∷ []) ∙ both_true l (rw out refl)
  prefixed_node (Expr-F.Date a b) prefix out is = canonical_prefixed left (prefix ∷ []) ∙ both_true l (rw out refl)
  prefixed_node (Expr-F.Column a b) prefix out is = canonical_prefixed left (prefix ∷ []) ∙ both_true l (rw out refl)
  prefixed_node (Expr-F.Chain a b) prefix out is = canonical_prefixed left (prefix ∷ []) ∙ both_true l (rw out refl)
  prefixed_node (Expr-F.Casts a b) prefix out is = canonical_prefixed left (prefix ∷ []) ∙ both_true l (rw out refl)
  prefixed_node (Expr-F.IsNull a b) prefix out is = canonical_prefixed left (prefix ∷ []) ∙ both_true l (rw out refl)
  prefixed_node (Expr-F.Between a b c d f) prefix out is = canonical_prefixed left (prefix ∷ []) ∙ both_true l (rw out refl)
  prefixed_node (Expr-F.In a b c d) prefix out is = canonical_prefixed left (prefix ∷ []) ∙ both_true l (rw out refl)
  prefixed_node (Expr-F.Coalesce a b) prefix out is = canonical_prefixed left (prefix ∷ []) ∙ both_true l (rw out refl)
  prefixed_node (Expr-F.Abs a b) prefix out is = canonical_prefixed left (prefix ∷ []) ∙ both_true l (rw out refl)
  prefixed_node (Expr-F.Length a b) prefix out is = canonical_prefixed left (prefix ∷ []) ∙ both_true l (rw out refl)

  cast_node : (node : Expr-F Expr) (cast : ℕ × Kind) → out-Expr left ≡ node → left ≡ roll-Expr node → is_canonical (cast_by node left cast) ≡ true
  cast_node (Expr-F.Casts operand casts) cast out is =
      let parts : (is_canonical operand && (has_some casts && not (is_cast (out-Expr operand)))) ≡ true = sym (canonical_casts operand casts) ∙ ap is_canonical (sym (is ∙ e.rolls-Casts operand casts)) ∙ l in
      canonical_casts operand (casts ++ cast ∷ []) ∙ both_true (and_left _ _ parts) (both_true (some_more casts cast) (and_right _ _ (and_right _ _ parts)))
  cast_node (Expr-F.Literal a b) cast out is = canonical_casts left (cast ∷ []) ∙ both_true l (rw out refl)
  cast_node (Expr-F.Date a b) cast out is = canonical_casts left (cast ∷ []) ∙ both_true l (rw out refl)
  cast_node (Expr-F.Column a b) cast out is = canonical_casts left (cast ∷ []) ∙ both_true l (rw out refl)
  cast_node (Expr-F.Chain a b) cast out is = canonical_casts left (cast ∷ []) ∙ both_true l (rw out refl)
  cast_node (Expr-F.Prefixed a b) cast out is = canonical_casts left (cast ∷ []) ∙ both_true l (rw out refl)
  cast_node (Expr-F.IsNull a b) cast out is = canonical_casts left (cast ∷ []) ∙ both_true l (rw out refl)
  cast_node (Expr-F.Between a b c d f) cast out is = canonical_casts left (cast ∷ []) ∙ both_true l (rw out refl)
  cast_node (Expr-F.In a b c d) cast out is = canonical_casts left (cast ∷ []) ∙ both_true l (rw out refl)
  cast_node (Expr-F.Coalesce a b) cast out is = canonical_casts left (cast ∷ []) ∙ both_true l (rw out refl)
  cast_node (Expr-F.Abs a b) cast out is = canonical_casts left (cast ∷ []) ∙ both_true l (rw out refl)
  cast_node (Expr-F.Length a b) cast out is = canonical_casts left (cast ∷ []) ∙ both_true l (rw out refl)

  test_node : (node : Expr-F Expr) (test : ℕ × Bool) → out-Expr left ≡ node → left ≡ roll-Expr node → is_canonical (tested_by node left test) ≡ true
  test_node (Expr-F.IsNull operand tests) test out is =
      let parts : (is_canonical operand && (has_some tests && not (is_test (out-Expr operand)))) ≡ true = sym (canonical_tests operand tests) ∙ ap is_canonical (sym (is ∙ e.rolls-IsNull operand tests)) ∙ l in
      canonical_tests operand (tests ++ test ∷ []) ∙ both_true (and_left _ _ parts) (both_true (some_more tests test) (and_right _ _ (and_right _ _ parts)))
  test_node (Expr-F.Literal a b) test out is = canonical_tests left (test ∷ []) ∙ both_true l (rw out refl)
  test_node (Expr-F.Date a b) test out is = canonical_tests left (test ∷ []) ∙ both_true l (rw out refl)
  test_node (Expr-F.Column a b) test out is = canonical_tests left (test ∷ []) ∙ both_true l (rw out refl)
  test_node (Expr-F.Chain a b) test out is = canonical_tests left (test ∷ []) ∙ both_true l (rw out refl)
  test_node (Expr-F.Prefixed a b) test out is = canonical_tests left (test ∷ []) ∙ both_true l (rw out refl)
  test_node (Expr-F.Casts a b) test out is = canonical_tests left (test ∷ []) ∙ both_true l (rw out refl)
  test_node (Expr-F.Between a b c d f) test out is = canonical_tests left (test ∷ []) ∙ both_true l (rw out refl)
  test_node (Expr-F.In a b c d) test out is = canonical_tests left (test ∷ []) ∙ both_true l (rw out refl)
  test_node (Expr-F.Coalesce a b) test out is = canonical_tests left (test ∷ []) ∙ both_true l (rw out refl)
  test_node (Expr-F.Abs a b) test out is = canonical_tests left (test ∷ []) ∙ both_true l (rw out refl)
  test_node (Expr-F.Length a b) test out is = canonical_tests left (test ∷ []) ∙ both_true l (rw out refl)

  pub canonical_prefix : (prefix : ℕ × Prefix) → is_canonical (prefixed left prefix) ≡ true
  unfolding prefixed
  canonical_prefix prefix = prefixed_node (out-Expr left) prefix refl (sym (roll-out-Expr left))

  pub canonical_cast : (cast : ℕ × Kind) → is_canonical (cast_to left cast) ≡ true
  unfolding cast_to
  canonical_cast cast = cast_node (out-Expr left) cast refl (sym (roll-out-Expr left))

  pub canonical_test : (test : ℕ × Bool) → is_canonical (tested left test) ≡ true
  unfolding tested
  canonical_test test = test_node (out-Expr left) test refl (sym (roll-out-Expr left))

-- ---- in turn

-- all of a list
abbrev pub All_of : {A : Type 0} → (A → Type 0) → List A → Type 0
All_of P [] = Unit {0}
All_of P (x ∷ xs) = P x × All_of P xs

pub in_turn_keeps : (A B : Type 0) (P : A → Type 0) (Q : B → Type 0) (f : B → A → B) → ((x : B) (y : A) → Q x → P y → Q (f x y)) → (x : B) (ys : List A) → Q x → All_of P ys → Q (in_turn f x ys)
in_turn_keeps A B P Q f keeps x [] q ps = q
in_turn_keeps A B P Q f keeps x (y ∷ ys) q ps = in_turn_keeps A B P Q f keeps (f x y) ys (keeps x y q ps.0) ps.1

pub items_all : (items : List Expr) → All_of (λ x. is_canonical x ≡ true) items → items_canonical items ≡ true
unfolding items_canonical
items_all [] all = refl
items_all (item ∷ items) all = both_true all.0 (items_all items all.1)
