-- Words in a table in the alphabet's order, which halves tell apart.
use Rattle.std.proofs.Common.{◌≡◌, ℕ, suc, ◌+◌, ◌<◌, ◌≤◌, Bool, true, false, List, [], ◌∷◌, ◌++◌, length, take, drop, get_or, zero, ◌/◌, ◌-◌, refl, sym, ap, ◌∙◌, subst, arith}
use Rattle.std.specs.Prelude.{◌&&◌, ◌==◌, bytes_eq}
use Rattle.std.proofs.lemmas.Bool.{eqb-false}
use Rattle.std.proofs.Math.ListN.{length-take, length-drop}
use Rattle.std.proofs.lemmas.List.{take_all}
use Rattle.std.specs.Ordering.{is_lt, is_eq, ordering_reverse, nat_cmp}
use Rattle.std.specs.declared.cmp.Ordering.{Ordering}
use Rattle.std.specs.declared.cmp.Ordering.TheVariants.{Less, Equal, Greater}
use Rattle.std.specs.Cmp.Lexicographic.{slice_cmp, nat_list_cmp_total, texts_ties, bytes_decides}
use denote.Ref.{Bor}
use Rattle.al_lexemes.specs.Words.{kind_in, precedes, precedes_first, ascending, rows_of}

abbrev Rows : Type 0
Rows = List (List ℕ × ℕ)

both : (a b : Bool) → a && b ≡ true → (a ≡ true) × (b ≡ true)
both true b e = (refl, e)
both false b e = absurd cc

-- ---- the order

is_less : (c : Ordering) → is_lt c ≡ true → c ≡ Less
is_less Less e = refl
is_less Equal e = absurd cc
is_less Greater e = absurd cc

chain : (u v w : List ℕ) → precedes u v ≡ true → precedes v w ≡ true → precedes u w ≡ true
chain u v w a b = ap is_lt (nat_list_cmp_total.trans u v w (is_less _ a) (is_less _ b))

differs : (v w : List ℕ) → precedes v w ≡ true → bytes_eq v w ≡ false
differs v w a = texts_ties v w ∙ ap is_eq (is_less _ a)

differs_back : (v w : List ℕ) → precedes v w ≡ true → bytes_eq w v ≡ false
differs_back v w a = texts_ties w v ∙ ap is_eq (nat_list_cmp_total.antisymm w v ∙ ap ordering_reverse (is_less _ a))

-- ---- words that a table lacks

abbrev Lacks : Rows → List ℕ → Type 0
Lacks [] w = Unit {0}
Lacks (row ∷ rows) w = (bytes_eq row.0 w ≡ false) × Lacks rows w

lacks_all : (rows : Rows) (other : ℕ) (w : List ℕ) → Lacks rows w → kind_in rows other w ≡ other
lacks_all [] other w h = refl
lacks_all (row ∷ rows) other w h = rw (h.0) (lacks_all rows other w h.1)

lacks_front : (xs ys : Rows) (other : ℕ) (w : List ℕ) → Lacks xs w → kind_in (xs ++ ys) other w ≡ kind_in ys other w
lacks_front [] ys other w h = refl
lacks_front (x ∷ xs) ys other w h = rw (h.0) (lacks_front xs ys other w h.1)

lacks_back : (xs ys : Rows) (other : ℕ) (w : List ℕ) → Lacks ys w → kind_in (xs ++ ys) other w ≡ kind_in xs other w
lacks_back [] ys other w h = lacks_all ys other w h
lacks_back (x ∷ xs) ys other w h = rw (lacks_back xs ys other w h) refl

-- ---- what stands before and behind a row

reaches : (v : List ℕ) (xs ys : Rows) (row : List ℕ × ℕ) → precedes_first v (xs ++ row ∷ ys) ≡ true → ascending (xs ++ row ∷ ys) ≡ true → precedes v row.0 ≡ true
reaches v [] ys row a b = a
reaches v (x ∷ xs) ys row a b =
    let p = both (precedes_first x.0 (xs ++ row ∷ ys)) (ascending (xs ++ row ∷ ys)) b in
    chain v x.0 row.0 a (reaches x.0 xs ys row p.0 p.1)

-- what no word before a row is, none before it is
before : (xs ys : Rows) (row : List ℕ × ℕ) (w : List ℕ) → ascending (xs ++ row ∷ ys) ≡ true → ((v : List ℕ) → precedes v row.0 ≡ true → bytes_eq v w ≡ false) → Lacks xs w
before [] ys row w a no_word = tt
before (x ∷ xs) ys row w a no_word =
    let p = both (precedes_first x.0 (xs ++ row ∷ ys)) (ascending (xs ++ row ∷ ys)) a in
    (no_word x.0 (reaches x.0 xs ys row p.0 p.1), before xs ys row w p.1 no_word)

first_on : (w v : List ℕ) (rows : Rows) → precedes w v ≡ true → precedes_first v rows ≡ true → precedes_first w rows ≡ true
first_on w v [] a b = refl
first_on w v (row ∷ rows) a b = chain w v row.0 a b

behind : (rows : Rows) (w : List ℕ) → precedes_first w rows ≡ true → ascending rows ≡ true → Lacks rows w
behind [] w a b = tt
behind (row ∷ rows) w a b =
    let p = both (precedes_first row.0 rows) (ascending rows) b in
    (differs_back w row.0 a, behind rows w (first_on w row.0 rows a p.0) p.1)

ascending_back : (xs ys : Rows) (row : List ℕ × ℕ) → ascending (xs ++ row ∷ ys) ≡ true → (ascending ys ≡ true) × (ascending (row ∷ ys) ≡ true)
ascending_back [] ys row a = let p = both (precedes_first row.0 ys) (ascending ys) a in (p.1, a)
ascending_back (x ∷ xs) ys row a = let p = both (precedes_first x.0 (xs ++ row ∷ ys)) (ascending (xs ++ row ∷ ys)) a in ascending_back xs ys row p.1

first_front : (v : List ℕ) (xs ys : Rows) → precedes_first v (xs ++ ys) ≡ true → precedes_first v xs ≡ true
first_front v [] ys a = refl
first_front v (x ∷ xs) ys a = a

ascending_front : (xs ys : Rows) → ascending (xs ++ ys) ≡ true → ascending xs ≡ true
ascending_front [] ys a = refl
ascending_front (x ∷ xs) ys a =
    let p = both (precedes_first x.0 (xs ++ ys)) (ascending (xs ++ ys)) a in
    rw (first_front x.0 xs ys p.0, ascending_front xs ys p.1) refl

-- ---- one step of the search, at a row

module _ (xs ys : Rows) (row : List ℕ × ℕ) (other : ℕ) (w : List ℕ) (a : ascending (xs ++ row ∷ ys) ≡ true) where
  pub at_row : slice_cmp nat_cmp w row.0 ≡ Equal → kind_in (xs ++ row ∷ ys) other w ≡ row.1
  at_row e =
      let eq : bytes_eq w row.0 ≡ true = texts_ties w row.0 ∙ ap is_eq e in
      let same : w ≡ row.0 = (bytes_decides w row.0).0 eq in
      let back : bytes_eq row.0 w ≡ true = (bytes_decides row.0 w).1 (sym same) in
      let front = before xs ys row w a (λ v p. subst (λ (u : List ℕ). bytes_eq v u ≡ false) (sym same) (differs v row.0 p)) in
      lacks_front xs (row ∷ ys) other w front ∙ rw back refl

  pub below_row : slice_cmp nat_cmp w row.0 ≡ Less → (kind_in xs other w ≡ kind_in (xs ++ row ∷ ys) other w) × (ascending xs ≡ true)
  below_row e = (sym (lacks_back xs (row ∷ ys) other w (behind (row ∷ ys) w (ap is_lt e) (ascending_back xs ys row a).1)), ascending_front xs (row ∷ ys) a)

  pub above_row : slice_cmp nat_cmp w row.0 ≡ Greater → (kind_in ys other w ≡ kind_in (xs ++ row ∷ ys) other w) × (ascending ys ≡ true)
  above_row e =
      let less : precedes row.0 w ≡ true = ap is_lt (nat_list_cmp_total.antisymm row.0 w ∙ ap ordering_reverse e) in
      let front = before xs ys row w a (λ v p. differs v w (chain v row.0 w p less)) in
      (sym (lacks_front xs (row ∷ ys) other w front ∙ rw (differs row.0 w less) refl), (ascending_back xs ys row a).0)

-- ---- the same at a place of a table

module _ (d : Bor (List ℕ) × ℕ) where
  halves : (table : List (Bor (List ℕ) × ℕ)) (m : ℕ) → m < length table
      → rows_of table ≡ rows_of (take m table) ++ ((get_or table m d).0.now, (get_or table m d).1) ∷ rows_of (drop (suc m) table)
  halves [] m lt = absurd (omega (arith, lt))
  halves (row ∷ table) zero lt = refl
  halves (row ∷ table) (suc m) lt = ap (λ (l : Rows). (row.0.now, row.1) ∷ l) (halves table m (omega (arith, lt)))

  module _ (table : List (Bor (List ℕ) × ℕ)) (m other : ℕ) (w : List ℕ) (lt : m < length table) (a : ascending (rows_of table) ≡ true) where
    cut : rows_of table ≡ rows_of (take m table) ++ ((get_or table m d).0.now, (get_or table m d).1) ∷ rows_of (drop (suc m) table)
    cut = halves table m lt

    a_cut : ascending (rows_of (take m table) ++ ((get_or table m d).0.now, (get_or table m d).1) ∷ rows_of (drop (suc m) table)) ≡ true
    a_cut = sym (ap ascending cut) ∙ a

    pub at_place : slice_cmp nat_cmp w (get_or table m d).0.now ≡ Equal → (get_or table m d).1 ≡ kind_in (rows_of table) other w
    at_place e = sym (ap (λ (l : Rows). kind_in l other w) cut ∙ at_row (rows_of (take m table)) (rows_of (drop (suc m) table)) _ other w a_cut e)

    pub below_place : slice_cmp nat_cmp w (get_or table m d).0.now ≡ Less → (kind_in (rows_of (take m table)) other w ≡ kind_in (rows_of table) other w) × (ascending (rows_of (take m table)) ≡ true)
    below_place e =
        let r = below_row (rows_of (take m table)) (rows_of (drop (suc m) table)) _ other w a_cut e in
        (r.0 ∙ sym (ap (λ (l : Rows). kind_in l other w) cut), r.1)

    pub above_place : slice_cmp nat_cmp w (get_or table m d).0.now ≡ Greater → (kind_in (rows_of (drop (m + 1) table)) other w ≡ kind_in (rows_of table) other w) × (ascending (rows_of (drop (m + 1) table)) ≡ true)
    above_place e =
        let one : suc m ≡ m + 1 = omega arith in
        let r = above_row (rows_of (take m table)) (rows_of (drop (suc m) table)) _ other w a_cut e in
        subst (λ (n : ℕ). (kind_in (rows_of (drop n table)) other w ≡ kind_in (rows_of table) other w) × (ascending (rows_of (drop n table)) ≡ true)) one
        (r.0 ∙ sym (ap (λ (l : Rows). kind_in l other w) cut), r.1)

pub half_below : (n : ℕ) → false ≡ (n == 0) → n / 2 < n
half_below n e =
    let some : n ≡ 0 → ⊥ = eqb-false n 0 (sym e) in
    omega arith

pub fewer_front : (n : ℕ) (table : List (Bor (List ℕ) × ℕ)) → length (take n table) ≤ length table
fewer_front n table = omega (arith, length-take n table)

pub fewer_back : (n : ℕ) (table : List (Bor (List ℕ) × ℕ)) → length (drop n table) ≤ length table
fewer_back n table = omega (arith, length-drop n table)

pub rest_all : (n : ℕ) (table : List (Bor (List ℕ) × ℕ)) → take (length table - n) (drop n table) ≡ drop n table
rest_all n table = take_all (length table - n) (drop n table) (omega (arith, length-drop n table))
