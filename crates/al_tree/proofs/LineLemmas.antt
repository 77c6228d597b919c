-- The lines, and the links that they stand for.
use Rattle.std.proofs.Common.{◌≡◌, ℕ, ◌+◌, Bool, true, false, cond, not, ◌||◌, ◌&&◌, List, [], ◌∷◌, ◌++◌, refl, sym, ◌∙◌, ap, subst, arith, nat_lt, zero, suc, slice_set, get_or, Option, Some, None, position}
use Rattle.std.specs.Prelude.{◌==◌, is_some}
use Rattle.std.specs.List.{insert, position_or_len, list_any}
use Rattle.std.proofs.lemmas.Grind.{common_steps}
use Rattle.std.proofs.lemmas.Bool.{eqb-true, eqb-false, ne_eqb, eq-eqb}
use Rattle.al_tree.specs.declared.line.Line.{Line}
use Rattle.al_tree.specs.Ascending.{AllAbove, Ascends, is_among, put}
use Rattle.al_tree.specs.Links.{Inherits, has_link, children_of}
use Rattle.al_tree.specs.Lines.{links_of, links_in, tables_of, children_in, has_line, AllAscend, AreLines, put_line, with_children}
use Rattle.al_tree.proofs.Places.{IsAt, is_at, none_passes, one_passes}
use Rattle.al_tree.proofs.Sorted.{among-put, put-ascends}

-- a link is there where its child is among the parent's children
link-child_by : (c p : ℕ) (link : Inherits) (links : List Inherits) (d : Bool) → has_link links c p ≡ is_among c (children_of links p)
    → (((link.child == c) && d) || has_link links c p) ≡ is_among c (cond d (link.child ∷ children_of links p) (children_of links p))
link-child_by c p link links true more = by (link.child == c) where
  by : (b : Bool) → ((b && true) || has_link links c p) ≡ (b || is_among c (children_of links p))
  by true = refl
  by false = more
link-child_by c p link links false more = by (link.child == c) where
  by : (b : Bool) → ((b && false) || has_link links c p) ≡ is_among c (children_of links p)
  by true = more
  by false = more

pub link-child : (c p : ℕ) (links : List Inherits) → has_link links c p ≡ is_among c (children_of links p)
link-child c p [] = refl
link-child c p (link ∷ links) = link-child_by c p link links (link.parent == p) (link-child c p links)

-- the children of a table are those of its line

own_children : (p : ℕ) (children : List ℕ) (rest : List Inherits) (q : ℕ) (b : Bool) → (p == q) ≡ b
    → children_of (links_of p children ++ rest) q ≡ cond b (children ++ children_of rest q) (children_of rest q)
own_children p [] rest q true e = refl
own_children p [] rest q false e = refl
own_children p (c ∷ children) rest q true e = rw (e, own_children p children rest q true e) refl
own_children p (c ∷ children) rest q false e = rw e (own_children p children rest q false e)

no_children : (q : ℕ) (lines : List Line) → AllAbove q (tables_of lines) → children_of (links_in lines) q ≡ []
no_children q [] all = refl
no_children q (line ∷ lines) all =
    own_children line.table line.children (links_in lines) q false (ne_eqb line.table q (λ e. absurd (omega (arith, all.0)))) ∙ no_children q lines all.1

append-none : (xs : List ℕ) → (xs ++ []) ≡ xs
append-none [] = refl
append-none (x ∷ xs) = ap (λ ys. x ∷ ys) (append-none xs)

pub children-are : (q : ℕ) (lines : List Line) → Ascends (tables_of lines) → children_of (links_in lines) q ≡ children_in lines q
children-are q [] all = refl
children-are q (line ∷ lines) all = own_children line.table line.children (links_in lines) q (line.table == q) refl ∙ by (line.table == q) refl (children-are q lines all.1) where
  by : (b : Bool) → (line.table == q) ≡ b → children_of (links_in lines) q ≡ children_in lines q → cond b (line.children ++ children_of (links_in lines) q) (children_of (links_in lines) q) ≡ cond b line.children (children_in lines q)
  by true e more = let same = eqb-true line.table q e in rw (no_children q lines (subst (λ (n : ℕ). AllAbove n (tables_of lines)) same all.0)) (append-none line.children)
  by false e more = more

pub links-are : (c p : ℕ) (lines : List Line) → Ascends (tables_of lines) → has_link (links_in lines) c p ≡ is_among c (children_in lines p)
links-are c p lines all = link-child c p (links_in lines) ∙ ap (is_among c) (children-are p lines all)

-- the line that was found

pub children-at : (q : ℕ) (lines : List Line) (at : ℕ) (d : Line) → IsAt (λ (line : Line). line.table == q) lines at → (get_or lines at d).children ≡ children_in lines q
children-at q [] at d h = absurd h
children-at q (line ∷ lines) zero d h = rw h refl
children-at q (line ∷ lines) (suc at) d h = rw h.0 (children-at q lines at d h.1)

pub table-at : (q : ℕ) (lines : List Line) (at : ℕ) (d : Line) → IsAt (λ (line : Line). line.table == q) lines at → (get_or lines at d).table ≡ q
table-at q [] at d h = absurd h
table-at q (line ∷ lines) zero d h = eqb-true line.table q h
table-at q (line ∷ lines) (suc at) d h = table-at q lines at d h.1

pub set-children : (q : ℕ) (change : List ℕ → List ℕ) (lines : List Line) (at : ℕ) (d : Line) → IsAt (λ (line : Line). line.table == q) lines at
    → slice_set lines at (record { table = (get_or lines at d).table; children = change (get_or lines at d).children }) ≡ with_children q change lines
set-children q change [] at d h = absurd h
set-children q change (line ∷ lines) zero d h = rw h refl
set-children q change (line ∷ lines) (suc at) d h = rw h.0 (ap (λ ls. line ∷ ls) (set-children q change lines at d h.1))

has-line_any : (q : ℕ) (lines : List Line) → has_line lines q ≡ list_any (λ (line : Line). line.table == q) lines
has-line_any q [] = refl
has-line_any q (line ∷ lines) = rw (has-line_any q lines) refl

pub line-there : (q : ℕ) (lines : List Line) (b : Bool) → list_any (λ (line : Line). line.table == q) lines ≡ b → has_line lines q ≡ b
line-there q lines b e = has-line_any q lines ∙ e

pub no-line-no-children : (q : ℕ) (lines : List Line) → has_line lines q ≡ false → children_in lines q ≡ []
no-line-no-children q [] e = refl
no-line-no-children q (line ∷ lines) e = by (line.table == q) e (no-line-no-children q lines) where
  by : (b : Bool) → (b || has_line lines q) ≡ false → (has_line lines q ≡ false → children_in lines q ≡ []) → cond b line.children (children_in lines q) ≡ []
  by true o more = absurd (cc)
  by false o more = more o

pub with-none : (q : ℕ) (change : List ℕ → List ℕ) (lines : List Line) → has_line lines q ≡ false → with_children q change lines ≡ lines
with-none q change [] e = refl
with-none q change (line ∷ lines) e = by (line.table == q) e (with-none q change lines) where
  by : (b : Bool) → (b || has_line lines q) ≡ false → (has_line lines q ≡ false → with_children q change lines ≡ lines) → cond b (record line { children = change line.children } ∷ lines) (line ∷ with_children q change lines) ≡ line ∷ lines
  by true o more = absurd (cc)
  by false o more = ap (λ ls. line ∷ ls) (more o)

-- a line more

insert-line_by : (x : Line) (xs : List Line) (line : Line) (n : ℕ) (b : Bool) → insert xs n line ≡ put_line line xs
    → insert (x ∷ xs) (cond (not b) (1 + n) 0) line ≡ cond b (line ∷ x ∷ xs) (x ∷ put_line line xs)
insert-line_by x xs line n true e = refl
insert-line_by x xs line n false e = grind (arith, common_steps, e)

pub insert-line : (line : Line) (xs : List Line) → insert xs (position_or_len (λ (other : Line). nat_lt line.table other.table) xs) line ≡ put_line line xs
insert-line line [] = refl
insert-line line (x ∷ xs) = insert-line_by x xs line _ (nat_lt line.table x.table) (insert-line line xs)

pub tables-put : (line : Line) (lines : List Line) → tables_of (put_line line lines) ≡ put line.table (tables_of lines)
tables-put line [] = refl
tables-put line (other ∷ lines) = by (nat_lt line.table other.table) (tables-put line lines) where
  by : (b : Bool) → tables_of (put_line line lines) ≡ put line.table (tables_of lines) → tables_of (cond b (line ∷ other ∷ lines) (other ∷ put_line line lines)) ≡ cond b (line.table ∷ other.table ∷ tables_of lines) (other.table ∷ put line.table (tables_of lines))
  by true more = refl
  by false more = ap (λ ts. other.table ∷ ts) more

pub links-put : (table : ℕ) (lines : List Line) → links_in (put_line (record { table = table; children = [] }) lines) ≡ links_in lines
links-put table [] = refl
links-put table (other ∷ lines) = by (nat_lt table other.table) (links-put table lines) where
  by : (b : Bool) → links_in (put_line (record { table = table; children = [] }) lines) ≡ links_in lines → links_in (cond b (record { table = table; children = [] } ∷ other ∷ lines) (other ∷ put_line (record { table = table; children = [] }) lines)) ≡ links_in (other ∷ lines)
  by true more = refl
  by false more = ap (λ ls. links_of other.table other.children ++ ls) more

all-put : (table : ℕ) (lines : List Line) → AllAscend lines → AllAscend (put_line (record { table = table; children = [] }) lines)
all-put table [] all = (tt, tt)
all-put table (other ∷ lines) all = by (nat_lt table other.table) (all-put table lines all.1) where
  by : (b : Bool) → AllAscend (put_line (record { table = table; children = [] }) lines) → AllAscend (cond b (record { table = table; children = [] } ∷ other ∷ lines) (other ∷ put_line (record { table = table; children = [] }) lines))
  by true more = (tt, all)
  by false more = (all.0, more)

or-left : (a b : Bool) → a ≡ true → (a || b) ≡ true
or-left true b e = refl
or-left false b e = absurd (cc)

pub put-are_lines : (table : ℕ) (lines : List Line) → has_line lines table ≡ false → AreLines lines → AreLines (put_line (record { table = table; children = [] }) lines)
put-are_lines table lines out are =
    let new : List Line = put_line (record { table = table; children = [] }) lines in
    let ts = tables-put (record { table = table; children = [] }) lines in
    let up : Ascends (tables_of new) = rw ts (put-ascends table (tables_of lines) out are.tables) in
    record {
      tables = up;
      children = all-put table lines are.children;
      known = λ c p h.
          let before : is_among c (children_in lines p) ≡ true = sym (links-are c p lines are.tables) ∙ ap (λ ls. has_link ls c p) (sym (links-put table lines)) ∙ links-are c p new up ∙ h in
          ap (is_among c) ts ∙ among-put c table (tables_of lines) ∙ or-left _ _ (are.known c p before);
    }

pub put-keeps : (q table : ℕ) (lines : List Line) → has_line lines q ≡ true → has_line (put_line (record { table = table; children = [] }) lines) q ≡ true
put-keeps q table lines h = ap (is_among q) (tables-put (record { table = table; children = [] }) lines) ∙ among-put q table (tables_of lines) ∙ or-left _ _ h

or-right : (a b : Bool) → b ≡ true → (a || b) ≡ true
or-right true b e = refl
or-right false b e = e

pub put-there : (table : ℕ) (lines : List Line) → has_line (put_line (record { table = table; children = [] }) lines) table ≡ true
put-there table lines = ap (is_among table) (tables-put (record { table = table; children = [] }) lines) ∙ among-put table table (tables_of lines) ∙ or-right _ _ (eq-eqb table table refl)

-- children changed

pub tables-with : (q : ℕ) (change : List ℕ → List ℕ) (lines : List Line) → tables_of (with_children q change lines) ≡ tables_of lines
tables-with q change [] = refl
tables-with q change (line ∷ lines) = by (line.table == q) (tables-with q change lines) where
  by : (b : Bool) → tables_of (with_children q change lines) ≡ tables_of lines → tables_of (cond b (record line { children = change line.children } ∷ lines) (line ∷ with_children q change lines)) ≡ line.table ∷ tables_of lines
  by true more = refl
  by false more = ap (λ ts. line.table ∷ ts) more

pub children-with : (q : ℕ) (change : List ℕ → List ℕ) (lines : List Line) (p : ℕ) → has_line lines q ≡ true
    → children_in (with_children q change lines) p ≡ cond (q == p) (change (children_in lines q)) (children_in lines p)
children-with q change [] p h = absurd (cc)
children-with q change (line ∷ lines) p h = by (line.table == q) refl h (children-with q change lines p) where
  other : (c d : Bool) → (q == p) ≡ c → (line.table == p) ≡ d → (line.table == q) ≡ false
      → children_in (with_children q change lines) p ≡ cond (q == p) (change (children_in lines q)) (children_in lines p)
      → cond d line.children (children_in (with_children q change lines) p) ≡ cond c (change (children_in lines q)) (cond d line.children (children_in lines p))
  other true true e f s more = absurd (eqb-false line.table q s (eqb-true line.table p f ∙ sym (eqb-true q p e)))
  other true false e f s more = more ∙ rw e refl
  other false true e f s more = refl
  other false false e f s more = more ∙ rw e refl

  same_by : (b : Bool) → cond b (change line.children) (children_in lines p) ≡ cond b (change line.children) (cond b line.children (children_in lines p))
  same_by true = refl
  same_by false = refl

  by : (b : Bool) → (line.table == q) ≡ b → (b || has_line lines q) ≡ true
      → (has_line lines q ≡ true → children_in (with_children q change lines) p ≡ cond (q == p) (change (children_in lines q)) (children_in lines p))
      → children_in (cond b (record line { children = change line.children } ∷ lines) (line ∷ with_children q change lines)) p ≡ cond (q == p) (change (cond b line.children (children_in lines q))) (cond (line.table == p) line.children (children_in lines p))
  by true s o more = let same = eqb-true line.table q s in rw (← same) (same_by (line.table == p))
  by false s o more = other (q == p) (line.table == p) refl refl s (more o)

pub all-with : (q : ℕ) (change : List ℕ → List ℕ) (lines : List Line) → (Ascends (children_in lines q) → Ascends (change (children_in lines q))) → AllAscend lines → AllAscend (with_children q change lines)
all-with q change [] keeps all = tt
all-with q change (line ∷ lines) keeps all = by (line.table == q) keeps (λ k. all-with q change lines k all.1) where
  by : (b : Bool) → (Ascends (cond b line.children (children_in lines q)) → Ascends (change (cond b line.children (children_in lines q))))
      → ((Ascends (children_in lines q) → Ascends (change (children_in lines q))) → AllAscend (with_children q change lines))
      → AllAscend (cond b (record line { children = change line.children } ∷ lines) (line ∷ with_children q change lines))
  by true k more = (k all.0, all.1)
  by false k more = (all.0, more k)

pub ascend-in : (q : ℕ) (lines : List Line) → AllAscend lines → Ascends (children_in lines q)
ascend-in q [] all = tt
ascend-in q (line ∷ lines) all = by (line.table == q) (ascend-in q lines all.1) where
  by : (b : Bool) → Ascends (children_in lines q) → Ascends (cond b line.children (children_in lines q))
  by true more = all.0
  by false more = more

pub no-line-at : (q : ℕ) (lines : List Line) → position (λ (line : Line). line.table == q) lines ≡ None → has_line lines q ≡ false
no-line-at q lines e = line-there q lines false (none_passes (λ (line : Line). line.table == q) lines e)

pub placed : (line : Line) (lines slice : List Line) (at : ℕ) → slice ≡ lines → at ≡ position_or_len (λ (other : Line). nat_lt line.table other.table) slice → insert lines at line ≡ put_line line lines
placed line lines slice at same e = ap (λ n. insert lines n line) (e ∙ ap (position_or_len (λ (other : Line). nat_lt line.table other.table)) same) ∙ insert-line line lines

pub has-line_is : (q : ℕ) (lines : List Line) (slice : List Line) (found : Option ℕ) {b : Bool} → slice ≡ lines → found ≡ position (λ (line : Line). line.table == q) slice → is_some found ≡ b → has_line lines q ≡ b
has-line_is q lines slice found {b} same e s = by found (e ∙ ap (position (λ (line : Line). line.table == q)) same) s where
  by : (found : Option ℕ) → found ≡ position (λ (line : Line). line.table == q) lines → is_some found ≡ b → has_line lines q ≡ b
  by None f t = line-there q lines b (none_passes (λ (line : Line). line.table == q) lines (sym f) ∙ t)
  by (Some at) f t = line-there q lines b (one_passes (λ (line : Line). line.table == q) lines at (is_at (λ (line : Line). line.table == q) lines at (sym f)) ∙ t)

pub children-found : (q : ℕ) (lines slice : List Line) (found : Option ℕ) (at : ℕ) (line : Line) → slice ≡ lines → found ≡ position (λ (l : Line). l.table == q) slice → found ≡ Some at → line ≡ get_or lines at line
    → line.children ≡ children_in lines q
children-found q lines slice found at line same e f g =
    ap (λ (l : Line). l.children) g
    ∙ children-at q lines at line (is_at (λ (l : Line). l.table == q) lines at (ap (position (λ (l : Line). l.table == q)) (sym same) ∙ sym e ∙ f))

pub children-none : (q : ℕ) (lines slice : List Line) (found : Option ℕ) → slice ≡ lines → found ≡ position (λ (l : Line). l.table == q) slice → found ≡ None → children_in lines q ≡ []
children-none q lines slice found same e f = no-line-no-children q lines (no-line-at q lines (ap (position (λ (l : Line). l.table == q)) (sym same) ∙ sym e ∙ f))

pub changed-line : (q : ℕ) (change : List ℕ → List ℕ) (lines slice : List Line) (found : Option ℕ) (at : ℕ) (line : Line) (new : List ℕ) → slice ≡ lines → found ≡ position (λ (l : Line). l.table == q) slice → found ≡ Some at
    → line ≡ get_or lines at line → new ≡ change line.children → slice_set lines at (record { table = line.table; children = new }) ≡ with_children q change lines
changed-line q change lines slice found at line new same e f is g =
    ap (λ (cs : List ℕ). slice_set lines at (record { table = line.table; children = cs })) g
    ∙ ap (λ (l : Line). slice_set lines at (record { table = l.table; children = change l.children })) is
    ∙ set-children q change lines at line (is_at (λ (l : Line). l.table == q) lines at (ap (position (λ (l : Line). l.table == q)) (sym same) ∙ sym e ∙ f))

pub none-changed : (q : ℕ) (change : List ℕ → List ℕ) (lines slice : List Line) (found : Option ℕ) → slice ≡ lines → found ≡ position (λ (l : Line). l.table == q) slice → found ≡ None → with_children q change lines ≡ lines
none-changed q change lines slice found same e f = with-none q change lines (no-line-at q lines (ap (position (λ (l : Line). l.table == q)) (sym same) ∙ sym e ∙ f))
