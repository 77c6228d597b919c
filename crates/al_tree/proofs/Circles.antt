-- Links that are added and ended, and circles.
use Rattle.std.proofs.Common.{◌≡◌, ℕ, ◌⊎◌, inl, inr, ⊎_elim, Bool, true, false, cond, not, ◌||◌, ◌&&◌, List, [], refl, sym, ◌∙◌, ap, subst, Option, None, Result, Ok, Err, OnOk, OnErr}
use Rattle.std.specs.Prelude.{◌==◌}
use Rattle.std.proofs.lemmas.Bool.{eqb-true, or_cases, and_parts, or_left}
use Rattle.al_tree.specs.declared.fault.LinkFault.{LinkFault}
use Rattle.al_tree.specs.declared.line.Line.{Line}
use Rattle.al_tree.specs.Ascending.{is_among, put, without}
use Rattle.al_tree.specs.Links.{Inherits, Descends, has_link, children_of, fault_of, ClosesCircle, HasNoCircle, HasOneMore, HasOneLess}
use Rattle.al_tree.specs.Lines.{AreLines, links_in, children_in, has_line, put_line, with_children}
use Rattle.al_tree.proofs.Sorted.{among-put, among-without, put-ascends, without-ascends}
use Rattle.al_tree.proofs.LineLemmas.{links-are, link-child, links-put, put-are_lines, put-keeps, put-there, tables-with, children-with, all-with, with-none, no-line-no-children}

-- ---- descent

pub below-below : (links : List Inherits) (a b t : ℕ) → Descends links a b → Descends links b t → Descends links a t
below-below links a b t d (Descends.child_of _ h) = Descends.child_below t b d h
below-below links a b t d (Descends.child_below _ m e h) = Descends.child_below t m (below-below links a b m d e) h

fewer : (links after : List Inherits) (a : ℕ) → ((c p : ℕ) → has_link after c p ≡ true → has_link links c p ≡ true) → (t : ℕ) → Descends after a t → Descends links a t
fewer links after a less t (Descends.child_of _ h) = Descends.child_of t (less t a h)
fewer links after a less t (Descends.child_below _ m d h) = Descends.child_below t m (fewer links after a less m d) (less t m h)

pub less-no-circle : (links after : List Inherits) (child parent : ℕ) → HasOneLess links after child parent → HasNoCircle links → HasNoCircle after
less-no-circle links after child parent less none t d = none t (fewer links after t (λ c p h. (and_parts _ _ (sym (less c p) ∙ h)).0) t d)

-- a way down that takes the new link, once
pub record Takes (links : List Inherits) (child parent from to : ℕ) : Type 0 where
  pub to_parent : (parent ≡ from) ⊎ Descends links from parent
  pub from_child : (to ≡ child) ⊎ Descends links child to

old_or_new : (links after : List Inherits) (child parent c p : ℕ) → HasOneMore links after child parent → has_link after c p ≡ true → (has_link links c p ≡ true) ⊎ ((c ≡ child) × (p ≡ parent))
old_or_new links after child parent c p more h =
    ⊎_elim (λ o. inl o) (λ n. let both = and_parts (child == c) (parent == p) n in inr (sym (eqb-true child c both.0), sym (eqb-true parent p both.1)))
    (or_cases (has_link links c p) ((child == c) && (parent == p)) (sym (more c p) ∙ h))

ways : (links after : List Inherits) (child parent a : ℕ) → HasOneMore links after child parent → (t : ℕ) → Descends after a t → Descends links a t ⊎ Takes links child parent a t
ways links after child parent a more t (Descends.child_of _ h) =
    ⊎_elim (λ o. inl (Descends.child_of t o)) (λ n. inr (record { to_parent = inl (sym n.1); from_child = inl n.0 })) (old_or_new links after child parent t a more h)
ways links after child parent a more t (Descends.child_below _ m d h) = on (ways links after child parent a more m d) (old_or_new links after child parent t m more h) where
  down : (m : ℕ) → has_link links t m ≡ true → ((m ≡ child) ⊎ Descends links child m) → (t ≡ child) ⊎ Descends links child t
  down m o (inl e) = inr (Descends.child_of t (subst (λ (n : ℕ). has_link links t n ≡ true) e o))
  down m o (inr e) = inr (Descends.child_below t m e o)

  on : (Descends links a m ⊎ Takes links child parent a m) → ((has_link links t m ≡ true) ⊎ ((t ≡ child) × (m ≡ parent))) → Descends links a t ⊎ Takes links child parent a t
  on (inl e) (inl o) = inl (Descends.child_below t m e o)
  on (inl e) (inr n) = inr (record { to_parent = inr (subst (Descends links a) n.1 e); from_child = inl n.0 })
  on (inr k) (inl o) = inr (record { to_parent = k.to_parent; from_child = down m o k.from_child })
  on (inr k) (inr n) = inr (record { to_parent = k.to_parent; from_child = inl n.0 })

round : (links : List Inherits) (child parent t : ℕ) → ((parent ≡ t) ⊎ Descends links t parent) → ((t ≡ child) ⊎ Descends links child t) → ClosesCircle links child parent
round links child parent t (inl e) (inl f) = inl (e ∙ f)
round links child parent t (inl e) (inr d) = inr (subst (Descends links child) (sym e) d)
round links child parent t (inr u) (inl f) = inr (subst (λ (n : ℕ). Descends links n parent) f u)
round links child parent t (inr u) (inr d) = inr (below-below links child t parent d u)

pub more-no-circle : (links after : List Inherits) (child parent : ℕ) → HasOneMore links after child parent → (ClosesCircle links child parent → ⊥) → HasNoCircle links → HasNoCircle after
more-no-circle links after child parent more free none t d =
    ⊎_elim (λ o. none t o) (λ k. free (round links child parent t k.to_parent k.from_child)) (ways links after child parent t more t d)

-- ---- a link that is there already
-- a link that isn't refused closes no circle
pub no-fault : (closes there : Bool) (fault : Option LinkFault) → fault ≡ fault_of closes there → fault ≡ None → closes ≡ false
no-fault true there fault e f = absurd (cc)
no-fault false there fault e f = refl

pub there-already : (links : List Inherits) (child parent : ℕ) → has_link links child parent ≡ true → HasOneMore links links child parent
there-already links child parent h c p = by (child == c) refl (parent == p) refl where
  or-false : (b : Bool) → b ≡ (b || false)
  or-false true = refl
  or-false false = refl

  by : (a : Bool) → (child == c) ≡ a → (b : Bool) → (parent == p) ≡ b → has_link links c p ≡ (has_link links c p || (a && b))
  by true e true f =
      let here : has_link links c p ≡ true = subst (λ (n : ℕ). has_link links n p ≡ true) (eqb-true child c e) (subst (λ (n : ℕ). has_link links child n ≡ true) (eqb-true parent p f) h) in
      here ∙ sym (or_left _ _ here)
  by true e false f = or-false _
  by false e b f = or-false _

-- ---- a line more

pub record Lined (before after : List Line) (table : ℕ) : Type 0 where
  pub are : AreLines after
  pub links : links_in after ≡ links_in before
  pub there : has_line after table ≡ true
  pub keeps : (q : ℕ) → has_line before q ≡ true → has_line after q ≡ true

pub lined : (before after : List Line) (table : ℕ) → after ≡ cond (has_line before table) before (put_line (record { table = table; children = [] }) before) → AreLines before → Lined before after table
lined before after table e are = by (has_line before table) refl e where
  by : (b : Bool) → has_line before table ≡ b → after ≡ cond b before (put_line (record { table = table; children = [] }) before) → Lined before after table
  by true h e = rw e (record { are = are; links = refl; there = h; keeps = λ q g. g })
  by false h e = rw e (record { are = put-are_lines table before h are; links = links-put table before; there = put-there table before; keeps = λ q g. put-keeps q table before g })

-- ---- a child more

children-more : (lines : List Line) (child parent c p : ℕ) → has_line lines parent ≡ true
    → is_among c (children_in (with_children parent (put child) lines) p) ≡ (is_among c (children_in lines p) || ((child == c) && (parent == p)))
children-more lines child parent c p there = ap (is_among c) (children-with parent (put child) lines p there) ∙ by (parent == p) refl where
  and-true : (b : Bool) → b ≡ (b && true)
  and-true true = refl
  and-true false = refl

  or-none : (a b : Bool) → a ≡ (a || (b && false))
  or-none true b = refl
  or-none false true = refl
  or-none false false = refl

  by : (b : Bool) → (parent == p) ≡ b → is_among c (cond b (put child (children_in lines parent)) (children_in lines p)) ≡ (is_among c (children_in lines p) || ((child == c) && b))
  by true e =
      among-put c child (children_in lines parent)
      ∙ ap (λ (n : ℕ). is_among c (children_in lines n) || (child == c)) (eqb-true parent p e) ∙ ap (λ b. is_among c (children_in lines p) || b) (and-true (child == c))
  by false e = or-none (is_among c (children_in lines p)) (child == c)

pub more-are_lines : (lines : List Line) (child parent : ℕ) → has_line lines child ≡ true → has_line lines parent ≡ true → is_among child (children_in lines parent) ≡ false
    → AreLines lines → AreLines (with_children parent (put child) lines)
more-are_lines lines child parent line there new are = record {
  tables = rw (tables-with parent (put child) lines) are.tables;
  children = all-with parent (put child) lines (λ k. put-ascends child _ new k) are.children;
  known = λ c p h.
      ap (is_among c) (tables-with parent (put child) lines)
      ∙ ⊎_elim (λ o. are.known c p o) (λ n. subst (λ (k : ℕ). has_line lines k ≡ true) (eqb-true child c (and_parts (child == c) _ n).0) line)
      (or_cases (is_among c (children_in lines p)) ((child == c) && (parent == p)) (sym (children-more lines child parent c p there) ∙ h));
}

pub more-links : (lines : List Line) (child parent : ℕ) → has_line lines child ≡ true → has_line lines parent ≡ true → is_among child (children_in lines parent) ≡ false → AreLines lines
    → HasOneMore (links_in lines) (links_in (with_children parent (put child) lines)) child parent
more-links lines child parent line there new are c p =
    let after = more-are_lines lines child parent line there new are in
    links-are c p (with_children parent (put child) lines) after.tables ∙ children-more lines child parent c p there
    ∙ ap (λ b. b || ((child == c) && (parent == p))) (sym (links-are c p lines are.tables))

-- ---- a child less

children-less : (lines : List Line) (child parent c p : ℕ) (b : Bool) → has_line lines parent ≡ b
    → is_among c (children_in (with_children parent (without child) lines) p) ≡ (is_among c (children_in lines p) && not ((child == c) && (parent == p)))
children-less lines child parent c p true there = ap (is_among c) (children-with parent (without child) lines p there) ∙ by (parent == p) refl where
  and-true : (b : Bool) → b ≡ (b && true)
  and-true true = refl
  and-true false = refl

  and-none : (a b : Bool) → a ≡ (a && not (b && false))
  and-none true true = refl
  and-none true false = refl
  and-none false b = refl

  by : (b : Bool) → (parent == p) ≡ b → is_among c (cond b (without child (children_in lines parent)) (children_in lines p)) ≡ (is_among c (children_in lines p) && not ((child == c) && b))
  by true e =
      among-without c child (children_in lines parent)
      ∙ ap (λ (n : ℕ). is_among c (children_in lines n) && not (child == c)) (eqb-true parent p e) ∙ ap (λ b. is_among c (children_in lines p) && not b) (and-true (child == c))
  by false e = and-none (is_among c (children_in lines p)) (child == c)
children-less lines child parent c p false there = rw (with-none parent (without child) lines there) (by (parent == p) refl) where
  and-true : (a b : Bool) → a ≡ (a && not (b && false))
  and-true true true = refl
  and-true true false = refl
  and-true false b = refl

  by : (b : Bool) → (parent == p) ≡ b → is_among c (children_in lines p) ≡ (is_among c (children_in lines p) && not ((child == c) && b))
  by true e = let none : is_among c (children_in lines p) ≡ false = ap (is_among c) (no-line-no-children p lines (subst (λ (n : ℕ). has_line lines n ≡ false) (eqb-true parent p e) there)) in rw none refl
  by false e = and-true (is_among c (children_in lines p)) (child == c)

pub less-are_lines : (lines : List Line) (child parent : ℕ) → AreLines lines → AreLines (with_children parent (without child) lines)
less-are_lines lines child parent are = record {
  tables = rw (tables-with parent (without child) lines) are.tables;
  children = all-with parent (without child) lines (λ k. without-ascends child _ k) are.children;
  known = λ c p h. ap (is_among c) (tables-with parent (without child) lines) ∙ are.known c p (and_parts _ _ (sym (children-less lines child parent c p _ refl) ∙ h)).0;
}

pub less-links : (lines : List Line) (child parent : ℕ) → AreLines lines → HasOneLess (links_in lines) (links_in (with_children parent (without child) lines)) child parent
less-links lines child parent are c p =
    let after = less-are_lines lines child parent are in
    links-are c p (with_children parent (without child) lines) after.tables ∙ children-less lines child parent c p _ refl
    ∙ ap (λ b. b && not ((child == c) && (parent == p))) (sym (links-are c p lines are.tables))

-- ---- what is told of a result

pub kept-either : {T E : Type 0} (r : Result T E) (P : List Line → Type 0) (new done same : List Line) → OnOk r (new ≡ done) → OnErr r (new ≡ same) → P done → P same → P new
kept-either (Ok v) P new done same ok err p q = subst P (sym ok) p
kept-either (Err e) P new done same ok err p q = subst P (sym err) q

-- what is among the children is a link
pub is-link : (links : List Inherits) (child parent : ℕ) (children slice : List ℕ) {b : Bool} → children ≡ children_of links parent → slice ≡ children → is_among child slice ≡ b → has_link links child parent ≡ b
is-link links child parent children slice e f h = link-child child parent links ∙ ap (is_among child) (sym e ∙ sym f) ∙ h

-- a link more than the links that a value stands for
pub more-of : (links before after : List Inherits) (child parent : ℕ) → before ≡ links → HasOneMore before after child parent → HasOneMore links after child parent
more-of links before after child parent e more = subst (λ (ls : List Inherits). HasOneMore ls after child parent) e more

pub told-err : {T E : Type 0} {P : Type 0} (r : Result T E) → P → OnErr r P
told-err (Ok v) p = tt
told-err (Err e) p = p

-- both tables of a new link have lines
pub record Noted (links : List Inherits) (lines : List Line) (child parent : ℕ) : Type 0 where
  pub are : AreLines lines
  pub same : links_in lines ≡ links
  pub more_are : AreLines (with_children parent (put child) lines)
  pub more : HasOneMore links (links_in (with_children parent (put child) lines)) child parent

pub noted : (links : List Inherits) (lines one two : List Line) (child parent : ℕ) → AreLines lines → links_in lines ≡ links → has_link links child parent ≡ false
    → Lined lines one child → Lined one two parent → Noted links two child parent
noted links lines one two child parent are view out a b =
    let same : links_in two ≡ links = b.links ∙ a.links ∙ view in
    let new : is_among child (children_in two parent) ≡ false = sym (links-are child parent two b.are.tables) ∙ ap (λ (ls : List Inherits). has_link ls child parent) same ∙ out in
    let line : has_line two child ≡ true = b.keeps child a.there in
    record {
      are = b.are;
      same = same;
      more_are = more-are_lines two child parent line b.there new b.are;
      more = more-of links (links_in two) _ child parent same (more-links two child parent line b.there new b.are);
    }
