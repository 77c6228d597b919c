-- A search through the descendants of a table: what it has met, and what is left to look at.
use Rattle.std.proofs.Common.{◌≡◌, ℕ, ◌+◌, ◌≤◌, ◌↔◌, ◌⊎◌, inl, inr, ⊎_elim, Bool, true, false, cond, ◌||◌, List, [], ◌∷◌, ◌++◌, refl, sym, ◌∙◌, ap, subst, arith, fold, length, take, ◌-◌, Result, OnOk}
use Rattle.std.specs.Prelude.{◌==◌}
use Rattle.std.proofs.lemmas.Bool.{eqb-true, eq-eqb, or_cases, or_left, or_right}
use Rattle.std.proofs.lemmas.List.Folds.{list_any-append}
use Rattle.std.proofs.lemmas.List.{length-append}
use Rattle.std.proofs.lemmas.Result.{on_ok_weaker}
use Rattle.al_tree.specs.declared.line.Line.{Line}
use Rattle.al_tree.specs.Ascending.{Ascends, is_among, put}
use Rattle.al_tree.specs.Links.{Descends, has_link}
use Rattle.al_tree.specs.Lines.{AreLines, links_in, children_in, has_line}
use Rattle.al_tree.specs.Met.{Search, found, unmet, work}
use Rattle.al_tree.proofs.Sorted.{among-put, put-ascends}
use Rattle.al_tree.proofs.LineLemmas.{links-are}

-- a table that the search has come to
abbrev pub IsReached : ℕ → List ℕ → ℕ → Type 0
IsReached root met t = (t ≡ root) ⊎ (is_among t met ≡ true)

-- the children of a table were met
abbrev pub AreMet : List ℕ → List ℕ → Type 0
AreMet met children = (c : ℕ) → is_among c children ≡ true → is_among c met ≡ true

-- between two tables
pub record Searching (lines : List Line) (root : ℕ) (s : Search) : Type 0 where
  pub ascends : Ascends s.met
  pub sound : (t : ℕ) → is_among t s.met ≡ true → Descends (links_in lines) root t
  pub waits : (t : ℕ) → is_among t s.todo ≡ true → IsReached root s.met t
  pub closed : (t : ℕ) → IsReached root s.met t → (is_among t s.todo ≡ true) ⊎ AreMet s.met (children_in lines t)

-- amid the children of a table
pub record Amid (lines : List Line) (root next : ℕ) (s : Search) : Type 0 where
  pub ascends : Ascends s.met
  pub sound : (t : ℕ) → is_among t s.met ≡ true → Descends (links_in lines) root t
  pub waits : (t : ℕ) → is_among t s.todo ≡ true → IsReached root s.met t
  pub reached : IsReached root s.met next
  pub closed : (t : ℕ) → IsReached root s.met t → (t ≡ next) ⊎ ((is_among t s.todo ≡ true) ⊎ AreMet s.met (children_in lines t))

either : (P : Type 0) (a b : Bool) → (a ≡ true → P) → (b ≡ true → P) → (a || b) ≡ true → P
either P a b left right e = ⊎_elim left right (or_cases a b e)

among-push : (t c : ℕ) (todo : List ℕ) → is_among t (todo ++ c ∷ []) ≡ (is_among t todo || (c == t))
among-push t c todo = list_any-append (λ other. other == t) todo (c ∷ []) ∙ ap (λ b. is_among t todo || b) (by (c == t)) where
  by : (b : Bool) → (b || false) ≡ b
  by true = refl
  by false = refl

-- ---- one table come to

pub record Finds (s after : Search) (c : ℕ) : Type 0 where
  pub ascends : Ascends after.met
  pub grows : (t : ℕ) → is_among t s.met ≡ true → is_among t after.met ≡ true
  pub todo_grows : (t : ℕ) → is_among t s.todo ≡ true → is_among t after.todo ≡ true
  pub met : (t : ℕ) → is_among t after.met ≡ true → (is_among t s.met ≡ true) ⊎ ((t ≡ c) × (is_among t after.todo ≡ true))
  pub todo : (t : ℕ) → is_among t after.todo ≡ true → (is_among t s.todo ≡ true) ⊎ (is_among t after.met ≡ true)
  pub there : is_among c after.met ≡ true

finds_by : (s : Search) (c : ℕ) → Ascends s.met → (b : Bool) → is_among c s.met ≡ b
    → Finds s (cond b s (record { met = put c s.met; todo = s.todo ++ c ∷ [] })) c
finds_by s c up true e = record {
  ascends = up;
  grows = λ t h. h;
  todo_grows = λ t h. h;
  met = λ t h. inl h;
  todo = λ t h. inl h;
  there = e;
}
finds_by s c up false e = record {
  ascends = put-ascends c s.met e up;
  grows = λ t h. among-put t c s.met ∙ or_left _ _ h;
  todo_grows = λ t h. among-push t c s.todo ∙ or_left _ _ h;
  met = λ t h. either _ (is_among t s.met) (c == t) (λ m. inl m)
      (λ m. inr (sym (eqb-true c t m), among-push t c s.todo ∙ or_right _ _ m)) (sym (among-put t c s.met) ∙ h);
  todo = λ t h. either _ (is_among t s.todo) (c == t) (λ m. inl m) (λ m. inr (among-put t c s.met ∙ or_right _ _ m)) (sym (among-push t c s.todo) ∙ h);
  there = among-put c c s.met ∙ or_right _ _ (eq-eqb c c refl);
}

finds : (s : Search) (c : ℕ) → Ascends s.met → Finds s (found s c) c
finds s c up = finds_by s c up (is_among c s.met) refl

reached-on : (root : ℕ) (s after : Search) (c t : ℕ) → Finds s after c → IsReached root s.met t → IsReached root after.met t
reached-on root s after c t f (inl e) = inl e
reached-on root s after c t f (inr m) = inr (f.grows t m)

descends-by : (lines : List Line) (root next c : ℕ) (met : List ℕ) → ((t : ℕ) → is_among t met ≡ true → Descends (links_in lines) root t)
    → IsReached root met next → has_link (links_in lines) c next ≡ true → Descends (links_in lines) root c
descends-by lines root next c met sound (inl e) h = Descends.child_of c (subst (λ (n : ℕ). has_link (links_in lines) c n ≡ true) e h)
descends-by lines root next c met sound (inr m) h = Descends.child_below c next (sound next m) h

amid-found : (lines : List Line) (root next c : ℕ) (s after : Search) → AreLines lines → Finds s after c → is_among c (children_in lines next) ≡ true → Amid lines root next s → Amid lines root next after
amid-found lines root next c s after are f child amid =
    let link : has_link (links_in lines) c next ≡ true = links-are c next lines are.tables ∙ child in
    let down : Descends (links_in lines) root c = descends-by lines root next c s.met amid.sound amid.reached link in
    record {
      ascends = f.ascends;
      sound = λ t m. ⊎_elim (λ before. amid.sound t before) (λ new. subst (λ (n : ℕ). Descends (links_in lines) root n) (sym new.0) down) (f.met t m);
      waits = λ t h. ⊎_elim (λ before. reached-on root s after c t f (amid.waits t before)) (λ m. inr m) (f.todo t h);
      reached = reached-on root s after c next f amid.reached;
      closed = λ t r. closed_by t r;
    } where
      kept : (t : ℕ) → ((t ≡ next) ⊎ ((is_among t s.todo ≡ true) ⊎ AreMet s.met (children_in lines t))) → (t ≡ next) ⊎ ((is_among t after.todo ≡ true) ⊎ AreMet after.met (children_in lines t))
      kept t (inl e) = inl e
      kept t (inr (inl w)) = inr (inl (f.todo_grows t w))
      kept t (inr (inr m)) = inr (inr (λ d h. f.grows d (m d h)))

      closed_by : (t : ℕ) → IsReached root after.met t → (t ≡ next) ⊎ ((is_among t after.todo ≡ true) ⊎ AreMet after.met (children_in lines t))
      closed_by t (inl e) = kept t (amid.closed t (inl e))
      closed_by t (inr m) = ⊎_elim (λ before. kept t (amid.closed t (inr before))) (λ new. inr (inl new.1)) (f.met t m)

-- ---- all children of a table

pub record Goes (lines : List Line) (root next : ℕ) (s after : Search) (children : List ℕ) : Type 0 where
  pub amid : Amid lines root next after
  pub grows : (t : ℕ) → is_among t s.met ≡ true → is_among t after.met ≡ true
  pub all : AreMet after.met children

goes : (lines : List Line) (root next : ℕ) (s : Search) (children : List ℕ) → AreLines lines → ((c : ℕ) → is_among c children ≡ true → is_among c (children_in lines next) ≡ true)
    → Amid lines root next s → Goes lines root next s (fold found s children) children
goes lines root next s [] are each amid = record { amid = amid; grows = λ t h. h; all = λ c h. absurd (cc) }
goes lines root next s (c ∷ children) are each amid =
    let child : is_among c (children_in lines next) ≡ true = each c (or_left _ _ (eq-eqb c c refl)) in
    let f : Finds s (found s c) c = finds s c amid.ascends in
    let more : Goes lines root next (found s c) (fold found (found s c) children) children =
    goes lines root next (found s c) children are (λ d h. each d (or_right _ _ h)) (amid-found lines root next c s (found s c) are f child amid) in
    let first : is_among c (fold found (found s c) children).met ≡ true = more.grows c f.there in
    record {
      amid = more.amid;
      grows = λ t h. more.grows t (f.grows t h);
      all = λ d h. either _ (c == d) (is_among d children) (λ e. subst (λ (n : ℕ). is_among n (fold found (found s c) children).met ≡ true) (eqb-true c d e) first) (more.all d) h;
    }

-- ---- one table taken

taken : (lines : List Line) (root next : ℕ) (met todo : List ℕ) → Searching lines root (record { met = met; todo = todo ++ next ∷ [] })
    → Amid lines root next (record { met = met; todo = todo })
taken lines root next met todo s = record {
  ascends = s.ascends;
  sound = s.sound;
  waits = λ t h. s.waits t (among-push t next todo ∙ or_left _ _ h);
  reached = s.waits next (among-push next next todo ∙ or_right _ _ (eq-eqb next next refl));
  closed = λ t r. ⊎_elim (λ w. either _ (is_among t todo) (next == t) (λ h. inr (inl h)) (λ e. inl (sym (eqb-true next t e))) (sym (among-push t next todo) ∙ w)) (λ m. inr (inr m)) (s.closed t r);
}

done : (lines : List Line) (root next : ℕ) (s : Search) → Amid lines root next s → AreMet s.met (children_in lines next) → Searching lines root s
done lines root next s amid all = record {
  ascends = amid.ascends;
  sound = amid.sound;
  waits = amid.waits;
  closed = λ t r. ⊎_elim (λ e. inr (subst (λ (n : ℕ). AreMet s.met (children_in lines n)) (sym e) all)) (λ o. o) (amid.closed t r);
}

-- the children of the last table that waits are come to
searched : (lines : List Line) (root next : ℕ) (met todo : List ℕ) (after : Search) → AreLines lines
    → Searching lines root (record { met = met; todo = todo ++ next ∷ [] })
    → fold found (record { met = met; todo = todo }) (children_in lines next) ≡ after → Searching lines root after
searched lines root next met todo after are s e =
    let g = goes lines root next (record { met = met; todo = todo }) (children_in lines next) are (λ c h. h) (taken lines root next met todo s) in
    subst (λ (a : Search). Searching lines root a) e (done lines root next _ g.amid g.all)

-- ---- it ends

unmet-less : (c : ℕ) (lines : List Line) (met : List ℕ) → unmet lines (put c met) ≤ unmet lines met
unmet-less c [] met = omega arith
unmet-less c (line ∷ lines) met = rw (among-put line.table c met) (by (is_among line.table met) (c == line.table) (unmet-less c lines met)) where
  by : (a b : Bool) → unmet lines (put c met) ≤ unmet lines met → cond (a || b) (unmet lines (put c met)) (unmet lines (put c met) + 1) ≤ cond a (unmet lines met) (unmet lines met + 1)
  by true b m = m
  by false true m = omega (arith, m)
  by false false m = omega (arith, m)

unmet-fewer : (c : ℕ) (lines : List Line) (met : List ℕ) → has_line lines c ≡ true → is_among c met ≡ false → unmet lines (put c met) + 1 ≤ unmet lines met
unmet-fewer c [] met h e = absurd (cc)
unmet-fewer c (line ∷ lines) met h e = rw (among-put line.table c met) (by (line.table == c) refl (λ o. unmet-fewer c lines met o e) h) where
  on : (a b : Bool) → unmet lines (put c met) + 1 ≤ unmet lines met → cond (a || b) (unmet lines (put c met)) (unmet lines (put c met) + 1) + 1 ≤ cond a (unmet lines met) (unmet lines met + 1)
  on true b m = m
  on false true m = omega (arith, m)
  on false false m = omega (arith, m)

  here : (a b : Bool) → a ≡ false → b ≡ true → unmet lines (put c met) ≤ unmet lines met → cond (a || b) (unmet lines (put c met)) (unmet lines (put c met) + 1) + 1 ≤ cond a (unmet lines met) (unmet lines met + 1)
  here true b f g m = absurd (cc)
  here false true f g m = omega (arith, m)
  here false false f g m = absurd (cc)

  by : (b : Bool) → (line.table == c) ≡ b → (has_line lines c ≡ true → unmet lines (put c met) + 1 ≤ unmet lines met) → (b || has_line lines c) ≡ true
      → cond (is_among line.table met || (c == line.table)) (unmet lines (put c met)) (unmet lines (put c met) + 1) + 1 ≤ cond (is_among line.table met) (unmet lines met) (unmet lines met + 1)
  by true f more o =
      let same = eqb-true line.table c f in
      here _ _ (ap (λ (n : ℕ). is_among n met) same ∙ e) (eq-eqb c line.table (sym same)) (unmet-less c lines met)
  by false f more o = on _ _ (more o)

work-found : (lines : List Line) (s : Search) (c : ℕ) → has_line lines c ≡ true → work lines (found s c).met (found s c).todo ≤ work lines s.met s.todo
work-found lines s c h = by (is_among c s.met) refl where
  by : (b : Bool) → is_among c s.met ≡ b
      → work lines (cond b s (record { met = put c s.met; todo = s.todo ++ c ∷ [] })).met (cond b s (record { met = put c s.met; todo = s.todo ++ c ∷ [] })).todo ≤ work lines s.met s.todo
  by true e = omega arith
  by false e =
      let fewer = unmet-fewer c lines s.met h e in
      let longer : length (s.todo ++ c ∷ []) ≡ length s.todo + 1 = length-append s.todo (c ∷ []) in
      omega (arith, fewer, longer)

work-each : (lines : List Line) (s : Search) (children : List ℕ) → ((c : ℕ) → is_among c children ≡ true → has_line lines c ≡ true)
    → work lines (fold found s children).met (fold found s children).todo ≤ work lines s.met s.todo
work-each lines s [] each = omega arith
work-each lines s (c ∷ children) each =
    let one = work-found lines s c (each c (or_left _ _ (eq-eqb c c refl))) in
    let rest = work-each lines (found s c) children (λ d h. each d (or_right _ _ h)) in
    omega (arith, one, rest)

pub worked : {T E : Type 0} (r : Result T E) (lines : List Line) (table : ℕ) (s after : Search) → AreLines lines
    → OnOk r (fold found s (children_in lines table) ≡ after) → OnOk r (work lines after.met after.todo ≤ work lines s.met s.todo)
worked r lines table s after are ok =
    on_ok_weaker r (λ e. subst (λ (a : Search). work lines a.met a.todo ≤ work lines s.met s.todo) e (work-each lines s (children_in lines table) (λ c h. are.known c table h))) ok

-- ---- its beginning and its end

begun : (lines : List Line) (root : ℕ) → Searching lines root (record { met = []; todo = root ∷ [] })
begun lines root = record {
  ascends = tt;
  sound = λ t m. absurd (cc);
  waits = λ t h. either _ (root == t) false (λ h. inl (sym (eqb-true root t h))) (λ h. absurd (cc)) h;
  closed = λ t r. ⊎_elim (λ e. inl (or_left (root == t) false (eq-eqb root t (sym e)))) (λ m. absurd (cc)) r;
}

no-more : (P : Type 0) → ((false ≡ true) ⊎ P) → P
no-more P (inl e) = absurd (cc)
no-more P (inr p) = p

all-found : (lines : List Line) (root : ℕ) (met : List ℕ) → AreLines lines → Searching lines root (record { met = met; todo = [] })
    → (t : ℕ) → Descends (links_in lines) root t → is_among t met ≡ true
all-found lines root met are s t (Descends.child_of _ h) = no-more _ (s.closed root (inl refl)) t (sym (links-are t root lines are.tables) ∙ h)
all-found lines root met are s t (Descends.child_below _ m d h) =
    no-more _ (s.closed m (inr (all-found lines root met are s m d))) t (sym (links-are t m lines are.tables) ∙ h)

-- ---- by what the calls say

pub begins : (lines : List Line) (root : ℕ) (met todo rest : List ℕ) → met ≡ [] → todo ≡ rest ++ root ∷ [] → rest ≡ []
    → Searching lines root (record { met = met; todo = todo })
begins lines root met todo rest e f g =
    subst (λ (ms : List ℕ). Searching lines root (record { met = ms; todo = todo })) (sym e)
    (subst (λ (ts : List ℕ). Searching lines root (record { met = []; todo = ts })) (sym (f ∙ ap (λ (r : List ℕ). r ++ root ∷ []) g)) (begun lines root))

pub goes-on : (lines : List Line) (root next : ℕ) (met met' todo popped todo' : List ℕ) → AreLines lines
    → Searching lines root (record { met = met; todo = todo }) → todo ≡ popped ++ next ∷ []
    → fold found (record { met = met; todo = popped }) (children_in lines next) ≡ record { met = met'; todo = todo' }
    → Searching lines root (record { met = met'; todo = todo' })
goes-on lines root next met met' todo popped todo' are s e f =
    searched lines root next met popped _ are (subst (λ (ts : List ℕ). Searching lines root (record { met = met; todo = ts })) e s) f

pub nothing-left : (todo popped : List ℕ) (n : ℕ) → todo ≡ popped ++ [] → popped ≡ take (n - 1) todo → n ≡ 0 → todo ≡ []
nothing-left todo popped n e f g = e ∙ ap (λ (p : List ℕ). p ++ []) (f ∙ ap (λ k. take (k - 1) todo) g)

pub ends : (lines : List Line) (root : ℕ) (met todo : List ℕ) → AreLines lines → Searching lines root (record { met = met; todo = todo }) → todo ≡ []
    → (t : ℕ) → (is_among t met ≡ true) ↔ Descends (links_in lines) root t
ends lines root met todo are s e t =
    let whole : Searching lines root (record { met = met; todo = [] }) = subst (λ (ts : List ℕ). Searching lines root (record { met = met; todo = ts })) e s in
    (whole.sound t, all-found lines root met are whole t)
