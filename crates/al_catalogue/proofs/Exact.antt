-- The places of a name are exactly those of the tables that have it, and no name is kept without one.
use Rattle.std.proofs.Common.{◌≡◌, ℕ, ◌<◌, Bool, true, false, cond, not, ◌||◌, ◌&&◌, List, [], ◌∷◌, ◌++◌, refl, sym, ap, ◌∙◌, subst, arith, zero, suc, slice_get, get_or, length, Option, Some, None, unwrap_or, Result, Ok, Err, OnOk, OnErr}
use Rattle.std.specs.Prelude.{◌==◌, String}
use Rattle.std.specs.List.{list_any}
use Rattle.std.specs.Option.{option_map_or, is_some}
use Rattle.std.specs.Str.{bytes_eq}
use Rattle.std.specs.String.{string_bytes, string_eq}
use Rattle.std.proofs.lemmas.Slice.Eq.{bytes_eq-Decides}
use Rattle.std.proofs.lemmas.Map.Text.{hash_map_updates_text}
use Rattle.indexmap.specs.IndexMap.{IndexMap, UpdatesBy, get_by_text}
use Rattle.std.proofs.lemmas.Bool.{eqb-true, eqb-false, eq-eqb, ne_eqb, or_left, or_right}
use Rattle.std.proofs.lemmas.List.Folds.{list_any-append}
use Rattle.al_catalogue.specs.declared.entry.TableEntry.{TableEntry}
use Rattle.al_catalogue.specs.declared.entry.Own.{Own}
use Rattle.al_catalogue.specs.declared.entry.Kept.{Kept}
use Rattle.al_catalogue.specs.Names.{is_called}
use Rattle.al_catalogue.specs.Indexed.{is_listed, with_place, without_place, ChangesNamed, has_name, has_name_at, AreExact, AreExactBut, ListsMore, HasNoBare, at_place, with_own, named_in}

or-none : (a : Bool) → a ≡ (a || false)
or-none true = refl
or-none false = refl

and-one : (a : Bool) → a ≡ (a && true)
and-one true = refl
and-one false = refl

and-none : (a : Bool) → false ≡ (a && false)
and-none true = refl
and-none false = refl

drop-none : (h x : Bool) → (h || (x && false)) ≡ h
drop-none true x = refl
drop-none false true = refl
drop-none false false = refl

bytes_same : (xs ys : List ℕ) → bytes_eq xs ys ≡ true → xs ≡ ys
bytes_same xs ys e = (bytes_eq-Decides xs ys).0 e

-- ---- places

listed-more_by : (at i : ℕ) (places : List ℕ) (b : Bool) → is_listed at places ≡ b → is_listed i (cond b places (places ++ at ∷ [])) ≡ (is_listed i places || (at == i))
listed-more_by at i places true e = by (at == i) refl where
  by : (b : Bool) → (at == i) ≡ b → is_listed i places ≡ (is_listed i places || b)
  by true f = let h : is_listed i places ≡ true = subst (λ (n : ℕ). is_listed n places ≡ true) (eqb-true at i f) e in h ∙ sym (or_right (is_listed i places) true refl)
  by false f = or-none (is_listed i places)
listed-more_by at i places false e = list_any-append (λ (place : ℕ). place == i) places (at ∷ []) ∙ ap (λ b. is_listed i places || b) (sym (or-none (at == i)))

listed-less_by : (i at x : ℕ) (xs : List ℕ) (b : Bool) → (x == at) ≡ b → is_listed i (without_place at xs) ≡ (is_listed i xs && not (at == i))
    → is_listed i (cond (not b) (x ∷ without_place at xs) (without_place at xs)) ≡ (((x == i) || is_listed i xs) && not (at == i))
listed-less_by i at x xs true e more = rw (eqb-true x at e) (by (at == i) (is_listed i xs) more) where
  by : (b rest : Bool) → is_listed i (without_place at xs) ≡ (rest && not b) → is_listed i (without_place at xs) ≡ ((b || rest) && not b)
  by true true m = m
  by true false m = m
  by false true m = m
  by false false m = m
listed-less_by i at x xs false e more = by (x == i) refl (at == i) refl (is_listed i xs) more where
  by : (b : Bool) → (x == i) ≡ b → (d : Bool) → (at == i) ≡ d → (rest : Bool) → is_listed i (without_place at xs) ≡ (rest && not d) → (b || is_listed i (without_place at xs)) ≡ ((b || rest) && not d)
  by true p true q rest m = let l = eqb-true x i p in let r = eqb-true at i q in absurd (eqb-false x at e (l ∙ sym r))
  by true p false q rest m = refl
  by false p d q rest m = m

listed-less : (at i : ℕ) (xs : List ℕ) → is_listed i (without_place at xs) ≡ (is_listed i xs && not (at == i))
listed-less at i [] = refl
listed-less at i (x ∷ xs) = listed-less_by i at x xs (x == at) refl (listed-less at i xs)

-- ---- a name that a change gives

pub lists-more : (before after : List ℕ → List ℕ) (entry : TableEntry) (at : ℕ) → ChangesNamed before after entry.name (with_place at) → ListsMore before after at (Some entry)
lists-more before after entry at e name other = ap (is_listed other) (e name) ∙ by (bytes_eq entry.name name) where
  by : (b : Bool) → is_listed other (cond b (with_place at (before name)) (before name)) ≡ (is_listed other (before name) || ((at == other) && b))
  by true = listed-more_by at other (before name) (is_listed at (before name)) refl ∙ ap (λ b. is_listed other (before name) || b) (and-one (at == other))
  by false = or-none (is_listed other (before name)) ∙ ap (λ b. is_listed other (before name) || b) (and-none (at == other))

pub lists-none : (named : List ℕ → List ℕ) (at : ℕ) → ListsMore named named at None
lists-none named at name other = sym (drop-none (is_listed other (named name)) (at == other))

pub exact-but : (tables : List Kept) (named named' : List ℕ → List ℕ) (at : ℕ) (entry : Option TableEntry) → AreExact tables named → ListsMore named named' at entry → AreExactBut tables named' at entry
exact-but tables named named' at entry exact more name other = more name other ∙ ap (λ b. b || ((at == other) && is_called name entry)) (exact name other)

pub exact-same : (tables : List Kept) (named named' : List ℕ → List ℕ) → ((name : List ℕ) → named' name ≡ named name) → AreExact tables named → AreExact tables named'
exact-same tables named named' same exact name at = ap (is_listed at) (same name) ∙ exact name at

-- ---- a name that is gone

pub exact-cut : (tables : List Kept) (before after : List ℕ → List ℕ) (gone : TableEntry) (at : ℕ) → ChangesNamed before after gone.name (without_place at)
    → has_name_at tables gone.name at ≡ false → AreExactBut tables before at (Some gone) → AreExact tables after
exact-cut tables before after gone at e out but name other = ap (is_listed other) (e name) ∙ by (bytes_eq gone.name name) refl (but name other) where
  cut : (x h : Bool) → (x ≡ true → h ≡ false) → ((h || (x && true)) && not x) ≡ h
  cut true true f = let e : true ≡ false = f refl in absurd (cc)
  cut true false f = refl
  cut false true f = refl
  cut false false f = refl

  by : (b : Bool) → bytes_eq gone.name name ≡ b → is_listed other (before name) ≡ (has_name_at tables name other || ((at == other) && b))
      → is_listed other (cond b (without_place at (before name)) (before name)) ≡ has_name_at tables name other
  by true same h =
      listed-less at other (before name) ∙ ap (λ l. l && not (at == other)) h
      ∙ cut (at == other) (has_name_at tables name other)
      (λ here. subst (λ (n : List ℕ). has_name_at tables n other ≡ false) (bytes_same gone.name name same) (subst (λ (i : ℕ). has_name_at tables gone.name i ≡ false) (eqb-true at other here) out))
  by false same h = h ∙ drop-none (has_name_at tables name other) (at == other)

pub exact-kept : (tables : List Kept) (named : List ℕ → List ℕ) (gone : TableEntry) (at : ℕ) → has_name_at tables gone.name at ≡ true → AreExactBut tables named at (Some gone) → AreExact tables named
exact-kept tables named gone at there but name other =
    but name other ∙ stay (at == other) (bytes_eq gone.name name) (has_name_at tables name other)
    (λ here same. subst (λ (n : List ℕ). has_name_at tables n other ≡ true) (bytes_same gone.name name same) (subst (λ (i : ℕ). has_name_at tables gone.name i ≡ true) (eqb-true at other here) there)) where
      stay : (x b h : Bool) → (x ≡ true → b ≡ true → h ≡ true) → (h || (x && b)) ≡ h
      stay true true true f = refl
      stay true true false f = let e : false ≡ true = f refl refl in absurd (cc)
      stay true false true f = refl
      stay true false false f = refl
      stay false b true f = refl
      stay false b false f = refl

pub exact-none : (tables : List Kept) (named : List ℕ → List ℕ) (at : ℕ) → AreExactBut tables named at None → AreExact tables named
exact-none tables named at but name other = but name other ∙ drop-none (has_name_at tables name other) (at == other)

-- ---- the table at a place

get-other : (change : Kept → Kept) (tables : List Kept) (at other : ℕ) → (at ≡ other → ⊥) → slice_get (at_place change at tables) other ≡ slice_get tables other
get-other change [] at other apart = refl
get-other change (first ∷ tables) zero zero apart = absurd (apart refl)
get-other change (first ∷ tables) zero (suc other) apart = refl
get-other change (first ∷ tables) (suc at) zero apart = refl
get-other change (first ∷ tables) (suc at) (suc other) apart = get-other change tables at other (λ e. apart (ap suc e))

get-here : (change : Kept → Kept) (tables : List Kept) (at : ℕ) (kept : Kept) → slice_get tables at ≡ Some kept → slice_get (at_place change at tables) at ≡ Some (change kept)
get-here change [] at kept e = absurd (cc)
get-here change (first ∷ tables) zero kept e = let same : first ≡ kept = (cc) in ap (λ (k : Kept). Some (change k)) same
get-here change (first ∷ tables) (suc at) kept e = get-here change tables at kept e

pub got : (tables : List Kept) (at : ℕ) (kept : Kept) → at < length tables → kept ≡ get_or tables at kept → slice_get tables at ≡ Some kept
got [] at kept h e = absurd (omega arith)
got (first ∷ tables) zero kept h e = ap Some (sym e)
got (first ∷ tables) (suc at) kept h e = got tables at kept (omega arith) e

pub exact-changed : (change : Kept → Kept) (tables : List Kept) (named : List ℕ → List ℕ) (at : ℕ) (more gone : Option TableEntry) (kept : Kept) → slice_get tables at ≡ Some kept
    → ((name : List ℕ) → (has_name name kept || is_called name more) ≡ (has_name name (change kept) || is_called name gone))
    → AreExactBut tables named at more → AreExactBut (at_place change at tables) named at gone
exact-changed change tables named at more gone kept there names but name other = but name other ∙ by (at == other) refl where
  by : (b : Bool) → (at == other) ≡ b → (has_name_at tables name other || (b && is_called name more)) ≡ (has_name_at (at_place change at tables) name other || (b && is_called name gone))
  by true e =
      let same = eqb-true at other e in
      let old : slice_get tables other ≡ Some kept = subst (λ (i : ℕ). slice_get tables i ≡ Some kept) same there in
      let new : slice_get (at_place change at tables) other ≡ Some (change kept) = subst (λ (i : ℕ). slice_get (at_place change at tables) i ≡ Some (change kept)) same (get-here change tables at kept there) in
      ap (λ (o : Option Kept). option_map_or (has_name name) o false || is_called name more) old ∙ names name
      ∙ ap (λ (o : Option Kept). option_map_or (has_name name) o false || is_called name gone) (sym new)
  by false e = ap (λ (o : Option Kept). option_map_or (has_name name) o false || false) (sym (get-other change tables at other (eqb-false at other e)))

abbrev own_entry : Option Own → Option TableEntry
own_entry None = None
own_entry (Some own) = own.entry

replaced : (own : Own) (committed : Option TableEntry) (number : ℕ) (before : Option Own) (entry : Option TableEntry) → entry ≡ own_entry before → (name : List ℕ)
    → (has_name name (record { number = number; committed = committed; own = before }) || is_called name own.entry)
    ≡ (has_name name (with_own own (record { number = number; committed = committed; own = before })) || is_called name entry)
replaced own committed number None entry e name = rw e (by (is_called name committed) (is_called name own.entry)) where
  by : (c n : Bool) → ((c || false) || n) ≡ ((c || n) || false)
  by true n = refl
  by false true = refl
  by false false = refl
replaced own committed number (Some before) entry e name = rw e (by (is_called name committed) (is_called name before.entry) (is_called name own.entry)) where
  by : (c o n : Bool) → ((c || o) || n) ≡ ((c || n) || o)
  by true o n = refl
  by false true true = refl
  by false true false = refl
  by false false true = refl
  by false false false = refl

pub exact-replaced : (tables : List Kept) (named : List ℕ → List ℕ) (at : ℕ) (own before : Own) (kept : Kept) → slice_get tables at ≡ Some kept → kept.own ≡ Some before
    → AreExactBut tables named at own.entry → AreExactBut (at_place (with_own own) at tables) named at before.entry
exact-replaced tables named at own before kept there e but =
    exact-changed (with_own own) tables named at own.entry before.entry kept there (replaced own kept.committed kept.number kept.own before.entry (ap own_entry (sym e))) but

pub exact-first : (tables : List Kept) (named : List ℕ → List ℕ) (at : ℕ) (own : Own) (kept : Kept) → slice_get tables at ≡ Some kept → kept.own ≡ None
    → AreExactBut tables named at own.entry → AreExact (at_place (with_own own) at tables) named
exact-first tables named at own kept there e but =
    exact-none (at_place (with_own own) at tables) named at
    (exact-changed (with_own own) tables named at own.entry None kept there (replaced own kept.committed kept.number kept.own None (ap own_entry (sym e))) but)

pub exact-over : (tables : List Kept) (named : List ℕ → List ℕ) (at : ℕ) → AreExact tables named → AreExactBut tables named at None
exact-over tables named at exact name other = exact name other ∙ sym (drop-none (has_name_at tables name other) (at == other))

-- ---- a table more

same_suc : (a b : ℕ) → (suc a == suc b) ≡ (a == b)
same_suc a b = by (a == b) refl where
  by : (x : Bool) → (a == b) ≡ x → (suc a == suc b) ≡ x
  by true e = eq-eqb (suc a) (suc b) (ap suc (eqb-true a b e))
  by false e = ne_eqb (suc a) (suc b) (λ f. eqb-false a b e (omega arith))

has-pushed : (tables : List Kept) (new : Kept) (name : List ℕ) (other : ℕ) → has_name_at (tables ++ new ∷ []) name other ≡ (has_name_at tables name other || ((length tables == other) && has_name name new))
has-pushed [] new name zero = refl
has-pushed [] new name (suc other) = rw (ne_eqb 0 (suc other) (λ e. absurd (omega arith))) refl
has-pushed (first ∷ tables) new name zero = rw (ne_eqb (suc (length tables)) 0 (λ e. absurd (omega arith))) (or-none (has_name name first))
has-pushed (first ∷ tables) new name (suc other) = rw (same_suc (length tables) other) (has-pushed tables new name other)

pub exact-pushed : (tables : List Kept) (named : List ℕ → List ℕ) (at table : ℕ) (own : Own) → at ≡ length tables → AreExactBut tables named at own.entry
    → AreExact (tables ++ record { number = table; committed = None; own = Some own } ∷ []) named
exact-pushed tables named at table own e but name other =
    but name other ∙ ap (λ (n : ℕ). has_name_at tables name other || ((n == other) && is_called name own.entry)) e
    ∙ sym (has-pushed tables (record { number = table; committed = None; own = Some own }) name other)

-- ---- no name without a place

with-some : (at : ℕ) (places : List ℕ) → with_place at places ≡ [] → ⊥
with-some at [] e = absurd (cc)
with-some at (place ∷ places) e = by (is_listed at (place ∷ places)) e where
  by : (b : Bool) → cond b (place ∷ places) ((place ∷ places) ++ at ∷ []) ≡ [] → ⊥
  by true f = absurd (cc)
  by false f = absurd (cc)

pub filled-after : {Y S V W : Type 0} (bs : List ℕ) (m n : IndexMap (String Y) (List ℕ) S) (result : Result V W) (at : ℕ) (places w : List ℕ)
    → UpdatesBy string_eq (λ (k : String Y). bytes_eq bs (string_bytes k)) m n (Some w) → Some places ≡ get_by_text m bs
    → OnOk result (w ≡ with_place at places) → OnErr result (w ≡ places) → HasNoBare (get_by_text m) → HasNoBare (get_by_text n)
filled-after {V = V} {W = W} bs m n result at places w updates value ok err filled name e = by (bytes_eq bs name) (sym (hash_map_updates_text bs m n (Some w) updates name) ∙ e) where
  here : (r : Result V W) → OnOk r (w ≡ with_place at places) → OnErr r (w ≡ places) → w ≡ [] → ⊥
  here (Ok v) o f g = with-some at places (sym o ∙ g)
  here (Err v) o f g = filled bs (sym value ∙ ap Some (sym f ∙ g))

  by : (b : Bool) → cond b (Some w) (get_by_text m name) ≡ Some [] → ⊥
  by true f = here result ok err (cc)
  by false f = filled name f

pub filled-new : {Y S : Type 0} (bs : List ℕ) (m n : IndexMap (String Y) (List ℕ) S) (at : ℕ) (places w : List ℕ)
    → UpdatesBy string_eq (λ (k : String Y). bytes_eq bs (string_bytes k)) m n (Some w) → w ≡ with_place at places → HasNoBare (get_by_text m) → HasNoBare (get_by_text n)
filled-new bs m n at places w updates is filled name e = by (bytes_eq bs name) (sym (hash_map_updates_text bs m n (Some w) updates name) ∙ e) where
  by : (b : Bool) → cond b (Some w) (get_by_text m name) ≡ Some [] → ⊥
  by true f = with-some at places (sym is ∙ cc)
  by false f = filled name f

pub bare-stripped : {Y S : Type 0} (bs : List ℕ) (m n : IndexMap (String Y) (List ℕ) S) (w : List ℕ) (empty : Bool)
    → UpdatesBy string_eq (λ (k : String Y). bytes_eq bs (string_bytes k)) m n (Some w) → (w ≡ [] → empty ≡ true) → HasNoBare (get_by_text m)
    → (asked : List ℕ) → get_by_text n asked ≡ Some [] → (empty ≡ true) × (bytes_eq bs asked ≡ true)
bare-stripped bs m n w empty updates is filled asked e = by (bytes_eq bs asked) (sym (hash_map_updates_text bs m n (Some w) updates asked) ∙ e) where
  by : (b : Bool) → cond b (Some w) (get_by_text m asked) ≡ Some [] → (empty ≡ true) × (b ≡ true)
  by true f = (is (cc), refl)
  by false f = absurd (filled asked f)

pub filled-cut : {Y S : Type 0} (bs : List ℕ) (m n : IndexMap (String Y) (List ℕ) S)
    → UpdatesBy string_eq (λ (k : String Y). bytes_eq bs (string_bytes k)) m n None → ((asked : List ℕ) → get_by_text m asked ≡ Some [] → bytes_eq bs asked ≡ true) → HasNoBare (get_by_text n)
filled-cut bs m n updates only name e = by (bytes_eq bs name) refl (sym (hash_map_updates_text bs m n None updates name) ∙ e) where
  by : (b : Bool) → bytes_eq bs name ≡ b → cond b None (get_by_text m name) ≡ Some [] → ⊥
  by true g f = absurd (cc)
  by false g f = let h = only name f in absurd (cc)

-- ---- a name that is kept

none-has : (tables : List Kept) (name : List ℕ) → ((at : ℕ) → has_name_at tables name at ≡ false) → list_any (has_name name) tables ≡ false
none-has [] name none = refl
none-has (first ∷ tables) name none = rw (none 0) (none-has tables name (λ at. none (suc at)))

one-has : (tables : List Kept) (name : List ℕ) (at : ℕ) → has_name_at tables name at ≡ true → list_any (has_name name) tables ≡ true
one-has [] name at e = absurd (cc)
one-has (first ∷ tables) name zero e = or_left _ _ e
one-has (first ∷ tables) name (suc at) e = or_right _ _ (one-has tables name at e)

pub kept-name : {Y S : Type 0} (names : IndexMap (String Y) (List ℕ) S) (tables : List Kept) (name : List ℕ) → AreExact tables (named_in names) → HasNoBare (get_by_text names)
    → is_some (get_by_text names name) ≡ list_any (has_name name) tables
kept-name names tables name exact filled = by (get_by_text names name) refl where
  by : (o : Option (List ℕ)) → get_by_text names name ≡ o → is_some o ≡ list_any (has_name name) tables
  by None e = sym (none-has tables name (λ at. sym (exact name at) ∙ ap (λ (o : Option (List ℕ)). is_listed at (unwrap_or o [])) e))
  by (Some []) e = absurd (filled name e)
  by (Some (at ∷ places)) e =
      sym (one-has tables name at (sym (exact name at) ∙ ap (λ (o : Option (List ℕ)). is_listed at (unwrap_or o [])) e ∙ or_left _ _ (eq-eqb at at refl)))

-- what is told of a result that is known
pub ok-holds : {T E P : Type 0} (r : Result T E) (v : T) → r ≡ Ok v → OnOk r P → P
ok-holds (Ok w) v e p = p
ok-holds (Err w) v e p = absurd (cc)
