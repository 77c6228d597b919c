-- Tables of the parts: those of a number, and what is seen of them as they change.
use Rattle.std.proofs.Common.{◌≡◌, ℕ, ◌+◌, ◌<◌, ◌≤◌, List, [], ◌∷◌, ◌++◌, refl, sym, ap, cond, true, false, Bool, Option, Some, None, arith, ◌∙◌}
use Rattle.std.specs.Prelude.{◌==◌, ◌||◌}
use Rattle.std.proofs.lemmas.Bool.{ne_eqb, eq-eqb, eqb-true}
use Rattle.al_history.specs.Database.{Table, Database, same_name, named, has_table, with_table}
use Rattle.al_history.specs.Parts.{RowVersions, Generation, Description, TableParts, Sight, live_columns, seen_description, seen_generation, before, seen_rows, table_in, seen_table, seen_in, with_parts}
use Rattle.al_history.proofs.PartRows.{RowsBelow, below_more}

-- ---- the tables of a number

abbrev pub EachOf : ℕ → (TableParts → Type 0) → List TableParts → Type 0
EachOf number P [] = Unit {0}
EachOf number P (t ∷ tables) = (t.number ≡ number → P t) × EachOf number P tables

pub each_of : (number : ℕ) (P : TableParts → Type 0) (tables : List TableParts) → ((t : TableParts) → P t) → EachOf number P tables
each_of number P [] all = tt
each_of number P (t ∷ tables) all = ((λ is. all t), each_of number P tables all)

pub each_more : (number : ℕ) (P Q : TableParts → Type 0) (tables : List TableParts) → ((t : TableParts) → P t → Q t) → EachOf number P tables → EachOf number Q tables
each_more number P Q [] more each = tt
each_more number P Q (t ∷ tables) more each = ((λ is. more t (each.0 is)), each_more number P Q tables more each.1)

pub each_both : (number : ℕ) (P Q R : TableParts → Type 0) (tables : List TableParts) → ((t : TableParts) → P t → Q t → R t) → EachOf number P tables → EachOf number Q tables → EachOf number R tables
each_both number P Q R [] more p q = tt
each_both number P Q R (t ∷ tables) more p q = ((λ is. more t (p.0 is) (q.0 is)), each_both number P Q R tables more p.1 q.1)

pub each_push : (number : ℕ) (P : TableParts → Type 0) (tables : List TableParts) (t : TableParts) → EachOf number P tables → (t.number ≡ number → P t) → EachOf number P (tables ++ t ∷ [])
each_push number P [] t each own = (own, tt)
each_push number P (u ∷ tables) t each own = (each.0, each_push number P tables t each.1 own)

-- a change that keeps numbers
pub each_with : (number changed : ℕ) (P : TableParts → Type 0) (h : TableParts → TableParts) (tables : List TableParts) → ((t : TableParts) → (h t).number ≡ t.number) → ((t : TableParts) → changed ≡ number → P t → P (h t)) → EachOf number P tables → EachOf number P (with_parts changed h tables)
each_with number changed P h [] same keeps each = tt
each_with number changed P h (t ∷ tables) same keeps each = (by_test (t.number == changed) refl, each_with number changed P h tables same keeps each.1) where
  by_test : (b : Bool) → (t.number == changed) ≡ b → (cond b (h t) t).number ≡ number → P (cond b (h t) t)
  by_test true here is = let at : t.number ≡ number = sym (same t) ∙ is in keeps t (sym (eqb-true t.number changed here) ∙ at) (each.0 at)
  by_test false here is = each.0 is

-- ---- numbers ascend, and are places before

abbrev pub GenerationsBelow : ℕ → List Generation → Type 0
GenerationsBelow next [] = Unit {0}
GenerationsBelow next (g ∷ generations) = RowsBelow next g.rows × GenerationsBelow next generations

pub record IsSound (low next : ℕ) (t : TableParts) : Type 0 where
  pub from : low ≤ t.number
  pub below : t.number < next
  pub rows : GenerationsBelow next t.generations

abbrev pub AreSound : ℕ → ℕ → List TableParts → Type 0
AreSound low next [] = Unit {0}
AreSound low next (t ∷ tables) = IsSound low next t × AreSound (t.number + 1) next tables

pub generations_more : (next later : ℕ) (generations : List Generation) → next ≤ later → GenerationsBelow next generations → GenerationsBelow later generations
generations_more next later [] le below = tt
generations_more next later (g ∷ generations) le below = (below_more next later g.rows le below.0, generations_more next later generations le below.1)

sound_later : (low next later : ℕ) (t : TableParts) → next ≤ later → IsSound low next t → IsSound low later t
sound_later low next later t le sound = record { from = sound.from; below = omega (arith, sound.below); rows = generations_more next later t.generations le sound.rows }

pub sound_more : (low next later : ℕ) (tables : List TableParts) → next ≤ later → AreSound low next tables → AreSound low later tables
sound_more low next later [] le sound = tt
sound_more low next later (t ∷ tables) le sound = (sound_later low next later t le sound.0, sound_more (t.number + 1) next later tables le sound.1)

pub sound_push : (low next later : ℕ) (tables : List TableParts) (t : TableParts) → low ≤ next → t.number ≡ next → next < later → GenerationsBelow later t.generations → AreSound low next tables → AreSound low later (tables ++ t ∷ [])
sound_push low next later [] t le number lt rows sound = (record { from = omega (arith, le, number); below = omega (arith, lt, number); rows = rows }, tt)
sound_push low next later (u ∷ tables) t le number lt rows sound = (sound_later low next later u (omega (arith, lt)) sound.0, sound_push (u.number + 1) next later tables t (omega (arith, sound.0.below)) number lt rows sound.1)

pub sound_with : (low next later number : ℕ) (h : TableParts → TableParts) (tables : List TableParts) → next ≤ later → ((t : TableParts) → (h t).number ≡ t.number) → ((t : TableParts) → GenerationsBelow next t.generations → GenerationsBelow later (h t).generations) → AreSound low next tables → AreSound low later (with_parts number h tables)
sound_with low next later number h [] le same keeps sound = tt
sound_with low next later number h (t ∷ tables) le same keeps sound = by_test (t.number == number) (sound_with (t.number + 1) next later number h tables le same keeps sound.1) where
  by_test : (b : Bool) → AreSound (t.number + 1) later (with_parts number h tables) → AreSound low later (cond b (h t) t ∷ with_parts number h tables)
  by_test true rest = (record { from = rw (same t) sound.0.from; below = rw (same t) (omega (arith, sound.0.below, le)); rows = keeps t sound.0.rows }, rw (same t) rest)
  by_test false rest = (sound_later low next later t le sound.0, rest)

pub each_below : (low next number : ℕ) (tables : List TableParts) → AreSound low next tables → EachOf number (λ t. GenerationsBelow next t.generations) tables
each_below low next number [] sound = tt
each_below low next number (t ∷ tables) sound = ((λ is. sound.0.rows), each_below (t.number + 1) next number tables sound.1)

pub seen_below : (sees : ℕ → Bool) (next : ℕ) (generations : List Generation) → GenerationsBelow next generations → RowsBelow next (seen_generation sees generations)
seen_below sees next [] below = tt
seen_below sees next (g ∷ generations) below = by_seen (sees g.maker) (seen_below sees next generations below.1) where
  by_seen : (b : Bool) → RowsBelow next (seen_generation sees generations) → RowsBelow next (cond b g.rows (seen_generation sees generations))
  by_seen true more = below.0
  by_seen false more = more

-- ---- databases whose tables' numbers ascend

abbrev pub Ascends : ℕ → Database → Type 0
Ascends low [] = Unit {0}
Ascends low (t ∷ db) = (low ≤ t.number) × Ascends (t.number + 1) db

ascends_from : (low from : ℕ) (db : Database) → low ≤ from → Ascends from db → Ascends low db
ascends_from low from [] le up = tt
ascends_from low from (t ∷ db) le up = (omega (arith, le, up.0), up.1)

-- each table of the number changed, not only the first
abbrev pub with_each : ℕ → (Table → Table) → Database → Database
with_each number g [] = []
with_each number g (t ∷ db) = cond (t.number == number) (g t) t ∷ with_each number g db

none_with : (low number : ℕ) (g : Table → Table) (db : Database) → number < low → Ascends low db → with_each number g db ≡ db
none_with low number g [] lt up = refl
none_with low number g (t ∷ db) lt up = let other : (t.number == number) ≡ false = ne_eqb t.number number (λ e. omega (arith, lt, up.0, e)) in rw (other, none_with (t.number + 1) number g db (omega (arith, lt, up.0)) up.1) refl

pub with_once : (low number : ℕ) (g : Table → Table) (db : Database) → Ascends low db → with_table number g db ≡ with_each number g db
with_once low number g [] up = refl
with_once low number g (t ∷ db) up = by_test (t.number == number) refl (with_once (t.number + 1) number g db up.1) where
  by_test : (b : Bool) → (t.number == number) ≡ b → with_table number g db ≡ with_each number g db → cond b (g t ∷ db) (t ∷ with_table number g db) ≡ cond b (g t) t ∷ with_each number g db
  by_test true here more = let at : t.number ≡ number = eqb-true t.number number here in rw (none_with (t.number + 1) number g db (omega (arith, at)) up.1) refl
  by_test false here more = ap (λ (rest : Database). t ∷ rest) more

pub seen_ascends : (f : Sight) (low next : ℕ) (tables : List TableParts) → AreSound low next tables → Ascends low (seen_in f tables)
seen_ascends f low next [] sound = tt
seen_ascends f low next (t ∷ tables) sound = by_description (seen_description f.catalogue t.entries) (seen_ascends f (t.number + 1) next tables sound.1) where
  by_description : (o : Option Description) → Ascends (t.number + 1) (seen_in f tables) → Ascends low (before (table_in f.rows t.number o (seen_generation f.catalogue t.generations)) (seen_in f tables))
  by_description None rest = ascends_from low (t.number + 1) (seen_in f tables) (omega (arith, sound.0.from)) rest
  by_description (Some d) rest = (sound.0.from, rest)

pub named_from : (low : ℕ) (db : Database) (name : List ℕ) (t : Table) → Ascends low db → named db name ≡ Some t → low ≤ t.number
named_from low [] name t up is = absurd cc
named_from low (u ∷ db) name t up is = by_test (same_name u.name name) is (λ h. named_from (u.number + 1) db name t up.1 h) where
  by_test : (b : Bool) → cond b (Some u) (named db name) ≡ Some t → (named db name ≡ Some t → u.number + 1 ≤ t.number) → low ≤ t.number
  by_test true is more = let same : u ≡ t = cc in let number : u.number ≡ t.number = ap (λ (w : Table). w.number) same in omega (arith, number, up.0)
  by_test false is more = omega (arith, more is, up.0)

pub named_has : (db : Database) (name : List ℕ) (t : Table) → named db name ≡ Some t → has_table db t.number ≡ true
named_has [] name t is = absurd cc
named_has (u ∷ db) name t is = by_test (same_name u.name name) is (λ h. named_has db name t h) where
  by_rest : (b : Bool) → has_table db t.number ≡ true → (b || has_table db t.number) ≡ true
  by_rest true more = refl
  by_rest false more = more

  by_test : (b : Bool) → cond b (Some u) (named db name) ≡ Some t → (named db name ≡ Some t → has_table db t.number ≡ true) → has_table (u ∷ db) t.number ≡ true
  by_test true is more = let same : u ≡ t = cc in rw (same, eq-eqb t.number t.number refl) refl
  by_test false is more = by_rest (u.number == t.number) (more is)

-- ---- what is seen of tables

pub record IsDescribed (o : Option Description) (t : Table) : Type 0 where
  pub d : Description
  pub is : o ≡ Some d
  pub columns : live_columns d.layout.slots ≡ t.columns

-- a table that is seen has a description
pub description_of : (sees : ℕ → Bool) (number : ℕ) (o : Option Description) (rows : List RowVersions) (t : Table) → table_in sees number o rows ≡ Some t → IsDescribed o t
description_of sees number None rows t is = absurd cc
description_of sees number (Some d) rows t is =
    let same : record { number = number; name = d.name; columns = live_columns d.layout.slots; constraints = []; rows = seen_rows sees d.layout.slots rows } ≡ t = cc in
    record { d = d; is = refl; columns = ap (λ (w : Table). w.columns) same }

number_of : (sees : ℕ → Bool) (number : ℕ) (o : Option Description) (rows : List RowVersions) (t : Table) → table_in sees number o rows ≡ Some t → t.number ≡ number
number_of sees number None rows t is = absurd cc
number_of sees number (Some d) rows t is =
    let same : record { number = number; name = d.name; columns = live_columns d.layout.slots; constraints = []; rows = seen_rows sees d.layout.slots rows } ≡ t = cc in
    ap (λ (w : Table). w.number) (sym same)

none_of : (P : TableParts → Type 0) (low next number : ℕ) (tables : List TableParts) → number < low → AreSound low next tables → EachOf number P tables
none_of P low next number [] lt sound = tt
none_of P low next number (t ∷ tables) lt sound = ((λ is. absurd (omega (arith, lt, is, sound.0.from))), none_of P (t.number + 1) next number tables (omega (arith, lt, sound.0.from)) sound.1)

-- a table that is found is the only one of its number
pub found_once : (f : Sight) (low next : ℕ) (tables : List TableParts) (name : List ℕ) (t : Table) → AreSound low next tables → named (seen_in f tables) name ≡ Some t → EachOf t.number (λ u. seen_table f u ≡ Some t) tables
found_once f low next [] name t sound is = absurd cc
found_once f low next (u ∷ tables) name t sound is = by_table (seen_table f u) refl is (λ h. found_once f (u.number + 1) next tables name t sound.1 h) where
  later : named (seen_in f tables) name ≡ Some t → u.number ≡ t.number → ⊥
  later h same = let from : u.number + 1 ≤ t.number = named_from (u.number + 1) (seen_in f tables) name t (seen_ascends f (u.number + 1) next tables sound.1) h in omega (arith, from, same)

  by_name : (w : Table) (b : Bool) → seen_table f u ≡ Some w → cond b (Some w) (named (seen_in f tables) name) ≡ Some t → (named (seen_in f tables) name ≡ Some t → EachOf t.number (λ v. seen_table f v ≡ Some t) tables) → EachOf t.number (λ v. seen_table f v ≡ Some t) (u ∷ tables)
  by_name w true seen is more =
      let same : w ≡ t = cc in
      let number : w.number ≡ u.number = number_of f.rows u.number (seen_description f.catalogue u.entries) (seen_generation f.catalogue u.generations) w seen in
      let its : t.number ≡ u.number = rw same at number in
      ((λ e. seen ∙ ap Some same), none_of _ (u.number + 1) next t.number tables (omega (arith, its)) sound.1)
  by_name w false seen is more = ((λ e. absurd (later is e)), more is)

  by_table : (q : Option Table) → seen_table f u ≡ q → named (before q (seen_in f tables)) name ≡ Some t → (named (seen_in f tables) name ≡ Some t → EachOf t.number (λ v. seen_table f v ≡ Some t) tables) → EachOf t.number (λ v. seen_table f v ≡ Some t) (u ∷ tables)
  by_table None seen is more = ((λ e. absurd (later is e)), more is)
  by_table (Some w) seen is more = by_name w (same_name w.name name) seen is more

-- ---- what is seen of a table that has changed

abbrev pub mapped : (Table → Table) → Option Table → Option Table
mapped g None = None
mapped g (Some u) = Some (g u)

with_before : (number n : ℕ) (g : Table → Table) (sees : ℕ → Bool) (o : Option Description) (rows : List RowVersions) (rest : Database) → with_each number g (before (table_in sees n o rows) rest) ≡ before (cond (n == number) (mapped g (table_in sees n o rows)) (table_in sees n o rows)) (with_each number g rest)
with_before number n g sees None rows rest = by_test (n == number) where
  by_test : (b : Bool) → with_each number g rest ≡ before (cond b None None) (with_each number g rest)
  by_test true = refl
  by_test false = refl
with_before number n g sees (Some d) rows rest = by_test (n == number) (record { number = n; name = d.name; columns = live_columns d.layout.slots; constraints = []; rows = seen_rows sees d.layout.slots rows }) where
  by_test : (b : Bool) (u : Table) → cond b (g u) u ∷ with_each number g rest ≡ before (cond b (Some (g u)) (Some u)) (with_each number g rest)
  by_test true u = refl
  by_test false u = refl

-- a change of each table of the number that is seen
pub seen_with : (f : Sight) (number : ℕ) (h : TableParts → TableParts) (g : Table → Table) (tables : List TableParts) → EachOf number (λ t. seen_table f (h t) ≡ mapped g (seen_table f t)) tables → seen_in f (with_parts number h tables) ≡ with_each number g (seen_in f tables)
seen_with f number h g [] each = refl
seen_with f number h g (t ∷ tables) each = by_test (t.number == number) (eqb-true t.number number) (seen_with f number h g tables each.1) ∙ sym (with_before number t.number g f.rows (seen_description f.catalogue t.entries) (seen_generation f.catalogue t.generations) (seen_in f tables)) where
  by_test : (b : Bool) → (b ≡ true → t.number ≡ number) → seen_in f (with_parts number h tables) ≡ with_each number g (seen_in f tables) → before (seen_table f (cond b (h t) t)) (seen_in f (with_parts number h tables)) ≡ before (cond b (mapped g (seen_table f t)) (seen_table f t)) (with_each number g (seen_in f tables))
  by_test true is more = rw (each.0 (is refl), more) refl
  by_test false is more = rw more refl

-- a change that isn't seen
pub seen_same : (f : Sight) (number : ℕ) (h : TableParts → TableParts) (tables : List TableParts) → EachOf number (λ t. seen_table f (h t) ≡ seen_table f t) tables → seen_in f (with_parts number h tables) ≡ seen_in f tables
seen_same f number h [] each = refl
seen_same f number h (t ∷ tables) each = by_test (t.number == number) (eqb-true t.number number) (seen_same f number h tables each.1) where
  by_test : (b : Bool) → (b ≡ true → t.number ≡ number) → seen_in f (with_parts number h tables) ≡ seen_in f tables → before (seen_table f (cond b (h t) t)) (seen_in f (with_parts number h tables)) ≡ before (seen_table f t) (seen_in f tables)
  by_test true is more = rw (each.0 (is refl), more) refl
  by_test false is more = rw more refl

pub seen_push : (f : Sight) (tables : List TableParts) (t : TableParts) → seen_in f (tables ++ t ∷ []) ≡ seen_in f tables ++ before (seen_table f t) []
seen_push f [] t = refl
seen_push f (u ∷ tables) t = rw (seen_push f tables t) (by_option (seen_table f u)) where
  by_option : (o : Option Table) → before o (seen_in f tables ++ before (seen_table f t) []) ≡ before o (seen_in f tables) ++ before (seen_table f t) []
  by_option None = refl
  by_option (Some v) = refl
