-- Places in lists of slots and constraints.
use Rattle.std.proofs.Common.{◌≡◌, ℕ, ◌+◌, ◌<◌, ◌≤◌, ◌^◌, zero, suc, Bool, true, false, cond, nat_lt, List, [], ◌∷◌, ◌++◌, length, drop, refl, ap, arith, get_or, slice_set, sym, ◌∙◌, append_assoc, subst, add-one, filter, map, take, Result, Ok, Err, IfOk, ◌⊎◌, inl, inr, not, count_by, length-append}
use Rattle.std.specs.List.{items_where_true}
use Rattle.std.specs.List.Retain.{IsFiltered, ReturnsInTurn}
use Rattle.std.proofs.lemmas.List.Sums.{length-filter, count_by-le-length}
use Rattle.std.proofs.lemmas.List.{take-append-drop, length-map}
use Rattle.al_schema.proofs.RowLaws.{one_value_each}
use Rattle.std.proofs.lemmas.Bool.{cond-true, cond-false, le-ltb, lt-ltb, cases_lt}
use Rattle.al_values.specs.declared.scalar.Value.{Value}
use Rattle.al_expr.specs.declared.column.Column.{Column}
use Rattle.al_schema.specs.declared.slot.Slot.{Slot}
use Rattle.al_schema.specs.declared.constraint.Constraint.{Constraint}
use Rattle.al_schema.specs.Slots.{row_by, columns_of, at_slot, name_at}
use Rattle.al_schema.specs.Constraints.{at_constraint}
use Rattle.al_schema.specs.Layout.{Layout}

-- what stands in a slot
abbrev pub value_in : List Value → ℕ → Value → Value
value_in stored at added = cond (nat_lt at (length stored)) (get_or stored at added) added

drop-none : (at : ℕ) → drop at (let none : List Value = [] in none) ≡ []
drop-none zero = refl
drop-none (suc at) = refl

step-empty : (slots : List Slot) (at : ℕ) (d : Slot) → at < length slots
    → row_by (drop at slots) [] ≡ cond (get_or slots at d).dropped (row_by (drop (suc at) slots) []) ((get_or slots at d).added ∷ row_by (drop (suc at) slots) [])
step-empty [] at d h = absurd (omega arith)
step-empty (slot ∷ slots) zero d h = refl
step-empty (slot ∷ slots) (suc at) d h = step-empty slots at d (omega arith)

value-none : (at : ℕ) (added : Value) → value_in [] at added ≡ added
value-none at added = cond-false (nat_lt at 0) _ _ (le-ltb at 0 (omega arith))

value-first : (v : Value) (stored : List Value) (added : Value) → value_in (v ∷ stored) zero added ≡ v
value-first v stored added = cond-true (nat_lt zero (length (v ∷ stored))) _ _ (lt-ltb zero (length (v ∷ stored)) (omega arith))

value-later : (v : Value) (stored : List Value) (at : ℕ) (added : Value) → value_in (v ∷ stored) (suc at) added ≡ value_in stored at added
value-later v stored at added = ap (λ (b : Bool). cond b (get_or stored at added) added) (same (cases_lt at (length stored))) where
  same : ((at < length stored) ⊎ (length stored ≤ at)) → nat_lt (suc at) (length (v ∷ stored)) ≡ nat_lt at (length stored)
  same (inl h) = lt-ltb (suc at) (length (v ∷ stored)) (omega arith) ∙ sym (lt-ltb at (length stored) h)
  same (inr h) = le-ltb (suc at) (length (v ∷ stored)) (omega arith) ∙ sym (le-ltb at (length stored) h)

row-step : (slots : List Slot) (stored : List Value) (at : ℕ) (d : Slot) → at < length slots
    → row_by (drop at slots) (drop at stored) ≡ cond (get_or slots at d).dropped (row_by (drop (suc at) slots) (drop (suc at) stored)) (value_in stored at (get_or slots at d).added ∷ row_by (drop (suc at) slots) (drop (suc at) stored))
row-step slots [] at d h =
    ap (row_by (drop at slots)) (drop-none at) ∙ step-empty slots at d h
    ∙ ap (λ (v : Value). cond (get_or slots at d).dropped (row_by (drop (suc at) slots) []) (v ∷ row_by (drop (suc at) slots) [])) (sym (value-none at (get_or slots at d).added))
row-step [] (v ∷ stored) at d h = absurd (omega arith)
row-step (slot ∷ slots) (v ∷ stored) zero d h = ap (λ (w : Value). cond slot.dropped (row_by slots stored) (w ∷ row_by slots stored)) (sym (value-first v stored slot.added))
row-step (slot ∷ slots) (v ∷ stored) (suc at) d h =
    row-step slots stored at d (omega arith)
    ∙ ap (λ (w : Value). cond (get_or slots at d).dropped (row_by (drop (suc at) slots) (drop (suc at) stored)) (w ∷ row_by (drop (suc at) slots) (drop (suc at) stored))) (sym (value-later v stored at (get_or slots at d).added))

pushed : (b : Bool) (row new rest : List Value) (v : Value) → new ≡ cond b row (row ++ v ∷ []) → new ++ rest ≡ row ++ cond b rest (v ∷ rest)
pushed true row new rest v e = ap (λ (r : List Value). r ++ rest) e
pushed false row new rest v e = ap (λ (r : List Value). r ++ rest) e ∙ append_assoc row (v ∷ []) rest

pub row-more : (slots : List Slot) (stored : List Value) (at : ℕ) (slot : Slot) (row new whole : List Value) → at < length slots → slot ≡ get_or slots at slot
    → row ++ row_by (drop at slots) (drop at stored) ≡ whole → new ≡ cond slot.dropped row (row ++ value_in stored at slot.added ∷ [])
    → new ++ row_by (drop (at + 1) slots) (drop (at + 1) stored) ≡ whole
row-more slots stored at slot row new whole h is before e =
    rw add-one (pushed slot.dropped row new _ (value_in stored at slot.added) e
    ∙ ap (λ (s : Slot). row ++ cond s.dropped (row_by (drop (suc at) slots) (drop (suc at) stored)) (value_in stored at s.added ∷ row_by (drop (suc at) slots) (drop (suc at) stored))) is
    ∙ ap (λ (r : List Value). row ++ r) (sym (row-step slots stored at slot h)) ∙ before)

pub set-slot : (slots : List Slot) (at : ℕ) (d : Slot) (change : Slot → Slot) → at < length slots → slice_set slots at (change (get_or slots at d)) ≡ at_slot at change slots
set-slot [] at d change h = absurd (omega arith)
set-slot (slot ∷ slots) zero d change h = refl
set-slot (slot ∷ slots) (suc at) d change h = ap (λ (ss : List Slot). slot ∷ ss) (set-slot slots at d change (omega arith))

pub set-constraint : (cs : List Constraint) (at : ℕ) (d : Constraint) (change : Constraint → Constraint) → at < length cs → slice_set cs at (change (get_or cs at d)) ≡ at_constraint at change cs
set-constraint [] at d change h = absurd (omega arith)
set-constraint (c ∷ cs) zero d change h = refl
set-constraint (c ∷ cs) (suc at) d change h = ap (λ (ss : List Constraint). c ∷ ss) (set-constraint cs at d change (omega arith))

pub name-there : (slots : List Slot) (at : ℕ) (d : Slot) → at < length slots → (get_or slots at d).name ≡ name_at slots at
name-there [] at d h = absurd (omega arith)
name-there (slot ∷ slots) zero d h = refl
name-there (slot ∷ slots) (suc at) d h = name-there slots at d (omega arith)

pub slots-length : (slots : List Slot) (at : ℕ) (change : Slot → Slot) → length (at_slot at change slots) ≡ length slots
slots-length [] at change = refl
slots-length (slot ∷ slots) zero change = refl
slots-length (slot ∷ slots) (suc at) change = omega (arith, slots-length slots at change)

pub constraints-length : (cs : List Constraint) (at : ℕ) (change : Constraint → Constraint) → length (at_constraint at change cs) ≡ length cs
constraints-length [] at change = refl
constraints-length (c ∷ cs) zero change = refl
constraints-length (c ∷ cs) (suc at) change = omega (arith, constraints-length cs at change)

-- ---- what a shape's method leaves

abbrev pub layout : List Slot → List Constraint → Layout
layout slots cs = record { slots = slots; constraints = cs }

pub slot-changed : (slots : List Slot) (at : ℕ) (slot : Slot) (change : Slot → Slot) → at < length slots → slot ≡ get_or slots at slot → slice_set slots at (change slot) ≡ at_slot at change slots
slot-changed slots at slot change h is = ap (λ (s : Slot). slice_set slots at (change s)) is ∙ set-slot slots at slot change h

pub constraint-changed : (cs : List Constraint) (at : ℕ) (c : Constraint) (change : Constraint → Constraint) → at < length cs → c ≡ get_or cs at c → slice_set cs at (change c) ≡ at_constraint at change cs
constraint-changed cs at c change h is = ap (λ (s : Constraint). slice_set cs at (change s)) is ∙ set-constraint cs at c change h

pub slot-within : (slots : List Slot) (cs : List Constraint) (at : ℕ) (s : Layout) → layout slots cs ≡ s → at < length s.slots → at < length slots
slot-within slots cs at s view h = subst (λ (l : Layout). at < length l.slots) (sym view) h

pub constraint-within : (slots : List Slot) (cs : List Constraint) (at : ℕ) (s : Layout) → layout slots cs ≡ s → at < length s.constraints → at < length cs
constraint-within slots cs at s view h = subst (λ (l : Layout). at < length l.constraints) (sym view) h

columns-kept : (change : Slot → Slot) → ((s : Slot) (rest : List Slot) → columns_of (change s ∷ rest) ≡ columns_of (s ∷ rest)) → (slots : List Slot) (at : ℕ) → columns_of (at_slot at change slots) ≡ columns_of slots
columns-kept change same [] at = refl
columns-kept change same (slot ∷ slots) zero = same slot slots
columns-kept change same (slot ∷ slots) (suc at) = ap (λ (cs : List Column). cond slot.dropped cs (record { name = slot.name; kind = slot.kind } ∷ cs)) (columns-kept change same slots at)

-- the invariant
abbrev pub Holds : List Column → List Slot → List Constraint → Type 0
Holds columns slots cs = (columns ≡ columns_of slots) × (length slots < 2 ^ 32) × (length cs < 2 ^ 32)

pub slots-hold : (columns : List Column) (slots new : List Slot) (cs : List Constraint) (at : ℕ) (change : Slot → Slot) → ((s : Slot) (rest : List Slot) → columns_of (change s ∷ rest) ≡ columns_of (s ∷ rest))
    → Holds columns slots cs → new ≡ at_slot at change slots → Holds columns new cs
slots-hold columns slots new cs at change same holds e =
    subst (λ (ss : List Slot). Holds columns ss cs) (sym e)
    (holds.0 ∙ sym (columns-kept change same slots at), subst (λ n. n < 2 ^ 32) (sym (slots-length slots at change)) holds.1, holds.2)

pub slots-layout : (slots new : List Slot) (cs : List Constraint) (at : ℕ) (change : Slot → Slot) (s : Layout) → layout slots cs ≡ s → new ≡ at_slot at change slots
    → layout new cs ≡ record s { slots = at_slot at change s.slots }
slots-layout slots new cs at change s view e =
    ap (λ (ss : List Slot). layout ss cs) e ∙ ap (λ (l : Layout). record l { slots = at_slot at change l.slots }) view

pub constraints-layout : (slots : List Slot) (cs new : List Constraint) (at : ℕ) (change : Constraint → Constraint) (s : Layout) → layout slots cs ≡ s → new ≡ at_constraint at change cs
    → layout slots new ≡ record s { constraints = at_constraint at change s.constraints }
constraints-layout slots cs new at change s view e =
    ap (λ (ss : List Constraint). layout slots ss) e ∙ ap (λ (l : Layout). record l { constraints = at_constraint at change l.constraints }) view

pub told : {T E : Type 0} {P Q : T → Type 0} (r : Result T E) → ((x : T) → P x → Q x) → IfOk r P → IfOk r Q
told (Ok v) f h = f v h
told (Err e) f h = tt

pub filter-shorter : {X : Type 0} (test : X → Bool) (xs : List X) (n : ℕ) → length xs < n → length (filter test xs) < n
filter-shorter test xs n h = omega (arith, length-filter test xs, count_by-le-length test xs)

-- what `retain` leaves
first_by : {X : Type 0} (x : X) (xs ys : List X) (bs : List Bool) (b t : Bool) → b ≡ t → items_where_true bs xs ≡ ys
    → items_where_true (b ∷ bs) (x ∷ xs) ≡ cond t (x ∷ ys) ys
first_by x xs ys bs true true e h = ap (λ zs. x ∷ zs) h
first_by x xs ys bs false false e h = h
first_by x xs ys bs true false e h = cc
first_by x xs ys bs false true e h = cc

turns-filter : {X P : Type 0} (R : P → X → Bool → P → Type 0) (test : X → Bool) (f : P)
    → ((x : X) (b : Bool) (g : P) → R f x b g → (b ≡ test x) × (g ≡ f))
    → (q : P) (bs : List Bool) (xs : List X) → length bs ≡ length xs → ReturnsInTurn R f bs xs q → items_where_true bs xs ≡ filter test xs
turns-filter R test f says q [] [] e h = refl
turns-filter R test f says q [] (x ∷ xs) e h = absurd (omega arith)
turns-filter R test f says q (b ∷ bs) [] e h = refl
turns-filter R test f says q (b ∷ bs) (x ∷ xs) e h =
    let said = says x b h.0 h.1 in
    let later = subst (λ g. ReturnsInTurn R g bs xs q) said.1 h.2 in
    first_by x xs (filter test xs) bs b (test x) said.0 (turns-filter R test f says q bs xs (omega arith) later)

-- where no call changes the closure, `retain` leaves what passes the test
pub filter-from_retain : {X P : Type 0} (R : P → X → Bool → P → Type 0) (test : X → Bool) (f : P)
    → ((x : X) (b : Bool) (g : P) → R f x b g → (b ≡ test x) × (g ≡ f))
    → (xs ys : List X) → IsFiltered R f xs ys → ys ≡ filter test xs
filter-from_retain R test f says xs ys h = rw h.4 (turns-filter R test f says h.1 h.0 xs h.2 h.3)

-- ---- a shape made of another's parts

pub slots-made : {E : Type 0} (r : Result Layout E) (slots new : List Slot) (cs : List Constraint) (at : ℕ) (change : Slot → Slot) (s : Layout) → layout slots cs ≡ s → new ≡ at_slot at change slots
    → IfOk r (λ shape. shape ≡ layout new cs) → IfOk r (λ shape. shape ≡ record s { slots = at_slot at change s.slots })
slots-made r slots new cs at change s view e h = told r (λ (x : Layout) (f : x ≡ layout new cs). f ∙ slots-layout slots new cs at change s view e) h

pub both-made : {E : Type 0} (r : Result Layout E) (slots new : List Slot) (cs others : List Constraint) (at : ℕ) (change : Slot → Slot) (keep : List ℕ → List Constraint → List Constraint) (slot : Slot) (s : Layout)
    → layout slots cs ≡ s → at < length slots → slot ≡ get_or slots at slot → new ≡ at_slot at change slots → others ≡ keep slot.name cs
    → IfOk r (λ shape. shape ≡ layout new others) → IfOk r (λ shape. shape ≡ record { slots = at_slot at change s.slots; constraints = keep (name_at s.slots at) s.constraints })
both-made r slots new cs others at change keep slot s view h is e f given =
    let name : slot.name ≡ name_at slots at = ap (λ (x : Slot). x.name) is ∙ name-there slots at slot h in
    told r (λ (x : Layout) (g : x ≡ layout new others).
    g ∙ ap (λ (ss : List Slot). layout ss others) e ∙ ap (λ (os : List Constraint). layout (at_slot at change slots) os) (f ∙ ap (λ (n : List ℕ). keep n cs) name)
    ∙ ap (λ (l : Layout). layout (at_slot at change l.slots) (keep (name_at l.slots at) l.constraints)) view) given

pub places-made : {E : Type 0} (r : Result (List ℕ) E) (slots : List Slot) (cs slice : List Constraint) (at : ℕ) (find : List ℕ → List Constraint → List ℕ) (slot : Slot) (s : Layout)
    → layout slots cs ≡ s → at < length slots → slot ≡ get_or slots at slot → slice ≡ cs
    → IfOk r (λ places. places ≡ find slot.name slice) → IfOk r (λ places. places ≡ find (name_at s.slots at) s.constraints)
places-made r slots cs slice at find slot s view h is same given =
    let name : slot.name ≡ name_at slots at = ap (λ (x : Slot). x.name) is ∙ name-there slots at slot h in
    told r (λ (x : List ℕ) (g : x ≡ find slot.name slice).
    g ∙ ap (find slot.name) same ∙ ap (λ (n : List ℕ). find n cs) name ∙ ap (λ (l : Layout). find (name_at l.slots at) l.constraints) view) given

pub width-is : {E : Type 0} (r : Result (List Value) E) (slots slice : List Slot) (cs : List Constraint) (stored : List Value) (s : Layout) → layout slots cs ≡ s → slice ≡ slots
    → IfOk r (λ row. row ≡ row_by slice stored) → IfOk r (λ row. length row ≡ length (columns_of s.slots))
width-is r slots slice cs stored s view same given =
    told r (λ (row : List Value) (e : row ≡ row_by slice stored). ap (λ (vs : List Value). length vs) (e ∙ ap (λ (ss : List Slot). row_by ss stored) same) ∙ one_value_each slots stored ∙ ap (λ (l : Layout). length (columns_of l.slots)) view) given

pub in-length : {X : Type 0} (f : X → X) (xs ys : List X) (i : ℕ) → ys ≡ map f (take i xs) ++ drop i xs → length ys ≡ length xs
in-length f xs ys i e = ap length e ∙ length-append (map f (take i xs)) (drop i xs) ∙ ap (λ n. n + length (drop i xs)) (length-map (take i xs) f) ∙ sym (length-append (take i xs) (drop i xs)) ∙ ap length (take-append-drop i xs)
