-- Where a key stands among keys in ascending order.
use Rattle.std.proofs.Common.{◌≡◌, ℕ, ◌+◌, ◌<◌, ◌≤◌, Bool, true, false, cond, List, [], ◌∷◌, ◌++◌, length, take, drop, refl, sym, ap, ◌∙◌, subst, arith, zero, suc, slice_get, slice_set, get_or, IfSome, OnOk, OnErr, Result, Ok, Err, Option, Some, None, ◌⊎◌, ⊎_elim}
use Rattle.std.specs.List.{insert}
use Rattle.std.specs.declared.cmp.Ordering.{Ordering}
use Rattle.std.specs.declared.cmp.Ordering.TheVariants.{Less, Equal, Greater}
use Rattle.std.specs.Ordering.{ordering_reverse}
use Rattle.std.proofs.lemmas.Bool.{cases_eq, cases_lt}
use Rattle.std.proofs.lemmas.Cmp.{tied_itself}
use Rattle.std.proofs.lemmas.Option.{none-some, same_Some, slice_get_within, slice_get_read}
use Rattle.al_values.specs.declared.scalar.Value.{Value}
use Rattle.al_keys.specs.declared.entry.Entry.{Entry}
use Rattle.al_keys.specs.declared.version.KeyVersion.{KeyVersion}
use Rattle.al_keys.specs.Order.{key_order, has_null, keys_equal}
use Rattle.al_keys.specs.Keys.{versions_in, ChangesKey, with_version, made}
use Rattle.al_keys.specs.Kept.{IsSorted, AreWhole, IsKept, AllLess, AllGreater, StandsAt, WouldStandAt}
use Rattle.al_keys.proofs.OrderLaws.{key_total, key-same, equal-same, equal-itself, apart-differ}

-- ---- bisection

-- the key stands between two places, if anywhere
pub record Between (entries : List Entry) (key : List Value) (low high : ℕ) : Type 0 where
  pub ordered : low ≤ high
  pub within : high ≤ length entries
  pub below : AllLess entries key low
  pub above : AllGreater entries key high

pub between-all : (es : List Entry) (key : List Value) → Between es key 0 (length es)
between-all es key = record {
  ordered = omega arith;
  within = omega arith;
  below = λ i e h got. absurd (omega arith);
  above = λ i e h got. absurd (let w : i < length es = slice_get_within es i e got in omega arith);
}

flip-less : (xs ys : List Value) → key_order xs ys ≡ Less → key_order ys xs ≡ Greater
flip-less xs ys e = key_total.antisymm ys xs ∙ ap ordering_reverse e

flip-greater : (xs ys : List Value) → key_order xs ys ≡ Greater → key_order ys xs ≡ Less
flip-greater xs ys e = key_total.antisymm ys xs ∙ ap ordering_reverse e

-- a key before one that isn't greater than a key is less than it
less-before : (es : List Entry) (key : List Value) (m : ℕ) (middle : Entry) → IsSorted es → slice_get es m ≡ Some middle → key_order middle.key key ≡ Less → AllLess es key (m + 1)
less-before es key m middle sorted got e i entry h there = by_place (cases_eq i m) where
  by_place : (i ≡ m) ⊎ (i ≡ m → ⊥) → key_order entry.key key ≡ Less
  by_place p = ⊎_elim
      (λ same. ap (λ (x : Entry). key_order x.key key) (same_Some entry middle (sym there ∙ ap (slice_get es) same ∙ got)) ∙ e)
      (λ differ. key_total.trans entry.key middle.key key (sorted i m entry middle (omega arith) there got) e) p

greater-behind : (es : List Entry) (key : List Value) (m : ℕ) (middle : Entry) → IsSorted es → slice_get es m ≡ Some middle → key_order middle.key key ≡ Greater → AllGreater es key m
greater-behind es key m middle sorted got e i entry h there = by_place (cases_eq i m) where
  by_place : (i ≡ m) ⊎ (i ≡ m → ⊥) → key_order entry.key key ≡ Greater
  by_place p = ⊎_elim
      (λ same. ap (λ (x : Entry). key_order x.key key) (same_Some entry middle (sym there ∙ ap (slice_get es) same ∙ got)) ∙ e)
      (λ differ. flip-less key entry.key (key_total.trans key middle.key entry.key (flip-greater middle.key key e) (sorted m i middle entry (omega arith) got there))) p

pub between-less : (es : List Entry) (key : List Value) (low high m : ℕ) (middle : Entry) → IsSorted es → Between es key low high → m < high → slice_get es m ≡ Some middle → key_order middle.key key ≡ Less
    → Between es key (m + 1) high
between-less es key low high m middle sorted b h got e = record { ordered = omega arith; within = b.within; below = less-before es key m middle sorted got e; above = b.above }

pub between-greater : (es : List Entry) (key : List Value) (low high m : ℕ) (middle : Entry) → IsSorted es → Between es key low high → low ≤ m → m < high → slice_get es m ≡ Some middle → key_order middle.key key ≡ Greater
    → Between es key low m
between-greater es key low high m middle sorted b h g got e = record { ordered = h; within = omega (arith, b.within); below = b.below; above = greater-behind es key m middle sorted got e }

pub stands-at : (es : List Entry) (key : List Value) (m : ℕ) (middle : Entry) → IsSorted es → slice_get es m ≡ Some middle → key_order middle.key key ≡ Equal → StandsAt es key m
stands-at es key m middle sorted got e = record {
  entry = middle;
  there = got;
  same = e;
  below = λ i entry h there. subst (λ (k : List Value). key_order entry.key k ≡ Less) (key-same middle.key key e) (sorted i m entry middle h there got);
}

pub would-stand : (es : List Entry) (key : List Value) (low high : ℕ) → Between es key low high → high ≤ low → WouldStandAt es key low
would-stand es key low high b h = record {
  within = omega (arith, b.ordered, b.within);
  below = b.below;
  above = λ i entry g there. b.above i entry (omega (arith, b.ordered)) there;
}

-- ---- the versions under a key

less-differs : (xs ys : List Value) → key_order xs ys ≡ Less → keys_equal xs ys ≡ false
less-differs xs ys e = apart-differ xs ys (λ f. absurd (cc))

greater-differs : (xs ys : List Value) → key_order xs ys ≡ Greater → keys_equal xs ys ≡ false
greater-differs xs ys e = apart-differ xs ys (λ f. absurd (cc))

none-in : (es : List Entry) (key : List Value) → ((i : ℕ) (e : Entry) → slice_get es i ≡ Some e → keys_equal e.key key ≡ false) → versions_in es key ≡ []
none-in [] key differ = refl
none-in (e ∷ es) key differ = rw (differ 0 e refl) (none-in es key (λ i f got. differ (suc i) f got))

here-in : (es : List Entry) (key : List Value) (place : ℕ) (e : Entry) → ((i : ℕ) (f : Entry) → i < place → slice_get es i ≡ Some f → keys_equal f.key key ≡ false)
    → slice_get es place ≡ Some e → keys_equal e.key key ≡ true → versions_in es key ≡ e.versions
here-in [] key place e differ got same = absurd (none-some e got)
here-in (f ∷ es) key zero e differ got same =
    let f_is : f ≡ e = same_Some f e got in rw (ap (λ (x : Entry). keys_equal x.key key) f_is ∙ same) (ap (λ (x : Entry). x.versions) f_is)
here-in (f ∷ es) key (suc place) e differ got same =
    rw (differ 0 f (omega arith) refl) (here-in es key place e (λ i g h there. differ (suc i) g (omega arith) there) got same)

pub versions-none : (es : List Entry) (key : List Value) (place : ℕ) → WouldStandAt es key place → versions_in es key ≡ []
versions-none es key place w = none-in es key (λ i e got. by_place i e got (cases_lt i place)) where
  by_place : (i : ℕ) (e : Entry) → slice_get es i ≡ Some e → (i < place) ⊎ (place ≤ i) → keys_equal e.key key ≡ false
  by_place i e got h = ⊎_elim (λ below. less-differs e.key key (w.below i e below got)) (λ above. greater-differs e.key key (w.above i e above got)) h

stands-equal : (es : List Entry) (key : List Value) (place : ℕ) → IsKept es → (s : StandsAt es key place) → keys_equal s.entry.key key ≡ true
stands-equal es key place kept s = subst (λ (k : List Value). keys_equal s.entry.key k ≡ true) (key-same s.entry.key key s.same) (equal-itself s.entry.key (kept.whole place s.entry s.there))

pub versions-here : (es : List Entry) (key : List Value) (place : ℕ) → IsKept es → (s : StandsAt es key place) → versions_in es key ≡ s.entry.versions
versions-here es key place kept s = here-in es key place s.entry (λ i f h there. less-differs f.key key (s.below i f h there)) s.there (stands-equal es key place kept s)

-- an entry's versions are those under its key
pub versions-at : (es : List Entry) (key : List Value) (place : ℕ) (e : Entry) → IsKept es → slice_get es place ≡ Some e → e.key ≡ key → versions_in es key ≡ e.versions
versions-at es key place e kept got same =
    here-in es key place e (λ i f h there. subst (λ (k : List Value). keys_equal f.key k ≡ false) same (less-differs f.key e.key (kept.sorted i place f e h there got))) got
    (subst (λ (k : List Value). keys_equal e.key k ≡ true) same (equal-itself e.key (kept.whole place e got)))

pub stands-whole : (es : List Entry) (key : List Value) (place : ℕ) → IsKept es → (s : StandsAt es key place) → has_null key ≡ false
stands-whole es key place kept s = subst (λ (k : List Value). has_null k ≡ false) (key-same s.entry.key key s.same) (kept.whole place s.entry s.there)

-- ---- an entry that is changed

get-set_same : {X : Type 0} (xs : List X) (k : ℕ) (x y : X) → slice_get xs k ≡ Some x → slice_get (slice_set xs k y) k ≡ Some y
get-set_same [] k x y e = absurd (none-some x e)
get-set_same (z ∷ xs) zero x y e = refl
get-set_same (z ∷ xs) (suc k) x y e = get-set_same xs k x y e

get-set_other : {X : Type 0} (xs : List X) (k j : ℕ) (y : X) → (j ≡ k → ⊥) → slice_get (slice_set xs k y) j ≡ slice_get xs j
get-set_other [] k j y differ = refl
get-set_other (z ∷ xs) zero zero y differ = absurd (differ refl)
get-set_other (z ∷ xs) zero (suc j) y differ = refl
get-set_other (z ∷ xs) (suc k) zero y differ = refl
get-set_other (z ∷ xs) (suc k) (suc j) y differ = get-set_other xs k j y (λ e. differ (ap suc e))

-- each entry after the change has the key of one there before
set-key : (es : List Entry) (p : ℕ) (e f : Entry) → slice_get es p ≡ Some e → f.key ≡ e.key → (i : ℕ) (g : Entry) → slice_get (slice_set es p f) i ≡ Some g → (old : Entry) × (slice_get es i ≡ Some old) × (g.key ≡ old.key)
set-key es p e f got same i g there = by_place (cases_eq i p) where
  by_place : (i ≡ p) ⊎ (i ≡ p → ⊥) → (old : Entry) × (slice_get es i ≡ Some old) × (g.key ≡ old.key)
  by_place h = ⊎_elim
      (λ is. (e, ap (slice_get es) is ∙ got, ap (λ (x : Entry). x.key) (sym (same_Some f g (sym (get-set_same es p e f got) ∙ subst (λ (n : ℕ). slice_get (slice_set es p f) n ≡ Some g) is there))) ∙ same))
      (λ differ. (g, sym (get-set_other es p i f differ) ∙ there, refl)) h

pub kept-set : (es : List Entry) (p : ℕ) (e f : Entry) → slice_get es p ≡ Some e → f.key ≡ e.key → IsKept es → IsKept (slice_set es p f)
kept-set es p e f got same kept = record {
  sorted = λ i j a b h at_a at_b.
      let x = set-key es p e f got same i a at_a in
      let y = set-key es p e f got same j b at_b in
      ap (λ (k : List Value). key_order k b.key) x.2 ∙ ap (λ (k : List Value). key_order x.0.key k) y.2 ∙ kept.sorted i j x.0 y.0 h x.1 y.1;
  whole = λ i a at_a. let x = set-key es p e f got same i a at_a in ap has_null x.2 ∙ kept.whole i x.0 x.1;
}

set-in_other : (es : List Entry) (p : ℕ) (e f : Entry) (other : List Value) → slice_get es p ≡ Some e → f.key ≡ e.key → keys_equal e.key other ≡ false → versions_in (slice_set es p f) other ≡ versions_in es other
set-in_other [] p e f other got same differ = refl
set-in_other (x ∷ es) zero e f other got same differ =
    let x_is : x ≡ e = same_Some x e got in
    rw (ap (λ (k : List Value). keys_equal k other) same ∙ differ, ap (λ (y : Entry). keys_equal y.key other) x_is ∙ differ) refl
set-in_other (x ∷ es) (suc p) e f other got same differ = ap (λ (vs : List KeyVersion). cond (keys_equal x.key other) x.versions vs) (set-in_other es p e f other got same differ)

-- the key's versions are changed, and no other's
pub changes-set : (es : List Entry) (key : List Value) (p : ℕ) (e f : Entry) (change : List KeyVersion → List KeyVersion) → IsKept es → StandsAt es key p → slice_get es p ≡ Some e → f.key ≡ e.key → f.versions ≡ change e.versions
    → ChangesKey es (slice_set es p f) key change
changes-set es key p e f change kept s got same changed other = by_equal (keys_equal other key) refl where
  e_is : s.entry ≡ e
  e_is = same_Some s.entry e (sym s.there ∙ got)

  e_key : e.key ≡ key
  e_key = sym (ap (λ (x : Entry). x.key) e_is) ∙ key-same s.entry.key key s.same

  after_kept : IsKept (slice_set es p f)
  after_kept = kept-set es p e f got same kept

  f_key : f.key ≡ key
  f_key = same ∙ e_key

  by_equal : (b : Bool) → keys_equal other key ≡ b → versions_in (slice_set es p f) other ≡ cond b (change (versions_in es other)) (versions_in es other)
  by_equal true h =
      let o_is : other ≡ key = (equal-same other key h).0 in
      subst (λ (k : List Value). versions_in (slice_set es p f) k ≡ change (versions_in es k)) (sym o_is)
      (versions-at (slice_set es p f) key p f after_kept (get-set_same es p e f got) f_key ∙ changed ∙ ap change (sym (versions-at es key p e kept got e_key)))
  by_equal false h = set-in_other es p e f other got same (subst (λ (k : List Value). keys_equal k other ≡ false) (sym e_key) (turned key other h)) where
    turned : (a b : List Value) → keys_equal b a ≡ false → keys_equal a b ≡ false
    turned a b g = by_turn (keys_equal a b) refl where
      by_turn : (c : Bool) → keys_equal a b ≡ c → c ≡ false
      by_turn false x = refl
      by_turn true x = let same_keys = equal-same a b x in absurd (let again : keys_equal b a ≡ true = subst (λ (k : List Value). keys_equal k a ≡ true) same_keys.0 (equal-itself a same_keys.1) in cc)

-- ---- a key that is new

get-insert_below : (es : List Entry) (n : ℕ) (e : Entry) (k : ℕ) → k < n → n ≤ length es → slice_get (insert es n e) k ≡ slice_get es k
get-insert_below es zero e k h g = absurd (omega arith)
get-insert_below [] (suc n) e k h g = absurd (omega arith)
get-insert_below (x ∷ es) (suc n) e zero h g = refl
get-insert_below (x ∷ es) (suc n) e (suc k) h g = get-insert_below es n e k (omega arith) (omega arith)

get-insert_here : (es : List Entry) (n : ℕ) (e : Entry) → n ≤ length es → slice_get (insert es n e) n ≡ Some e
get-insert_here es zero e g = refl
get-insert_here [] (suc n) e g = absurd (omega arith)
get-insert_here (x ∷ es) (suc n) e g = get-insert_here es n e (omega arith)

get-insert_above : (es : List Entry) (n : ℕ) (e : Entry) (k : ℕ) → n ≤ k → n ≤ length es → slice_get (insert es n e) (suc k) ≡ slice_get es k
get-insert_above es zero e k h g = refl
get-insert_above [] (suc n) e k h g = absurd (omega arith)
get-insert_above (x ∷ es) (suc n) e zero h g = absurd (omega arith)
get-insert_above (x ∷ es) (suc n) e (suc k) h g = get-insert_above es n e k (omega arith) (omega arith)

-- an item of the list after it: one from before the place, the new one, or one from behind
data Origin (es : List Entry) (n : ℕ) (e : Entry) (k : ℕ) (x : Entry) : Type 0 where
  Before : k < n → slice_get es k ≡ Some x → Origin es n e k x
  New : k ≡ n → e ≡ x → Origin es n e k x
  Behind : (j : ℕ) → k ≡ j + 1 → n ≤ j → slice_get es j ≡ Some x → Origin es n e k x

origin : (es : List Entry) (n : ℕ) (e : Entry) (k : ℕ) (x : Entry) → n ≤ length es → slice_get (insert es n e) k ≡ Some x → Origin es n e k x
origin es n e k x g got = by_below (cases_lt k n) where
  by_here : (k ≡ n) ⊎ (k ≡ n → ⊥) → n ≤ k → Origin es n e k x
  by_here h above = ⊎_elim (λ is. New is (same_Some e x (sym (get-insert_here es n e g) ∙ subst (λ (m : ℕ). slice_get (insert es n e) m ≡ Some x) is got))) (λ differ. by_suc k refl got above differ) h where
    by_suc : (m : ℕ) → m ≡ k → slice_get (insert es n e) m ≡ Some x → n ≤ m → (m ≡ n → ⊥) → Origin es n e k x
    by_suc zero is there above differ = absurd (differ (omega arith))
    by_suc (suc j) is there above differ = Behind j (omega arith) (by_le (cases_eq (suc j) n)) (sym (get-insert_above es n e j (by_le (cases_eq (suc j) n)) g) ∙ there) where
      by_le : (suc j ≡ n) ⊎ (suc j ≡ n → ⊥) → n ≤ j
      by_le h = ⊎_elim (λ is. absurd (differ is)) (λ other. omega arith) h

  by_below : (k < n) ⊎ (n ≤ k) → Origin es n e k x
  by_below h = ⊎_elim (λ below. Before below (sym (get-insert_below es n e k below g) ∙ got)) (λ above. by_here (cases_eq k n) above) h

pub kept-insert : (es : List Entry) (n : ℕ) (e : Entry) → WouldStandAt es e.key n → has_null e.key ≡ false → IsKept es → IsKept (insert es n e)
kept-insert es n e w no_null kept = record {
  sorted = λ i j a b h at_a at_b. by_origins i j a b h (origin es n e i a w.within at_a) (origin es n e j b w.within at_b);
  whole = λ i a at_a. by_origin i a (origin es n e i a w.within at_a);
} where
  by_origins : (i j : ℕ) (a b : Entry) → i < j → Origin es n e i a → Origin es n e j b → key_order a.key b.key ≡ Less
  by_origins i j a b h (Before p x) (Before q y) = kept.sorted i j a b h x y
  by_origins i j a b h (Before p x) (New q y) = subst (λ (f : Entry). key_order a.key f.key ≡ Less) y (w.below i a p x)
  by_origins i j a b h (Before p x) (Behind l q r y) = kept.sorted i l a b (omega arith) x y
  by_origins i j a b h (New p x) (Before q y) = absurd (omega arith)
  by_origins i j a b h (New p x) (New q y) = absurd (omega arith)
  by_origins i j a b h (New p x) (Behind l q r y) = subst (λ (f : Entry). key_order f.key b.key ≡ Less) x (flip-greater b.key e.key (w.above l b r y))
  by_origins i j a b h (Behind k p m x) (Before q y) = absurd (omega arith)
  by_origins i j a b h (Behind k p m x) (New q y) = absurd (omega arith)
  by_origins i j a b h (Behind k p m x) (Behind l q r y) = kept.sorted k l a b (omega arith) x y

  by_origin : (i : ℕ) (a : Entry) → Origin es n e i a → has_null a.key ≡ false
  by_origin i a (Before p x) = kept.whole i a x
  by_origin i a (New p x) = subst (λ (f : Entry). has_null f.key ≡ false) x no_null
  by_origin i a (Behind j p q x) = kept.whole j a x

insert-in_other : (es : List Entry) (n : ℕ) (e : Entry) (other : List Value) → keys_equal e.key other ≡ false → versions_in (insert es n e) other ≡ versions_in es other
insert-in_other es zero e other differ = rw differ refl
insert-in_other [] (suc n) e other differ = rw differ refl
insert-in_other (x ∷ es) (suc n) e other differ = ap (λ (vs : List KeyVersion). cond (keys_equal x.key other) x.versions vs) (insert-in_other es n e other differ)

pub changes-insert : (es : List Entry) (n : ℕ) (e : Entry) (version : KeyVersion) → WouldStandAt es e.key n → has_null e.key ≡ false → e.versions ≡ version ∷ [] → IsKept es → ChangesKey es (insert es n e) e.key (with_version version)
changes-insert es n e version w no_null one kept other = by_equal (keys_equal other e.key) refl where
  after_kept : IsKept (insert es n e)
  after_kept = kept-insert es n e w no_null kept

  by_equal : (b : Bool) → keys_equal other e.key ≡ b → versions_in (insert es n e) other ≡ cond b (with_version version (versions_in es other)) (versions_in es other)
  by_equal true h =
      let o_is : other ≡ e.key = (equal-same other e.key h).0 in
      subst (λ (k : List Value). versions_in (insert es n e) k ≡ with_version version (versions_in es k)) (sym o_is)
      (versions-at (insert es n e) e.key n e after_kept (get-insert_here es n e w.within) refl ∙ one ∙ ap (with_version version) (sym (versions-none es e.key n w)))
  by_equal false h = insert-in_other es n e other (turned e.key other h) where
    turned : (a b : List Value) → keys_equal b a ≡ false → keys_equal a b ≡ false
    turned a b g = by_turn (keys_equal a b) refl where
      by_turn : (c : Bool) → keys_equal a b ≡ c → c ≡ false
      by_turn false x = refl
      by_turn true x = let same_keys = equal-same a b x in absurd (let again : keys_equal b a ≡ true = subst (λ (k : List Value). keys_equal k a ≡ true) same_keys.0 (equal-itself a same_keys.1) in cc)

-- a key with a null is equal to none, so nothing changes
pub changes-null : (es : List Entry) (key : List Value) (change : List KeyVersion → List KeyVersion) → has_null key ≡ true → ChangesKey es es key change
changes-null es key change null other = by_equal (keys_equal other key) refl where
  by_equal : (b : Bool) → keys_equal other key ≡ b → versions_in es other ≡ cond b (change (versions_in es other)) (versions_in es other)
  by_equal false h = refl
  by_equal true h = let same = equal-same other key h in absurd (let whole : has_null key ≡ false = subst (λ (k : List Value). has_null k ≡ false) same.0 same.1 in cc)

-- and so where there is no version under the key and the change makes none
pub changes-none : (es : List Entry) (key : List Value) (place : ℕ) (change : List KeyVersion → List KeyVersion) → WouldStandAt es key place → change [] ≡ [] → ChangesKey es es key change
changes-none es key place change w empty other = by_equal (keys_equal other key) refl where
  by_equal : (b : Bool) → keys_equal other key ≡ b → versions_in es other ≡ cond b (change (versions_in es other)) (versions_in es other)
  by_equal false h = refl
  by_equal true h =
      let none : versions_in es other ≡ [] = ap (versions_in es) (equal-same other key h).0 ∙ versions-none es key place w in rw none (sym empty)

-- ---- what a call leaves

pub stands-entry : (es : List Entry) (key : List Value) (place : ℕ) (e : Entry) → StandsAt es key place → e ≡ get_or es place e → (slice_get es place ≡ Some e) × (e.key ≡ key)
stands-entry es key place e s got =
    let within : place < length es = slice_get_within es place s.entry s.there in
    let there : slice_get es place ≡ Some e = slice_get_read es (length es) place e refl within got in
    (there, ap (λ (x : Entry). x.key) (same_Some e s.entry (sym there ∙ s.there)) ∙ key-same s.entry.key key s.same)

pub stands-within : (es : List Entry) (key : List Value) (place : ℕ) → StandsAt es key place → place < length es
stands-within es key place s = slice_get_within es place s.entry s.there

pub stands-set : (es after : List Entry) (key : List Value) (place : ℕ) (change : List KeyVersion → List KeyVersion) → IsKept es → StandsAt es key place
    → IfSome (slice_get es place) (λ entry. after ≡ slice_set es place (record entry { versions = change entry.versions })) → IsKept after × ChangesKey es after key change
stands-set es after key place change kept s h =
    let f : Entry = record { key = s.entry.key; versions = change s.entry.versions } in
    let is : after ≡ slice_set es place f = subst (λ (o : Option Entry). IfSome o (λ entry. after ≡ slice_set es place (record entry { versions = change entry.versions }))) s.there h in
    (subst IsKept (sym is) (kept-set es place s.entry f s.there refl kept), subst (λ (a : List Entry). ChangesKey es a key change) (sym is) (changes-set es key place s.entry f change kept s s.there refl refl))

pub would-insert : (es after : List Entry) (key : List Value) (place : ℕ) (versions : List KeyVersion) (version : KeyVersion) → IsKept es → WouldStandAt es key place → has_null key ≡ false → versions ≡ version ∷ []
    → after ≡ insert es place (record { key = key; versions = versions }) → IsKept after × ChangesKey es after key (with_version version)
would-insert es after key place versions version kept w no_null one is =
    let e : Entry = record { key = key; versions = versions } in
    (subst IsKept (sym is) (kept-insert es place e w no_null kept), subst (λ (a : List Entry). ChangesKey es a key (with_version version)) (sym is) (changes-insert es place e version w no_null one kept))

pub stands-in : (es des : List Entry) (key dkey : List Value) (place : ℕ) → des ≡ es → dkey ≡ key → StandsAt des dkey place → StandsAt es key place
stands-in es des key dkey place e f s = subst (λ (k : List Value). StandsAt es k place) f (subst (λ (d : List Entry). StandsAt d dkey place) e s)

pub would-in : (es des : List Entry) (key dkey : List Value) (place : ℕ) → des ≡ es → dkey ≡ key → WouldStandAt des dkey place → WouldStandAt es key place
would-in es des key dkey place e f s = subst (λ (k : List Value). WouldStandAt es k place) f (subst (λ (d : List Entry). WouldStandAt d dkey place) e s)

-- a call that may find no memory, and then leaves all as it was
pub kept-either : {A B : Type 0} (r : Result A B) (P : Type 0) (es after : List Entry) → OnOk r P → OnErr r (after ≡ es) → IsKept es → (P → IsKept after) → IsKept after
kept-either (Ok _) P es after done undone kept f = f done
kept-either (Err _) P es after done undone kept f = subst IsKept (sym undone) kept

pub on_ok : {A B : Type 0} (r : Result A B) (P Q : Type 0) → OnOk r P → (P → Q) → OnOk r Q
on_ok (Ok _) P Q done f = f done
on_ok (Err _) P Q done f = tt
