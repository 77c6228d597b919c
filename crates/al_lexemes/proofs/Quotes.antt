-- Quotes in quotes: two of them are one.
use Rattle.std.proofs.Common.{◌≡◌, ℕ, suc, ◌+◌, ◌<◌, true, false, List, [], ◌∷◌, ◌++◌, length, take, drop, get_or, zero, Some, None, Option, refl, ap, subst, arith}
use Rattle.std.proofs.lemmas.Bool.{ne_eqb, eq-eqb}
use Rattle.std.proofs.lemmas.Bool.{eqb-true}
use Rattle.memchr.specs.Find.{IsFirstByte, is_byte}
use Rattle.al_lexemes.specs.Classes.{undoubled, undoubled_from}

module _ (quote : ℕ) where
  -- a second quote goes
  pub second_goes : (bs : List ℕ) → undoubled_from quote true (quote ∷ bs) ≡ undoubled_from quote false bs
  second_goes bs = rw (eq-eqb quote quote refl) refl

  pub other_stays : (b : ℕ) (bs : List ℕ) → (b ≡ quote → ⊥) → undoubled_from quote true (b ∷ bs) ≡ undoubled_from quote false (b ∷ bs)
  other_stays b bs ne = rw (ne_eqb b quote ne) refl

  -- without a quote nothing goes
  pub none_goes : (bs : List ℕ) → ((k : ℕ) → k < length bs → get_or bs k 0 ≡ quote → ⊥) → undoubled quote bs ≡ bs
  none_goes [] none = refl
  none_goes (b ∷ bs) none = rw (ne_eqb b quote (none 0 (omega arith))) (ap (λ (l : List ℕ). b ∷ l) (none_goes bs (λ k lt. none (suc k) (omega (arith, lt)))))

  -- up to the first quote all stays
  pub first_stays : (bs : List ℕ) (n : ℕ) → n < length bs → get_or bs n 0 ≡ quote → ((k : ℕ) → k < n → get_or bs k 0 ≡ quote → ⊥)
      → undoubled quote bs ≡ take (n + 1) bs ++ undoubled_from quote true (drop (n + 1) bs)
  first_stays bs n lt is none = let one : suc n ≡ n + 1 = omega arith in rw (← one) (by bs n lt is none)
    where
      by : (cs : List ℕ) (m : ℕ) → m < length cs → get_or cs m 0 ≡ quote → ((k : ℕ) → k < m → get_or cs k 0 ≡ quote → ⊥) → undoubled quote cs ≡ take (suc m) cs ++ undoubled_from quote true (drop (suc m) cs)
      by [] m lt is none = absurd (omega (arith, lt))
      by (c ∷ cs) zero lt is none = rw (eq-eqb c quote is) refl
      by (c ∷ cs) (suc m) lt is none = rw (ne_eqb c quote (none 0 (omega arith))) (ap (λ (l : List ℕ). c ∷ l) (by cs m (omega (arith, lt)) is (λ k kl. none (suc k) (omega (arith, kl)))))

  -- ---- what a search for a quote finds

  pub record FirstQuote (text : List ℕ) (n : ℕ) : Type 0 where
    pub inside : n < length text
    pub is : get_or text n 0 ≡ quote
    pub before : (k : ℕ) → k < n → get_or text k 0 ≡ quote → ⊥

  pub quote_found : (text hay : List ℕ) (r : Option ℕ) (n : ℕ) → hay ≡ text → IsFirstByte (is_byte quote) hay r → r ≡ Some n → FirstQuote text n
  quote_found text hay None n same h e = absurd cc
  quote_found text hay (Some m) n same h e =
      let here : m ≡ n = cc in
      let k = subst (λ (t : List ℕ). IsFirstByte (is_byte quote) t (Some m)) same h in
      subst (λ (j : ℕ). FirstQuote text j) here (record {
        inside = k.0.high;
        is = eqb-true (get_or text m 0) quote k.1;
        before = λ j lt q. k.0.before j (omega arith) lt (eq-eqb (get_or text j 0) quote q);
      })

  pub quote_missing : (text hay : List ℕ) (r : Option ℕ) → hay ≡ text → IsFirstByte (is_byte quote) hay r → ((n : ℕ) → r ≡ Some n → ⊥) → undoubled quote text ≡ text
  quote_missing text hay (Some m) same h no_place = absurd (no_place m refl)
  quote_missing text hay None same h no_place =
      let k = subst (λ (t : List ℕ). IsFirstByte (is_byte quote) t None) same h in
      none_goes text (λ j lt q. k j (omega arith) lt (eq-eqb (get_or text j 0) quote q))
