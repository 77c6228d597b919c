-- Small texts with their tokens, by computation, and lists that aren't theirs.
use Rattle.std.proofs.Common.{◌≡◌, ℕ, zero, suc, ◌+◌, ◌<◌, ◌≤◌, ◌⊎◌, inl, inr, Bool, true, false, ◌&&◌, List, [], ◌∷◌, length, refl, arith}
use Rattle.std.specs.Prelude.{codes}
use Rattle.al_tokens.specs.declared.kinds.TokenKind.{TokenKind}
use Rattle.al_tokens.specs.declared.kinds.TokenKind.TheVariants as kinds
use Rattle.al_tokens.specs.declared.kinds.Sign.TheVariants as signs
use Rattle.al_tokens.specs.declared.kinds.Token.{Token}
use Rattle.al_tokens.specs.declared.kinds.Ending.TheVariants as endings
use Rattle.al_tokens.specs.declared.bytes.Class.{Class}
use Rattle.al_tokens.specs.declared.bytes.Class.TheVariants as classes
use Rattle.al_tokens.specs.Begun.{begun, long_sign, short_sign}
use Rattle.al_tokens.specs.Bytes.{at, is_of, Run, Closed, closes, doubled, other}
use Rattle.al_tokens.specs.Tokens.{here, gap, token, AreTokens, IsFront, IsStray}
use Rattle.al_tokens.proofs.Runs.{clash}
use Rattle.al_tokens.proofs.Unique.{dead_end, one_reading, stray_there}

-- ---- tests of a run's bytes

abbrev all_of : Class → List ℕ → ℕ → ℕ → Bool
all_of class text i zero = true
all_of class text i (suc n) = is_of class (at text (i + n)) && all_of class text i n

both_true : (a b : Bool) → a && b ≡ true → (a ≡ true) × (b ≡ true)
both_true true b e = (refl, e)
both_true false b e = absurd (clash false e refl)

last_or_before : (k m : ℕ) → k < m + 1 → (k ≡ m) ⊎ (k < m)
last_or_before k m h = grind arith

each_of : (class : Class) (text : List ℕ) (i n : ℕ) → all_of class text i n ≡ true → (k : ℕ) → i ≤ k → k < i + n → is_of class (at text k) ≡ true
each_of class text i zero e k low high = absurd (omega arith)
each_of class text i (suc n) e k low high =
    let parts = both_true (is_of class (at text (i + n))) (all_of class text i n) e in
    elim (last_or_before k (i + n) (omega arith)) [ inl same ↦ rw same parts.0 | inr less ↦ each_of class text i n parts.1 k low less ]

run : (class : Class) (text : List ℕ) (i n : ℕ) → all_of class text i n ≡ true → i + n ≤ length text → is_of class (at text (i + n)) ≡ false → Run class text i (i + n)
run class text i n each within after = record {
  rises = omega arith;
  within = within;
  each = each_of class text i n each;
  longest = λ less. after;
}

-- a text has no other tokens than its own
no_other : (text : List ℕ) (ts us : List Token) → AreTokens text ts → AreTokens text us → ts ≡ us
no_other text ts us a b = (one_reading text (length text) (length text) 0 ts us (dead_end text) (dead_end text) a b).1

abbrev piece : TokenKind → ℕ → ℕ → Token
piece kind start end = record { kind = kind; start = start; end = end }

-- ---- `a_1 <=`: a word as long as it can be, and the longer sign

abbrev word_and_sign : List ℕ
word_and_sign = codes "a_1 <="

word_and_sign_are : AreTokens word_and_sign (piece kinds.Word 0 3 ∷ piece (kinds.Sign signs.LessOrEqual) 4 6 ∷ [])
word_and_sign_are =
    token kinds.Word 0 3 _ (refl, run classes.Word word_and_sign 0 3 refl (omega arith) refl) (omega arith)
    (gap 3 4 _ (inl (refl, refl))
    (token (kinds.Sign signs.LessOrEqual) 4 6 _ ((refl, refl), refl) (omega arith)
    (here 6 refl)))

not_two_signs : AreTokens word_and_sign (piece kinds.Word 0 3 ∷ piece (kinds.Sign signs.Less) 4 5 ∷ piece (kinds.Sign signs.Equal) 5 6 ∷ []) → ⊥
not_two_signs wrong = cc (no_other word_and_sign _ _ word_and_sign_are wrong)

not_two_words : AreTokens word_and_sign (piece kinds.Word 0 2 ∷ piece kinds.Integer 2 3 ∷ piece (kinds.Sign signs.LessOrEqual) 4 6 ∷ []) → ⊥
not_two_words wrong = cc (no_other word_and_sign _ _ word_and_sign_are wrong)

-- ---- `1_0`: an integer and a word; `1a.`: one odd number

abbrev underscored : List ℕ
underscored = codes "1_0"

underscored_are : AreTokens underscored (piece kinds.Integer 0 1 ∷ piece kinds.Word 1 3 ∷ [])
underscored_are =
    token kinds.Integer 0 1 _ (refl, run classes.Digit underscored 0 1 refl (omega arith) refl, refl) (omega arith)
    (token kinds.Word 1 3 _ (refl, run classes.Word underscored 1 2 refl (omega arith) refl) (omega arith)
    (here 3 refl))

not_one_number : AreTokens underscored (piece kinds.OddNumber 0 3 ∷ []) → ⊥
not_one_number wrong = cc (no_other underscored _ _ underscored_are wrong)

abbrev odd : List ℕ
odd = codes "1a."

odd_are : AreTokens odd (piece kinds.OddNumber 0 3 ∷ [])
odd_are =
    token kinds.OddNumber 0 3 _ (refl, (1, run classes.Digit odd 0 1 refl (omega arith) refl, refl, run classes.Number odd 1 2 refl (omega arith) refl)) (omega arith)
    (here 3 refl)

not_parted : AreTokens odd (piece kinds.Integer 0 1 ∷ piece kinds.Word 1 2 ∷ piece (kinds.Sign signs.Point) 2 3 ∷ []) → ⊥
not_parted wrong = cc (no_other odd _ _ odd_are wrong)

-- ---- `'a'''`: a doubled quote goes on

abbrev quoted : List ℕ
quoted = codes "'a'''"

quoted_are : AreTokens quoted (piece kinds.Text 0 5 ∷ [])
quoted_are =
    token kinds.Text 0 5 _ (refl, other 1 (omega arith) (λ e. omega (arith, e)) (doubled 2 refl refl (closes 4 refl (λ e. omega (arith, e)) refl))) (omega arith)
    (here 5 refl)

not_two_texts : AreTokens quoted (piece kinds.Text 0 3 ∷ piece kinds.Text 3 5 ∷ []) → ⊥
not_two_texts wrong = cc (no_other quoted _ _ quoted_are wrong)

-- ---- `a @`: nothing begins at the sign; `'a`: a text is open

abbrev stray : List ℕ
stray = codes "a @"

stray_sign : IsStray stray 2
unfolding begun long_sign short_sign
stray_sign = stray_there stray 2 (omega arith) refl

stray_front : IsFront stray (record { tokens = piece kinds.Word 0 1 ∷ []; ending = endings.Stray 2 })
stray_front = record {
  upto = 2;
  reads =
      token kinds.Word 0 1 _ (refl, run classes.Word stray 0 1 refl (omega arith) refl) (omega arith)
      (gap 1 2 _ (inl (refl, refl)) (here 2 refl));
  ends = (refl, stray_sign);
}

abbrev open_text : List ℕ
open_text = codes "'a"

no_quote : (i : ℕ) → 1 ≤ i → at open_text i ≡ 39 → ⊥
no_quote zero low e = omega (arith, low)
no_quote (suc zero) low e = omega (arith, e)
no_quote (suc (suc n)) low e = omega (arith, e)

never_closed : (end i : ℕ) → 1 ≤ i → Closed 39 open_text end i → ⊥
never_closed end _ low (closes i is next e) = no_quote i low is
never_closed end _ low (doubled i is next h) = no_quote i low is
never_closed end _ low (other i less is h) = never_closed end (i + 1) (omega arith) h

open_front : IsFront open_text (record { tokens = []; ending = endings.OpenText 0 })
open_front = record { upto = 0; reads = here 0 refl; ends = (refl, (refl, λ end h. never_closed end 1 (omega arith) h)) }
