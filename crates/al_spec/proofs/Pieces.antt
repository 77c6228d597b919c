-- Pieces of a text, and what was read with one piece more.
use Rattle.std.proofs.Common.{◌≡◌, ℕ, ◌+◌, ◌<◌, List, [], ◌∷◌, ◌++◌, length, refl, sym, arith, subst}
use Rattle.std.specs.Prelude.{IsUtf8}
use Rattle.std.proofs.lemmas.List.{append-nil}
use Rattle.std.proofs.lemmas.Str.{IsCharBoundary-after_ascii}
use Rattle.al_spec.specs.declared.kinds.Lexeme.{Lexeme}
use Rattle.al_spec.specs.declared.kinds.Token.{Token}
use Rattle.al_spec.specs.declared.bytes.Begins.TheVariants as begins
use Rattle.al_spec.specs.Bytes.{at, begun, Run, First, Quoted, closes, doubled, other}
use Rattle.al_spec.specs.Tokens.{IsGap, IsToken, Reads, here, gap, token, Tail, whole, AreTokens, GoesOnTo}
use Rattle.al_spec.proofs.Starts.{from_comment, from_name, from_block, small_stop, run_rises}

-- ---- where a piece ends

pub on_after_small : (text : List ℕ) (i : ℕ) → IsUtf8 text → i < length text → at text i < 128 → GoesOnTo text i (i + 1)
on_after_small text i utf8 lt small = (omega arith, omega arith, IsCharBoundary-after_ascii text i utf8 lt small)

pub on_after_run : (text : List ℕ) (i end : ℕ) → i < length text → begun (at text i) ≡ begins.Name → Run text i end → GoesOnTo text i end
on_after_run text i end lt b r = (run_rises text i end lt (from_name _ b) r, r.within, (r.within, λ l big. let small = small_stop (at text end) (r.longest l) in absurd (omega (arith, small, big))))

pub on_after_comment : (text : List ℕ) (i end : ℕ) → i < length text → begun (at text i) ≡ begins.Comment → First 10 text i (length text) end → GoesOnTo text i end
on_after_comment text i end lt b f =
    let e : at text i ≡ 35 = from_comment _ b in
    let no : end ≡ i → ⊥ = λ (s : end ≡ i). let x : at text i ≡ 10 = subst (λ (k : ℕ). at text k ≡ 10) s (f.is (omega arith)) in omega (arith, x, e) in
    let up = f.rises in
    (omega arith, f.within, (f.within, λ l big. let feed = f.is l in absurd (omega (arith, feed, big))))

pub block_rises : (text : List ℕ) (i close : ℕ) → begun (at text i) ≡ begins.Block → First 125 text i (length text) close → close < length text → i < close
block_rises text i close b f lt =
    let e : at text i ≡ 123 = from_block _ b in
    let no : close ≡ i → ⊥ = λ (s : close ≡ i). let x : at text i ≡ 125 = subst (λ (k : ℕ). at text k ≡ 125) s (f.is lt) in omega (arith, x, e) in
    let up = f.rises in
    omega arith

pub on_after_block : (text : List ℕ) (i close : ℕ) → IsUtf8 text → begun (at text i) ≡ begins.Block → First 125 text i (length text) close → close < length text → GoesOnTo text i (close + 1)
on_after_block text i close utf8 b f lt =
    let up = block_rises text i close b f lt in
    let is = f.is lt in
    (omega (arith, up), omega arith, IsCharBoundary-after_ascii text close utf8 lt (omega (arith, is)))

-- an empty name
pub no_bytes : (xs : List ℕ) → length xs ≡ 0 → xs ≡ []
no_bytes [] e = refl
no_bytes (x ∷ xs) e = absurd (omega (arith, e))

empty_by : (text : List ℕ) (end i : ℕ) (n : List ℕ) → n ≡ [] → Quoted text end i n → Quoted text (i + 1) i []
empty_by text end _ _ e (closes i a b c) = closes i a b refl
empty_by text end _ _ e (doubled i n a b c) = absurd cc
empty_by text end _ _ e (other i n a b d c) = absurd cc

pub empty_name : (text : List ℕ) (end i : ℕ) (n : List ℕ) → n ≡ [] → Quoted text end (i + 1) n → Quoted text (i + 2) (i + 1) []
empty_name text end i n e q = let two : i + 1 + 1 ≡ i + 2 = omega arith in subst (λ (k : ℕ). Quoted text k (i + 1) []) two (empty_by text end (i + 1) n e q)

-- ---- one piece more

pub and_gap : (text : List ℕ) (m n i : ℕ) (ts : List Token) → Reads text m i ts → IsGap text m n → Reads text n i ts
and_gap text m n _ _ (here i e) g = gap i n [] (rw e g) (here n refl)
and_gap text m n _ _ (gap i next ts h r) g = gap i next ts h (and_gap text m n next ts r g)
and_gap text m n _ _ (token lexeme i next ts h r) g = token lexeme i next ts h (and_gap text m n next ts r g)

pub and_token : (text : List ℕ) (m n i : ℕ) (ts : List Token) (lexeme : Lexeme) → Reads text m i ts → IsToken text m n lexeme → Reads text n i (ts ++ record { lexeme = lexeme; start = m } ∷ [])
and_token text m n _ _ lexeme (here i e) g = rw e (token lexeme m n [] g (here n refl))
and_token text m n _ _ lexeme (gap i next ts h r) g = gap i next _ h (and_token text m n next ts lexeme r g)
and_token text m n _ _ lexeme (token before i next ts h r) g = token before i next _ h (and_token text m n next ts lexeme r g)

-- ---- all tokens

pub whole_tokens : (text : List ℕ) (i : ℕ) (ts : List Token) → Reads text i 0 ts → i ≡ length text → AreTokens text ts
whole_tokens text i ts r e = record { upto = i; front = ts; last = []; reads = r; tail = whole e; all = sym (append-nil ts) }

pub with_tail : (text : List ℕ) (i : ℕ) (ts last all : List Token) → Reads text i 0 ts → Tail text i last → all ≡ ts ++ last → AreTokens text all
with_tail text i ts last all r t e = record { upto = i; front = ts; last = last; reads = r; tail = t; all = e }
