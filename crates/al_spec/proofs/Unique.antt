-- A text has one list of tokens.
use Rattle.std.proofs.Common.{◌≡◌, ℕ, ◌+◌, ◌<◌, ◌⊎◌, inl, inr, List, [], ◌∷◌, ◌++◌, length, refl, sym, ap, ◌∙◌, arith, subst}
use Rattle.std.specs.Prelude.{slice_range}
use Rattle.std.proofs.lemmas.List.{get_or_past}
use Rattle.al_spec.specs.declared.kinds.Lexeme.{Lexeme}
use Rattle.al_spec.specs.declared.kinds.Lexeme.TheVariants as lexemes
use Rattle.al_spec.specs.declared.kinds.Token.{Token}
use Rattle.al_spec.specs.declared.bytes.Begins.{Begins}
use Rattle.al_spec.specs.declared.bytes.Begins.TheVariants as begins
use Rattle.al_spec.specs.Bytes.{at, begun, First, Quoted, cut}
use Rattle.al_spec.specs.Tokens.{plain, IsGap, IsToken, IsQuoted, IsBlock, Reads, here, gap, token, Tail, whole, open_name, open_block, bad_name, paren, stray, AreTokens, IsClosed, IsOpenName}
use Rattle.al_spec.proofs.Runs.{one_run, one_first}
use Rattle.al_spec.proofs.Quotes.{one_name}
use Rattle.al_spec.proofs.Starts.{begun_none}

-- a gap goes to one end
one_gap : (text : List ℕ) (i m n : ℕ) → IsGap text i m → IsGap text i n → m ≡ n
one_gap text i m n (inl a) (inl b) = a.1 ∙ sym b.1
one_gap text i m n (inl a) (inr b) = absurd (cc (a.0, b.0))
one_gap text i m n (inr a) (inl b) = absurd (cc (a.0, b.0))
one_gap text i m n (inr a) (inr b) = one_first 10 text i (length text) m n a.1 b.1

-- what a gap and a token begin with
gap_begins : (text : List ℕ) (i m : ℕ) → IsGap text i m → (begun (at text i) ≡ begins.Blank) ⊎ (begun (at text i) ≡ begins.Comment)
gap_begins text i m (inl a) = inl a.0
gap_begins text i m (inr a) = inr a.0

token_begins : (text : List ℕ) (i m : ℕ) (lexeme : Lexeme) → IsToken text i m lexeme → (begun (at text i) ≡ begins.Name) ⊎ ((begun (at text i) ≡ begins.Quote) ⊎ (begun (at text i) ≡ begins.Block))
token_begins text i m lexeme (inl a) = inl a.begins
token_begins text i m lexeme (inr (inl a)) = inr (inl a.begins)
token_begins text i m lexeme (inr (inr a)) = inr (inr a.begins)

apart : (b : Begins) → (b ≡ begins.Blank) ⊎ (b ≡ begins.Comment) → (b ≡ begins.Name) ⊎ ((b ≡ begins.Quote) ⊎ (b ≡ begins.Block)) → ⊥
apart b (inl x) (inl y) = cc (x, y)
apart b (inl x) (inr (inl y)) = cc (x, y)
apart b (inl x) (inr (inr y)) = cc (x, y)
apart b (inr x) (inl y) = cc (x, y)
apart b (inr x) (inr (inl y)) = cc (x, y)
apart b (inr x) (inr (inr y)) = cc (x, y)

gap_or_token : (text : List ℕ) (i m n : ℕ) (lexeme : Lexeme) → IsGap text i m → IsToken text i n lexeme → ⊥
gap_or_token text i m n lexeme g t = apart _ (gap_begins text i m g) (token_begins text i n lexeme t)

-- one token begins at a place, and goes to one end
one_token : (text : List ℕ) (i m n : ℕ) (a b : Lexeme) → IsToken text i m a → IsToken text i n b → (m ≡ n) × (a ≡ b)
one_token text i m n a b (inl x) (inl y) =
    let e : m ≡ n = one_run text i m n x.run y.run in
    (e, x.means ∙ ap (λ (k : ℕ). plain (slice_range text i k)) e ∙ sym y.means)
one_token text i m n a b (inl x) (inr (inl y)) = absurd (cc (x.begins, y.begins))
one_token text i m n a b (inl x) (inr (inr y)) = absurd (cc (x.begins, y.begins))
one_token text i m n a b (inr (inl x)) (inl y) = absurd (cc (x.begins, y.begins))
one_token text i m n a b (inr (inl x)) (inr (inl y)) =
    let r = one_name text m n (i + 1) x.name y.name x.quoted y.quoted in
    (r.0, x.means ∙ ap (λ (k : List ℕ). lexemes.Name k) r.1 ∙ sym y.means)
one_token text i m n a b (inr (inl x)) (inr (inr y)) = absurd (cc (x.begins, y.begins))
one_token text i m n a b (inr (inr x)) (inl y) = absurd (cc (x.begins, y.begins))
one_token text i m n a b (inr (inr x)) (inr (inl y)) = absurd (cc (x.begins, y.begins))
one_token text i m n a b (inr (inr x)) (inr (inr y)) =
    let e : x.close ≡ y.close = one_first 125 text i (length text) x.close y.close x.first y.first in
    (x.ends ∙ ap (λ (k : ℕ). k + 1) e ∙ sym y.ends, x.means ∙ ap (λ (k : ℕ). lexemes.Block (cut (slice_range text (i + 1) k))) e ∙ sym y.means)

-- ---- where nothing begins

pub record Dead (text : List ℕ) (i : ℕ) : Type 0 where
  pub no_gap : (end : ℕ) → IsGap text i end → ⊥
  pub no_token : (end : ℕ) (lexeme : Lexeme) → IsToken text i end lexeme → ⊥

nothing : (b : Begins) → b ≡ begins.Nothing → (b ≡ begins.Blank) ⊎ (b ≡ begins.Comment) → ⊥
nothing b e (inl x) = cc (e, x)
nothing b e (inr x) = cc (e, x)

no_lead : (b : Begins) → b ≡ begins.Nothing → (b ≡ begins.Name) ⊎ ((b ≡ begins.Quote) ⊎ (b ≡ begins.Block)) → ⊥
no_lead b e (inl x) = cc (e, x)
no_lead b e (inr (inl x)) = cc (e, x)
no_lead b e (inr (inr x)) = cc (e, x)

dead_nothing : (text : List ℕ) (i : ℕ) → begun (at text i) ≡ begins.Nothing → Dead text i
dead_nothing text i e = record {
  no_gap = λ end g. nothing _ e (gap_begins text i end g);
  no_token = λ end lexeme t. no_lead _ e (token_begins text i end lexeme t);
}

at_end : (text : List ℕ) (i : ℕ) → i ≡ length text → begun (at text i) ≡ begins.Nothing
at_end text i e =
    let past : at text i ≡ 0 = get_or_past text i 0 (omega arith) in
    ap begun past ∙ begun_none

no_paren : (b : Begins) → b ≡ begins.Paren → (b ≡ begins.Name) ⊎ ((b ≡ begins.Quote) ⊎ (b ≡ begins.Block)) → ⊥
no_paren b e (inl x) = cc (e, x)
no_paren b e (inr (inl x)) = cc (e, x)
no_paren b e (inr (inr x)) = cc (e, x)

no_paren_gap : (b : Begins) → b ≡ begins.Paren → (b ≡ begins.Blank) ⊎ (b ≡ begins.Comment) → ⊥
no_paren_gap b e (inl x) = cc (e, x)
no_paren_gap b e (inr x) = cc (e, x)

quote_gap : (b : Begins) → b ≡ begins.Quote → (b ≡ begins.Blank) ⊎ (b ≡ begins.Comment) → ⊥
quote_gap b e (inl x) = cc (e, x)
quote_gap b e (inr x) = cc (e, x)

block_gap : (b : Begins) → b ≡ begins.Block → (b ≡ begins.Blank) ⊎ (b ≡ begins.Comment) → ⊥
block_gap b e (inl x) = cc (e, x)
block_gap b e (inr x) = cc (e, x)

-- a token where a quote stands is a name in double quotes
only_quoted : (text : List ℕ) (i end : ℕ) (lexeme : Lexeme) → begun (at text i) ≡ begins.Quote → IsToken text i end lexeme → IsQuoted text i end lexeme
only_quoted text i end lexeme e (inl x) = absurd (cc (e, x.begins))
only_quoted text i end lexeme e (inr (inl x)) = x
only_quoted text i end lexeme e (inr (inr x)) = absurd (cc (e, x.begins))

only_block : (text : List ℕ) (i end : ℕ) (lexeme : Lexeme) → begun (at text i) ≡ begins.Block → IsToken text i end lexeme → IsBlock text i end lexeme
only_block text i end lexeme e (inl x) = absurd (cc (e, x.begins))
only_block text i end lexeme e (inr (inl x)) = absurd (cc (e, x.begins))
only_block text i end lexeme e (inr (inr x)) = x

bad_or_good : (text : List ℕ) (i end : ℕ) (lexeme : Lexeme) → IsQuoted text i end lexeme → Quoted text (i + 2) (i + 1) [] ⊎ ((IsClosed text i → ⊥) × ((k : ℕ) × (i < k) × (k < length text) × (at text k ≡ 10))) → ⊥
bad_or_good text i end lexeme q (inl x) = q.some (one_name text end (i + 2) (i + 1) q.name [] q.quoted x).1
bad_or_good text i end lexeme q (inr x) = x.0 (end, (q.name, q.quoted))

open_or_closed : (text : List ℕ) (i end : ℕ) (lexeme : Lexeme) → First 125 text i (length text) (length text) → IsBlock text i end lexeme → ⊥
open_or_closed text i end lexeme f b =
    let e : b.close ≡ length text = one_first 125 text i (length text) b.close (length text) b.first f in
    let lt = b.closed in
    omega arith

pub dead_tail : (text : List ℕ) (i : ℕ) (last : List Token) → Tail text i last → Dead text i
dead_tail text i _ (whole e) = dead_nothing text i (at_end text i e)
dead_tail text i _ (open_name h) = record {
  no_gap = λ end g. quote_gap _ h.begins (gap_begins text i end g);
  no_token = λ end lexeme t. let q = only_quoted text i end lexeme h.begins t in h.no_close (end, (q.name, q.quoted));
}
dead_tail text i _ (open_block h) = record {
  no_gap = λ end g. block_gap _ h.begins (gap_begins text i end g);
  no_token = λ end lexeme t. open_or_closed text i end lexeme h.no_close (only_block text i end lexeme h.begins t);
}
dead_tail text i _ (bad_name h) = record {
  no_gap = λ end g. quote_gap _ h.begins (gap_begins text i end g);
  no_token = λ end lexeme t. bad_or_good text i end lexeme (only_quoted text i end lexeme h.begins t) h.bad;
}
dead_tail text i _ (paren h) = record {
  no_gap = λ end g. no_paren_gap _ h (gap_begins text i end g);
  no_token = λ end lexeme t. no_paren _ h (token_begins text i end lexeme t);
}
dead_tail text i _ (stray lt h) = dead_nothing text i h

open_or_bad : (text : List ℕ) (i : ℕ) → IsOpenName text i → Quoted text (i + 2) (i + 1) [] ⊎ ((IsClosed text i → ⊥) × ((k : ℕ) × (i < k) × (k < length text) × (at text k ≡ 10))) → ⊥
open_or_bad text i o (inl x) = o.no_close (i + 2, ([], x))
open_or_bad text i o (inr x) = o.no_feed x.1.0 x.1.1 x.1.2 x.1.3

-- one tail stands at a place
one_tail : (text : List ℕ) (i : ℕ) (a b : List Token) → Tail text i a → Tail text i b → a ≡ b
one_tail text i _ _ (whole e) (whole f) = refl
one_tail text i _ _ (whole e) (open_name h) = absurd (cc (at_end text i e, h.begins))
one_tail text i _ _ (whole e) (open_block h) = absurd (cc (at_end text i e, h.begins))
one_tail text i _ _ (whole e) (bad_name h) = absurd (cc (at_end text i e, h.begins))
one_tail text i _ _ (whole e) (paren h) = absurd (cc (at_end text i e, h))
one_tail text i _ _ (whole e) (stray lt h) = absurd (omega (arith, e, lt))
one_tail text i _ _ (open_name g) (whole e) = absurd (cc (at_end text i e, g.begins))
one_tail text i _ _ (open_name g) (open_name h) = refl
one_tail text i _ _ (open_name g) (open_block h) = absurd (cc (g.begins, h.begins))
one_tail text i _ _ (open_name g) (bad_name h) = absurd (open_or_bad text i g h.bad)
one_tail text i _ _ (open_name g) (paren h) = absurd (cc (g.begins, h))
one_tail text i _ _ (open_name g) (stray lt h) = absurd (cc (g.begins, h))
one_tail text i _ _ (open_block g) (whole e) = absurd (cc (at_end text i e, g.begins))
one_tail text i _ _ (open_block g) (open_name h) = absurd (cc (g.begins, h.begins))
one_tail text i _ _ (open_block g) (open_block h) = refl
one_tail text i _ _ (open_block g) (bad_name h) = absurd (cc (g.begins, h.begins))
one_tail text i _ _ (open_block g) (paren h) = absurd (cc (g.begins, h))
one_tail text i _ _ (open_block g) (stray lt h) = absurd (cc (g.begins, h))
one_tail text i _ _ (bad_name g) (whole e) = absurd (cc (at_end text i e, g.begins))
one_tail text i _ _ (bad_name g) (open_name h) = absurd (open_or_bad text i h g.bad)
one_tail text i _ _ (bad_name g) (open_block h) = absurd (cc (g.begins, h.begins))
one_tail text i _ _ (bad_name g) (bad_name h) = refl
one_tail text i _ _ (bad_name g) (paren h) = absurd (cc (g.begins, h))
one_tail text i _ _ (bad_name g) (stray lt h) = refl
one_tail text i _ _ (paren g) (whole e) = absurd (cc (at_end text i e, g))
one_tail text i _ _ (paren g) (open_name h) = absurd (cc (g, h.begins))
one_tail text i _ _ (paren g) (open_block h) = absurd (cc (g, h.begins))
one_tail text i _ _ (paren g) (bad_name h) = absurd (cc (g, h.begins))
one_tail text i _ _ (paren g) (paren h) = refl
one_tail text i _ _ (paren g) (stray lt h) = absurd (cc (g, h))
one_tail text i _ _ (stray le g) (whole e) = absurd (omega (arith, e, le))
one_tail text i _ _ (stray le g) (open_name h) = absurd (cc (g, h.begins))
one_tail text i _ _ (stray le g) (open_block h) = absurd (cc (g, h.begins))
one_tail text i _ _ (stray le g) (bad_name h) = refl
one_tail text i _ _ (stray le g) (paren h) = absurd (cc (g, h))
one_tail text i _ _ (stray le g) (stray lt h) = refl

dead_here : (text : List ℕ) (i m : ℕ) → i ≡ m → Dead text m → Dead text i
dead_here text i m e d = rw e d

-- readings up to places where nothing begins are one
one_reading : (text : List ℕ) (m n i : ℕ) (ts us : List Token) → Dead text m → Dead text n → Reads text m i ts → Reads text n i us → (m ≡ n) × (ts ≡ us)
one_reading text m n _ _ _ d f (here i a) (here _ b) = (sym a ∙ b, refl)
one_reading text m n _ _ _ d f (here i a) (gap _ next us h r) = absurd ((dead_here text i m a d).no_gap next h)
one_reading text m n _ _ _ d f (here i a) (token lexeme _ next us h r) = absurd ((dead_here text i m a d).no_token next lexeme h)
one_reading text m n _ _ _ d f (gap i next ts h r) (here _ b) = absurd ((dead_here text i n b f).no_gap next h)
one_reading text m n _ _ _ d f (token lexeme i next ts h r) (here _ b) = absurd ((dead_here text i n b f).no_token next lexeme h)
one_reading text m n _ _ _ d f (gap i next ts h r) (gap _ then us g s) =
    one_reading text m n next ts us d f r (subst (λ (k : ℕ). Reads text n k us) (sym (one_gap text i next then h g)) s)
one_reading text m n _ _ _ d f (gap i next ts h r) (token lexeme _ then us g s) = absurd (gap_or_token text i next then lexeme h g)
one_reading text m n _ _ _ d f (token lexeme i next ts h r) (gap _ then us g s) = absurd (gap_or_token text i then next lexeme g h)
one_reading text m n _ _ _ d f (token a i next ts h r) (token b _ then us g s) =
    let same = one_token text i next then a b h g in
    let rest = one_reading text m n next ts us d f r (subst (λ (k : ℕ). Reads text n k us) (sym same.0) s) in
    (rest.0, ap (λ (l : Lexeme). record { lexeme = l; start = i } ∷ ts) same.1 ∙ ap (λ (l : List Token). record { lexeme = b; start = i } ∷ l) rest.1)

-- A text's tokens are the only ones.
pub only_tokens : (text : List ℕ) (ts us : List Token) → AreTokens text ts → AreTokens text us → ts ≡ us
only_tokens text ts us a b =
    let r = one_reading text a.upto b.upto 0 a.front b.front (dead_tail text a.upto a.last a.tail) (dead_tail text b.upto b.last b.tail) a.reads b.reads in
    let last : a.last ≡ b.last = one_tail text a.upto a.last b.last a.tail (subst (λ (k : ℕ). Tail text k b.last) (sym r.0) b.tail) in
    a.all ∙ ap (λ (f : List Token). f ++ a.last) r.1 ∙ ap (λ (l : List Token). b.front ++ l) last ∙ sym b.all
