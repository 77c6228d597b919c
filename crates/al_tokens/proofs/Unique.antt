-- A text has one reading.
use Rattle.std.proofs.Common.{◌≡◌, ℕ, ◌+◌, ◌<◌, ◌≤◌, ◌⊎◌, inl, inr, List, [], ◌∷◌, ◌++◌, length, Option, Some, None, refl, sym, ap, ◌∙◌, arith, subst}
use Rattle.std.proofs.lemmas.List.{get_or_past}
use Rattle.al_tokens.specs.declared.kinds.TokenKind.{TokenKind}
use Rattle.al_tokens.specs.declared.kinds.TokenKind.TheVariants as kinds
use Rattle.std.specs.Prelude.{Result, Ok, Err, IfOk}
use Rattle.al_values.specs.Gives.{GivesUnlessNoMemory}
use Rattle.al_values.specs.declared.cant.Cant.{Cant}
use Rattle.al_values.specs.declared.cant.Cant.TheVariants as cants
use Rattle.al_tokens.specs.declared.kinds.Token.{Token}
use Rattle.al_tokens.specs.declared.kinds.Lex.{Lex}
use Rattle.al_tokens.specs.declared.kinds.Sign.{Sign}
use Rattle.al_tokens.specs.declared.bytes.Class.TheVariants as classes
use Rattle.al_tokens.specs.declared.bytes.Begins.{Begins}
use Rattle.al_tokens.specs.declared.bytes.Begins.TheVariants as begins
use Rattle.al_tokens.specs.Bytes.{at, is_of, Run, First, Closed}
use Rattle.al_tokens.specs.Begun.{begun, begun_at, long_sign, short_sign}
use Rattle.al_tokens.specs.Signs.{width}
use Rattle.al_tokens.proofs.Starts.{leads, token_begun, gap_begun, name_begun, text_begun}
use Rattle.al_tokens.specs.Tokens.{IsGap, IsToken, IsPiece, Reads, here, gap, token, IsStray, IsStuck, FaultAt, Spans, Unclosed, AreTokens, IfWhy}
use Rattle.al_tokens.proofs.Runs.{clash, one_run, one_first, one_end}

-- what was read, and one piece more
pub and_gap : (text : List ℕ) (m n i : ℕ) (ts : List Token) → Reads text m i ts → IsGap text m n → Reads text n i ts
and_gap text m n _ _ (here i e) g = gap i n [] (rw e g) (here n refl)
and_gap text m n _ _ (gap i next ts h r) g = gap i next ts h (and_gap text m n next ts r g)
and_gap text m n _ _ (token kind i next us h lt r) g = token kind i next us h lt (and_gap text m n next us r g)

pub and_token : (text : List ℕ) (m n i : ℕ) (ts : List Token) (kind : TokenKind) → Reads text m i ts → IsToken kind text m n → m < n → Reads text n i (ts ++ record { kind = kind; start = m; end = n } ∷ [])
and_token text m n _ _ kind (here i e) g less = rw e (token kind m n [] g less (here n refl))
and_token text m n _ _ kind (gap i next ts h r) g less = gap i next _ h (and_token text m n next ts kind r g less)
and_token text m n _ _ kind (token other i next us h lt r) g less = token other i next _ h lt (and_token text m n next us kind r g less)

-- a gap is no token, and goes to one end
gap_end : (text : List ℕ) (i m n : ℕ) → ((begun_at text i ≡ begins.Blank) × (m ≡ i + 1)) ⊎ ((begun_at text i ≡ begins.Comment) × First 10 text i m)
    → ((begun_at text i ≡ begins.Blank) × (n ≡ i + 1)) ⊎ ((begun_at text i ≡ begins.Comment) × First 10 text i n) → m ≡ n
gap_end text i m n (inl a) (inl b) = a.1 ∙ sym b.1
gap_end text i m n (inl a) (inr b) = absurd (cc (a.0, b.0))
gap_end text i m n (inr a) (inl b) = absurd (cc (a.0, b.0))
gap_end text i m n (inr a) (inr b) = one_first 10 text i m n a.1 b.1

pub one_gap : (text : List ℕ) (i m n : ℕ) → IsGap text i m → IsGap text i n → m ≡ n
one_gap text i m n a b = gap_end text i m n (gap_begun text i m a) (gap_begun text i n b)

no_gap_lead : (kind : TokenKind) (x : Begins) → x ≡ leads kind → (x ≡ begins.Blank) ⊎ (x ≡ begins.Comment) → ⊥
no_gap_lead kinds.Word x e (inl a) = cc (e, a)
no_gap_lead kinds.Word x e (inr a) = cc (e, a)
no_gap_lead kind x e (inl a) = cc (e, a)
no_gap_lead kind x e (inr a) = cc (e, a)

pub gap_leads : (text : List ℕ) (i m : ℕ) → IsGap text i m → (begun_at text i ≡ begins.Blank) ⊎ (begun_at text i ≡ begins.Comment)
gap_leads text i m a = elim (gap_begun text i m a) [ inl x ↦ inl x.0 | inr x ↦ inr x.0 ]

pub gap_or_token : (text : List ℕ) (i m n : ℕ) (kind : TokenKind) → IsGap text i m → IsToken kind text i n → ⊥
gap_or_token text i m n kind a b = no_gap_lead kind _ (token_begun text i n kind b) (gap_leads text i m a)

-- One token begins at a place, and goes to one end.
pub one_token : (text : List ℕ) (i m n : ℕ) (k l : TokenKind) → IsToken k text i m → IsToken l text i n → (k ≡ l) × (m ≡ n)
one_token text i m n kinds.Word kinds.Word a b = (refl, one_run _ text i m n a.1 b.1)
one_token text i m n kinds.Integer kinds.Integer a b = (refl, one_run _ text i m n a.1 b.1)
one_token text i m n kinds.Integer kinds.OddNumber a b =
    let e : m ≡ b.1.0 = one_run _ text i m b.1.0 a.1 b.1.1 in
    absurd (clash _ b.1.2 (ap (λ (d : ℕ). is_of classes.Number (at text d)) (sym e) ∙ a.2))
one_token text i m n kinds.OddNumber kinds.Integer b a =
    let e : n ≡ b.1.0 = one_run _ text i n b.1.0 a.1 b.1.1 in
    absurd (clash _ b.1.2 (ap (λ (d : ℕ). is_of classes.Number (at text d)) (sym e) ∙ a.2))
one_token text i m n kinds.OddNumber kinds.OddNumber a b =
    let e : a.1.0 ≡ b.1.0 = one_run _ text i a.1.0 b.1.0 a.1.1 b.1.1 in
    (refl, one_run _ text b.1.0 m n (subst (λ (d : ℕ). Run classes.Number text d m) e a.1.3) b.1.3)
one_token text i m n kinds.QuotedName kinds.QuotedName a b = (refl, one_end 34 text m n (i + 1) a.1 b.1)
one_token text i m n kinds.Text kinds.Text a b = (refl, one_end 39 text m n (i + 1) a.1 b.1)
one_token text i m n (kinds.Sign s) (kinds.Sign t) a b =
    let e : s ≡ t = cc (token_begun text i m (kinds.Sign s) a, token_begun text i n (kinds.Sign t) b) in
    (ap (λ (x : Sign). kinds.Sign x) e, a.1 ∙ ap (λ (x : Sign). i + width x) e ∙ sym b.1)
one_token text i m n k l a b = absurd (cc (token_begun text i m k a, token_begun text i n l b))

-- Neither a gap nor a token begins at a place.
pub record Dead (text : List ℕ) (i : ℕ) : Type 0 where
  pub no_gap : (end : ℕ) → IsGap text i end → ⊥
  pub no_token : (kind : TokenKind) (end : ℕ) → IsToken kind text i end → ⊥

no_gap_at : (text : List ℕ) (i end : ℕ) → begun_at text i ≡ begins.Nothing → IsGap text i end → ⊥
no_gap_at text i end e a = elim (gap_leads text i end a) [ inl x ↦ cc (e, x) | inr x ↦ cc (e, x) ]

no_token_at : (text : List ℕ) (i end : ℕ) (kind : TokenKind) → begun_at text i ≡ begins.Nothing → IsToken kind text i end → ⊥
no_token_at text i end kinds.Word e a = cc (e, token_begun text i end kinds.Word a)
no_token_at text i end kind e a = cc (e, token_begun text i end kind a)

begun_zero : begun 0 0 ≡ begins.Nothing
unfolding begun long_sign short_sign
begun_zero = refl

nothing_at_end : (text : List ℕ) → begun_at text (length text) ≡ begins.Nothing
nothing_at_end text =
    let e : at text (length text) ≡ 0 = get_or_past text (length text) 0 (omega arith) in
    let f : at text (length text + 1) ≡ 0 = get_or_past text (length text + 1) 0 (omega arith) in
    ap (λ (b : ℕ). begun b (at text (length text + 1))) e ∙ ap (λ (b : ℕ). begun 0 b) f ∙ begun_zero

pub dead_end : (text : List ℕ) → Dead text (length text)
dead_end text = record {
  no_gap = λ end. no_gap_at text (length text) end (nothing_at_end text);
  no_token = λ kind end. no_token_at text (length text) end kind (nothing_at_end text);
}

pub dead_stuck : (text : List ℕ) (i n : ℕ) → IsStuck text i n → Dead text i
dead_stuck text i n s = record { no_gap = s.no_gap; no_token = s.no_token }

pub dead_here : (text : List ℕ) (i m : ℕ) → i ≡ m → Dead text m → Dead text i
dead_here text i m e d = rw e d

-- Readings up to places where nothing begins are one.
pub one_reading : (text : List ℕ) (m n i : ℕ) (ts us : List Token) → Dead text m → Dead text n → Reads text m i ts → Reads text n i us → (m ≡ n) × (ts ≡ us)
one_reading text m n _ _ _ d f (here i a) (here _ b) = (sym a ∙ b, refl)
one_reading text m n _ _ _ d f (here i a) (gap _ next us h r) = absurd ((dead_here text i m a d).no_gap next h)
one_reading text m n _ _ _ d f (here i a) (token kind _ next us h lt r) = absurd ((dead_here text i m a d).no_token kind next h)
one_reading text m n _ _ _ d f (gap i next ts h r) (here _ b) = absurd ((dead_here text i n b f).no_gap next h)
one_reading text m n _ _ _ d f (token kind i next ts h lt r) (here _ b) = absurd ((dead_here text i n b f).no_token kind next h)
one_reading text m n _ _ _ d f (gap i next ts h r) (gap _ then us g s) =
    one_reading text m n next ts us d f r (subst (λ (k : ℕ). Reads text n k us) (sym (one_gap text i next then h g)) s)
one_reading text m n _ _ _ d f (gap i next ts h r) (token kind _ then us g lt s) = absurd (gap_or_token text i next then kind h g)
one_reading text m n _ _ _ d f (token kind i next ts h lt r) (gap _ then us g s) = absurd (gap_or_token text i then next kind g h)
one_reading text m n _ _ _ d f (token k i next ts h lt r) (token l _ then us g less s) =
    let e = one_token text i next then k l h g in
    let rest = one_reading text m n next ts us d f r (subst (λ (x : ℕ). Reads text n x us) (sym e.1) s) in
    (rest.0, cc (e.0, e.1, rest.1))

-- Spans rise.
gap_rises : (text : List ℕ) (i next : ℕ) → IsGap text i next → i ≤ next
gap_rises text i next (inl a) = omega (arith, a.1)
gap_rises text i next (inr a) = a.2.rises

pub rise : (text : List ℕ) (end i : ℕ) (ts : List Token) (from : ℕ) → end ≤ length text → from ≤ i → Reads text end i ts → Spans text from ts
rise text end _ _ from all le (here i e) = omega arith
rise text end _ _ from all le (gap i next ts h r) = rise text end next ts from all (omega (arith, gap_rises text i next h)) r
rise text end _ _ from all le (token kind i next ts h lt r) = (le, lt, h, rise text end next ts next all (omega arith) r)

-- ---- what a result says

pub tokens_or_fault : (text : List ℕ) (ts : List Token) (n : ℕ) → AreTokens text ts → FaultAt text n → ⊥
tokens_or_fault text ts n r f =
    let same = one_reading text (length text) f.upto 0 ts f.tokens (dead_end text) (dead_stuck text f.upto n f.stuck) r f.reads in
    omega (arith, same.0, f.stuck.within)

one_place : (text : List ℕ) (i m n : ℕ) → IsStuck text i m → IsStuck text i n → m ≡ n
one_place text i m n s t = elim s.place [
  | inl a ↦ elim t.place [ inl b ↦ a.1 ∙ sym b.1 | inr b ↦ absurd (b.0 a.0) ]
  | inr a ↦ elim t.place [ inl b ↦ absurd (a.0 b.0) | inr b ↦ a.1 ∙ sym b.1 ]
]

pub one_fault : (text : List ℕ) (m n : ℕ) → FaultAt text m → FaultAt text n → m ≡ n
one_fault text m n f g =
    let same = one_reading text f.upto g.upto 0 f.tokens g.tokens (dead_stuck text f.upto m f.stuck) (dead_stuck text g.upto n g.stuck) f.reads g.reads in
    one_place text g.upto m n (subst (λ (x : ℕ). IsStuck text x m) same.0 f.stuck) g.stuck

pub only_these : (text : List ℕ) (r : Result (List Token) (Cant Lex)) → IfOk r (λ ts. AreTokens text ts) → IfWhy r (λ lex. FaultAt text lex.at) → (ts : List Token) → AreTokens text ts → GivesUnlessNoMemory r (Ok ts)
only_these text (Ok us) found fault ts is = ap (λ (x : List Token). Ok x) (one_reading text (length text) (length text) 0 ts us (dead_end text) (dead_end text) is found).1
only_these text (Err (cants.Why lex)) found fault ts is = absurd (tokens_or_fault text ts lex.at is fault)
only_these text (Err cants.NoMemory) found fault ts is = tt

pub only_there : (text : List ℕ) (r : Result (List Token) (Cant Lex)) → IfOk r (λ ts. AreTokens text ts) → IfWhy r (λ lex. FaultAt text lex.at) → (n : ℕ) → FaultAt text n → GivesUnlessNoMemory r (Err (record { at = n }))
only_there text (Ok us) found fault n is = absurd (tokens_or_fault text us n found is)
only_there text (Err (cants.Why lex)) found fault n is = ap (λ (x : ℕ). Err (record { at = x })) (one_fault text n lex.at is fault)
only_there text (Err cants.NoMemory) found fault n is = tt

pub spans_rise : (text : List ℕ) (r : Result (List Token) (Cant Lex)) → IfOk r (λ ts. AreTokens text ts) → IfOk r (λ ts. Spans text 0 ts)
spans_rise text (Ok us) found = rise text (length text) 0 us 0 (omega arith) (omega arith) found
spans_rise text (Err e) found = tt

-- ---- what the loop does with a piece

pub read_token : (text : List ℕ) (m n : ℕ) (ts new : List Token) (o : Option TokenKind) (kind : TokenKind) → o ≡ Some kind → IsPiece o text m n → m < n → Reads text m 0 ts
    → new ≡ ts ++ record { kind = kind; start = m; end = n } ∷ [] → Reads text n 0 new
read_token text m n ts new None kind e piece lt r is = absurd (cc e)
read_token text m n ts new (Some k) kind e piece lt r is =
    let same : k ≡ kind = cc e in
    rw is (and_token text m n 0 ts kind r (subst (λ (x : TokenKind). IsToken x text m n) same piece) lt)

pub read_gap : (text : List ℕ) (m n : ℕ) (ts : List Token) (o : Option TokenKind) → ((kind : TokenKind) → o ≡ Some kind → ⊥) → IsPiece o text m n → Reads text m 0 ts → Reads text n 0 ts
read_gap text m n ts None none piece r = and_gap text m n 0 ts r piece
read_gap text m n ts (Some kind) none piece r = absurd (none kind refl)

-- ---- where nothing is begun, an empty name, and what is unclosed

pub stray_there : (text : List ℕ) (i : ℕ) → i < length text → begun_at text i ≡ begins.Nothing → IsStray text i
stray_there text i lt e = record {
  within = lt;
  no_gap = λ m a. no_gap_at text i m e a;
  no_token = λ kind m a. no_token_at text i m kind e a;
  closed = λ u. elim u [ inl a ↦ cc (e, name_begun text i a.0) | inr a ↦ cc (e, text_begun text i a.0) ];
}

pub no_gap_quoted : (text : List ℕ) (i end : ℕ) → begun_at text i ≡ begins.QuotedName → IsGap text i end → ⊥
no_gap_quoted text i end e a = elim (gap_leads text i end a) [ inl y ↦ cc (e, y) | inr y ↦ cc (e, y) ]

pub only_name : (text : List ℕ) (i m : ℕ) (kind : TokenKind) → begun_at text i ≡ begins.QuotedName → IsToken kind text i m → Closed 34 text m (i + 1) × (m ≡ i + 2 → ⊥)
only_name text i m kinds.QuotedName e a = (a.1, a.2)
only_name text i m kind e a = absurd (cc (e, token_begun text i m kind a))

not_unclosed : (text : List ℕ) (i end : ℕ) → begun_at text i ≡ begins.QuotedName → Closed 34 text end (i + 1) → Unclosed text i → ⊥
not_unclosed text i end e shut (inl a) = a.1 end shut
not_unclosed text i end e shut (inr a) = cc (e, text_begun text i a.0)

pub empty_name : (text : List ℕ) (i end : ℕ) → i < length text → at text i ≡ 34 → Closed 34 text end (i + 1) → end ≡ i + 2 → IsStray text i
empty_name text i end lt q shut empty =
    let e = name_begun text i q in
    record {
      within = lt;
      no_gap = λ m a. no_gap_quoted text i m e a;
      no_token = λ kind m a. let n = only_name text i m kind e a in n.1 (one_end 34 text m end (i + 1) n.0 shut ∙ empty);
      closed = not_unclosed text i end e shut;
    }
