-- The tokens in front of a fault are the only ones, and so is what ends them.
use Rattle.std.proofs.Common.{◌≡◌, ℕ, ◌+◌, ◌<◌, ◌≤◌, ◌⊎◌, inl, inr, List, length, Ok, Err, refl, sym, ap, ◌∙◌, arith, subst}
use Rattle.std.specs.Prelude.{Result, IfOk}
use Rattle.al_values.specs.declared.cant.NoMemory.{NoMemory}
use Rattle.al_values.specs.declared.cant.Cant.{Cant}
use Rattle.al_values.specs.Gives.{GivesUnlessNoMemory}
use Rattle.al_tokens.specs.declared.kinds.Lex.{Lex}
use Rattle.al_tokens.specs.declared.kinds.TokenKind.{TokenKind}
use Rattle.al_tokens.specs.declared.kinds.TokenKind.TheVariants as kinds
use Rattle.al_tokens.specs.declared.kinds.Token.{Token}
use Rattle.al_tokens.specs.declared.kinds.Ending.{Ending}
use Rattle.al_tokens.specs.declared.kinds.Ending.TheVariants as endings
use Rattle.al_tokens.specs.declared.kinds.Front.{Front}
use Rattle.al_tokens.specs.declared.bytes.Begins.TheVariants as begins
use Rattle.al_tokens.specs.declared.bytes.Stop.{Stop}
use Rattle.al_tokens.specs.declared.bytes.Stop.TheVariants as stops
use Rattle.al_tokens.specs.Bytes.{Closed}
use Rattle.al_tokens.specs.Begun.{begun_at}
use Rattle.al_tokens.proofs.Runs.{byte_within}
use Rattle.al_tokens.proofs.Starts.{token_begun, name_begun, text_begun}
use Rattle.al_tokens.specs.Tokens.{IsGap, IsToken, Reads, IsOpen, IsStray, IsStuck, FaultAt, Ends, IsFront, Stops, ending_of, whole_of, Spans, AreTokens, IfWhy}
use Rattle.al_tokens.proofs.Unique.{Dead, dead_end, dead_here, gap_leads, no_gap_quoted, only_name, one_reading, rise, only_these, only_there, spans_rise}

-- ---- nothing begins where tokens end

dead_name : (text : List ℕ) (i : ℕ) → IsOpen 34 text i → Dead text i
dead_name text i h =
    let e = name_begun text i h.0 in
    record {
      no_gap = λ end a. no_gap_quoted text i end e a;
      no_token = λ kind end a. h.1 end (only_name text i end kind e a).0;
    }

no_gap_text : (text : List ℕ) (i end : ℕ) → begun_at text i ≡ begins.Text → IsGap text i end → ⊥
no_gap_text text i end e a = elim (gap_leads text i end a) [ inl y ↦ cc (e, y) | inr y ↦ cc (e, y) ]

only_text : (text : List ℕ) (i m : ℕ) (kind : TokenKind) → begun_at text i ≡ begins.Text → IsToken kind text i m → Closed 39 text m (i + 1)
only_text text i m kinds.Text e a = a.1
only_text text i m kind e a = absurd (cc (e, token_begun text i m kind a))

dead_text : (text : List ℕ) (i : ℕ) → IsOpen 39 text i → Dead text i
dead_text text i h =
    let e = text_begun text i h.0 in
    record {
      no_gap = λ end a. no_gap_text text i end e a;
      no_token = λ kind end a. h.1 end (only_text text i end kind e a);
    }

dead_by : (text : List ℕ) (i : ℕ) (ending : Ending) → Ends ending text i → Dead text i
dead_by text i endings.Whole h = dead_here text i (length text) h (dead_end text)
dead_by text i (endings.Stray place) h = record { no_gap = h.1.no_gap; no_token = h.1.no_token }
dead_by text i (endings.OpenName place) h = dead_name text i h.1
dead_by text i (endings.OpenText place) h = dead_text text i h.1

-- ---- one thing ends them

name_within : (text : List ℕ) (i : ℕ) → IsOpen 34 text i → i < length text
name_within text i h = byte_within 34 text i (omega arith) h.0

text_within : (text : List ℕ) (i : ℕ) → IsOpen 39 text i → i < length text
text_within text i h = byte_within 39 text i (omega arith) h.0

name_or_text : (text : List ℕ) (i : ℕ) → IsOpen 34 text i → IsOpen 39 text i → ⊥
name_or_text text i a b = let e : 34 ≡ 39 = sym a.0 ∙ b.0 in omega (arith, e)

one_ending : (text : List ℕ) (i : ℕ) (a b : Ending) → Ends a text i → Ends b text i → a ≡ b
one_ending text i endings.Whole endings.Whole h k = refl
one_ending text i endings.Whole (endings.Stray q) h k = absurd (omega (arith, h, k.1.within))
one_ending text i endings.Whole (endings.OpenName q) h k = absurd (omega (arith, h, name_within text i k.1))
one_ending text i endings.Whole (endings.OpenText q) h k = absurd (omega (arith, h, text_within text i k.1))
one_ending text i (endings.Stray p) endings.Whole h k = absurd (omega (arith, k, h.1.within))
one_ending text i (endings.Stray p) (endings.Stray q) h k = ap (λ (n : ℕ). endings.Stray n) (h.0 ∙ sym k.0)
one_ending text i (endings.Stray p) (endings.OpenName q) h k = absurd (h.1.closed (inl k.1))
one_ending text i (endings.Stray p) (endings.OpenText q) h k = absurd (h.1.closed (inr k.1))
one_ending text i (endings.OpenName p) endings.Whole h k = absurd (omega (arith, k, name_within text i h.1))
one_ending text i (endings.OpenName p) (endings.Stray q) h k = absurd (k.1.closed (inl h.1))
one_ending text i (endings.OpenName p) (endings.OpenName q) h k = ap (λ (n : ℕ). endings.OpenName n) (h.0 ∙ sym k.0)
one_ending text i (endings.OpenName p) (endings.OpenText q) h k = absurd (name_or_text text i h.1 k.1)
one_ending text i (endings.OpenText p) endings.Whole h k = absurd (omega (arith, k, text_within text i h.1))
one_ending text i (endings.OpenText p) (endings.Stray q) h k = absurd (k.1.closed (inr h.1))
one_ending text i (endings.OpenText p) (endings.OpenName q) h k = absurd (name_or_text text i k.1 h.1)
one_ending text i (endings.OpenText p) (endings.OpenText q) h k = ap (λ (n : ℕ). endings.OpenText n) (h.0 ∙ sym k.0)

abbrev made : List Token → Ending → Front
made ts ending = record { tokens = ts; ending = ending }

one_front : (text : List ℕ) (a b : Front) → IsFront text a → IsFront text b → a ≡ b
one_front text a b h k =
    let same = one_reading text h.upto k.upto 0 a.tokens b.tokens (dead_by text h.upto a.ending h.ends) (dead_by text k.upto b.ending k.ends) h.reads k.reads in
    let ends = one_ending text k.upto a.ending b.ending (subst (λ (n : ℕ). Ends a.ending text n) same.0 h.ends) k.ends in
    ap (λ (ts : List Token). made ts a.ending) same.1 ∙ ap (λ (x : Ending). made b.tokens x) ends

pub only_front : (text : List ℕ) (r : Result Front NoMemory) → IfOk r (λ front. IsFront text front) → (front : Front) → IsFront text front → IfOk r (λ it. it ≡ front)
only_front text (Ok it) found front is = one_front text it front found is
only_front text (Err e) found front is = tt

-- ---- their places

upto_within : (text : List ℕ) (i : ℕ) (ending : Ending) → Ends ending text i → i ≤ length text
upto_within text i endings.Whole h = omega (arith, h)
upto_within text i (endings.Stray place) h = omega (arith, h.1.within)
upto_within text i (endings.OpenName place) h = omega (arith, name_within text i h.1)
upto_within text i (endings.OpenText place) h = omega (arith, text_within text i h.1)

pub front_spans : (text : List ℕ) (r : Result Front NoMemory) → IfOk r (λ front. IsFront text front) → IfOk r (λ front. Spans text 0 front.tokens)
front_spans text (Ok it) found = rise text found.upto 0 it.tokens 0 (upto_within text found.upto it.ending found.ends) (omega arith) found.reads
front_spans text (Err e) found = tt

-- ---- what the loop stops at

pub ended : (stop : Stop) (text : List ℕ) (i place : ℕ) → place ≡ i → Stops stop text i → Ends (ending_of stop place) text i
ended stops.Stray text i place e h = (e, h)
ended stops.OpenName text i place e h = (e, h)
ended stops.OpenText text i place e h = (e, h)

-- ---- a whole text, or its fault

stuck_open : (text : List ℕ) (i : ℕ) → i < length text → Dead text i → IsOpen 34 text i ⊎ IsOpen 39 text i → IsStuck text i (length text)
stuck_open text i lt dead open_there = record { within = lt; no_gap = dead.no_gap; no_token = dead.no_token; place = inl (open_there, refl) }

stuck_stray : (text : List ℕ) (i place : ℕ) → place ≡ i → IsStray text i → IsStuck text i place
stuck_stray text i place e h = record { within = h.within; no_gap = h.no_gap; no_token = h.no_token; place = inr (h.closed, e) }

found_by : (text : List ℕ) (upto : ℕ) (ts : List Token) (ending : Ending) → Reads text upto 0 ts → Ends ending text upto
    → IfOk (whole_of (made ts ending) (length text)) (λ us. AreTokens text us)
found_by text upto ts endings.Whole r h = subst (λ (n : ℕ). Reads text n 0 ts) h r
found_by text upto ts (endings.Stray place) r h = tt
found_by text upto ts (endings.OpenName place) r h = tt
found_by text upto ts (endings.OpenText place) r h = tt

fault_by : (text : List ℕ) (upto : ℕ) (ts : List Token) (ending : Ending) → Reads text upto 0 ts → Ends ending text upto
    → IfWhy (whole_of (made ts ending) (length text)) (λ lex. FaultAt text lex.at)
fault_by text upto ts endings.Whole r h = tt
fault_by text upto ts (endings.Stray place) r h = record { upto = upto; tokens = ts; reads = r; stuck = stuck_stray text upto place h.0 h.1 }
fault_by text upto ts (endings.OpenName place) r h =
    record { upto = upto; tokens = ts; reads = r; stuck = stuck_open text upto (name_within text upto h.1) (dead_name text upto h.1) (inl h.1) }
fault_by text upto ts (endings.OpenText place) r h =
    record { upto = upto; tokens = ts; reads = r; stuck = stuck_open text upto (text_within text upto h.1) (dead_text text upto h.1) (inr h.1) }

pub whole_found : (text : List ℕ) (front : Front) → IsFront text front → IfOk (whole_of front (length text)) (λ ts. AreTokens text ts)
whole_found text front h = found_by text h.upto front.tokens front.ending h.reads h.ends

pub whole_fault : (text : List ℕ) (front : Front) → IsFront text front → IfWhy (whole_of front (length text)) (λ lex. FaultAt text lex.at)
whole_fault text front h = fault_by text h.upto front.tokens front.ending h.reads h.ends

-- what is answered on a whole text
pub record Answered (text : List ℕ) (r : Result (List Token) (Cant Lex)) : Type 0 where
  pub found : IfOk r (λ ts. AreTokens text ts)
  pub only : (ts : List Token) → AreTokens text ts → GivesUnlessNoMemory r (Ok ts)
  pub fault : IfWhy r (λ lex. FaultAt text lex.at)
  pub only_fault : (n : ℕ) → FaultAt text n → GivesUnlessNoMemory r (Err (record { at = n }))
  pub spans : IfOk r (λ ts. Spans text 0 ts)

pub answered : (text : List ℕ) (front : Front) (r : Result (List Token) (Cant Lex)) → IsFront text front → r ≡ whole_of front (length text) → Answered text r
answered text front r is e =
    let found : IfOk r (λ ts. AreTokens text ts) = subst (λ (x : Result (List Token) (Cant Lex)). IfOk x (λ ts. AreTokens text ts)) (sym e) (whole_found text front is) in
    let fault : IfWhy r (λ lex. FaultAt text lex.at) = subst (λ (x : Result (List Token) (Cant Lex)). IfWhy x (λ lex. FaultAt text lex.at)) (sym e) (whole_fault text front is) in
    record {
      found = found;
      only = only_these text r found fault;
      fault = fault;
      only_fault = only_there text r found fault;
      spans = spans_rise text r found;
    }
