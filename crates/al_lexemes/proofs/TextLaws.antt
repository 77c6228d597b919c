-- What is answered on a text is what it says by the rule, both ways.
use Rattle.std.proofs.Common.{◌≡◌, ℕ, zero, suc, ◌+◌, ◌-◌, ◌<◌, ◌≤◌, ◌⊎◌, inl, inr, Bool, true, false, ◌||◌, ◌==◌, List, [], ◌∷◌, ◌++◌, length, length-append, append-nil, append_assoc, Some, Result, Ok, Err, IfOk, refl, sym, ap, ◌∙◌, subst, arith}
use Rattle.std.specs.Prelude.{slice_get, if◌then◌else◌}
use Rattle.std.proofs.lemmas.Bool.{eqb-true, ne_eqb}
use Rattle.al_values.specs.declared.cant.Cant.{Cant}
use Rattle.al_values.specs.declared.cant.Cant.TheVariants as cants
use Rattle.al_values.specs.Gives.{GivesUnlessNoMemory}
use Rattle.al_grammar.specs.Rules.{Shape, Rule}
use Rattle.al_grammar.specs.Laws.{Lawful}
use Rattle.al_grammar.specs.Whole.{StopsAt, whole_of}
use Rattle.al_grammar.proofs.WholeTexts.{whole_found, whole_only, whole_stops, text_goes_on, one_place}
use Rattle.al_tokens.specs.declared.kinds.Token.{Token}
use Rattle.al_tokens.specs.declared.kinds.Ending.{Ending}
use Rattle.al_tokens.specs.declared.kinds.Ending.TheVariants as endings
use Rattle.al_tokens.specs.declared.kinds.Front.{Front}
use Rattle.al_tokens.specs.Tokens.{Reads, Ends, AreTokens, IsFront, IfWhy}
use Rattle.al_statements.specs.declared.fault.SqlFault.{SqlFault}
use Rattle.al_statements.specs.declared.fault.SqlFault.TheVariants as faults
use Rattle.al_phrases.specs.declared.lexeme.Lexeme.{Lexeme}
use Rattle.al_phrases.specs.Words.{kind_of}
use Rattle.al_lexemes.specs.Classes.{lexemes_of, outside}
use Rattle.al_lexemes.specs.Faults.{IsText, IsFault, IsStopped, IsEnded, IsLeftOut, Begins, end_place}
use Rattle.al_lexemes.specs.Answer.{answer, answer_by, ended, fault_at, fault_by, fault_of, goes_on, trial}
use Rattle.al_lexemes.proofs.Splits.{parts, get_mid, rest_length, place_length, lexemes_length, stood_in, tried}

clash : (b : Bool) → b ≡ true → b ≡ false → ⊥
clash b t f = absurd (cc (t, f))

pub ok_is : (A : Type 0) (r : Result A (Cant ℕ)) (want : Result A ℕ) (v : A) → GivesUnlessNoMemory r want → r ≡ Ok v → want ≡ Ok v
ok_is A (Ok w) want v gives e = let same : w ≡ v = cc in gives ∙ ap Ok same
ok_is A (Err (cants.Why m)) want v gives e = absurd cc
ok_is A (Err cants.NoMemory) want v gives e = absurd cc

pub why_is : (A : Type 0) (r : Result A (Cant ℕ)) (want : Result A ℕ) (n : ℕ) → GivesUnlessNoMemory r want → r ≡ Err (cants.Why n) → want ≡ Err n
why_is A (Ok v) want n gives e = absurd cc
why_is A (Err (cants.Why m)) want n gives e = let same : m ≡ n = cc in gives ∙ ap Err same
why_is A (Err cants.NoMemory) want n gives e = absurd cc

-- ---- what is told of a token

-- it is told by what it is, and whether its stand-in could stand
pub told_by : (Stands : Type 0) (o st : Bool) (place : ℕ) (out : Bool) → out ≡ o → (st ≡ true → Stands) → (st ≡ false → Stands → ⊥)
    → ((((out ≡ true) ⊎ Stands) × (fault_of (o || st) place ≡ faults.NotInProfile place)) ⊎ ((((out ≡ true) ⊎ Stands) → ⊥) × (fault_of (o || st) place ≡ faults.Syntax place)))
told_by Stands true st place out e can cannot = inl (inl e, refl)
told_by Stands false true place out e can cannot = inl (inr (can refl), refl)
told_by Stands false false place out e can cannot = inr (λ h. elim h [ inl a ↦ clash out a e | inr b ↦ cannot refl b ], refl)

abbrev Told : Type 0 → ℕ → SqlFault → Type 0
Told Out place f = (Out × (f ≡ faults.NotInProfile place)) ⊎ ((Out → ⊥) × (f ≡ faults.Syntax place))

pub one_told : (Out : Type 0) (place : ℕ) (f g : SqlFault) → Told Out place f → Told Out place g → f ≡ g
one_told Out place f g (inl a) (inl b) = a.1 ∙ sym b.1
one_told Out place f g (inl a) (inr b) = absurd (b.0 a.0)
one_told Out place f g (inr a) (inl b) = absurd (a.0 b.0)
one_told Out place f g (inr a) (inr b) = a.1 ∙ sym b.1

-- ---- what is told at the end

ended_ok : (A : Type 0) (ending : Ending) (w v : A) (end : ℕ) → ended ending w end ≡ Ok v → (ending ≡ endings.Whole) × (w ≡ v)
ended_ok A endings.Whole w v end e = (refl, cc)
ended_ok A (endings.Stray place) w v end e = absurd cc
ended_ok A (endings.OpenName place) w v end e = absurd cc
ended_ok A (endings.OpenText place) w v end e = absurd cc

ended_err : (A : Type 0) (ending : Ending) (w : A) (end : ℕ) (f : SqlFault) → ended ending w end ≡ Err f → (ending ≡ endings.Whole → ⊥) × (f ≡ faults.Syntax (end_place ending end))
ended_err A endings.Whole w end f e = absurd cc
ended_err A (endings.Stray place) w end f e = (λ h. absurd cc, cc)
ended_err A (endings.OpenName place) w end f e = (λ h. absurd cc, cc)
ended_err A (endings.OpenText place) w end f e = (λ h. absurd cc, cc)

not_whole : (A : Type 0) (ending : Ending) (w : A) (end : ℕ) → (ending ≡ endings.Whole → ⊥) → ended ending w end ≡ Err (faults.Syntax (end_place ending end))
not_whole A endings.Whole w end other = absurd (other refl)
not_whole A (endings.Stray place) w end other = refl
not_whole A (endings.OpenName place) w end other = refl
not_whole A (endings.OpenText place) w end other = refl

whole_front : (text : List ℕ) (ts : List Token) → AreTokens text ts → IsFront text (record { tokens = ts; ending = endings.Whole })
whole_front text ts reads = record { upto = length text; reads = reads; ends = refl }

front_whole : (text : List ℕ) (front : Front) → IsFront text front → front.ending ≡ endings.Whole → AreTokens text front.tokens
front_whole text front is e =
    let at : is.upto ≡ length text = subst (λ (x : Ending). Ends x text is.upto) e is.ends in
    subst (λ (n : ℕ). Reads text n 0 front.tokens) at is.reads

module _ (A : Type 0) (s : Shape) (p : Rule Lexeme s A) (pl : Lawful kind_of p) where
  -- ---- whether tokens can go on

  begins_from : (ts before from more : List Lexeme) (v : A) → ts ≡ before ++ from → 0 ≡ length from → p.Is (before ++ more) v → Begins p.Is ts
  begins_from ts before [] more v split none is = (more, v, subst (λ (l : List Lexeme). p.Is (l ++ more) v) (sym (split ∙ append-nil before)) is)
  begins_from ts before (x ∷ others) more v split none is = absurd (omega (arith, none))

  pub stopped_early : (ts : List Lexeme) (left : ℕ) → left ≡ 0 → StopsAt p.Is ts left → Begins p.Is ts
  stopped_early ts left none h = begins_from ts h.before h.from h.more h.value h.split (sym none ∙ h.place) h.begins

  no_more_from : (ts : List Lexeme) (left : ℕ) (h : StopsAt p.Is ts left) (from : List Lexeme) → h.from ≡ from → 0 < length from → Begins p.Is ts → ⊥
  no_more_from ts left h [] e some b = absurd (omega (arith, some))
  no_more_from ts left h (x ∷ others) e some b =
      let split : ts ≡ h.before ++ x ∷ others = h.split ∙ ap (λ (l : List Lexeme). h.before ++ l) e in
      h.ends x others (others ++ b.0) b.1 e (subst (λ (l : List Lexeme). p.Is l b.1) (ap (λ (l : List Lexeme). l ++ b.0) split ∙ append_assoc h.before (x ∷ others) b.0) b.2)

  pub stopped_late : (ts : List Lexeme) (left : ℕ) → 0 < left → StopsAt p.Is ts left → Begins p.Is ts → ⊥
  stopped_late ts left some h b = no_more_from ts left h h.from refl (omega (arith, h.place, some)) b

  pub positive : (n : ℕ) → (n == 0) ≡ false → 0 < n
  positive zero e = absurd cc
  positive (suc n) e = omega arith

  pub goes_on_if : (ts : List Lexeme) (r : Result A ℕ) → whole_of (p.reads ts) ≡ r → goes_on r ≡ true → Begins p.Is ts
  goes_on_if ts (Ok v) e h = ([], v, subst (λ (l : List Lexeme). p.Is l v) (sym (append-nil ts)) (whole_found Lexeme A s kind_of p pl ts v e))
  goes_on_if ts (Err left) e h = stopped_early ts left (eqb-true left 0 h) (whole_stops Lexeme A s kind_of p pl ts left e)

  pub goes_on_only : (ts : List Lexeme) (r : Result A ℕ) → whole_of (p.reads ts) ≡ r → goes_on r ≡ false → Begins p.Is ts → ⊥
  goes_on_only ts (Ok v) e h b = absurd cc
  goes_on_only ts (Err left) e h b = stopped_late ts left (positive left h) (whole_stops Lexeme A s kind_of p pl ts left e) b

  few_left : (ts : List Lexeme) (left : ℕ) → StopsAt p.Is ts left → left ≤ length ts
  few_left ts left h =
      let whole : length ts ≡ length h.before + length h.from = ap length h.split ∙ length-append h.before h.from in
      omega (arith, h.place)

  -- where the reading stops is the reader's answer
  pub stops_only : (ts : List Lexeme) (left : ℕ) (r : Result A ℕ) → whole_of (p.reads ts) ≡ r → StopsAt p.Is ts left → r ≡ Err left
  stops_only ts left (Ok v) e h = absurd (text_goes_on Lexeme A p.Is ts left v h (whole_found Lexeme A s kind_of p pl ts v e))
  stops_only ts left (Err m) e h = ap Err (one_place Lexeme A p.Is ts m left (whole_stops Lexeme A s kind_of p pl ts m e) h)

  -- ---- a token that can't stand

  abbrev stands : List ℕ → List Token → ℕ → Bool
  stands text tokens place = goes_on (whole_of (p.reads (trial (lexemes_of text tokens) place)))

  -- it is told as the definition says
  told : (text : List ℕ) (tokens before after : List Token) (token : Token) → tokens ≡ before ++ token ∷ after
      → Told (IsLeftOut p.Is text before token after) token.start (fault_at text tokens (length before) (stands text tokens (length before)))
  told text tokens before after token split =
      let there : slice_get tokens (length before) ≡ Some token = ap (λ (l : List Token). slice_get l (length before)) split ∙ get_mid Token before after token in
      let same = tried text tokens before after token split in
      let ts = stood_in text before token after in
      let st = goes_on (whole_of (p.reads ts)) in
      let one = told_by (Begins p.Is ts) (outside text token) st token.start (outside text token) refl (goes_on_if ts (whole_of (p.reads ts)) refl) (goes_on_only ts (whole_of (p.reads ts)) refl) in
      subst (λ (f : SqlFault). Told (IsLeftOut p.Is text before token after) token.start f)
      (sym (ap (λ x. fault_by text x (stands text tokens (length before))) there ∙ ap (λ (l : List Lexeme). fault_of (outside text token || goes_on (whole_of (p.reads l))) token.start) same)) one

  pub stopped : (text : List ℕ) (tokens : List Token) (left : ℕ) → 0 < left → StopsAt p.Is (lexemes_of text tokens) left
      → IsStopped p.Is text tokens (fault_at text tokens (length tokens - left) (stands text tokens (length tokens - left)))
  stopped text tokens left some h =
      let within : left ≤ length tokens = omega (arith, few_left (lexemes_of text tokens) left h, lexemes_length text tokens) in
      let r = parts Token tokens (length tokens - left) (omega arith) in
      let t = told text tokens r.before r.after r.token r.split in
      let rest : length (r.token ∷ r.after) ≡ left = rest_length Token tokens r.before r.after r.token (length tokens - left) r.split r.at ∙ omega arith in
      record {
        before = r.before;
        token = r.token;
        after = r.after;
        split = r.split;
        stops = subst (λ (n : ℕ). StopsAt p.Is (lexemes_of text tokens) n) (sym rest) h;
        told = subst (λ (n : ℕ). Told (IsLeftOut p.Is text r.before r.token r.after) r.token.start (fault_at text tokens n (stands text tokens n))) r.at t;
      }

  pub stopped_only : (text : List ℕ) (tokens : List Token) (f : SqlFault) → (h : IsStopped p.Is text tokens f)
      → f ≡ fault_at text tokens (length tokens - length (h.token ∷ h.after)) (stands text tokens (length tokens - length (h.token ∷ h.after)))
  stopped_only text tokens f h =
      let place = place_length Token tokens h.before h.after h.token h.split in
      one_told (IsLeftOut p.Is text h.before h.token h.after) h.token.start f _ h.told
      (subst (λ (n : ℕ). Told (IsLeftOut p.Is text h.before h.token h.after) h.token.start (fault_at text tokens n (stands text tokens n))) (sym place) (told text tokens h.before h.after h.token h.split))

  -- ---- what is answered is so

  abbrev either_of : Bool → SqlFault → SqlFault → Result A SqlFault
  either_of b x y = if b then Err x else Err y

  not_ok : (b : Bool) (x y : SqlFault) (v : A) → either_of b x y ≡ Ok v → ⊥
  not_ok true x y v e = absurd cc
  not_ok false x y v e = absurd cc

  found_by : (text : List ℕ) (front : Front) (r : Result A ℕ) (v : A) → IsFront text front → whole_of (p.reads (lexemes_of text front.tokens)) ≡ r → answer_by p text front r ≡ Ok v → IsText p text v
  found_by text front (Ok w) v is e h =
      let x = ended_ok A front.ending w v (length text) h in
      (front.tokens, front_whole text front is x.0, subst (λ (u : A). p.Is (lexemes_of text front.tokens) u) x.1 (whole_found Lexeme A s kind_of p pl (lexemes_of text front.tokens) w e))
  found_by text front (Err left) v is e h = absurd (not_ok (left == 0) _ _ v h)

  late_by : (text : List ℕ) (front : Front) (left : ℕ) (f : SqlFault) (b : Bool) → (left == 0) ≡ b → IsFront text front → StopsAt p.Is (lexemes_of text front.tokens) left
      → either_of b (faults.Syntax (end_place front.ending (length text))) (fault_at text front.tokens (length front.tokens - left) (stands text front.tokens (length front.tokens - left))) ≡ Err f
      → IsFault p text f
  late_by text front left f true z is h e = (
    front,
    is,
    inr (record {
      begins = stopped_early (lexemes_of text front.tokens) left (eqb-true left 0 z) h;
      early = λ v w k. text_goes_on Lexeme A p.Is (lexemes_of text front.tokens) left v h k;
      told = cc;
    }),
  )
  late_by text front left f false z is h e =
      let same : fault_at text front.tokens (length front.tokens - left) (stands text front.tokens (length front.tokens - left)) ≡ f = cc in
      (front, is, inl (subst (λ (g : SqlFault). IsStopped p.Is text front.tokens g) same (stopped text front.tokens left (positive left z) h)))

  fault_found_by : (text : List ℕ) (front : Front) (r : Result A ℕ) (f : SqlFault) → IsFront text front → whole_of (p.reads (lexemes_of text front.tokens)) ≡ r → answer_by p text front r ≡ Err f → IsFault p text f
  fault_found_by text front (Ok w) f is e h =
      let x = ended_err A front.ending w (length text) f h in
      let there = whole_found Lexeme A s kind_of p pl (lexemes_of text front.tokens) w e in (
        front,
        is,
        inr (record {
          begins = ([], w, subst (λ (l : List Lexeme). p.Is l w) (sym (append-nil (lexemes_of text front.tokens))) there);
          early = λ v k _. x.0 k;
          told = x.1;
        }),
      )
  fault_found_by text front (Err left) f is e h = late_by text front left f (left == 0) refl is (whole_stops Lexeme A s kind_of p pl (lexemes_of text front.tokens) left e) h

  -- ---- what is so is answered

  pub only_value : (text : List ℕ) (front : Front) (v : A) → ((g : Front) → IsFront text g → front ≡ g) → IsText p text v → answer p text front ≡ Ok v
  only_value text front v one is =
      let g : Front = record { tokens = is.0; ending = endings.Whole } in
      ap (λ (x : Front). answer p text x) (one g (whole_front text is.0 is.1)) ∙ ap (λ (r : Result A ℕ). answer_by p text g r) (whole_only Lexeme A s kind_of p pl (lexemes_of text is.0) v is.2)

  stopped_answer : (text : List ℕ) (g : Front) (f : SqlFault) → IsStopped p.Is text g.tokens f → answer p text g ≡ Err f
  stopped_answer text g f h =
      let left = length (h.token ∷ h.after) in
      let some : (left == 0) ≡ false = ne_eqb left 0 (λ (e : left ≡ 0). omega arith) in
      ap (λ (r : Result A ℕ). answer_by p text g r) (stops_only (lexemes_of text g.tokens) left (whole_of (p.reads (lexemes_of text g.tokens))) refl h.stops)
      ∙ ap (λ (b : Bool). either_of b (faults.Syntax (end_place g.ending (length text))) (fault_at text g.tokens (length g.tokens - left) (stands text g.tokens (length g.tokens - left)))) some
      ∙ ap Err (sym (stopped_only text g.tokens f h))

  ended_late : (text : List ℕ) (g : Front) (f : SqlFault) (left : ℕ) (b : Bool) (y : SqlFault) → (left == 0) ≡ b → IsEnded p.Is text g f → StopsAt p.Is (lexemes_of text g.tokens) left
      → either_of b (faults.Syntax (end_place g.ending (length text))) y ≡ Err f
  ended_late text g f left true y z h k = ap Err (sym h.told)
  ended_late text g f left false y z h k = absurd (stopped_late (lexemes_of text g.tokens) left (positive left z) k h.begins)

  ended_by : (text : List ℕ) (g : Front) (f : SqlFault) (r : Result A ℕ) → whole_of (p.reads (lexemes_of text g.tokens)) ≡ r → IsEnded p.Is text g f → answer_by p text g r ≡ Err f
  ended_by text g f (Ok w) e h = not_whole A g.ending w (length text) (λ k. h.early w k (whole_found Lexeme A s kind_of p pl (lexemes_of text g.tokens) w e)) ∙ ap Err (sym h.told)
  ended_by text g f (Err left) e h = ended_late text g f left (left == 0) _ refl h (whole_stops Lexeme A s kind_of p pl (lexemes_of text g.tokens) left e)

  fault_answer : (text : List ℕ) (g : Front) (f : SqlFault) → IsStopped p.Is text g.tokens f ⊎ IsEnded p.Is text g f → answer p text g ≡ Err f
  fault_answer text g f (inl h) = stopped_answer text g f h
  fault_answer text g f (inr h) = ended_by text g f (whole_of (p.reads (lexemes_of text g.tokens))) refl h

  pub only_fault : (text : List ℕ) (front : Front) (f : SqlFault) → ((g : Front) → IsFront text g → front ≡ g) → IsFault p text f → answer p text front ≡ Err f
  only_fault text front f one is = ap (λ (x : Front). answer p text x) (one is.0 is.1) ∙ fault_answer text is.0 f is.2

  -- ---- what a call answers, which may also find no memory

  pub value_is : (text : List ℕ) (front : Front) (r : Result A (Cant SqlFault)) → IsFront text front → GivesUnlessNoMemory r (answer p text front) → IfOk r (λ v. IsText p text v)
  value_is text front (Ok v) is gives = found_by text front (whole_of (p.reads (lexemes_of text front.tokens))) v is refl gives
  value_is text front (Err (cants.Why f)) is gives = tt
  value_is text front (Err cants.NoMemory) is gives = tt

  pub value_only : (text : List ℕ) (front : Front) (r : Result A (Cant SqlFault)) → ((g : Front) → IsFront text g → front ≡ g) → GivesUnlessNoMemory r (answer p text front)
      → (v : A) → IsText p text v → GivesUnlessNoMemory r (Ok v)
  value_only text front r one gives v is = subst (λ (x : Result A SqlFault). GivesUnlessNoMemory r x) (only_value text front v one is) gives

  pub fault_is : (text : List ℕ) (front : Front) (r : Result A (Cant SqlFault)) → IsFront text front → GivesUnlessNoMemory r (answer p text front) → IfWhy r (λ f. IsFault p text f)
  fault_is text front (Ok v) is gives = tt
  fault_is text front (Err (cants.Why f)) is gives = fault_found_by text front (whole_of (p.reads (lexemes_of text front.tokens))) f is refl gives
  fault_is text front (Err cants.NoMemory) is gives = tt

  pub fault_only : (text : List ℕ) (front : Front) (r : Result A (Cant SqlFault)) → ((g : Front) → IsFront text g → front ≡ g) → GivesUnlessNoMemory r (answer p text front)
      → (f : SqlFault) → IsFault p text f → GivesUnlessNoMemory r (Err f)
  fault_only text front r one gives f is = subst (λ (x : Result A SqlFault). GivesUnlessNoMemory r x) (only_fault text front f one is) gives

  -- ---- from the two readings

  -- a token that can't stand: what is read of the tokens up to it, stood in for, decides what is told
  pub answer_stopped : (text : List ℕ) (front : Front) (ts tr : List Lexeme) (left : ℕ) (st : Bool) (f : SqlFault) → ts ≡ lexemes_of text front.tokens → whole_of (p.reads ts) ≡ Err left → (left == 0) ≡ false
      → tr ≡ trial ts (length ts - left) → st ≡ goes_on (whole_of (p.reads tr)) → f ≡ fault_at text front.tokens (length front.tokens - left) st → answer p text front ≡ Err f
  answer_stopped text front ts tr left st f all first some up second told_as =
      let size : length ts ≡ length front.tokens = ap length all ∙ lexemes_length text front.tokens in
      let place : length ts - left ≡ length front.tokens - left = ap (λ (n : ℕ). n - left) size in
      let cut : tr ≡ trial (lexemes_of text front.tokens) (length front.tokens - left) = up ∙ ap (λ (l : List Lexeme). trial l (length ts - left)) all ∙ ap (λ (n : ℕ). trial (lexemes_of text front.tokens) n) place in
      let stand : st ≡ stands text front.tokens (length front.tokens - left) = second ∙ ap (λ (l : List Lexeme). goes_on (whole_of (p.reads l))) cut in
      let read_once : whole_of (p.reads (lexemes_of text front.tokens)) ≡ Err left = ap (λ (l : List Lexeme). whole_of (p.reads l)) (sym all) ∙ first in
      ap (λ (r : Result A ℕ). answer_by p text front r) read_once
      ∙ ap (λ (b : Bool). either_of b (faults.Syntax (end_place front.ending (length text))) (fault_at text front.tokens (length front.tokens - left) (stands text front.tokens (length front.tokens - left)))) some
      ∙ ap (λ (b : Bool). Err (fault_at text front.tokens (length front.tokens - left) b)) (sym stand)
      ∙ ap Err (sym told_as)
