-- What is answered on tokens in front of others is what stands there by the rule, both ways.
use Rattle.std.proofs.Common.{◌≡◌, ℕ, zero, suc, ◌+◌, ◌-◌, ◌<◌, ◌≤◌, ◌⊎◌, inl, inr, Bool, true, false, ◌==◌, List, [], ◌∷◌, ◌++◌, length, take, drop, length-append, append-nil, Result, Ok, Err, IfOk, refl, sym, ap, ◌∙◌, subst, arith}
use Rattle.std.proofs.lemmas.Bool.{eqb-true}
use Rattle.std.proofs.Math.ListN.{length-drop}
use Rattle.std.proofs.lemmas.List.{drop-drop, take_all}
use Rattle.al_values.specs.declared.cant.Cant.{Cant}
use Rattle.al_values.specs.declared.cant.Cant.TheVariants as cants
use Rattle.al_values.specs.Gives.{GivesUnlessNoMemory}
use Rattle.al_tokens.specs.Tokens.{IfWhy}
use Rattle.al_grammar.specs.Rules.{Shape, Step, read, fault, Rule}
use Rattle.al_grammar.specs.Laws.{Lawful}
use Rattle.al_grammar.specs.Whole.{StopsAt, FrontIs, whole_of}
use Rattle.al_grammar.proofs.WholeTexts.{whole_found, whole_only, whole_reads, text_goes_on, one_place}
use Rattle.al_grammar.proofs.Fronts.{front_found, front_stops}
use Rattle.al_tokens.specs.declared.kinds.Token.{Token}
use Rattle.al_statements.specs.declared.fault.SqlFault.{SqlFault}
use Rattle.al_statements.specs.declared.fault.SqlFault.TheVariants as faults
use Rattle.al_phrases.specs.declared.lexeme.Lexeme.{Lexeme}
use Rattle.al_phrases.specs.Words.{kind_of}
use Rattle.al_lexemes.specs.Classes.{lexemes_of, classed}
use Rattle.al_lexemes.specs.Faults.{IsStopped, IsFrontText, IsFrontFault, Begins}
use Rattle.al_lexemes.specs.Answer.{front_answer, front_by, front_before, fault_at, goes_on, trial}
use Rattle.al_lexemes.proofs.Splits.{lexemes_length}
use Rattle.al_lexemes.proofs.TextLaws.{stopped, stopped_only, stopped_early, stopped_late, positive}

-- ---- lists

module _ (T : Type 0) where
  pub drop_used : (xs ys : List T) → drop (length xs) (xs ++ ys) ≡ ys
  drop_used [] ys = refl
  drop_used (x ∷ xs) ys = drop_used xs ys

  pub take_used : (xs ys : List T) → take (length xs) (xs ++ ys) ≡ xs
  take_used [] ys = refl
  take_used (x ∷ xs) ys = ap (λ (l : List T). x ∷ l) (take_used xs ys)

  -- a front whose rest is known is known
  pub split_place : (ts xs ys : List T) → ts ≡ xs ++ ys → length xs ≡ length ts - length ys
  split_place ts xs ys split =
      let whole : length ts ≡ length xs + length ys = ap length split ∙ length-append xs ys in
      omega arith

  pub front_is : (ts xs ys : List T) → ts ≡ xs ++ ys → take (length ts - length ys) ts ≡ xs
  front_is ts xs ys split = ap (λ (n : ℕ). take n ts) (sym (split_place ts xs ys split)) ∙ ap (λ (l : List T). take (length xs) l) split ∙ take_used xs ys

  pub rest_is : (ts xs ys : List T) → ts ≡ xs ++ ys → drop (length ts - length ys) ts ≡ ys
  rest_is ts xs ys split = ap (λ (n : ℕ). drop n ts) (sym (split_place ts xs ys split)) ∙ ap (λ (l : List T). drop (length xs) l) split ∙ drop_used xs ys

  pub rest_within : (ts xs ys : List T) → ts ≡ xs ++ ys → length ys ≤ length ts
  rest_within ts xs ys split =
      let whole : length ts ≡ length xs + length ys = ap length split ∙ length-append xs ys in
      omega arith

classed_drop : (text : List ℕ) (n : ℕ) (ts : List Token) → drop n (classed text ts false) ≡ classed text (drop n ts) false
classed_drop text zero ts = refl
classed_drop text (suc n) [] = refl
classed_drop text (suc n) (t ∷ ts) = classed_drop text n ts

pub lexemes_drop : (text : List ℕ) (n : ℕ) (ts : List Token) → drop n (lexemes_of text ts) ≡ lexemes_of text (drop n ts)
unfolding lexemes_of
lexemes_drop text n ts = classed_drop text n ts

-- ---- fronts

module _ (A : Type 0) (s : Shape) (p : Rule Lexeme s A) (pl : Lawful kind_of p) where
  -- a text in front of a token that goes on in none stops the reading there
  stops_behind : (ts rest : List Lexeme) (v : A) → (h : FrontIs p.Is ts v rest) → 0 < length rest → StopsAt p.Is ts (length rest)
  stops_behind ts rest v h some = record {
    before = h.used;
    from = rest;
    split = h.split;
    place = refl;
    more = [];
    value = v;
    begins = subst (λ (l : List Lexeme). p.Is l v) (sym (append-nil h.used)) h.is;
    ends = λ x others more w e is. h.ends x others more w e is;
    early = λ w e is. absurd (omega (arith, some, ap length e));
  }

  whole_front : (ts : List Lexeme) (v : A) → FrontIs p.Is ts v [] → p.Is ts v
  whole_front ts v h = subst (λ (l : List Lexeme). p.Is l v) (sym (h.split ∙ append-nil h.used)) h.is

  one_value : (ts : List Lexeme) (v w : A) → p.Is ts v → p.Is ts w → v ≡ w
  one_value ts v w a b =
      let first = whole_reads Lexeme A s kind_of p pl ts v a in
      let second = whole_reads Lexeme A s kind_of p pl ts w b in
      let both : read v [] ≡ read w [] = sym first ∙ second in
      cc

  -- the front that stands before a stop is the only one
  front_place : (ts rest : List Lexeme) (left : ℕ) (v : A) → StopsAt p.Is ts left → (h : FrontIs p.Is ts v rest) → (length rest ≡ left) × p.Is (take (length ts - left) ts) v
  front_place ts [] left v k h = absurd (text_goes_on Lexeme A p.Is ts left v k (whole_front ts v h))
  front_place ts (x ∷ rest) left v k h =
      let same = one_place Lexeme A p.Is ts (length (x ∷ rest)) left (stops_behind ts (x ∷ rest) v h (omega arith)) k in
      let used : take (length ts - left) ts ≡ h.used = ap (λ (n : ℕ). take (length ts - n) ts) (sym same) ∙ front_is Lexeme ts h.used (x ∷ rest) h.split in
      (same, subst (λ (l : List Lexeme). p.Is l v) (sym used) h.is)

  -- what stands before a stop and is a text, is a front
  before_front : (ts : List Lexeme) (left : ℕ) (v : A) → StopsAt p.Is ts left → p.Is (take (length ts - left) ts) v → FrontIs p.Is ts v (drop (length ts - left) ts)
  before_front ts left v k is =
      let used : take (length ts - left) ts ≡ k.before = ap (λ (n : ℕ). take (length ts - n) ts) k.place ∙ front_is Lexeme ts k.before k.from k.split in
      let rest : drop (length ts - left) ts ≡ k.from = ap (λ (n : ℕ). drop (length ts - n) ts) k.place ∙ rest_is Lexeme ts k.before k.from k.split in
      record {
        used = k.before;
        split = k.split ∙ ap (λ (l : List Lexeme). k.before ++ l) (sym rest);
        is = subst (λ (l : List Lexeme). p.Is l v) used is;
        ends = λ x others more w e is. k.ends x others more w (sym rest ∙ e) is;
      }

  -- two fronts are one
  one_front : (ts rest rest2 : List Lexeme) (v w : A) → FrontIs p.Is ts v rest → FrontIs p.Is ts w rest2 → (length rest ≡ length rest2) × (v ≡ w)
  one_front ts [] [] v w h k = (refl, one_value ts v w (whole_front ts v h) (whole_front ts w k))
  one_front ts [] (x ∷ rest2) v w h k = absurd (text_goes_on Lexeme A p.Is ts (length (x ∷ rest2)) v (stops_behind ts (x ∷ rest2) w k (omega arith)) (whole_front ts v h))
  one_front ts (x ∷ rest) [] v w h k = absurd (text_goes_on Lexeme A p.Is ts (length (x ∷ rest)) w (stops_behind ts (x ∷ rest) v h (omega arith)) (whole_front ts w k))
  one_front ts (x ∷ rest) (y ∷ rest2) v w h k =
      let stop = stops_behind ts (y ∷ rest2) w k (omega arith) in
      let a = front_place ts (x ∷ rest) (length (y ∷ rest2)) v stop h in
      let b = front_place ts (y ∷ rest2) (length (y ∷ rest2)) w stop k in
      (a.0, one_value (take (length ts - length (y ∷ rest2)) ts) v w a.1 b.1)

  -- ---- tokens of a text from one of them on

  module _ (text : List ℕ) (tokens : List Token) (from : ℕ) (begun : from ≤ length tokens) where
    abbrev ts : List Token
    ts = drop from tokens

    abbrev lex : List Lexeme
    lex = lexemes_of text ts

    size : length lex ≡ length tokens - from
    size = lexemes_length text ts ∙ length-drop from tokens

    -- what is left of them, by its place
    behind_place : (n : ℕ) → lexemes_of text (drop (from + n) tokens) ≡ drop n lex
    behind_place n = ap (λ (l : List Token). lexemes_of text l) (sym (drop-drop n from tokens)) ∙ sym (lexemes_drop text n ts)

    front_text : (rest : List Lexeme) (v : A) → FrontIs p.Is lex v rest → IsFrontText p.Is text tokens from v (from + (length ts - length rest))
    front_text rest v h =
        let less = rest_within Lexeme lex h.used rest h.split in
        let same : length ts ≡ length lex = sym (lexemes_length text ts) in
        let place : lexemes_of text (drop (from + (length ts - length rest)) tokens) ≡ rest =
        behind_place (length ts - length rest) ∙ ap (λ (n : ℕ). drop (n - length rest) lex) same ∙ rest_is Lexeme lex h.used rest h.split in
        record { within = omega (arith, size, same, less); front = subst (λ (l : List Lexeme). FrontIs p.Is lex v l) (sym place) h }

    abbrev told_of : ℕ → SqlFault
    told_of left = fault_at text ts (length ts - left) (goes_on (whole_of (p.reads (trial lex (length ts - left)))))

    abbrev late_of : Bool → ℕ → Result (A × ℕ) SqlFault
    late_of true left = Err (faults.Syntax (length text))
    late_of false left = front_before p text ts (length ts - left) (whole_of (p.reads (take (length ts - left) lex)))

    late_is : (left : ℕ) (b : Bool) → (left == 0) ≡ b → front_by p text ts (fault left) ≡ late_of b left
    late_is left true e = rw e refl
    late_is left false e = rw e refl

    -- ---- what is answered is so

    before_found : (left : ℕ) (v : A) → StopsAt p.Is lex left → whole_of (p.reads (take (length ts - left) lex)) ≡ Ok v → IsFrontText p.Is text tokens from v (from + (length ts - left))
    before_found left v h e =
        let same : length ts ≡ length lex = sym (lexemes_length text ts) in
        let is : p.Is (take (length lex - left) lex) v = subst (λ (n : ℕ). p.Is (take (n - left) lex) v) same (whole_found Lexeme A s kind_of p pl (take (length ts - left) lex) v e) in
        let f = before_front lex left v h is in
        let within : left ≤ length lex = omega (arith, h.place, rest_within Lexeme lex h.before h.from h.split) in
        let long : length (drop (length lex - left) lex) ≡ left = omega (arith, length-drop (length lex - left) lex, within) in
        subst (λ (n : ℕ). IsFrontText p.Is text tokens from v (from + (length ts - n))) long (front_text (drop (length lex - left) lex) v f)

    abbrev made : A → ℕ → Result (A × ℕ) SqlFault
    made v n = Ok (v, n)

    abbrev value_or : A → Result (A × ℕ) SqlFault → A
    value_or v (Ok x) = x.0
    value_or v (Err f) = v

    abbrev count_or : Result (A × ℕ) SqlFault → ℕ
    count_or (Ok x) = x.1
    count_or (Err f) = 0

    pair_is : (v w : A) (m n : ℕ) → made v m ≡ made w n → (v ≡ w) × (m ≡ n)
    pair_is v w m n e = (ap (λ (r : Result (A × ℕ) SqlFault). value_or v r) e, ap (λ (r : Result (A × ℕ) SqlFault). count_or r) e)

    found_before : (left : ℕ) (v : A) (n : ℕ) (r : Result A ℕ) → StopsAt p.Is lex left → whole_of (p.reads (take (length ts - left) lex)) ≡ r → front_before p text ts (length ts - left) r ≡ made v n
        → IsFrontText p.Is text tokens from v (from + n)
    found_before left v n (Ok w) h e k =
        let same = pair_is w v (length ts - left) n k in
        subst (λ (m : ℕ). IsFrontText p.Is text tokens from v (from + m)) same.1 (subst (λ (u : A). IsFrontText p.Is text tokens from u (from + (length ts - left))) same.0 (before_found left w h e))
    found_before left v n (Err m) h e k = absurd cc

    found_late : (left : ℕ) (v : A) (n : ℕ) (b : Bool) → (left == 0) ≡ b → StopsAt p.Is lex left → late_of b left ≡ made v n → IsFrontText p.Is text tokens from v (from + n)
    found_late left v n true z h e = absurd cc
    found_late left v n false z h e = found_before left v n (whole_of (p.reads (take (length ts - left) lex))) h refl e

    found_step : (step : Step Lexeme A) (v : A) (n : ℕ) → p.reads lex ≡ step → front_by p text ts step ≡ made v n → IsFrontText p.Is text tokens from v (from + n)
    found_step (read w rest) v n e k =
        let same = pair_is w v (length ts - length rest) n k in
        subst (λ (m : ℕ). IsFrontText p.Is text tokens from v (from + m)) same.1
        (subst (λ (u : A). IsFrontText p.Is text tokens from u (from + (length ts - length rest))) same.0 (front_text rest w (front_found Lexeme A s kind_of p pl lex rest w e)))
    found_step (fault left) v n e k = found_late left v n (left == 0) refl (front_stops Lexeme A s kind_of p pl lex left e) (sym (late_is left (left == 0) refl) ∙ k)

    pub front_value : (v : A) (n : ℕ) → front_answer p text ts ≡ made v n → IsFrontText p.Is text tokens from v (from + n)
    front_value v n e = found_step (p.reads lex) v n refl e

    -- no text stands in front where the reading stops, and what stands before is none
    none_front : (left : ℕ) → StopsAt p.Is lex left → ((v : A) → p.Is (take (length lex - left) lex) v → ⊥) → (v : A) (next : ℕ) → IsFrontText p.Is text tokens from v next → ⊥
    none_front left h none v next f = none v (front_place lex (lexemes_of text (drop next tokens)) left v h f.front).1

    early_none : (left : ℕ) → left ≡ 0 → StopsAt p.Is lex left → (v : A) → p.Is (take (length lex - left) lex) v → ⊥
    early_none left z h v is =
        let all : take (length lex - left) lex ≡ lex = take_all (length lex - left) lex (omega (arith, z)) in
        text_goes_on Lexeme A p.Is lex left v h (subst (λ (l : List Lexeme). p.Is l v) all is)

    fault_before : (left : ℕ) (f : SqlFault) (r : Result A ℕ) → (left == 0) ≡ false → StopsAt p.Is lex left → whole_of (p.reads (take (length ts - left) lex)) ≡ r → front_before p text ts (length ts - left) r ≡ Err f
        → IsFrontFault p.Is text tokens from f
    fault_before left f (Ok w) z h e k = absurd cc
    fault_before left f (Err m) z h e k =
        let same : told_of left ≡ f = cc in
        let long : length ts ≡ length lex = sym (lexemes_length text ts) in
        record {
          none = none_front left h (λ v is.
              let whole = whole_only Lexeme A s kind_of p pl (take (length lex - left) lex) v is in
              let other : whole_of (p.reads (take (length lex - left) lex)) ≡ Err m = subst (λ (n : ℕ). whole_of (p.reads (take (n - left) lex)) ≡ Err m) long e in
              absurd (cc (whole, other)));
          told = inl (subst (λ (g : SqlFault). IsStopped p.Is text ts g) same (stopped A s p pl text ts left (positive A s p pl left z) h));
        }

    fault_late : (left : ℕ) (f : SqlFault) (b : Bool) → (left == 0) ≡ b → StopsAt p.Is lex left → late_of b left ≡ Err f → IsFrontFault p.Is text tokens from f
    fault_late left f true z h e = record { none = none_front left h (early_none left (eqb-true left 0 z) h); told = inr (stopped_early A s p pl lex left (eqb-true left 0 z) h, cc) }
    fault_late left f false z h e = fault_before left f (whole_of (p.reads (take (length ts - left) lex))) z h refl e

    fault_step : (step : Step Lexeme A) (f : SqlFault) → p.reads lex ≡ step → front_by p text ts step ≡ Err f → IsFrontFault p.Is text tokens from f
    fault_step (read w rest) f e k = absurd cc
    fault_step (fault left) f e k = fault_late left f (left == 0) refl (front_stops Lexeme A s kind_of p pl lex left e) (sym (late_is left (left == 0) refl) ∙ k)

    pub front_fault : (f : SqlFault) → front_answer p text ts ≡ Err f → IsFrontFault p.Is text tokens from f
    front_fault f e = fault_step (p.reads lex) f refl e

    -- ---- what is so is answered

    -- both answers, by what is answered
    only_by : (v : A) (next : ℕ) (r : Result (A × ℕ) SqlFault) → front_answer p text ts ≡ r → IsFrontText p.Is text tokens from v next → r ≡ made v (next - from)
    only_by v next (Ok x) e h =
        let k = front_value x.0 x.1 e in
        let one = one_front lex (lexemes_of text (drop (from + x.1) tokens)) (lexemes_of text (drop next tokens)) x.0 v k.front h.front in
        let a = lexemes_length text (drop (from + x.1) tokens) ∙ length-drop (from + x.1) tokens in
        let b = lexemes_length text (drop next tokens) ∙ length-drop next tokens in
        let place : x.1 ≡ next - from = omega (arith, one.0, a, b, h.within, k.within) in
        ap (λ (u : A). made u x.1) one.1 ∙ ap (λ (n : ℕ). made v n) place
    only_by v next (Err f) e h = absurd ((front_fault f e).none v next h)

    pub front_only_value : (v : A) (next : ℕ) → IsFrontText p.Is text tokens from v next → front_answer p text ts ≡ made v (next - from)
    front_only_value v next h = only_by v next (front_answer p text ts) refl h

    -- two faults are one
    one_fault : (f g : SqlFault) → IsFrontFault p.Is text tokens from f → IsFrontFault p.Is text tokens from g → f ≡ g
    one_fault f g a b = by a.told b.told
      where
        stop : (h : SqlFault) → IsStopped p.Is text ts h → Begins p.Is lex → ⊥
        stop h x y = stopped_late A s p pl lex (length (x.token ∷ x.after)) (omega arith) x.stops y

        by : (IsStopped p.Is text ts f ⊎ (Begins p.Is lex × (f ≡ faults.Syntax (length text)))) → (IsStopped p.Is text ts g ⊎ (Begins p.Is lex × (g ≡ faults.Syntax (length text)))) → f ≡ g
        by (inl x) (inl y) =
            stopped_only A s p pl text ts f x ∙ ap told_of (one_place Lexeme A p.Is lex (length (x.token ∷ x.after)) (length (y.token ∷ y.after)) x.stops y.stops) ∙ sym (stopped_only A s p pl text ts g y)
        by (inl x) (inr y) = absurd (stop f x y.0)
        by (inr x) (inl y) = absurd (stop g y x.0)
        by (inr x) (inr y) = x.1 ∙ sym y.1

    fault_by : (f : SqlFault) (r : Result (A × ℕ) SqlFault) → front_answer p text ts ≡ r → IsFrontFault p.Is text tokens from f → r ≡ Err f
    fault_by f (Ok x) e h = absurd (h.none x.0 (from + x.1) (front_value x.0 x.1 e))
    fault_by f (Err g) e h = ap Err (one_fault g f (front_fault g e) h)

    pub front_only_fault : (f : SqlFault) → IsFrontFault p.Is text tokens from f → front_answer p text ts ≡ Err f
    front_only_fault f h = fault_by f (front_answer p text ts) refl h

    -- ---- what a call answers, which may also find no memory

    pub front_value_is : (r : Result (A × ℕ) (Cant SqlFault)) → GivesUnlessNoMemory r (front_answer p text ts) → IfOk r (λ x. IsFrontText p.Is text tokens from x.0 (from + x.1))
    front_value_is (Ok x) gives = front_value x.0 x.1 gives
    front_value_is (Err e) gives = tt

    pub front_value_only : (r : Result (A × ℕ) (Cant SqlFault)) → GivesUnlessNoMemory r (front_answer p text ts) → (v : A) (next : ℕ) → IsFrontText p.Is text tokens from v next → GivesUnlessNoMemory r (made v (next - from))
    front_value_only r gives v next h = subst (λ (x : Result (A × ℕ) SqlFault). GivesUnlessNoMemory r x) (front_only_value v next h) gives

    pub front_fault_is : (r : Result (A × ℕ) (Cant SqlFault)) → GivesUnlessNoMemory r (front_answer p text ts) → IfWhy r (λ f. IsFrontFault p.Is text tokens from f)
    front_fault_is (Ok x) gives = tt
    front_fault_is (Err (cants.Why f)) gives = front_fault f gives
    front_fault_is (Err cants.NoMemory) gives = tt

    pub front_fault_only : (r : Result (A × ℕ) (Cant SqlFault)) → GivesUnlessNoMemory r (front_answer p text ts) → (f : SqlFault) → IsFrontFault p.Is text tokens from f → GivesUnlessNoMemory r (Err f)
    front_fault_only r gives f h = subst (λ (x : Result (A × ℕ) SqlFault). GivesUnlessNoMemory r x) (front_only_fault f h) gives

    -- ---- the same, with the number of the first token behind the text

    abbrev placed : Result (A × ℕ) (Cant SqlFault) → Result (A × ℕ) (Cant SqlFault)
    placed (Ok x) = Ok (x.0, from + x.1)
    placed (Err e) = Err e

    pub placed_value : (r : Result (A × ℕ) (Cant SqlFault)) → GivesUnlessNoMemory r (front_answer p text ts) → IfOk (placed r) (λ x. IsFrontText p.Is text tokens from x.0 x.1)
    placed_value (Ok x) gives = front_value x.0 x.1 gives
    placed_value (Err e) gives = tt

    one_next : (v w : A) (n next : ℕ) → IsFrontText p.Is text tokens from v (from + n) → IsFrontText p.Is text tokens from w next → made w next ≡ made v (from + n)
    one_next v w n next k h =
        let one = one_front lex (lexemes_of text (drop (from + n) tokens)) (lexemes_of text (drop next tokens)) v w k.front h.front in
        let a = lexemes_length text (drop (from + n) tokens) ∙ length-drop (from + n) tokens in
        let b = lexemes_length text (drop next tokens) ∙ length-drop next tokens in
        let place : next ≡ from + n = omega (arith, one.0, a, b, h.within, k.within) in
        ap (λ (u : A). made u next) (sym one.1) ∙ ap (λ (m : ℕ). made v m) place

    pub placed_only : (r : Result (A × ℕ) (Cant SqlFault)) → GivesUnlessNoMemory r (front_answer p text ts) → (v : A) (next : ℕ) → IsFrontText p.Is text tokens from v next → GivesUnlessNoMemory (placed r) (made v next)
    placed_only (Ok x) gives v next h = one_next x.0 v x.1 next (front_value x.0 x.1 gives) h
    placed_only (Err (cants.Why f)) gives v next h = absurd ((front_fault f gives).none v next h)
    placed_only (Err cants.NoMemory) gives v next h = tt

    pub placed_fault : (r : Result (A × ℕ) (Cant SqlFault)) → GivesUnlessNoMemory r (front_answer p text ts) → IfWhy (placed r) (λ f. IsFrontFault p.Is text tokens from f)
    placed_fault (Ok x) gives = tt
    placed_fault (Err (cants.Why f)) gives = front_fault f gives
    placed_fault (Err cants.NoMemory) gives = tt

    pub placed_only_fault : (r : Result (A × ℕ) (Cant SqlFault)) → GivesUnlessNoMemory r (front_answer p text ts) → (f : SqlFault) → IsFrontFault p.Is text tokens from f → GivesUnlessNoMemory (placed r) (Err f)
    placed_only_fault (Ok x) gives f h = absurd (h.none x.0 (from + x.1) (front_value x.0 x.1 gives))
    placed_only_fault (Err (cants.Why g)) gives f h = ap Err (sym (one_fault g f (front_fault g gives) h))
    placed_only_fault (Err cants.NoMemory) gives f h = tt

    -- no more tokens than there are
    pub count_within : (r : Result (A × ℕ) (Cant SqlFault)) → GivesUnlessNoMemory r (front_answer p text ts) → IfOk r (λ x. from + x.1 ≤ length tokens)
    count_within (Ok x) gives = (front_value x.0 x.1 gives).within
    count_within (Err e) gives = tt
