-- The program's answer is what the definitions say.
use Rattle.std.proofs.Common.{◌≡◌, ℕ, ◌+◌, ◌-◌, ◌<◌, ◌≤◌, ◌^◌, List, [], ◌∷◌, ◌++◌, length, take, drop, length-append, append_assoc, Result, Ok, Err, refl, sym, ap, ◌∙◌, arith, subst}
use Rattle.std.specs.Prelude.{IsUtf8, IfOk}
use Rattle.al_values.specs.Gives.{GivesUnlessNoMemory}
use Rattle.al_values.specs.declared.cant.Cant.{Cant}
use Rattle.al_values.specs.declared.cant.Cant.TheVariants as cants
use Rattle.al_grammar.specs.Whole.{StopsAt, whole_of}
use Rattle.al_grammar.proofs.WholeTexts.{whole_found, whole_only, whole_stops, text_goes_on, one_place, front_of}
use Rattle.al_spec.specs.declared.kinds.Token.{Token}
use Rattle.al_spec.specs.declared.spec.Spec.{Spec}
use Rattle.al_spec.specs.declared.spec.SpecFault.{SpecFault}
use Rattle.al_spec.specs.declared.spec.SpecFault.TheVariants as faults
use Rattle.std.specs.Str.{IsValidUpTo}
use Rattle.al_spec.specs.declared.notes.Noted.{Noted}
use Rattle.al_spec.specs.Tokens.{AreTokens}
use Rattle.al_spec.specs.Grammar.{kind_of, file, file_shape, File}
use Rattle.al_spec.specs.Notes.{note, note_all, nothing_noted, and_note}
use Rattle.al_spec.specs.Files.{spec_noted, IsSpecFile, IsFault, not_utf8, rule, syntax, syntax_fault, spec_or, fault_or, answer_by, answer, IfWhy}
use Rattle.al_spec.proofs.FileLaws.{lawful_file}
use Rattle.al_spec.proofs.Unique.{only_tokens}
use Rattle.al_spec.proofs.Known.{known_file}
use Rattle.al_spec.proofs.Allowed.{file_goes}
use Rattle.al_spec.proofs.Values.{spec_is, file_tells}
use Rattle.al_spec.specs.Sound.{IsSound}
use Rattle.al_spec.proofs.Sounds.{sound_spec}
use Rattle.al_spec.proofs.NoteParts.{notes_append}

-- ---- notes on a list in two parts

-- a fault in a part is a fault of the whole
notes_fault : (n m : Noted) (before after : List Token) (t : Token) (f : SpecFault) → note_all n before ≡ Ok m → note m t ≡ Err f → note_all n (before ++ t ∷ after) ≡ Err f
notes_fault n m before after t f e g =
    notes_append n before (t ∷ after) ∙ ap (λ (x : Result Noted SpecFault). and_note x (λ k. note_all k (t ∷ after))) e ∙ ap (λ (x : Result Noted SpecFault). and_note x (λ k. note_all k after)) g

-- the first fault has its token
record Broken (n : Noted) (ts : List Token) (f : SpecFault) : Type 0 where
  pub before : List Token
  pub token : Token
  pub after : List Token
  pub noted : Noted
  pub split : ts ≡ before ++ token ∷ after
  pub no_fault : note_all n before ≡ Ok noted
  pub fault : note noted token ≡ Err f

broken_by : (n : Noted) (t : Token) (ts : List Token) (f : SpecFault) (r : Result Noted SpecFault) → note n t ≡ r → ((m : Noted) → note_all m ts ≡ Err f → Broken m ts f)
    → and_note r (λ m. note_all m ts) ≡ Err f → Broken n (t ∷ ts) f
broken_by n t ts f (Ok m) h ih e =
    let b = ih m e in
    record {
      before = t ∷ b.before;
      token = b.token;
      after = b.after;
      noted = b.noted;
      split = ap (λ (l : List Token). t ∷ l) b.split;
      no_fault = ap (λ (x : Result Noted SpecFault). and_note x (λ k. note_all k b.before)) h ∙ b.no_fault;
      fault = b.fault;
    }
broken_by n t ts f (Err g) h ih e = record { before = []; token = t; after = ts; noted = n; split = refl; no_fault = refl; fault = h ∙ e }

broken : (n : Noted) (ts : List Token) (f : SpecFault) → note_all n ts ≡ Err f → Broken n ts f
broken n [] f e = absurd cc
broken n (t ∷ ts) f e = broken_by n t ts f (note n t) refl (λ m x. broken m ts f x) e

-- ---- lists cut at a length

cut_take : (T : Type 0) (a b : List T) → take (length a) (a ++ b) ≡ a
cut_take T [] b = refl
cut_take T (x ∷ a) b = ap (λ (l : List T). x ∷ l) (cut_take T a b)

cut_drop : (T : Type 0) (a b : List T) → drop (length a) (a ++ b) ≡ b
cut_drop T [] b = refl
cut_drop T (x ∷ a) b = cut_drop T a b

front_size : (ts : List Token) (n : ℕ) → (h : StopsAt file.Is ts n) → length ts - n ≡ length h.before
front_size ts n h =
    let all : length ts ≡ length h.before + length h.from = ap length h.split ∙ length-append h.before h.from in
    let at : n ≡ length h.from = h.place in
    omega arith

front_is : (ts : List Token) (n : ℕ) → (h : StopsAt file.Is ts n) → take (length ts - n) ts ≡ h.before
front_is ts n h = ap (λ (k : ℕ). take k ts) (front_size ts n h) ∙ ap (λ (l : List Token). take (length h.before) l) h.split ∙ cut_take Token h.before h.from

back_is : (ts : List Token) (n : ℕ) → (h : StopsAt file.Is ts n) → drop (length ts - n) ts ≡ h.from
back_is ts n h = ap (λ (k : ℕ). drop k ts) (front_size ts n h) ∙ ap (λ (l : List Token). drop (length h.before) l) h.split ∙ cut_drop Token h.before h.from

-- ---- what is answered is so

module _ (bytes : List ℕ) (utf8 : IsUtf8 bytes) (ts : List Token) (are : AreTokens bytes ts) where
  broken_text : (v : File) (f : SpecFault) → file.Is ts v → Broken nothing_noted ts f → IsFault bytes f
  broken_text v f is b = rule f ts b.before b.token b.after b.after v b.noted utf8 are b.split (subst (λ (l : List Token). file.Is l v) b.split is) b.no_fault b.fault

  spec_found : (v : File) (s : Spec) → file.Is ts v → (r : Result Noted SpecFault) → note_all nothing_noted ts ≡ r → spec_or r ≡ Ok s → IsSpecFile bytes s
  spec_found v s is (Ok n) h e = record { utf8 = utf8; tokens = ts; tokens_are = are; value = v; is = is; means = let same : spec_noted n ≡ s = cc in sym same ∙ spec_is ts v n is (known_file bytes ts v are is) h; keeps = (file_tells ts v n is (known_file bytes ts v are is) h).keeps }
  spec_found v s is (Err f) h e = absurd cc

  rule_found : (v : File) (f : SpecFault) → file.Is ts v → (r : Result Noted SpecFault) → note_all nothing_noted ts ≡ r → spec_or r ≡ Err f → IsFault bytes f
  rule_found v f is (Ok n) h e = absurd cc
  rule_found v f is (Err g) h e = let same : g ≡ f = cc in broken_text v f is (broken nothing_noted ts f (h ∙ ap (λ (x : SpecFault). Err x) same))

  broken_front : (n : ℕ) (f : SpecFault) → (h : StopsAt file.Is ts n) → Broken nothing_noted h.before f → IsFault bytes f
  broken_front n f h b =
      let whole : ts ≡ b.before ++ b.token ∷ (b.after ++ h.from) = h.split ∙ ap (λ (l : List Token). l ++ h.from) b.split ∙ append_assoc b.before (b.token ∷ b.after) h.from in
      let more : h.before ++ h.more ≡ b.before ++ b.token ∷ (b.after ++ h.more) = ap (λ (l : List Token). l ++ h.more) b.split ∙ append_assoc b.before (b.token ∷ b.after) h.more in
      rule f ts b.before b.token (b.after ++ h.from) (b.after ++ h.more) h.value b.noted utf8 are whole (subst (λ (l : List Token). file.Is l h.value) more h.begins) b.no_fault b.fault

  stop_found : (n : ℕ) (f : SpecFault) → (h : StopsAt file.Is ts n) → (r : Result Noted SpecFault) → note_all nothing_noted h.before ≡ r → fault_or r h.from (length bytes) ≡ Err f → IsFault bytes f
  stop_found n f h (Ok m) e g = let same : syntax_fault m h.from (length bytes) ≡ f = cc in syntax f ts n m utf8 are h e (sym same)
  stop_found n f h (Err k) e g = let same : k ≡ f = cc in broken_front n f h (broken nothing_noted h.before f (e ∙ ap (λ (x : SpecFault). Err x) same))

  no_spec : (s : Spec) (r : Result Noted SpecFault) (from : List Token) → fault_or r from (length bytes) ≡ Ok s → ⊥
  no_spec s (Ok n) from e = cc
  no_spec s (Err f) from e = cc

  spec_by : (s : Spec) (w : Result File ℕ) → whole_of (file.reads ts) ≡ w → answer_by w ts (length bytes) ≡ Ok s → IsSpecFile bytes s
  spec_by s (Ok v) h e = spec_found v s (whole_found Token File file_shape kind_of file lawful_file ts v h) (note_all nothing_noted ts) refl e
  spec_by s (Err n) h e = absurd (no_spec s _ _ e)

  fault_by : (f : SpecFault) (w : Result File ℕ) → whole_of (file.reads ts) ≡ w → answer_by w ts (length bytes) ≡ Err f → IsFault bytes f
  fault_by f (Ok v) h e = rule_found v f (whole_found Token File file_shape kind_of file lawful_file ts v h) (note_all nothing_noted ts) refl e
  fault_by f (Err n) h e =
      let stop : StopsAt file.Is ts n = whole_stops Token File file_shape kind_of file lawful_file ts n h in
      let front : note_all nothing_noted (take (length ts - n) ts) ≡ note_all nothing_noted stop.before = ap (λ (l : List Token). note_all nothing_noted l) (front_is ts n stop) in
      stop_found n f stop (note_all nothing_noted stop.before) refl
      (sym (ap (λ (x : Result Noted SpecFault). fault_or x (drop (length ts - n) ts) (length bytes)) front ∙ ap (λ (l : List Token). fault_or (note_all nothing_noted stop.before) l (length bytes)) (back_is ts n stop)) ∙ e)

  pub spec_sound : (s : Spec) → answer ts (length bytes) ≡ Ok s → IsSpecFile bytes s
  spec_sound s e = spec_by s (whole_of (file.reads ts)) refl e

  pub fault_sound : (f : SpecFault) → answer ts (length bytes) ≡ Err f → IsFault bytes f
  fault_sound f e = fault_by f (whole_of (file.reads ts)) refl e

  -- ---- what is so is answered

  answer_is : (w : Result File ℕ) → whole_of (file.reads ts) ≡ w → answer ts (length bytes) ≡ answer_by w ts (length bytes)
  answer_is w e = ap (λ (x : Result File ℕ). answer_by x ts (length bytes)) e

  pub spec_complete : (s : Spec) → IsSpecFile bytes s → answer ts (length bytes) ≡ Ok s
  spec_complete s h =
      let same : h.tokens ≡ ts = only_tokens bytes h.tokens ts h.tokens_are are in
      let is : file.Is ts h.value = subst (λ (l : List Token). file.Is l h.value) same h.is in
      let known = known_file bytes ts h.value are is in
      let g = file_goes ts h.value is known h.keeps in
      let value : spec_noted g.0 ≡ s = spec_is ts h.value g.0 is known g.1 ∙ sym h.means in
      answer_is (Ok h.value) (whole_only Token File file_shape kind_of file lawful_file ts h.value is) ∙ ap spec_or g.1 ∙ ap (λ (x : Spec). Ok x) value

-- the place of a stop lies behind what begins a text
stop_behind : (ts : List Token) (n : ℕ) (h : StopsAt file.Is ts n) (before after more : List Token) (t : Token) (v : File) → ts ≡ before ++ t ∷ after → file.Is (before ++ t ∷ more) v → length before < length h.before
stop_behind ts n h before after more t v split is =
    let no : length h.before ≤ length before → ⊥ = λ (le : length h.before ≤ length before).
    let size : length (before ++ t ∷ []) ≡ length before + 1 = length-append before (t ∷ []) in
    let found = front_of Token File file.Is h.before h.from (before ++ t ∷ []) after (sym h.split ∙ split ∙ sym (append_assoc before (t ∷ []) after)) (omega (arith, size)) in
    let longer : before ++ t ∷ more ≡ h.before ++ found.0 ∷ (found.2 ++ more) =
    sym (append_assoc before (t ∷ []) more) ∙ ap (λ (l : List Token). l ++ more) found.4 ∙ append_assoc h.before (found.0 ∷ found.2) more in
    h.ends found.0 found.1 (found.2 ++ more) v found.3 (subst (λ (l : List Token). file.Is l v) longer is) in
    omega arith

stop_answer : (ts : List Token) (end k : ℕ) (f : SpecFault) (h : StopsAt file.Is ts k) → fault_or (note_all nothing_noted h.before) h.from end ≡ Err f → answer_by (Err k) ts end ≡ Err f
stop_answer ts end k f h e =
    ap (λ (l : List Token). fault_or (note_all nothing_noted l) (drop (length ts - k) ts) end) (front_is ts k h)
    ∙ ap (λ (l : List Token). fault_or (note_all nothing_noted h.before) l end) (back_is ts k h) ∙ e

rule_answer : (ts : List Token) (end : ℕ) (f : SpecFault) (before after more : List Token) (t : Token) (v : File) (n : Noted) → ts ≡ before ++ t ∷ after → file.Is (before ++ t ∷ more) v
    → note_all nothing_noted before ≡ Ok n → note n t ≡ Err f → (w : Result File ℕ) → whole_of (file.reads ts) ≡ w → answer_by w ts end ≡ Err f
rule_answer ts end f before after more t v n split is e g (Ok u) h =
    ap (λ (l : List Token). spec_or (note_all nothing_noted l)) split ∙ ap spec_or (notes_fault nothing_noted n before after t f e g)
rule_answer ts end f before after more t v n split is e g (Err k) h =
    let stop : StopsAt file.Is ts k = whole_stops Token File file_shape kind_of file lawful_file ts k h in
    let lt : length before < length stop.before = stop_behind ts k stop before after more t v split is in
    let found = front_of Token File file.Is before (t ∷ after) stop.before stop.from (sym split ∙ stop.split) lt in
    let same : t ≡ found.0 = let heads : t ∷ after ≡ found.0 ∷ found.1 = found.3 in cc in
    let front : stop.before ≡ before ++ t ∷ found.2 = found.4 ∙ ap (λ (x : Token). before ++ x ∷ found.2) (sym same) in
    stop_answer ts end k f stop (ap (λ (l : List Token). fault_or (note_all nothing_noted l) stop.from end) front ∙ ap (λ (x : Result Noted SpecFault). fault_or x stop.from end) (notes_fault nothing_noted n before found.2 t f e g))

syntax_answer : (ts : List Token) (end left : ℕ) (f : SpecFault) (n : Noted) (h : StopsAt file.Is ts left) → note_all nothing_noted h.before ≡ Ok n → f ≡ syntax_fault n h.from end
    → (w : Result File ℕ) → whole_of (file.reads ts) ≡ w → answer_by w ts end ≡ Err f
syntax_answer ts end left f n h e g (Ok v) w = absurd (text_goes_on Token File file.Is ts left v h (whole_found Token File file_shape kind_of file lawful_file ts v w))
syntax_answer ts end left f n h e g (Err k) w =
    let same : k ≡ left = one_place Token File file.Is ts k left (whole_stops Token File file_shape kind_of file lawful_file ts k w) h in
    ap (λ (m : ℕ). answer_by (Err m) ts end) same
    ∙ stop_answer ts end left f h (ap (λ (x : Result Noted SpecFault). fault_or x h.from end) e ∙ ap (λ (x : SpecFault). Err x) (sym g))

pub fault_complete : (bytes : List ℕ) → IsUtf8 bytes → (ts : List Token) → AreTokens bytes ts → (f : SpecFault) → IsFault bytes f → answer ts (length bytes) ≡ Err f
fault_complete bytes utf8 ts are _ (not_utf8 at broken_bytes valid) = absurd (broken_bytes utf8)
fault_complete bytes utf8 ts are _ (rule fault tokens before t after more value n u them split is e g) =
    ap (λ (l : List Token). answer l (length bytes)) (only_tokens bytes ts tokens are them)
    ∙ rule_answer tokens (length bytes) fault before after more t value n split is e g (whole_of (file.reads tokens)) refl
fault_complete bytes utf8 ts are _ (syntax fault tokens left n u them stops e g) =
    ap (λ (l : List Token). answer l (length bytes)) (only_tokens bytes ts tokens are them)
    ∙ syntax_answer tokens (length bytes) left fault n stops e g (whole_of (file.reads tokens)) refl

-- ---- the four clauses

module _ (bytes : List ℕ) (utf8 : IsUtf8 bytes) (ts : List Token) (are : AreTokens bytes ts) where
  pub read_found : (r : Result Spec (Cant SpecFault)) → GivesUnlessNoMemory r (answer ts (length bytes)) → IfOk r (λ s. IsSpecFile bytes s)
  read_found (Ok s) g = spec_sound bytes utf8 ts are s g
  read_found (Err e) g = tt

  pub read_sound : (r : Result Spec (Cant SpecFault)) → GivesUnlessNoMemory r (answer ts (length bytes)) → IfOk r (λ s. length s.blocks < 2 ^ 32) → IfOk r (λ s. IsSound s)
  read_sound (Ok s) g few = let h = spec_sound bytes utf8 ts are s g in sound_spec h.value s h.keeps h.means few
  read_sound (Err e) g few = tt

  pub read_fault : (r : Result Spec (Cant SpecFault)) → GivesUnlessNoMemory r (answer ts (length bytes)) → IfWhy r (λ f. IsFault bytes f)
  read_fault (Ok s) g = tt
  read_fault (Err (cants.Why f)) g = fault_sound bytes utf8 ts are f g
  read_fault (Err cants.NoMemory) g = tt

  pub read_only : (r : Result Spec (Cant SpecFault)) → GivesUnlessNoMemory r (answer ts (length bytes)) → (s : Spec) → IsSpecFile bytes s → GivesUnlessNoMemory r (Ok s)
  read_only r g s h = subst (λ (a : Result Spec SpecFault). GivesUnlessNoMemory r a) (spec_complete bytes utf8 ts are s h) g

  pub read_only_fault : (r : Result Spec (Cant SpecFault)) → GivesUnlessNoMemory r (answer ts (length bytes)) → (f : SpecFault) → IsFault bytes f → GivesUnlessNoMemory r (Err f)
  read_only_fault r g f h = subst (λ (a : Result Spec SpecFault). GivesUnlessNoMemory r a) (fault_complete bytes utf8 ts are f h) g

-- ---- bytes that aren't UTF-8

one_valid : (bytes : List ℕ) (m n : ℕ) → IsValidUpTo bytes m → IsValidUpTo bytes n → m ≡ n
one_valid bytes m n a b =
    let below : m < n → ⊥ = λ (lt : m < n). a.longest n lt b.front in
    let above : n < m → ⊥ = λ (lt : n < m). b.longest m lt a.front in
    omega arith

pub only_utf8 : (bytes : List ℕ) (at : ℕ) → (IsUtf8 bytes → ⊥) → IsValidUpTo bytes at → (f : SpecFault) → IsFault bytes f → f ≡ faults.Utf8 at
only_utf8 bytes at broken_bytes valid _ (not_utf8 n h is) = ap (λ (k : ℕ). faults.Utf8 k) (one_valid bytes n at is valid)
only_utf8 bytes at broken_bytes valid _ (rule fault tokens before t after more value n u them split is e g) = absurd (broken_bytes u)
only_utf8 bytes at broken_bytes valid _ (syntax fault tokens left n u them stops e g) = absurd (broken_bytes u)
