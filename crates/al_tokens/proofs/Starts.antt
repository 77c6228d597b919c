-- What a byte begins, read backwards.
use Rattle.std.proofs.Common.{◌≡◌, ℕ, ◌+◌, ◌<◌, ◌≤◌, ◌⊎◌, inl, inr, Bool, true, false, List, length, Option, Some, None, refl, sym, ap, ◌∙◌, arith, subst}
use Rattle.std.specs.Prelude.{◌&&◌, ◌==◌, if◌then◌else◌}
use Rattle.std.specs.Char.{is_ascii_digit}
use Rattle.std.proofs.lemmas.List.{get_or_past}
use Rattle.std.proofs.lemmas.Bool.{eqb-true, ne_eqb}
use Rattle.std.proofs.lemmas.Bool.Decides.{nat_tests}
use Rattle.al_tokens.specs.declared.kinds.Sign.{Sign}
use Rattle.al_tokens.specs.declared.kinds.Sign.TheVariants as signs
use Rattle.al_tokens.specs.declared.bytes.Class.{Class}
use Rattle.al_tokens.specs.declared.bytes.Class.TheVariants as classes
use Rattle.al_tokens.specs.declared.bytes.Begins.{Begins}
use Rattle.al_tokens.specs.declared.bytes.Begins.TheVariants as begins
use Rattle.al_tokens.specs.Bytes.{at, is_of, is_blank, begins_word, Run, First}
use Rattle.al_tokens.specs.Begun.{begun, begun_at, long_sign, short_sign, sign_begun}
use Rattle.al_tokens.specs.Signs.{width, Spells}
use Rattle.al_tokens.specs.Tokens.{IsGap, IsToken}
use Rattle.al_tokens.specs.declared.kinds.TokenKind.{TokenKind}
use Rattle.al_tokens.specs.declared.kinds.TokenKind.TheVariants as kinds
use Rattle.al_tokens.proofs.Runs.{clash}

abbrev chain : Bool → Bool → Bool → Bool → Bool → Bool → Option Sign → Option Sign → Begins
chain blank comment word digit name text long short =
    if blank then begins.Blank else (if comment then begins.Comment else (if word then begins.Word else (if digit then begins.Number else
    (if name then begins.QuotedName else (if text then begins.Text else sign_begun long short)))))

record Says (blank comment word digit name text : Bool) (long short : Option Sign) : Type 0 where
  pub on_blank : chain blank comment word digit name text long short ≡ begins.Blank → blank ≡ true
  pub on_comment : chain blank comment word digit name text long short ≡ begins.Comment → comment ≡ true
  pub on_word : chain blank comment word digit name text long short ≡ begins.Word → word ≡ true
  pub on_digit : chain blank comment word digit name text long short ≡ begins.Number → digit ≡ true
  pub on_name : chain blank comment word digit name text long short ≡ begins.QuotedName → name ≡ true
  pub on_text : chain blank comment word digit name text long short ≡ begins.Text → text ≡ true
  pub on_sign : (s : Sign) → chain blank comment word digit name text long short ≡ begins.Sign s → (comment ≡ false) × ((long ≡ Some s) ⊎ ((long ≡ None) × (short ≡ Some s)))

says : (blank comment word digit name text : Bool) (long short : Option Sign) → Says blank comment word digit name text long short
says true c w d n t l s = record { on_blank = λ e. refl; on_comment = λ e. absurd (cc e); on_word = λ e. absurd (cc e); on_digit = λ e. absurd (cc e); on_name = λ e. absurd (cc e); on_text = λ e. absurd (cc e); on_sign = λ x e. absurd (cc e) }
says false true w d n t l s = record { on_blank = λ e. absurd (cc e); on_comment = λ e. refl; on_word = λ e. absurd (cc e); on_digit = λ e. absurd (cc e); on_name = λ e. absurd (cc e); on_text = λ e. absurd (cc e); on_sign = λ x e. absurd (cc e) }
says false false true d n t l s = record { on_blank = λ e. absurd (cc e); on_comment = λ e. absurd (cc e); on_word = λ e. refl; on_digit = λ e. absurd (cc e); on_name = λ e. absurd (cc e); on_text = λ e. absurd (cc e); on_sign = λ x e. absurd (cc e) }
says false false false true n t l s = record { on_blank = λ e. absurd (cc e); on_comment = λ e. absurd (cc e); on_word = λ e. absurd (cc e); on_digit = λ e. refl; on_name = λ e. absurd (cc e); on_text = λ e. absurd (cc e); on_sign = λ x e. absurd (cc e) }
says false false false false true t l s = record { on_blank = λ e. absurd (cc e); on_comment = λ e. absurd (cc e); on_word = λ e. absurd (cc e); on_digit = λ e. absurd (cc e); on_name = λ e. refl; on_text = λ e. absurd (cc e); on_sign = λ x e. absurd (cc e) }
says false false false false false true l s = record { on_blank = λ e. absurd (cc e); on_comment = λ e. absurd (cc e); on_word = λ e. absurd (cc e); on_digit = λ e. absurd (cc e); on_name = λ e. absurd (cc e); on_text = λ e. refl; on_sign = λ x e. absurd (cc e) }
says false false false false false false (Some y) s = record { on_blank = λ e. absurd (cc e); on_comment = λ e. absurd (cc e); on_word = λ e. absurd (cc e); on_digit = λ e. absurd (cc e); on_name = λ e. absurd (cc e); on_text = λ e. absurd (cc e); on_sign = λ x e. (refl, inl (cc e)) }
says false false false false false false None (Some y) = record { on_blank = λ e. absurd (cc e); on_comment = λ e. absurd (cc e); on_word = λ e. absurd (cc e); on_digit = λ e. absurd (cc e); on_name = λ e. absurd (cc e); on_text = λ e. absurd (cc e); on_sign = λ x e. (refl, inr (refl, cc e)) }
says false false false false false false None None = record { on_blank = λ e. absurd (cc e); on_comment = λ e. absurd (cc e); on_word = λ e. absurd (cc e); on_digit = λ e. absurd (cc e); on_name = λ e. absurd (cc e); on_text = λ e. absurd (cc e); on_sign = λ x e. absurd (cc e) }

begun_says : (b next : ℕ) → Says (is_blank b) (b == 45 && next == 45) (begins_word b) (is_ascii_digit b) (b == 34) (b == 39) (long_sign b next) (short_sign b)
begun_says b next = says (is_blank b) (b == 45 && next == 45) (begins_word b) (is_ascii_digit b) (b == 34) (b == 39) (long_sign b next) (short_sign b)

and_left : (x y : Bool) → (x && y) ≡ true → x ≡ true
and_left true y e = refl
and_left false y e = e

and_right : (x y : Bool) → (x && y) ≡ true → y ≡ true
and_right true y e = e
and_right false y e = absurd (cc e)

both : (b m n k : ℕ) → (b == m && n == k) ≡ true → (b ≡ m) × (n ≡ k)
both b m n k e = (eqb-true b m (and_left _ _ e), eqb-true n k (and_right _ _ e))

-- ---- from what is begun

pub from_blank : (b next : ℕ) → begun b next ≡ begins.Blank → is_blank b ≡ true
unfolding begun
from_blank b next e = (begun_says b next).on_blank e

pub from_comment : (b next : ℕ) → begun b next ≡ begins.Comment → (b ≡ 45) × (next ≡ 45)
unfolding begun
from_comment b next e = both b 45 next 45 ((begun_says b next).on_comment e)

pub from_word : (b next : ℕ) → begun b next ≡ begins.Word → begins_word b ≡ true
unfolding begun
from_word b next e = (begun_says b next).on_word e

pub from_digit : (b next : ℕ) → begun b next ≡ begins.Number → is_ascii_digit b ≡ true
unfolding begun
from_digit b next e = (begun_says b next).on_digit e

pub from_name : (b next : ℕ) → begun b next ≡ begins.QuotedName → b ≡ 34
unfolding begun
from_name b next e = eqb-true b 34 ((begun_says b next).on_name e)

pub from_text : (b next : ℕ) → begun b next ≡ begins.Text → b ≡ 39
unfolding begun
from_text b next e = eqb-true b 39 ((begun_says b next).on_text e)

sign_parts : (b next : ℕ) (s : Sign) → begun b next ≡ begins.Sign s → ((b == 45 && next == 45) ≡ false) × ((long_sign b next ≡ Some s) ⊎ ((long_sign b next ≡ None) × (short_sign b ≡ Some s)))
unfolding begun
sign_parts b next s e = (begun_says b next).on_sign s e

step : (P : Sign → Type 0) (c : Bool) (x : Sign) (rest : Option Sign) (s : Sign) → (c ≡ true → P x) → (rest ≡ Some s → P s) → (if c then Some x else rest) ≡ Some s → P s
step P true x rest s one more e = let f : x ≡ s = cc e in subst P f (one refl)
step P false x rest s one more e = more e

long_spells : (b next : ℕ) (s : Sign) → long_sign b next ≡ Some s → Spells s b next
unfolding long_sign
long_spells b next s =
    let P = λ (x : Sign). Spells x b next in
    step P (b == 60 && next == 62) signs.NotEqual _ s (λ e. inl (both b 60 next 62 e)) (step P (b == 33 && next == 61) signs.NotEqual _ s (λ e. inr (both b 33 next 61 e))
    (step P (b == 60 && next == 61) signs.LessOrEqual _ s (λ e. both b 60 next 61 e) (step P (b == 62 && next == 61) signs.GreaterOrEqual _ s (λ e. both b 62 next 61 e)
    (step P (b == 124 && next == 124) signs.Joined _ s (λ e. both b 124 next 124 e) (step P (b == 58 && next == 58) signs.Cast None s (λ e. both b 58 next 58 e) (λ e. absurd (cc e)))))))

not_long : (b next m k : ℕ) (s : Sign) → long_sign m k ≡ Some s → long_sign b next ≡ None → b ≡ m → next ≡ k → ⊥
not_long b next m k s is none e f =
    let same : long_sign b next ≡ long_sign m k = ap (λ (x : ℕ). long_sign x next) e ∙ ap (λ (x : ℕ). long_sign m x) f in
    cc (same, is, none)

is_not_equal : long_sign 60 62 ≡ Some signs.NotEqual
unfolding long_sign
is_not_equal = refl

is_less_or_equal : long_sign 60 61 ≡ Some signs.LessOrEqual
unfolding long_sign
is_less_or_equal = refl

is_greater_or_equal : long_sign 62 61 ≡ Some signs.GreaterOrEqual
unfolding long_sign
is_greater_or_equal = refl

no_comment : (b next : ℕ) → (b == 45 && next == 45) ≡ false → b ≡ 45 → next ≡ 45 → ⊥
no_comment b next differ e f = clash (b == 45 && next == 45) (rw (e, f) refl) differ

short_spells : (b next : ℕ) (s : Sign) → (b == 45 && next == 45) ≡ false → long_sign b next ≡ None → short_sign b ≡ Some s → Spells s b next
unfolding short_sign
short_spells b next s differ none =
    let P = λ (x : Sign). Spells x b next in
    let is = λ (m : ℕ) (e : (b == m) ≡ true). eqb-true b m e in
    step P (b == 40) signs.LeftParen _ s (is 40) (step P (b == 41) signs.RightParen _ s (is 41) (step P (b == 44) signs.Comma _ s (is 44)
    (step P (b == 59) signs.Semicolon _ s (is 59) (step P (b == 46) signs.Point _ s (is 46) (step P (b == 61) signs.Equal _ s (is 61)
    (step P (b == 60) signs.Less _ s (λ e. (is 60 e, not_long b next 60 62 _ is_not_equal none (is 60 e), not_long b next 60 61 _ is_less_or_equal none (is 60 e)))
    (step P (b == 62) signs.Greater _ s (λ e. (is 62 e, not_long b next 62 61 _ is_greater_or_equal none (is 62 e)))
    (step P (b == 43) signs.Plus _ s (is 43) (step P (b == 45) signs.Minus _ s (λ e. (is 45 e, no_comment b next differ (is 45 e)))
    (step P (b == 42) signs.Star _ s (is 42) (step P (b == 47) signs.Slash _ s (is 47) (step P (b == 37) signs.Percent None s (is 37) (λ e. absurd (cc e))))))))))))))

pub from_sign : (b next : ℕ) (s : Sign) → begun b next ≡ begins.Sign s → Spells s b next
from_sign b next s e =
    let p = sign_parts b next s e in
    elim p.1 [ inl long ↦ long_spells b next s long | inr short ↦ short_spells b next s p.0 short.0 short.1 ]

-- ---- to what is begun

to_blank : (b next : ℕ) → is_blank b ≡ true → begun b next ≡ begins.Blank
unfolding begun
to_blank b next e = rw e refl

to_comment : (b next : ℕ) → b ≡ 45 → next ≡ 45 → begun b next ≡ begins.Comment
unfolding begun
to_comment b next e f = rw (e, f) refl

word_is_no_blank : (b : ℕ) → begins_word b ≡ true → is_blank b ≡ false
word_is_no_blank b e = grind (arith, nat_tests)

word_is_no_dash : (b : ℕ) (x : Bool) → begins_word b ≡ true → (b == 45 && x) ≡ false
word_is_no_dash b x e = grind (arith, nat_tests)

digit_is_no_blank : (b : ℕ) → is_ascii_digit b ≡ true → is_blank b ≡ false
digit_is_no_blank b e = grind (arith, nat_tests)

digit_is_no_dash : (b : ℕ) (x : Bool) → is_ascii_digit b ≡ true → (b == 45 && x) ≡ false
digit_is_no_dash b x e = grind (arith, nat_tests)

digit_is_no_word : (b : ℕ) → is_ascii_digit b ≡ true → begins_word b ≡ false
digit_is_no_word b e = grind (arith, nat_tests)

to_word : (b next : ℕ) → begins_word b ≡ true → begun b next ≡ begins.Word
unfolding begun
to_word b next e = rw (word_is_no_blank b e, word_is_no_dash b (next == 45) e, e) refl

to_digit : (b next : ℕ) → is_ascii_digit b ≡ true → begun b next ≡ begins.Number
unfolding begun
to_digit b next e = rw (digit_is_no_blank b e, digit_is_no_dash b (next == 45) e, digit_is_no_word b e, e) refl

to_name : (b next : ℕ) → b ≡ 34 → begun b next ≡ begins.QuotedName
unfolding begun
to_name b next e = rw e refl

to_text : (b next : ℕ) → b ≡ 39 → begun b next ≡ begins.Text
unfolding begun
to_text b next e = rw e refl

to_sign : (b next : ℕ) (s : Sign) → Spells s b next → begun b next ≡ begins.Sign s
unfolding begun long_sign short_sign
to_sign b next signs.LeftParen e = rw e refl
to_sign b next signs.RightParen e = rw e refl
to_sign b next signs.Comma e = rw e refl
to_sign b next signs.Semicolon e = rw e refl
to_sign b next signs.Point e = rw e refl
to_sign b next signs.Equal e = rw e refl
to_sign b next signs.NotEqual (inl e) = rw (e.0, e.1) refl
to_sign b next signs.NotEqual (inr e) = rw (e.0, e.1) refl
to_sign b next signs.Less e = rw (e.0, ne_eqb next 62 e.1, ne_eqb next 61 e.2) refl
to_sign b next signs.LessOrEqual e = rw (e.0, e.1) refl
to_sign b next signs.Greater e = rw (e.0, ne_eqb next 61 e.1) refl
to_sign b next signs.GreaterOrEqual e = rw (e.0, e.1) refl
to_sign b next signs.Plus e = rw e refl
to_sign b next signs.Minus e = rw (e.0, ne_eqb next 45 e.1) refl
to_sign b next signs.Star e = rw e refl
to_sign b next signs.Slash e = rw e refl
to_sign b next signs.Percent e = rw e refl
to_sign b next signs.Joined e = rw (e.0, e.1) refl
to_sign b next signs.Cast e = rw (e.0, e.1) refl

abbrev pub leads : TokenKind → Begins
leads kinds.Word = begins.Word
leads kinds.Integer = begins.Number
leads kinds.OddNumber = begins.Number
leads kinds.QuotedName = begins.QuotedName
leads kinds.Text = begins.Text
leads (kinds.Sign s) = begins.Sign s

-- what a token or a gap begins with
pub token_begun : (text : List ℕ) (i end : ℕ) (kind : TokenKind) → IsToken kind text i end → begun_at text i ≡ leads kind
token_begun text i end kinds.Word a = to_word _ _ a.0
token_begun text i end kinds.Integer a = to_digit _ _ a.0
token_begun text i end kinds.OddNumber a = to_digit _ _ a.0
token_begun text i end kinds.QuotedName a = to_name _ _ a.0
token_begun text i end kinds.Text a = to_text _ _ a.0
token_begun text i end (kinds.Sign s) a = to_sign _ _ s a.0

pub gap_begun : (text : List ℕ) (i end : ℕ) → IsGap text i end → ((begun_at text i ≡ begins.Blank) × (end ≡ i + 1)) ⊎ ((begun_at text i ≡ begins.Comment) × First 10 text i end)
gap_begun text i end (inl a) = inl (to_blank _ _ a.0, a.1)
gap_begun text i end (inr a) = inr (to_comment _ _ a.0 a.1, a.2)

pub name_begun : (text : List ℕ) (i : ℕ) → at text i ≡ 34 → begun_at text i ≡ begins.QuotedName
name_begun text i e = to_name _ _ e

pub text_begun : (text : List ℕ) (i : ℕ) → at text i ≡ 39 → begun_at text i ≡ begins.Text
text_begun text i e = to_text _ _ e

-- a run isn't empty where its first byte is of its class
run_rises : (class : Class) (text : List ℕ) (i end : ℕ) → i < length text → is_of class (at text i) ≡ true → Run class text i end → i < end
run_rises class text i end lt first r =
    let no : i ≡ end → ⊥ = λ (e : i ≡ end). clash _ (ap (λ (x : ℕ). is_of class (at text x)) (sym e) ∙ first) (r.longest (omega arith)) in
    omega (arith, r.rises)

pub digits_rise : (text : List ℕ) (i end : ℕ) → i < length text → is_ascii_digit (at text i) ≡ true → Run classes.Digit text i end → i < end
digits_rise text i end lt e r = run_rises classes.Digit text i end lt e r

pub word_rises : (text : List ℕ) (i end : ℕ) → i < length text → begins_word (at text i) ≡ true → Run classes.Word text i end → i < end
word_rises text i end lt e r = run_rises classes.Word text i end lt (rw e refl) r

pub comment_rises : (text : List ℕ) (i end : ℕ) → i < length text → at text i ≡ 45 → First 10 text i end → i < end
comment_rises text i end lt e r =
    let no_end : i ≡ end → ⊥ = λ (same : i ≡ end).
    let f : at text i ≡ 10 = ap (λ (x : ℕ). at text x) same ∙ r.is (omega arith) in
    omega (arith, e, f) in
    omega (arith, r.rises)

-- ---- signs lie within the text

and_false : (x : Bool) → (x && false) ≡ false
and_false true = refl
and_false false = refl

long_none : (b : ℕ) → long_sign b 0 ≡ None
unfolding long_sign
long_none b = simp and_false

short_step : (c : Bool) (x : Sign) (rest : Option Sign) (s : Sign) → width x ≡ 1 → (rest ≡ Some s → width s ≡ 1) → (if c then Some x else rest) ≡ Some s → width s ≡ 1
short_step true x rest s one more e = let f : x ≡ s = cc e in rw (← f) one
short_step false x rest s one more e = more e

short_width : (b : ℕ) (s : Sign) → short_sign b ≡ Some s → width s ≡ 1
unfolding short_sign
short_width b s =
    short_step (b == 40) signs.LeftParen _ s refl (short_step (b == 41) signs.RightParen _ s refl (short_step (b == 44) signs.Comma _ s refl
    (short_step (b == 59) signs.Semicolon _ s refl (short_step (b == 46) signs.Point _ s refl (short_step (b == 61) signs.Equal _ s refl
    (short_step (b == 60) signs.Less _ s refl (short_step (b == 62) signs.Greater _ s refl (short_step (b == 43) signs.Plus _ s refl
    (short_step (b == 45) signs.Minus _ s refl (short_step (b == 42) signs.Star _ s refl (short_step (b == 47) signs.Slash _ s refl
    (short_step (b == 37) signs.Percent None s refl (λ e. absurd (cc e))))))))))))))

width_bounds : (s : Sign) → (0 < width s) × (width s ≤ 2)
width_bounds signs.LeftParen = (omega arith, omega arith)
width_bounds s = (omega arith, omega arith)

sign_fits : (text : List ℕ) (i : ℕ) (s : Sign) → i < length text → (long_sign (at text i) (at text (i + 1)) ≡ Some s) ⊎ ((long_sign (at text i) (at text (i + 1)) ≡ None) × (short_sign (at text i) ≡ Some s)) → i + width s ≤ length text
sign_fits text i s lt (inr short) = omega (arith, short_width (at text i) s short.1)
sign_fits text i s lt (inl long) =
    let w = width_bounds s in
    let no : length text ≤ i + 1 → ⊥ = λ (past : length text ≤ i + 1).
    let z : at text (i + 1) ≡ 0 = get_or_past text (i + 1) 0 past in
    let n : long_sign (at text i) (at text (i + 1)) ≡ None = ap (λ (x : ℕ). long_sign (at text i) x) z ∙ long_none (at text i) in
    absurd (cc (n, long)) in
    omega (arith, w.1)

pub sign_within : (text : List ℕ) (i : ℕ) (s : Sign) → i < length text → begun_at text i ≡ begins.Sign s → (i < i + width s) × (i + width s ≤ length text)
sign_within text i s lt e = (omega (arith, (width_bounds s).0), sign_fits text i s lt (sign_parts _ _ s e).1)
