-- What a byte begins, read backwards.
use Rattle.std.proofs.Common.{◌≡◌, ℕ, ◌<◌, Bool, true, false, List, length, refl, arith, subst}
use Rattle.std.specs.Prelude.{◌==◌, if◌then◌else◌, nat_le}
use Rattle.std.proofs.lemmas.Bool.{eqb-true, leb-false}
use Rattle.al_grammar.proofs.FirstTokens.{clash, or_cases, or_left_false, or_right_false}
use Rattle.al_spec.specs.declared.bytes.Begins.{Begins}
use Rattle.al_spec.specs.declared.bytes.Begins.TheVariants as begins
use Rattle.al_spec.specs.Bytes.{at, is_cut, begins_name, goes_on, begun, Run}
use Rattle.al_spec.proofs.Slices.{small_cut}

abbrev chain : Bool → Bool → Bool → Bool → Bool → Bool → Begins
chain blank comment name quote block paren =
    if blank then begins.Blank else (if comment then begins.Comment else (if name then begins.Name else
    (if quote then begins.Quote else (if block then begins.Block else (if paren then begins.Paren else begins.Nothing)))))

on_blank : (a b c d e f : Bool) → chain a b c d e f ≡ begins.Blank → a ≡ true
on_blank true b c d e f h = refl
on_blank false true c d e f h = absurd cc
on_blank false false true d e f h = absurd cc
on_blank false false false true e f h = absurd cc
on_blank false false false false true f h = absurd cc
on_blank false false false false false true h = absurd cc
on_blank false false false false false false h = absurd cc

on_comment : (a b c d e f : Bool) → chain a b c d e f ≡ begins.Comment → b ≡ true
on_comment true b c d e f h = absurd cc
on_comment false true c d e f h = refl
on_comment false false true d e f h = absurd cc
on_comment false false false true e f h = absurd cc
on_comment false false false false true f h = absurd cc
on_comment false false false false false true h = absurd cc
on_comment false false false false false false h = absurd cc

on_name : (a b c d e f : Bool) → chain a b c d e f ≡ begins.Name → c ≡ true
on_name true b c d e f h = absurd cc
on_name false true c d e f h = absurd cc
on_name false false true d e f h = refl
on_name false false false true e f h = absurd cc
on_name false false false false true f h = absurd cc
on_name false false false false false true h = absurd cc
on_name false false false false false false h = absurd cc

on_quote : (a b c d e f : Bool) → chain a b c d e f ≡ begins.Quote → d ≡ true
on_quote true b c d e f h = absurd cc
on_quote false true c d e f h = absurd cc
on_quote false false true d e f h = absurd cc
on_quote false false false true e f h = refl
on_quote false false false false true f h = absurd cc
on_quote false false false false false true h = absurd cc
on_quote false false false false false false h = absurd cc

on_block : (a b c d e f : Bool) → chain a b c d e f ≡ begins.Block → e ≡ true
on_block true b c d e f h = absurd cc
on_block false true c d e f h = absurd cc
on_block false false true d e f h = absurd cc
on_block false false false true e f h = absurd cc
on_block false false false false true f h = refl
on_block false false false false false true h = absurd cc
on_block false false false false false false h = absurd cc

pub from_blank : (b : ℕ) → begun b ≡ begins.Blank → b < 128
unfolding begun
from_blank b e = or_cases (is_cut b) (b == 10) (b < 128) (on_blank _ _ _ _ _ _ e) (λ h. small_cut b h) (λ h. let same : b ≡ 10 = eqb-true b 10 h in omega arith)

pub from_comment : (b : ℕ) → begun b ≡ begins.Comment → b ≡ 35
unfolding begun
from_comment b e = eqb-true b 35 (on_comment _ _ _ _ _ _ e)

pub from_name : (b : ℕ) → begun b ≡ begins.Name → goes_on b ≡ true
unfolding begun
from_name b e = rw (on_name _ _ _ _ _ _ e) refl

pub from_quote : (b : ℕ) → begun b ≡ begins.Quote → b ≡ 34
unfolding begun
from_quote b e = eqb-true b 34 (on_quote _ _ _ _ _ _ e)

pub from_block : (b : ℕ) → begun b ≡ begins.Block → b ≡ 123
unfolding begun
from_block b e = eqb-true b 123 (on_block _ _ _ _ _ _ e)

pub begun_none : begun 0 ≡ begins.Nothing
unfolding begun
begun_none = refl

not_le : (n : ℕ) → nat_le 128 n ≡ false → n < 128
not_le n e = leb-false 128 n e

-- a byte that doesn't go on a name is ASCII
pub small_stop : (b : ℕ) → goes_on b ≡ false → b < 128
small_stop b e =
    let first : begins_name b ≡ false = or_left_false (begins_name b) _ e in
    not_le b (or_right_false (b == 95) _ (or_right_false _ _ first))

-- a run has a byte
pub run_rises : (text : List ℕ) (i end : ℕ) → i < length text → goes_on (at text i) ≡ true → Run text i end → i < end
run_rises text i end inside on r =
    let no : end ≡ i → ⊥ = λ (e : end ≡ i). clash on (subst (λ (k : ℕ). goes_on (at text k) ≡ false) e (r.longest (omega arith))) in
    let up = r.rises in
    omega arith
