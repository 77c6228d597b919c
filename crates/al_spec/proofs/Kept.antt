-- What is kept beside the blocks, after a block more.
use Rattle.std.proofs.Common.{◌≡◌, ℕ, suc, ◌+◌, Bool, true, false, List, [], ◌∷◌, ◌++◌, length, Option, Some, None, refl, sym, ap, ◌∙◌, arith}
use Rattle.std.specs.Prelude.{◌&&◌, if◌then◌else◌, map, bytes_eq, is_some}
use Rattle.std.specs.Map.{update}
use Rattle.std.proofs.lemmas.Slice.Eq.{bytes_eq-Decides}
use Rattle.al_grammar.proofs.FirstTokens.{clash}
use Rattle.al_spec.specs.declared.spec.Block.{Block}
use Rattle.std.specs.HashMap.{get_by_text}
use Rattle.al_spec.specs.declared.notes.Index.{Index}
use Rattle.al_spec.specs.Notes.{is_step, number_from, number_of, or_else, work_of, fixed, fixed_work, base_work}
use Rattle.al_spec.specs.Indexed.{Indexed}

stays : (o : Option ℕ) (n : ℕ) → o ≡ or_else o false n
stays (Some i) n = refl
stays None n = refl

put_by : (o : Option ℕ) (n : ℕ) (there here : Bool) → (there ≡ true → o ≡ None) → there ≡ here → (if there then Some n else o) ≡ or_else o here n
put_by o n true true e s = let none : o ≡ None = e refl in rw none refl
put_by o n true false e s = absurd (clash refl s)
put_by o n false true e s = absurd (clash s refl)
put_by o n false false e s = stays o n

same_by : (a b : List ℕ) (x y : Bool) → bytes_eq a b ≡ x → bytes_eq b a ≡ y → x ≡ y
same_by a b true true e f = refl
same_by a b true false e f = absurd (clash ((bytes_eq-Decides b a).1 (sym ((bytes_eq-Decides a b).0 e))) f)
same_by a b false true e f = absurd (clash ((bytes_eq-Decides a b).1 (sym ((bytes_eq-Decides b a).0 f))) e)
same_by a b false false e f = refl

same_test : (a b : List ℕ) → bytes_eq a b ≡ bytes_eq b a
same_test a b = same_by a b (bytes_eq a b) (bytes_eq b a) refl refl

pub kept : (old : List ℕ → Option ℕ) (name asked : List ℕ) (n : ℕ) → old name ≡ None → update bytes_eq old name (Some n) asked ≡ or_else (old asked) (bytes_eq asked name) n
kept old name asked n none =
    put_by (old asked) n (bytes_eq name asked) (bytes_eq asked name) (λ e. ap old (sym ((bytes_eq-Decides name asked).0 e)) ∙ none) (same_test name asked)

pub not_some : (o : Option ℕ) → is_some o ≡ false → o ≡ None
not_some (Some i) e = absurd (clash refl e)
not_some None e = refl

-- ---- the definitions after a block more

number_by : (i n : ℕ) (more old : Option ℕ) (h t : Bool) → more ≡ or_else old h n → (if t then Some i else more) ≡ or_else (if t then Some i else old) h n
number_by i n more old h true e = refl
number_by i n more old h false e = e

number_more : (i : ℕ) (asked : List ℕ) (blocks : List Block) (b : Block) → number_from i asked (blocks ++ b ∷ []) ≡ or_else (number_from i asked blocks) (is_step b.part && bytes_eq asked b.name) (i + length blocks)
number_more i asked [] b = let e : i ≡ i + 0 = omega arith in ap (λ (n : ℕ). if is_step b.part && bytes_eq asked b.name then Some n else None) e
number_more i asked (x ∷ xs) b =
    let e : (i + 1) + length xs ≡ i + suc (length xs) = omega arith in
    number_by i (i + suc (length xs)) _ _ (is_step b.part && bytes_eq asked b.name) (is_step x.part && bytes_eq asked x.name)
    (number_more (i + 1) asked xs b ∙ ap (λ (n : ℕ). or_else (number_from (i + 1) asked xs) (is_step b.part && bytes_eq asked b.name) n) e)

works_more : (blocks : List Block) (b : Block) → map work_of (blocks ++ b ∷ []) ≡ map work_of blocks ++ work_of b ∷ []
works_more [] b = refl
works_more (x ∷ xs) b = ap (λ (l : List ℕ). work_of x ∷ l) (works_more xs b)

base_more : (blocks : List Block) (b : Block) → base_work (blocks ++ b ∷ []) ≡ base_work blocks + fixed_work b
base_more [] b = omega arith
base_more (x ∷ xs) b = let e = base_more xs b in omega (arith, e)

pub indexed_more : (old new : Index) (blocks : List Block) (b : Block) (n work : ℕ) → Indexed old blocks → length blocks ≡ n → work ≡ work_of b
    → ((asked : List ℕ) → get_by_text new.numbers asked ≡ or_else (get_by_text old.numbers asked) (is_step b.part && bytes_eq asked b.name) n)
    → new.works.items ≡ old.works.items ++ work ∷ [] → new.base ≡ old.base + fixed b.part work → Indexed new (blocks ++ b ∷ [])
indexed_more old new blocks b n work h len w numbers works base =
    let there : 0 + length blocks ≡ n = omega arith in
    record {
      numbers = λ asked. numbers asked ∙ ap (λ (o : Option ℕ). or_else o (is_step b.part && bytes_eq asked b.name) n) (h.numbers asked)
          ∙ ap (λ (k : ℕ). or_else (number_of asked blocks) (is_step b.part && bytes_eq asked b.name) k) (sym there) ∙ sym (number_more 0 asked blocks b);
      works = works ∙ ap (λ (l : List ℕ). l ++ work ∷ []) h.works ∙ ap (λ (k : ℕ). map work_of blocks ++ k ∷ []) w ∙ sym (works_more blocks b);
      base = base ∙ ap (λ (k : ℕ). k + fixed b.part work) h.base ∙ ap (λ (k : ℕ). base_work blocks + fixed b.part k) w ∙ sym (base_more blocks b);
    }
