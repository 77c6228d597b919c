-- Work, by blocks and by texts.
use Rattle.std.proofs.Common.{◌≡◌, ℕ, ◌+◌, zero, suc, List, [], ◌∷◌, ◌++◌, get_or, length, refl, sym, ◌∙◌, ◌≤◌, Bool, arith}
use Rattle.std.specs.Prelude.{◌==◌, ◌≢◌, if◌then◌else◌, map}
use Rattle.std.proofs.lemmas.Bool.{ne_eqb}
use Rattle.al_spec.specs.Notes.{semicolons, work_of, work_at}
use Rattle.al_spec.specs.declared.spec.Block.{Block}
use Rattle.std.proofs.lemmas.List.{get_or_past}

pub semicolons_more : (xs : List ℕ) (b : ℕ) → semicolons (xs ++ b ∷ []) ≡ semicolons xs + (if b == 59 then 1 else 0)
semicolons_more [] b = omega arith
semicolons_more (x ∷ xs) b = let e = semicolons_more xs b in omega (arith, e)

abbrev one_or : Bool → ℕ
one_or b = if b then 1 else 0

pub one_if : (b : ℕ) → b ≡ 59 → one_or (b == 59) ≡ 1
one_if b e = rw e refl

pub none_if : (b : ℕ) → b ≢ 59 → one_or (b == 59) ≡ 0
none_if b ne = rw (ne_eqb b 59 ne) refl

-- ---- the work of a number

work_is : (blocks : List Block) (i : ℕ) → get_or (map work_of blocks) i 0 ≡ work_at blocks i
work_is [] i = refl
work_is (b ∷ bs) zero = refl
work_is (b ∷ bs) (suc i) = work_is bs i

pub no_work : (blocks : List Block) (i : ℕ) → length (map work_of blocks) ≤ i → 0 ≡ work_at blocks i
no_work blocks i le = sym (get_or_past (map work_of blocks) i 0 le) ∙ work_is blocks i

pub some_work : (blocks : List Block) (i w : ℕ) → w ≡ get_or (map work_of blocks) i 0 → w ≡ work_at blocks i
some_work blocks i w e = e ∙ work_is blocks i
