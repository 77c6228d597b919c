-- Cases of the definitions, and wrong answers that they refuse.
use Rattle.std.specs.Prelude.{◌≡◌, ℕ, List, [], ◌∷◌, true, false, refl, Some, None, map}
use Rattle.al_xacts.specs.declared.xact.Fate.TheVariants as fates
use Rattle.al_catalogue.specs.declared.entry.TableEntry.{TableEntry}
use Rattle.al_catalogue.specs.declared.entry.Kept.{Kept}
use Rattle.al_catalogue.specs.declared.claimed.Claimed.TheVariants as claims
use Rattle.al_catalogue.specs.Tables.{is_parent}
use Rattle.al_catalogue.specs.Names.{find_in, claim_in}
use Rattle.al_catalogue.specs.Changes.{changed, ended, is_free_for}

abbrev pub called : ℕ → TableEntry
called name = record { name = name ∷ []; shape = record { slots = []; constraints = [] }; parents = 9 ∷ [] }

-- table 1 is committed as t (116), and transaction 4 renamed it to w (119)
abbrev pub renamed : List Kept
renamed = record { number = 1; committed = Some (called 116); own = Some (record { xact = 4; entry = Some (called 119) }) } ∷ []

pub old_name_open : claim_in renamed (116 ∷ []) 5 ≡ claims.Open 4
old_name_open = refl

pub new_name_open : claim_in renamed (119 ∷ []) 5 ≡ claims.Open 4
new_name_open = refl

pub old_name_free_to_itself : claim_in renamed (116 ∷ []) 4 ≡ claims.Free
old_name_free_to_itself = refl

pub not_free_to_others : claim_in renamed (116 ∷ []) 5 ≡ claims.Free → ⊥
not_free_to_others e = cc

pub found_by_others : find_in renamed (116 ∷ []) 5 ≡ Some 1
found_by_others = refl

pub others_wait : is_free_for renamed 1 5 ≡ false
others_wait = refl

-- dropped by transaction 4
pub dropped_open : claim_in (changed 4 1 None renamed) (116 ∷ []) 5 ≡ claims.Open 4
dropped_open = refl

-- an end of another transaction changes nothing, and its own makes the change committed or takes it back
pub end_of_another : map (ended 5 fates.Committed) renamed ≡ renamed
end_of_another = refl

pub committed : find_in (map (ended 4 fates.Committed) renamed) (119 ∷ []) 5 ≡ Some 1
committed = refl

pub taken_back : find_in (map (ended 4 fates.Aborted) renamed) (119 ∷ []) 5 ≡ None
taken_back = refl

pub links : is_parent renamed 5 1 9 ≡ true
links = refl
