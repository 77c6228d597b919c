-- What everybody finds once a transaction has ended.
use Rattle.std.proofs.Common.{◌≡◌, ℕ, true, refl, Option, Some, None}
use Rattle.al_xacts.specs.declared.xact.Fate.TheVariants as fates
use Rattle.al_catalogue.specs.declared.entry.TableEntry.{TableEntry}
use Rattle.al_catalogue.specs.declared.entry.Own.{Own}
use Rattle.al_catalogue.specs.declared.entry.Kept.{Kept}
use Rattle.al_catalogue.specs.Tables.{own_or, seen}
use Rattle.al_catalogue.specs.Changes.{ended, is_mine}

committed_by : (number x y : ℕ) (committed : Option TableEntry) (own : Option Own) → is_mine x own ≡ true
    → seen y (ended x fates.Committed (record { number = number; committed = committed; own = own })) ≡ own_or x own committed
committed_by number x y committed None mine = refl
committed_by number x y committed (Some own) mine = rw mine refl

pub committed_seen : (kept : Kept) (x y : ℕ) → is_mine x kept.own ≡ true → seen y (ended x fates.Committed kept) ≡ seen x kept
committed_seen kept x y mine = committed_by kept.number x y kept.committed kept.own mine

aborted_by : (number x y : ℕ) (committed : Option TableEntry) (own : Option Own) → is_mine x own ≡ true
    → seen y (ended x fates.Aborted (record { number = number; committed = committed; own = own })) ≡ committed
aborted_by number x y committed None mine = refl
aborted_by number x y committed (Some own) mine = rw mine refl

pub aborted_seen : (kept : Kept) (x y : ℕ) → is_mine x kept.own ≡ true → seen y (ended x fates.Aborted kept) ≡ kept.committed
aborted_seen kept x y mine = aborted_by kept.number x y kept.committed kept.own mine
