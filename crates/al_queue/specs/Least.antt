-- The least session that is in the way of a request, found by going through a list.
use Rattle.std.specs.Prelude.{ℕ, min, if◌then◌else◌, Option, Some}
use Rattle.std.specs.Option.{option_map_or}
use Rattle.al_queue.specs.declared.grant.Grant.{Grant}
use Rattle.al_queue.specs.InWay.{is_in_way}

-- the lesser of one found so far and that of another lock or request, where this is in the way
abbrev pub lesser : Grant → Option ℕ → Grant → Option ℕ
lesser request found other =
    if is_in_way request other then Some (option_map_or (λ session. min other.session session) found other.session) else found
