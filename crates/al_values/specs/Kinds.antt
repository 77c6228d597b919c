-- Kinds of values (manual, chapter 8): their groups, and the ranges of the integer kinds (8.1.1).
use Rattle.std.specs.Prelude.{ℤ, pos, neg_ℤ, Bool, false, ◌&&◌, int_le}
use Rattle.al_values.specs.declared.kinds.Kind.{Kind}
use Rattle.al_values.specs.declared.kinds.Kind.TheVariants as kinds
use Rattle.al_values.specs.declared.kinds.Group.{Group}
use Rattle.al_values.specs.declared.kinds.Group.TheVariants as groups

-- the group of a kind
abbrev pub group_of : Kind → Group
group_of kinds.Smallint = groups.Integers
group_of kinds.Integer = groups.Integers
group_of kinds.Bigint = groups.Integers
group_of kinds.Boolean = groups.Boolean
group_of kinds.Text = groups.Texts
group_of (kinds.Varchar most) = groups.Texts
group_of kinds.Date = groups.Date

-- the number lies from low to high, both included
abbrev pub is_within : ℤ → ℤ → ℤ → Bool
is_within low high number = int_le low number && int_le number high

-- the number is one of an integer kind
abbrev pub fits : Kind → ℤ → Bool
fits kinds.Smallint number = is_within (neg_ℤ (pos 32_768)) (pos 32_767) number
fits kinds.Integer number = is_within (neg_ℤ (pos 2_147_483_648)) (pos 2_147_483_647) number
fits kinds.Bigint number =
    is_within (neg_ℤ (pos 9_223_372_036_854_775_808)) (pos 9_223_372_036_854_775_807) number
fits _ number = false
