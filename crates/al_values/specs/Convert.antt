-- Conversions of values (manual, 10.4, Value Storage, and 4.2.9, Type Casts).
use Rattle.std.specs.Prelude.{ℕ, pos, not, if◌then◌else◌, List, Result, Ok, Err, codes}
use Rattle.std.specs.Ordering.{int_eq}
use Rattle.al_values.specs.declared.scalar.Value.{Value}
use Rattle.al_values.specs.declared.scalar.Value.TheVariants as values
use Rattle.al_values.specs.declared.kinds.Kind.{Kind}
use Rattle.al_values.specs.declared.kinds.Kind.TheVariants as kinds
use Rattle.al_values.specs.declared.kinds.CastFault.{CastFault}
use Rattle.al_values.specs.declared.kinds.CastFault.TheVariants as faults
use Rattle.al_values.specs.Characters.{first_characters}
use Rattle.al_values.specs.Printed.{printed}
use Rattle.al_values.specs.Reading.{read_as, ranged, stored_text}

-- a value as a text: a boolean by its whole word, all else as printed
abbrev pub text_of : Value → List ℕ
text_of (values.Bool truth) = if truth then codes "true" else codes "false"
text_of value = printed value

-- a text goes into the texts alone
abbrev pub spelled_into : List ℕ → Kind → Result Value CastFault
spelled_into text kinds.Text = Ok (values.Text text)
spelled_into text (kinds.Varchar most) = stored_text most text
spelled_into text _ = Err faults.NoCast

-- what is stored of a value in a column of the kind: integers go among the integer kinds, booleans and days into their
-- own kinds, and everything into the texts
abbrev pub assigned : Value → Kind → Result Value CastFault
assigned values.Null to = Ok values.Null
assigned (values.Int number) kinds.Smallint = ranged kinds.Smallint number
assigned (values.Int number) kinds.Integer = ranged kinds.Integer number
assigned (values.Int number) kinds.Bigint = ranged kinds.Bigint number
assigned (values.Bool truth) kinds.Boolean = Ok (values.Bool truth)
assigned (values.Day day) kinds.Date = Ok (values.Day day)
assigned value to = spelled_into (text_of value) to

-- what a written cast makes of a value: a text is read, a text for varchar is cut whatever it loses, booleans and
-- integers go into one another, and all else is as it is stored
abbrev pub casted : Value → Kind → Result Value CastFault
casted values.Null to = Ok values.Null
casted value (kinds.Varchar most) = Ok (values.Text (first_characters most (text_of value)))
casted (values.Text text) to = read_as text to
casted (values.Bool truth) kinds.Integer = Ok (values.Int (if truth then pos 1 else pos 0))
casted (values.Int number) kinds.Boolean = Ok (values.Bool (not (int_eq number (pos 0))))
casted value to = assigned value to
