-- What a reader leaves, without the value.
use Rattle.std.specs.Prelude.{ℕ, false, List, [], ◌∷◌, length, drop, Result, Ok, Err, if◌then◌else◌}
use Rattle.al_grammar.specs.Kinds.{starts}
use Rattle.al_grammar.specs.Rules.{Step, read, fault}

-- the tokens that are left, or how many are from the faulty one on
abbrev pub skim : {T A : Type 0} → Step T A → Result (List T) ℕ
skim (read v rest) = Ok rest
skim (fault n) = Err n

-- one token of a kind
abbrev pub skim_token : {T : Type 0} → (T → ℕ) → ℕ → List T → Result (List T) ℕ
skim_token kind k ts = if starts kind false (k ∷ []) ts then Ok (drop 1 ts) else Err (length ts)
