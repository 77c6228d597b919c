-- What a text says by a rule over classed tokens, and what a faulty one is told.
use Rattle.std.specs.Prelude.{◌≡◌, ℕ, ◌≤◌, ◌⊎◌, true, false, List, [], ◌∷◌, ◌++◌, length, drop}
use Rattle.al_grammar.specs.Rules.{Shape, Rule}
use Rattle.al_grammar.specs.Whole.{StopsAt, FrontIs}
use Rattle.al_tokens.specs.declared.kinds.Token.{Token}
use Rattle.al_tokens.specs.declared.kinds.Ending.{Ending}
use Rattle.al_tokens.specs.declared.kinds.Ending.TheVariants as endings
use Rattle.al_tokens.specs.declared.kinds.Front.{Front}
use Rattle.al_tokens.specs.Tokens.{AreTokens, IsFront}
use Rattle.al_statements.specs.declared.fault.SqlFault.{SqlFault}
use Rattle.al_statements.specs.declared.fault.SqlFault.TheVariants as faults
use Rattle.al_phrases.specs.declared.lexeme.Lexeme.{Lexeme}
use Rattle.al_lexemes.specs.Classes.{lexeme_of, lexemes_of, classed, opens, is_paren_kind, outside, stand_in}

-- The text is a text of the rule, of this value.
abbrev pub IsText : {A : Type 0} {s : Shape} → Rule Lexeme s A → List ℕ → A → Type 0
IsText p text v = (ts : List Token) × AreTokens text ts × p.Is (lexemes_of text ts) v

-- these tokens begin some text of the rule, or are one
abbrev pub Begins : {A : Type 0} → (List Lexeme → A → Type 0) → List Lexeme → Type 0
Begins {A} Is ts = (more : List Lexeme) × (v : A) × Is (ts ++ more) v

-- A token is left out here: it is never read, or what stands in for it could stand in its place.
abbrev pub IsLeftOut : {A : Type 0} → (List Lexeme → A → Type 0) → List ℕ → List Token → Token → List Token → Type 0
IsLeftOut Is text before token after =
    (outside text token ≡ true)
    ⊎ Begins Is (classed text before (is_paren_kind token.kind) ++ stand_in (lexeme_of text token (opens after false)) ∷ [])

-- A token is the first that can't stand where it stands. It is told with its place, and whether it is left out here.
pub record IsStopped {A : Type 0} (Is : List Lexeme → A → Type 0) (text : List ℕ) (tokens : List Token) (fault : SqlFault) : Type 0 where
  pub before : List Token
  pub token : Token
  pub after : List Token
  pub split : tokens ≡ before ++ token ∷ after
  pub stops : StopsAt Is (lexemes_of text tokens) (length (token ∷ after))
  pub told : (IsLeftOut Is text before token after × (fault ≡ faults.NotInProfile token.start)) ⊎ ((IsLeftOut Is text before token after → ⊥) × (fault ≡ faults.Syntax token.start))

-- the place that is told of what ends the tokens of a text of a length: the text's length but for a stray byte
abbrev pub end_place : Ending → ℕ → ℕ
end_place (endings.Stray place) end = place
end_place other end = end

-- The tokens in front begin some text of the rule, but what ends them doesn't: the text ends too early, or no token begins.
pub record IsEnded {A : Type 0} (Is : List Lexeme → A → Type 0) (text : List ℕ) (front : Front) (fault : SqlFault) : Type 0 where
  pub begins : Begins Is (lexemes_of text front.tokens)
  pub early : (v : A) → front.ending ≡ endings.Whole → Is (lexemes_of text front.tokens) v → ⊥
  pub told : fault ≡ faults.Syntax (end_place front.ending (length text))

-- The first fault of a text that is none of the rule's.
abbrev pub IsFault : {A : Type 0} {s : Shape} → Rule Lexeme s A → List ℕ → SqlFault → Type 0
IsFault p text fault = (front : Front) × IsFront text front × (IsStopped p.Is text front.tokens fault ⊎ IsEnded p.Is text front fault)

-- ---- a text of the rule in front of further tokens

-- From one token on and up to another a text of the rule stands, and the token behind it goes on in none.
pub record IsFrontText {A : Type 0} (Is : List Lexeme → A → Type 0) (text : List ℕ) (tokens : List Token) (from : ℕ) (v : A) (next : ℕ) : Type 0 where
  pub within : next ≤ length tokens
  pub front : FrontIs Is (lexemes_of text (drop from tokens)) v (lexemes_of text (drop next tokens))

-- From a token on no text of the rule stands in front of others.
pub record IsFrontFault {A : Type 0} (Is : List Lexeme → A → Type 0) (text : List ℕ) (tokens : List Token) (from : ℕ) (fault : SqlFault) : Type 0 where
  pub none : (v : A) (next : ℕ) → IsFrontText Is text tokens from v next → ⊥
  pub told : IsStopped Is text (drop from tokens) fault ⊎ (Begins Is (lexemes_of text (drop from tokens)) × (fault ≡ faults.Syntax (length text)))
