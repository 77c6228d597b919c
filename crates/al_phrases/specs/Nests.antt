-- A function value that reads what stands in a level that was opened, where so many may still be opened.
use Rattle.std.specs.Prelude.{ℕ, ◌<◌, List, length, Result, IfOk}
use Rattle.std.specs.declared.alloc.Global.{Global}
use denote.Ref.{Bor}
use Rattle.al_values.specs.declared.cant.Cant.{Cant}
use Rattle.al_grammar.specs.Gives.{GivesStep}
use Rattle.al_expr.specs.declared.tree.Expr.{Expr}
use Rattle.al_phrases.specs.declared.lexeme.Lexeme.{Lexeme}
use Rattle.al_phrases.specs.declared.levels.Opened.{Opened}
use Rattle.al_phrases.specs.Reading.{opened_at}

abbrev pub Answer : Type 0
Answer = Result (Expr × Bor (List Lexeme)) (Cant ℕ)

pub record Nests (depth : ℕ) (pre : Global → ℕ → Opened → Bor (List Lexeme) → Type 0) (post : Global → ℕ → Opened → Bor (List Lexeme) → Answer → Type 0) : Type 0 where
  pub callable : (alloc : Global) (opened : Opened) (tokens : Bor (List Lexeme)) → pre alloc depth opened tokens
  pub gives : (alloc : Global) (opened : Opened) (tokens : Bor (List Lexeme)) (answer : Answer) → post alloc depth opened tokens answer
      → GivesStep (λ x. x.0) (λ x. x.1.now) answer (opened_at depth opened tokens.now)
  pub shorter : (alloc : Global) (opened : Opened) (tokens : Bor (List Lexeme)) (answer : Answer) → post alloc depth opened tokens answer
      → IfOk answer (λ x. length x.1.now < length tokens.now)
