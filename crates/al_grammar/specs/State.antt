-- A rule any number of times, where what was read so far decides what may come next: a clause that stands at most once.
use Rattle.std.specs.Prelude.{◌≡◌, ℕ, zero, suc, false, List, [], ◌∷◌, ◌++◌, length, if◌then◌else◌}
use Rattle.al_grammar.specs.Kinds.{starts}
use Rattle.al_grammar.specs.Rules.{Shape, Step, read, Rule, and_then, at_most_once}

-- Texts one after another, each by the rule of the state that those before it made.
pub data IsManyBy {T A S : Type 0} (Is : S → List T → A → Type 0) (next : S → A → S) : S → List T → List A → Type 0 where
  no_more : (state : S) → IsManyBy Is next state [] []
  once_more : (state : S) (text front back : List T) (v : A) (vs : List A) → text ≡ front ++ back → Is state front v → IsManyBy Is next (next state v) back vs
      → IsManyBy Is next state text (v ∷ vs)

abbrev pub many_by_reads : {T A S : Type 0} → (T → ℕ) → List ℕ → (S → List T → Step T A) → (S → A → S) → S → ℕ → List T → Step T (List A)
many_by_reads kind first reads next state zero ts = read [] ts
many_by_reads kind first reads next state (suc n) ts =
    if starts kind false first ts
    then and_then (reads state ts) (λ v rest. and_then (many_by_reads kind first reads next (next state v) n rest) (λ vs last. read (v ∷ vs) last))
    else read [] ts

abbrev pub many_by : {T A S : Type 0} {s : Shape} → (T → ℕ) → (S → A → S) → (S → Rule T s A) → S → Rule T (at_most_once s) (List A)
many_by {s = s} kind next q state = record {
  Is = IsManyBy (λ z. (q z).Is) next state;
  reads = λ ts. many_by_reads kind s.first (λ z. (q z).reads) next state (length ts) ts;
}
