-- What several statements share is read lawfully.
use Rattle.std.proofs.Common.{◌≡◌, ℕ, true, List, refl}
use Rattle.al_grammar.specs.Laws.{Lawful}
use Rattle.al_grammar.proofs.Choices.{lawful_optional, lawful_mapped}
use Rattle.al_phrases.specs.Kinds as k
use Rattle.al_phrases.specs.Words.{kind_of, is_there}
use Rattle.al_phrases.proofs.WordLaws.{lawful_each, lawful_front}
use Rattle.al_grammar.specs.Kinds.{among}
use Rattle.al_phrases.specs.Expressions.{expression}
use Rattle.al_phrases.proofs.ExpressionLaws.{lawful_expression}
use Rattle.al_sql.specs.Phrases as p

pub lawful_word_among : (kinds : List ℕ) (k : ℕ) → among k kinds ≡ true → Lawful kind_of (p.word_among kinds)
lawful_word_among kinds k h = lawful_each (Unit {0}) kinds (λ t. tt) k h

pub lawful_given_among : (kinds : List ℕ) (k : ℕ) → among k kinds ≡ true → Lawful kind_of (p.given_among kinds)
lawful_given_among kinds k h = lawful_mapped _ _ _ _ kind_of is_there _ (lawful_optional _ _ _ kind_of (p.word_among kinds) (lawful_word_among kinds k h) refl)

pub lawful_condition : (depth : ℕ) → Lawful kind_of (p.condition depth)
unfolding p.condition
lawful_condition depth = lawful_optional _ _ _ kind_of _ (lawful_front _ _ (expression depth) (lawful_expression depth) k.where_word refl) refl
