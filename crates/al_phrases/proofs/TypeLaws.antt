-- Names of kinds are read lawfully.
use Rattle.std.proofs.Common.{[], ◌∷◌, refl}
use Rattle.al_grammar.specs.Rules.{optional}
use Rattle.al_grammar.specs.Laws.{Lawful}
use Rattle.al_grammar.proofs.Leaf.{lawful_leaf}
use Rattle.al_grammar.proofs.Pair.{lawful_pair}
use Rattle.al_grammar.proofs.Choices.{lawful_or, lawful_optional}
use Rattle.al_phrases.specs.Kinds.{left_paren, right_paren, integer_token, varchar_word, character_word, varying_word, text_word}
use Rattle.al_phrases.specs.Words.{kind_of, word, ◌▸◌, ◌◂◌}
use Rattle.al_phrases.specs.Types.{size_of, size, sized, varying, varying_kind, varying_text, one_word, kind_named, one_word_kind, type_name}
use Rattle.al_phrases.proofs.WordLaws.{token, lawful_each, lawful_word, lawful_front, lawful_back}

lawful_size : Lawful kind_of size
unfolding size
lawful_size = lawful_leaf _ _ kind_of (integer_token ∷ []) (λ t. size_of t.number) (token integer_token) 1 refl refl

lawful_sized : Lawful kind_of sized
unfolding sized
lawful_sized = lawful_front _ _ (size ◂ right_paren) (lawful_back _ _ size lawful_size right_paren refl refl) left_paren refl

lawful_varying : Lawful kind_of varying
unfolding varying
lawful_varying = lawful_or _ _ _ _ kind_of (word varchar_word) (character_word ▸ word varying_word) (lawful_word varchar_word refl) (lawful_front _ _ (word varying_word) (lawful_word varying_word refl) character_word refl) refl refl refl

lawful_varying_text : Lawful kind_of varying_text
unfolding varying_text
lawful_varying_text = lawful_pair _ _ _ _ _ _ kind_of varying (optional kind_of sized) varying_kind lawful_varying (lawful_optional _ _ _ kind_of sized lawful_sized refl) refl

lawful_one_word : Lawful kind_of one_word_kind
unfolding one_word_kind
lawful_one_word = lawful_each _ one_word (λ t. kind_named t.kind) text_word refl

pub lawful_type : Lawful kind_of type_name
unfolding type_name
lawful_type = lawful_or _ _ _ _ kind_of varying_text one_word_kind lawful_varying_text lawful_one_word refl refl refl
