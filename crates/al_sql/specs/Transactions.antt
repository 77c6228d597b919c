-- BEGIN, START TRANSACTION, COMMIT, ROLLBACK and SET (the manual, the pages of these statements), over tokens.
use Rattle.std.specs.Prelude.{ℕ, ◌==◌, if◌then◌else◌, List, [], ◌∷◌, Option, Some}
use Rattle.al_grammar.specs.Kinds.{among}
use Rattle.al_grammar.specs.Rules.{Shape, Rule, leaf, leaf_shape, pair, both, optional, at_most_once, mapped, or, either}
use Rattle.al_modes.specs.declared.level.Level.{Level}
use Rattle.al_modes.specs.declared.level.Level.TheVariants as levels
use Rattle.al_statements.specs.declared.script.Setting.{Setting}
use Rattle.al_statements.specs.declared.script.Setting.TheVariants as settings
use Rattle.al_statements.specs.declared.script.Statement.{Statement}
use Rattle.al_statements.specs.declared.script.Statement.TheVariants as statements
use Rattle.al_phrases.specs.declared.lexeme.Lexeme.{Lexeme}
use Rattle.al_phrases.specs.Kinds as k
use Rattle.al_phrases.specs.Words.{kind_of, one_of, word, name_shape, name, ◌▸◌}
use Rattle.al_sql.specs.Phrases.{word_among, given_among, filler_shape, filler}

-- READ COMMITTED | REPEATABLE READ
abbrev pub level_shape : Shape
level_shape = either (both (one_of k.read_word) (one_of k.committed_word)) (both (one_of k.repeatable_word) (one_of k.read_word))

unfoldable pub level : Rule Lexeme level_shape Level
level = or kind_of (mapped (λ u. levels.ReadCommitted) (k.read_word ▸ word k.committed_word)) (mapped (λ u. levels.RepeatableRead) (k.repeatable_word ▸ word k.read_word))

-- [ ISOLATION LEVEL ( READ COMMITTED | REPEATABLE READ ) ]
abbrev pub isolation_shape : Shape
isolation_shape = both (one_of k.isolation_word) (both (one_of k.level_word) level_shape)

unfoldable pub isolation : Rule Lexeme (at_most_once isolation_shape) (Option Level)
isolation = optional kind_of (k.isolation_word ▸ (k.level_word ▸ level))

-- words that mean nothing
abbrev pub block_words : List ℕ
block_words = k.work_word ∷ k.transaction_word ∷ []

-- BEGIN [ WORK | TRANSACTION ] and the level
abbrev pub begin_shape : Shape
begin_shape = both (one_of k.begin_word) (filler_shape block_words (at_most_once isolation_shape))

unfoldable pub begin : Rule Lexeme begin_shape Statement
begin = mapped statements.Begin (k.begin_word ▸ filler block_words isolation)

-- START TRANSACTION and the level
abbrev pub start_shape : Shape
start_shape = both (one_of k.start_word) (both (one_of k.transaction_word) (at_most_once isolation_shape))

unfoldable pub start : Rule Lexeme start_shape Statement
start = mapped statements.StartTransaction (k.start_word ▸ (k.transaction_word ▸ isolation))

-- ( COMMIT | END | ROLLBACK | ABORT ) [ WORK | TRANSACTION ]
abbrev pub commit_words : List ℕ
commit_words = k.commit_word ∷ k.end_word ∷ []

abbrev pub end_words : List ℕ
end_words = k.commit_word ∷ k.end_word ∷ k.rollback_word ∷ k.abort_word ∷ []

abbrev pub ended_by : ℕ → Statement
ended_by word = if among word commit_words then statements.Commit else statements.Rollback

unfoldable pub end_word : Rule Lexeme (leaf_shape end_words) Statement
end_word = leaf kind_of end_words (λ t. Some (ended_by t.kind))

abbrev pub finish_shape : Shape
finish_shape = both (leaf_shape end_words) (at_most_once (leaf_shape block_words))

unfoldable pub finish : Rule Lexeme finish_shape Statement
finish = pair (λ what there. what) end_word (given_among block_words)

-- SET [ LOCAL | SESSION ] ( deadlock_timeout | lock_timeout | statement_timeout ) ( TO | "=" ) ( integer | string | name )
abbrev pub setting_words : List ℕ
setting_words = k.deadlock_timeout_word ∷ k.lock_timeout_word ∷ k.statement_timeout_word ∷ []

abbrev pub setting_named : ℕ → Setting
setting_named word =
    if word == k.deadlock_timeout_word then settings.DeadlockTimeout else
    (if word == k.lock_timeout_word then settings.LockTimeout else settings.StatementTimeout)

unfoldable pub setting : Rule Lexeme (leaf_shape setting_words) Setting
setting = leaf kind_of setting_words (λ t. Some (setting_named t.kind))

abbrev pub scope_words : List ℕ
scope_words = k.local_word ∷ k.session_word ∷ []

abbrev pub becomes_words : List ℕ
becomes_words = k.to_word ∷ k.equal ∷ []

abbrev pub plain_values : List ℕ
plain_values = k.integer_token ∷ k.text_token ∷ []

abbrev pub set_value_shape : Shape
set_value_shape = either (leaf_shape plain_values) name_shape

unfoldable pub set_value : Rule Lexeme set_value_shape (Unit {0})
set_value = or kind_of (word_among plain_values) (mapped (λ called. tt) name)

abbrev pub set_shape : Shape
set_shape = both (one_of k.set_word) (filler_shape scope_words (both (leaf_shape setting_words) (both (leaf_shape becomes_words) set_value_shape)))

unfoldable pub set : Rule Lexeme set_shape Statement
set = mapped statements.Set (k.set_word ▸ filler scope_words (pair (λ what u. what) setting (pair (λ u v. v) (word_among becomes_words) set_value)))
