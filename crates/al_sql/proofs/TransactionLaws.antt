-- Statements on transactions are read lawfully.
use Rattle.std.proofs.Common.{ℕ, List, refl}
use Rattle.al_grammar.specs.Laws.{Lawful}
use Rattle.al_grammar.proofs.Pair.{lawful_pair}
use Rattle.al_grammar.proofs.Choices.{lawful_or, lawful_optional, lawful_mapped}
use Rattle.al_phrases.specs.declared.lexeme.Lexeme.{Lexeme}
use Rattle.al_phrases.specs.Kinds as k
use Rattle.al_phrases.specs.Words.{kind_of, name}
use Rattle.al_phrases.proofs.WordLaws.{lawful_each, lawful_word, lawful_front, lawful_name}
use Rattle.al_modes.specs.declared.level.Level.TheVariants as levels
use Rattle.al_statements.specs.declared.script.Statement.TheVariants as statements
use Rattle.al_sql.specs.Phrases.{word_among, given_among}
use Rattle.al_sql.specs.Transactions as t
use Rattle.al_sql.proofs.PhraseLaws.{lawful_word_among, lawful_given_among}

lawful_level : Lawful kind_of t.level
unfolding t.level
lawful_level =
    let committed = lawful_mapped _ _ _ _ kind_of (λ (u : Unit {0}). levels.ReadCommitted) _ (lawful_front _ _ _ (lawful_word k.committed_word refl) k.read_word refl) in
    let repeatable = lawful_mapped _ _ _ _ kind_of (λ (u : Unit {0}). levels.RepeatableRead) _ (lawful_front _ _ _ (lawful_word k.read_word refl) k.repeatable_word refl) in
    lawful_or _ _ _ _ kind_of _ _ committed repeatable refl refl refl

lawful_isolation : Lawful kind_of t.isolation
unfolding t.isolation
lawful_isolation = lawful_optional _ _ _ kind_of _ (lawful_front _ _ _ (lawful_front _ _ t.level (lawful_level) k.level_word refl) k.isolation_word refl) refl

pub lawful_begin : Lawful kind_of t.begin
unfolding t.begin
lawful_begin =
    let behind = lawful_pair _ _ _ _ _ _ kind_of (given_among t.block_words) t.isolation (λ there v. v) (lawful_given_among t.block_words k.work_word refl) lawful_isolation refl in
    lawful_mapped _ _ _ _ kind_of statements.Begin _ (lawful_front _ _ _ (behind) k.begin_word refl)

pub lawful_start : Lawful kind_of t.start
unfolding t.start
lawful_start = lawful_mapped _ _ _ _ kind_of statements.StartTransaction _ (lawful_front _ _ _ (lawful_front _ _ t.isolation (lawful_isolation) k.transaction_word refl) k.start_word refl)

lawful_end_word : Lawful kind_of t.end_word
unfolding t.end_word
lawful_end_word = lawful_each _ t.end_words (λ (x : Lexeme). t.ended_by x.kind) k.end_word refl

pub lawful_finish : Lawful kind_of t.finish
unfolding t.finish
lawful_finish = lawful_pair _ _ _ _ _ _ kind_of t.end_word (given_among t.block_words) (λ what there. what) lawful_end_word (lawful_given_among t.block_words k.work_word refl) refl

lawful_setting : Lawful kind_of t.setting
unfolding t.setting
lawful_setting = lawful_each _ t.setting_words (λ (x : Lexeme). t.setting_named x.kind) k.lock_timeout_word refl

lawful_set_value : Lawful kind_of t.set_value
unfolding t.set_value
lawful_set_value =
    let called = lawful_mapped _ _ _ _ kind_of (λ (n : List ℕ). tt) name lawful_name in
    lawful_or _ _ _ _ kind_of (word_among t.plain_values) _ (lawful_word_among t.plain_values k.text_token refl) called refl refl refl

pub lawful_set : Lawful kind_of t.set
unfolding t.set
lawful_set =
    let becomes = lawful_pair _ _ _ _ _ _ kind_of (word_among t.becomes_words) t.set_value (λ u v. v) (lawful_word_among t.becomes_words k.equal refl) lawful_set_value refl in
    let what = lawful_pair _ _ _ _ _ _ kind_of t.setting _ (λ what u. what) lawful_setting becomes refl in
    let scoped = lawful_pair _ _ _ _ _ _ kind_of (given_among t.scope_words) _ (λ there v. v) (lawful_given_among t.scope_words k.local_word refl) what refl in
    lawful_mapped _ _ _ _ kind_of statements.Set _ (lawful_front _ _ _ (scoped) k.set_word refl)
