-- The words of SQL, in small letters and in the alphabet's order.
use Rattle.std.specs.Prelude.{ℕ, Bool, true, false, ◌||◌, ◌&&◌, if◌then◌else◌, List, [], ◌∷◌, map, codes, bytes_eq}
use Rattle.std.specs.Ordering.{is_lt, nat_cmp}
use Rattle.std.specs.Cmp.Lexicographic.{slice_cmp}
use denote.Ref.{Bor}
use Rattle.al_phrases.specs.Kinds as k

-- The words that the grammar names, each with its kind (SQL Key Words, appendix C). A reserved one can't be a name: that is
-- seen of its kind.
abbrev pub words : List (List ℕ × ℕ)
words =
    (codes "abort", k.abort_word) ∷
    (codes "access", k.access_word) ∷
    (codes "add", k.add_word) ∷
    (codes "alter", k.alter_word) ∷
    (codes "and", k.and_word) ∷
    (codes "as", k.as_word) ∷
    (codes "asc", k.asc_word) ∷
    (codes "begin", k.begin_word) ∷
    (codes "between", k.between_word) ∷
    (codes "bigint", k.bigint_word) ∷
    (codes "bool", k.bool_word) ∷
    (codes "boolean", k.boolean_word) ∷
    (codes "by", k.by_word) ∷
    (codes "cast", k.cast_word) ∷
    (codes "character", k.character_word) ∷
    (codes "check", k.check_word) ∷
    (codes "column", k.column_word) ∷
    (codes "commit", k.commit_word) ∷
    (codes "committed", k.committed_word) ∷
    (codes "constraint", k.constraint_word) ∷
    (codes "count", k.count_word) ∷
    (codes "create", k.create_word) ∷
    (codes "data", k.data_word) ∷
    (codes "date", k.date_word) ∷
    (codes "deadlock_timeout", k.deadlock_timeout_word) ∷
    (codes "default", k.default_word) ∷
    (codes "delete", k.delete_word) ∷
    (codes "desc", k.desc_word) ∷
    (codes "drop", k.drop_word) ∷
    (codes "end", k.end_word) ∷
    (codes "exclusive", k.exclusive_word) ∷
    (codes "exists", k.exists_word) ∷
    (codes "false", k.false_word) ∷
    (codes "fillfactor", k.fillfactor_word) ∷
    (codes "for", k.for_word) ∷
    (codes "foreign", k.foreign_word) ∷
    (codes "from", k.from_word) ∷
    (codes "generate_series", k.generate_series_word) ∷
    (codes "if", k.if_word) ∷
    (codes "in", k.in_word) ∷
    (codes "inherit", k.inherit_word) ∷
    (codes "inherits", k.inherits_word) ∷
    (codes "insert", k.insert_word) ∷
    (codes "int", k.int_word) ∷
    (codes "int2", k.int2_word) ∷
    (codes "int4", k.int4_word) ∷
    (codes "int8", k.int8_word) ∷
    (codes "integer", k.integer_word) ∷
    (codes "into", k.into_word) ∷
    (codes "is", k.is_word) ∷
    (codes "isolation", k.isolation_word) ∷
    (codes "key", k.key_word) ∷
    (codes "level", k.level_word) ∷
    (codes "local", k.local_word) ∷
    (codes "lock", k.lock_word) ∷
    (codes "lock_timeout", k.lock_timeout_word) ∷
    (codes "max", k.max_word) ∷
    (codes "min", k.min_word) ∷
    (codes "mode", k.mode_word) ∷
    (codes "no", k.no_word) ∷
    (codes "not", k.not_word) ∷
    (codes "nowait", k.nowait_word) ∷
    (codes "null", k.null_word) ∷
    (codes "only", k.only_word) ∷
    (codes "or", k.or_word) ∷
    (codes "order", k.order_word) ∷
    (codes "primary", k.primary_word) ∷
    (codes "read", k.read_word) ∷
    (codes "references", k.references_word) ∷
    (codes "rename", k.rename_word) ∷
    (codes "repeatable", k.repeatable_word) ∷
    (codes "restrict", k.restrict_word) ∷
    (codes "rollback", k.rollback_word) ∷
    (codes "row", k.row_word) ∷
    (codes "select", k.select_word) ∷
    (codes "session", k.session_word) ∷
    (codes "set", k.set_word) ∷
    (codes "share", k.share_word) ∷
    (codes "smallint", k.smallint_word) ∷
    (codes "start", k.start_word) ∷
    (codes "statement_timeout", k.statement_timeout_word) ∷
    (codes "statistics", k.statistics_word) ∷
    (codes "table", k.table_word) ∷
    (codes "text", k.text_word) ∷
    (codes "to", k.to_word) ∷
    (codes "transaction", k.transaction_word) ∷
    (codes "true", k.true_word) ∷
    (codes "type", k.type_word) ∷
    (codes "unique", k.unique_word) ∷
    (codes "update", k.update_word) ∷
    (codes "using", k.using_word) ∷
    (codes "valid", k.valid_word) ∷
    (codes "validate", k.validate_word) ∷
    (codes "values", k.values_word) ∷
    (codes "varchar", k.varchar_word) ∷
    (codes "varying", k.varying_word) ∷
    (codes "where", k.where_word) ∷
    (codes "work", k.work_word) ∷
    []

-- the words of functions and aggregates, with the kinds that they have directly before a parenthesis
abbrev pub calls : List (List ℕ × ℕ)
calls =
    (codes "abs", k.abs_call) ∷
    (codes "coalesce", k.coalesce_call) ∷
    (codes "count", k.count_call) ∷
    (codes "length", k.length_call) ∷
    (codes "max", k.max_call) ∷
    (codes "min", k.min_call) ∷
    []

-- words of SQL whose statements, clauses and kinds are left out
abbrev pub left_out : List (List ℕ)
left_out =
    codes "analyze" ∷
    codes "attach" ∷
    codes "cascade" ∷
    codes "case" ∷
    codes "copy" ∷
    codes "decimal" ∷
    codes "deferrable" ∷
    codes "detach" ∷
    codes "distinct" ∷
    codes "do" ∷
    codes "double" ∷
    codes "except" ∷
    codes "exclude" ∷
    codes "explain" ∷
    codes "generated" ∷
    codes "grant" ∷
    codes "group" ∷
    codes "having" ∷
    codes "identity" ∷
    codes "index" ∷
    codes "intersect" ∷
    codes "join" ∷
    codes "like" ∷
    codes "limit" ∷
    codes "merge" ∷
    codes "numeric" ∷
    codes "offset" ∷
    codes "on" ∷
    codes "owner" ∷
    codes "partition" ∷
    codes "prepare" ∷
    codes "real" ∷
    codes "release" ∷
    codes "returning" ∷
    codes "rule" ∷
    codes "savepoint" ∷
    codes "schema" ∷
    codes "sequence" ∷
    codes "serializable" ∷
    codes "temp" ∷
    codes "temporary" ∷
    codes "timestamp" ∷
    codes "transaction" ∷
    codes "trigger" ∷
    codes "truncate" ∷
    codes "union" ∷
    codes "vacuum" ∷
    codes "view" ∷
    codes "with" ∷
    []

-- the kind of a word in a table, or another where it isn't there
abbrev pub kind_in : List (List ℕ × ℕ) → ℕ → List ℕ → ℕ
kind_in [] other word = other
kind_in (row ∷ rows) other word = if bytes_eq row.0 word then row.1 else kind_in rows other word

-- a word stands in a list
abbrev pub is_in : List (List ℕ) → List ℕ → Bool
is_in [] word = false
is_in (w ∷ ws) word = bytes_eq w word || is_in ws word

-- the kind of a word, which directly before a parenthesis may be another
unfoldable pub word_kind : Bool → List ℕ → ℕ
word_kind true word = kind_in calls (kind_in words k.name word) word
word_kind false word = kind_in words k.name word

unfoldable pub is_left_out : List ℕ → Bool
is_left_out word = is_in left_out word

-- ---- tables in the code

-- a word stands before another in the alphabet
abbrev pub precedes : List ℕ → List ℕ → Bool
precedes w v = is_lt (slice_cmp nat_cmp w v)

abbrev pub precedes_first : List ℕ → List (List ℕ × ℕ) → Bool
precedes_first w [] = true
precedes_first w (row ∷ rows) = precedes w row.0

-- the words of a table rise
abbrev pub ascending : List (List ℕ × ℕ) → Bool
ascending [] = true
ascending (row ∷ rows) = precedes_first row.0 rows && ascending rows

-- the rows of a table
abbrev pub rows_of : List (Bor (List ℕ) × ℕ) → List (List ℕ × ℕ)
rows_of table = map (λ row. (row.0.now, row.1)) table

abbrev pub texts_of : List (Bor (List ℕ)) → List (List ℕ)
texts_of table = map (λ text. text.now) table
