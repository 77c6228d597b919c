-- Kinds of tokens as the grammar of SQL tells them apart, as numbers. Words that may be names stand in a row.
use Rattle.std.specs.Prelude.{ℕ, List}
use Rattle.al_grammar.specs.Kinds.{span}

-- ---- signs

-- `(`
abbrev pub left_paren : ℕ
left_paren = 1

-- `)`
abbrev pub right_paren : ℕ
right_paren = 2

-- `,`
abbrev pub comma : ℕ
comma = 3

-- `;`
abbrev pub semicolon : ℕ
semicolon = 4

-- `.`
abbrev pub point : ℕ
point = 5

-- `=`
abbrev pub equal : ℕ
equal = 6

-- `<>`
abbrev pub not_equal : ℕ
not_equal = 7

-- `<`
abbrev pub less : ℕ
less = 8

-- `<=`
abbrev pub less_or_equal : ℕ
less_or_equal = 9

-- `>`
abbrev pub greater : ℕ
greater = 10

-- `>=`
abbrev pub greater_or_equal : ℕ
greater_or_equal = 11

-- `+`
abbrev pub plus : ℕ
plus = 12

-- `-`
abbrev pub minus : ℕ
minus = 13

-- `*`
abbrev pub star : ℕ
star = 14

-- `/`
abbrev pub slash : ℕ
slash = 15

-- `%`
abbrev pub percent : ℕ
percent = 16

-- `||`
abbrev pub joined : ℕ
joined = 17

-- `::`
abbrev pub cast_sign : ℕ
cast_sign = 18

-- ---- other tokens

-- an integer of 64 bits without its sign
abbrev pub integer_token : ℕ
integer_token = 19

-- a text in single quotes
abbrev pub text_token : ℕ
text_token = 20

-- a token that no rule takes
abbrev pub untaken : ℕ
untaken = 21

-- stands in for a parenthesis that opens a level too many; no text has it
abbrev pub deep_paren : ℕ
deep_paren = 22

-- stands in for a NOT that opens a level too many; no text has it
abbrev pub deep_not : ℕ
deep_not = 23

-- stands in for a sign that opens a level too many; no text has it
abbrev pub deep_sign : ℕ
deep_sign = 24

-- stands in for FOR behind aggregates; no text has it
abbrev pub late_for : ℕ
late_for = 25

-- ---- reserved words

-- AND
abbrev pub and_word : ℕ
and_word = 30

-- AS
abbrev pub as_word : ℕ
as_word = 31

-- BETWEEN
abbrev pub between_word : ℕ
between_word = 32

-- CAST
abbrev pub cast_word : ℕ
cast_word = 33

-- CHECK
abbrev pub check_word : ℕ
check_word = 34

-- COLUMN
abbrev pub column_word : ℕ
column_word = 35

-- CONSTRAINT
abbrev pub constraint_word : ℕ
constraint_word = 36

-- CREATE
abbrev pub create_word : ℕ
create_word = 37

-- DEFAULT
abbrev pub default_word : ℕ
default_word = 38

-- FALSE
abbrev pub false_word : ℕ
false_word = 39

-- FOR
abbrev pub for_word : ℕ
for_word = 40

-- FOREIGN
abbrev pub foreign_word : ℕ
foreign_word = 41

-- FROM
abbrev pub from_word : ℕ
from_word = 42

-- IN
abbrev pub in_word : ℕ
in_word = 43

-- INTO
abbrev pub into_word : ℕ
into_word = 44

-- IS
abbrev pub is_word : ℕ
is_word = 45

-- NOT
abbrev pub not_word : ℕ
not_word = 46

-- NULL
abbrev pub null_word : ℕ
null_word = 47

-- ONLY
abbrev pub only_word : ℕ
only_word = 48

-- OR
abbrev pub or_word : ℕ
or_word = 49

-- ORDER
abbrev pub order_word : ℕ
order_word = 50

-- PRIMARY
abbrev pub primary_word : ℕ
primary_word = 51

-- REFERENCES
abbrev pub references_word : ℕ
references_word = 52

-- SELECT
abbrev pub select_word : ℕ
select_word = 53

-- TABLE
abbrev pub table_word : ℕ
table_word = 54

-- TO
abbrev pub to_word : ℕ
to_word = 55

-- TRUE
abbrev pub true_word : ℕ
true_word = 56

-- UNIQUE
abbrev pub unique_word : ℕ
unique_word = 57

-- USING
abbrev pub using_word : ℕ
using_word = 58

-- WHERE
abbrev pub where_word : ℕ
where_word = 59

-- ---- words that may be names

-- BEGIN
abbrev pub begin_word : ℕ
begin_word = 60

-- WORK
abbrev pub work_word : ℕ
work_word = 61

-- TRANSACTION
abbrev pub transaction_word : ℕ
transaction_word = 62

-- START
abbrev pub start_word : ℕ
start_word = 63

-- ISOLATION
abbrev pub isolation_word : ℕ
isolation_word = 64

-- LEVEL
abbrev pub level_word : ℕ
level_word = 65

-- READ
abbrev pub read_word : ℕ
read_word = 66

-- COMMITTED
abbrev pub committed_word : ℕ
committed_word = 67

-- REPEATABLE
abbrev pub repeatable_word : ℕ
repeatable_word = 68

-- COMMIT
abbrev pub commit_word : ℕ
commit_word = 69

-- END
abbrev pub end_word : ℕ
end_word = 70

-- ROLLBACK
abbrev pub rollback_word : ℕ
rollback_word = 71

-- ABORT
abbrev pub abort_word : ℕ
abort_word = 72

-- SET
abbrev pub set_word : ℕ
set_word = 73

-- LOCAL
abbrev pub local_word : ℕ
local_word = 74

-- SESSION
abbrev pub session_word : ℕ
session_word = 75

-- DEADLOCK_TIMEOUT
abbrev pub deadlock_timeout_word : ℕ
deadlock_timeout_word = 76

-- LOCK_TIMEOUT
abbrev pub lock_timeout_word : ℕ
lock_timeout_word = 77

-- STATEMENT_TIMEOUT
abbrev pub statement_timeout_word : ℕ
statement_timeout_word = 78

-- LOCK
abbrev pub lock_word : ℕ
lock_word = 79

-- MODE
abbrev pub mode_word : ℕ
mode_word = 80

-- NOWAIT
abbrev pub nowait_word : ℕ
nowait_word = 81

-- INHERITS
abbrev pub inherits_word : ℕ
inherits_word = 82

-- DROP
abbrev pub drop_word : ℕ
drop_word = 83

-- IF
abbrev pub if_word : ℕ
if_word = 84

-- EXISTS
abbrev pub exists_word : ℕ
exists_word = 85

-- RESTRICT
abbrev pub restrict_word : ℕ
restrict_word = 86

-- INSERT
abbrev pub insert_word : ℕ
insert_word = 87

-- VALUES
abbrev pub values_word : ℕ
values_word = 88

-- UPDATE
abbrev pub update_word : ℕ
update_word = 89

-- DELETE
abbrev pub delete_word : ℕ
delete_word = 90

-- BY
abbrev pub by_word : ℕ
by_word = 91

-- NO
abbrev pub no_word : ℕ
no_word = 92

-- KEY
abbrev pub key_word : ℕ
key_word = 93

-- SHARE
abbrev pub share_word : ℕ
share_word = 94

-- ACCESS
abbrev pub access_word : ℕ
access_word = 95

-- ROW
abbrev pub row_word : ℕ
row_word = 96

-- EXCLUSIVE
abbrev pub exclusive_word : ℕ
exclusive_word = 97

-- INHERIT
abbrev pub inherit_word : ℕ
inherit_word = 98

-- ALTER
abbrev pub alter_word : ℕ
alter_word = 99

-- DATA
abbrev pub data_word : ℕ
data_word = 100

-- TYPE
abbrev pub type_word : ℕ
type_word = 101

-- STATISTICS
abbrev pub statistics_word : ℕ
statistics_word = 102

-- VALIDATE
abbrev pub validate_word : ℕ
validate_word = 103

-- VALID
abbrev pub valid_word : ℕ
valid_word = 104

-- FILLFACTOR
abbrev pub fillfactor_word : ℕ
fillfactor_word = 105

-- RENAME
abbrev pub rename_word : ℕ
rename_word = 106

-- ADD
abbrev pub add_word : ℕ
add_word = 107

-- GENERATE_SERIES
abbrev pub generate_series_word : ℕ
generate_series_word = 108

-- ASC
abbrev pub asc_word : ℕ
asc_word = 109

-- DESC
abbrev pub desc_word : ℕ
desc_word = 110

-- SMALLINT
abbrev pub smallint_word : ℕ
smallint_word = 111

-- INT2
abbrev pub int2_word : ℕ
int2_word = 112

-- INTEGER
abbrev pub integer_word : ℕ
integer_word = 113

-- INT
abbrev pub int_word : ℕ
int_word = 114

-- INT4
abbrev pub int4_word : ℕ
int4_word = 115

-- BIGINT
abbrev pub bigint_word : ℕ
bigint_word = 116

-- INT8
abbrev pub int8_word : ℕ
int8_word = 117

-- BOOLEAN
abbrev pub boolean_word : ℕ
boolean_word = 118

-- BOOL
abbrev pub bool_word : ℕ
bool_word = 119

-- TEXT
abbrev pub text_word : ℕ
text_word = 120

-- VARCHAR
abbrev pub varchar_word : ℕ
varchar_word = 121

-- CHARACTER
abbrev pub character_word : ℕ
character_word = 122

-- VARYING
abbrev pub varying_word : ℕ
varying_word = 123

-- COUNT
abbrev pub count_word : ℕ
count_word = 124

-- MIN
abbrev pub min_word : ℕ
min_word = 125

-- MAX
abbrev pub max_word : ℕ
max_word = 126

-- a word that no rule names, or a quoted name
abbrev pub name : ℕ
name = 127

-- `count` directly before a parenthesis
abbrev pub count_call : ℕ
count_call = 128

-- `min` directly before a parenthesis
abbrev pub min_call : ℕ
min_call = 129

-- `max` directly before a parenthesis
abbrev pub max_call : ℕ
max_call = 130

-- `date`
abbrev pub date_word : ℕ
date_word = 131

-- `coalesce` directly before a parenthesis
abbrev pub coalesce_call : ℕ
coalesce_call = 132

-- `abs` directly before a parenthesis
abbrev pub abs_call : ℕ
abs_call = 133

-- `length` directly before a parenthesis
abbrev pub length_call : ℕ
length_call = 134

-- all that may be names
abbrev pub names : List ℕ
names = span 60 75

-- those that may be names of columns in an expression, where none stands directly before a parenthesis
abbrev pub column_names : List ℕ
column_names = span 60 71
