use Rattle.std.proofs.Common.{rules, ◌≡◌, drop, Ok, Err, arith}
use Rattle.al_values.specs.Gives.{GivesUnlessNoMemory}
use Rattle.al_altersql.specs.Alter.{alter_table, alter_table_shape}
use Rattle.al_altersql.proofs.AlterLaws.{lawful_alter_table}
use Rattle.al_statements.specs.declared.alter.Alter.{Alter}
use Rattle.al_lexemes.specs.Answer.{front_answer}
use Rattle.al_lexemes.proofs.Walks.{spans_count}
use Rattle.al_lexemes.proofs.FrontLaws.{front_value, placed_only, placed_only_fault, placed_fault}
use Rattle.al_altersql.proofs.texts.read_alter.Goals as goal

pub overflow_cast-result : goal.overflow_cast-result
overflow_cast-result c =
    let g : front_answer alter_table c.args.text.now (drop c.args.from c.args.tokens.now) ≡ Ok (c.in-Ok.statement, c.in-Ok.count) = search rules in
    let k = (front_value Alter alter_table_shape alter_table lawful_alter_table c.args.text.now c.args.tokens.now c.args.from c.requires.begun c.in-Ok.statement c.in-Ok.count g).within in
    omega (arith, k, spans_count c.args.text.now 0 c.args.tokens.now c.requires.spans, c.requires.short)

pub overflow_add-result : goal.overflow_add-result
overflow_add-result c =
    let g : front_answer alter_table c.args.text.now (drop c.args.from c.args.tokens.now) ≡ Ok (c.in-Ok.statement, c.in-Ok.count) = search rules in
    let k = (front_value Alter alter_table_shape alter_table lawful_alter_table c.args.text.now c.args.tokens.now c.args.from c.requires.begun c.in-Ok.statement c.in-Ok.count g).within in
    omega (arith, k, spans_count c.args.text.now 0 c.args.tokens.now c.requires.spans, c.requires.short)

pub returns-in-Ok-clause-found : goal.returns-in-Ok-clause-found
returns-in-Ok-clause-found c =
    let g : front_answer alter_table c.args.text.now (drop c.args.from c.args.tokens.now) ≡ Ok (c.in-Ok.statement, c.in-Ok.count) = search rules in
    front_value Alter alter_table_shape alter_table lawful_alter_table c.args.text.now c.args.tokens.now c.args.from c.requires.begun c.in-Ok.statement c.in-Ok.count g

pub returns-in-Ok-clause-only : goal.returns-in-Ok-clause-only
returns-in-Ok-clause-only c =
    let g : front_answer alter_table c.args.text.now (drop c.args.from c.args.tokens.now) ≡ Ok (c.in-Ok.statement, c.in-Ok.count) = search rules in
    placed_only Alter alter_table_shape alter_table lawful_alter_table c.args.text.now c.args.tokens.now c.args.from c.requires.begun (Ok (c.in-Ok.statement, c.in-Ok.count)) g

pub returns-in-Ok-clause-only_fault : goal.returns-in-Ok-clause-only_fault
returns-in-Ok-clause-only_fault c =
    let g : front_answer alter_table c.args.text.now (drop c.args.from c.args.tokens.now) ≡ Ok (c.in-Ok.statement, c.in-Ok.count) = search rules in
    placed_only_fault Alter alter_table_shape alter_table lawful_alter_table c.args.text.now c.args.tokens.now c.args.from c.requires.begun (Ok (c.in-Ok.statement, c.in-Ok.count)) g

pub returns-in-Err-clause-only : goal.returns-in-Err-clause-only
returns-in-Err-clause-only c =
    let g : GivesUnlessNoMemory (Err c.in-Err.fault) (front_answer alter_table c.args.text.now (drop c.args.from c.args.tokens.now)) = search rules in
    placed_only Alter alter_table_shape alter_table lawful_alter_table c.args.text.now c.args.tokens.now c.args.from c.requires.begun (Err c.in-Err.fault) g

pub returns-in-Err-clause-fault : goal.returns-in-Err-clause-fault
returns-in-Err-clause-fault c =
    let g : GivesUnlessNoMemory (Err c.in-Err.fault) (front_answer alter_table c.args.text.now (drop c.args.from c.args.tokens.now)) = search rules in
    placed_fault Alter alter_table_shape alter_table lawful_alter_table c.args.text.now c.args.tokens.now c.args.from c.requires.begun (Err c.in-Err.fault) g

pub returns-in-Err-clause-only_fault : goal.returns-in-Err-clause-only_fault
returns-in-Err-clause-only_fault c =
    let g : GivesUnlessNoMemory (Err c.in-Err.fault) (front_answer alter_table c.args.text.now (drop c.args.from c.args.tokens.now)) = search rules in
    placed_only_fault Alter alter_table_shape alter_table lawful_alter_table c.args.text.now c.args.tokens.now c.args.from c.requires.begun (Err c.in-Err.fault) g
