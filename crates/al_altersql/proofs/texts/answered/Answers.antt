use Rattle.std.proofs.Common.{rules, ◌≡◌, ◌-◌, List, true, false, take, length, Ok, Err, ap, sym, ◌∙◌}
use Rattle.std.specs.Prelude.{◌==◌}
use Rattle.al_grammar.specs.Whole.{whole_of}
use Rattle.al_altersql.specs.Alter.{alter_table, alter_table_shape}
use Rattle.al_phrases.specs.declared.lexeme.Lexeme.{Lexeme}
use Rattle.al_lexemes.specs.Classes.{lexemes_of}
use Rattle.al_lexemes.specs.Answer.{trial, goes_on, fault_at, front_of}
use Rattle.al_lexemes.proofs.FrontReads.{front_read, front_early, front_text_before, front_stopped}
use Rattle.al_lexemes.proofs.TextLaws.{ok_is, why_is}
use Rattle.al_altersql.proofs.texts.answered.Goals as goal

pub returns-then-left-eq0 : goal.returns-then-left-eq0
returns-then-left-eq0 c =
    let ts = c.as_slice.result.now in
    let left = c.in-Err-Why.left in
    let first : front_of (alter_table.reads ts) ≡ Err left = why_is _ c.front.result _ left (c.front.ensures (alter_table.reads ts) c.alter.ensures.gives) (search rules) in
    let all : ts ≡ lexemes_of c.args.text.now c.args.tokens.now = search rules in
    let none : (left == 0) ≡ true = search rules in
    front_early _ alter_table_shape alter_table c.args.text.now c.args.tokens.now ts all left c.end_fault.result first none c.end_fault.ensures

pub returns-in-Ok : goal.returns-in-Ok
returns-in-Ok c =
    let ts = c.as_slice.result.now in
    let first : front_of (alter_table.reads ts) ≡ Ok (c.in-Ok.statement, c.in-Ok.behind) = ok_is _ c.front.result _ (c.in-Ok.statement, c.in-Ok.behind) (c.front.ensures (alter_table.reads ts) c.alter.ensures.gives) (search rules) in
    let all : ts ≡ lexemes_of c.args.text.now c.args.tokens.now = search rules in
    let at : c.saturating_sub.result ≡ length ts - c.in-Ok.behind = search rules in
    front_read _ alter_table_shape alter_table c.args.text.now c.args.tokens.now ts all c.in-Ok.statement c.in-Ok.behind c.saturating_sub.result first at

pub returns-in-Ok-whole : goal.returns-in-Ok-whole
returns-in-Ok-whole c =
    let ts = c.as_slice.result.now in
    let left = c.in-Err-Why.left in
    let n = c.saturating_sub-place.result in
    let first : front_of (alter_table.reads ts) ≡ Err left = why_is _ c.front.result _ left (c.front.ensures (alter_table.reads ts) c.alter.ensures.gives) (search rules) in
    let all : ts ≡ lexemes_of c.args.text.now c.args.tokens.now = search rules in
    let some : (left == 0) ≡ false = search rules in
    let at : n ≡ length ts - left = search rules in
    let before : whole_of (alter_table.reads c.tokens_before.result.now) ≡ Ok c.in-Ok-whole.statement = ok_is _ c.whole.result _ c.in-Ok-whole.statement (c.whole.ensures (alter_table.reads c.tokens_before.result.now) c.alter-in-Err-Why.ensures.gives) (search rules) in
    let same : c.tokens_before.result.now ≡ take n ts = search rules in
    front_text_before _ alter_table_shape alter_table c.args.text.now c.args.tokens.now ts all left n c.in-Ok-whole.statement first some at (ap (λ (l : List Lexeme). whole_of (alter_table.reads l)) (sym same) ∙ before)

pub returns-in_ok-fault_at-in-Err-Why-whole : goal.returns-in_ok-fault_at-in-Err-Why-whole
returns-in_ok-fault_at-in-Err-Why-whole c =
    let ts = c.as_slice.result.now in
    let left = c.in-Err-Why.left in
    let n = c.saturating_sub-place.result in
    let m = c.in-Err-Why-whole.field-0-0 in
    let tr = c.as_slice-in-Err-Why-whole.result.now in
    let st = c.in_ok-stands-in-Err-Why-whole.stands in
    let first : front_of (alter_table.reads ts) ≡ Err left = why_is _ c.front.result _ left (c.front.ensures (alter_table.reads ts) c.alter.ensures.gives) (search rules) in
    let all : ts ≡ lexemes_of c.args.text.now c.args.tokens.now = search rules in
    let some : (left == 0) ≡ false = search rules in
    let at : n ≡ length ts - left = search rules in
    let none : whole_of (alter_table.reads c.tokens_before.result.now) ≡ Err m = why_is _ c.whole.result _ m (c.whole.ensures (alter_table.reads c.tokens_before.result.now) c.alter-in-Err-Why.ensures.gives) (search rules) in
    let same : c.tokens_before.result.now ≡ take n ts = search rules in
    let second : st ≡ goes_on (whole_of (alter_table.reads tr)) = c.in_ok-stands-in-Err-Why-whole.ensures {u = tt} (whole_of (alter_table.reads tr)) (c.whole-in-Err-Why-whole.ensures (alter_table.reads tr) c.alter-in-Err-Why-whole.ensures.gives) in
    let up : tr ≡ trial ts (length ts - left) = search rules in
    let told : c.in_ok-fault_at-in-Err-Why-whole.field-0 ≡ fault_at c.args.text.now c.args.tokens.now (length c.args.tokens.now - left) st = search rules in
    front_stopped _ alter_table_shape alter_table c.args.text.now c.args.tokens.now ts all left n m tr st c.in_ok-fault_at-in-Err-Why-whole.field-0 first some at (ap (λ (l : List Lexeme). whole_of (alter_table.reads l)) (sym same) ∙ none) up second told
