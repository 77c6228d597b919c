use Rattle.std.proofs.Common.{rules, ◌≡◌, ◌-◌, false, length, Err}
use Rattle.std.specs.Prelude.{◌==◌}
use Rattle.al_grammar.specs.Whole.{whole_of}
use Rattle.al_sql.specs.Scripts.{script}
use Rattle.al_lexemes.specs.Classes.{lexemes_of}
use Rattle.al_lexemes.specs.Answer.{trial, goes_on, fault_at}
use Rattle.al_sql.proofs.ScriptTexts.{stopped}
use Rattle.al_lexemes.proofs.TextLaws.{why_is}
use Rattle.al_sql.proofs.texts.answered.Goals as goal

pub returns-in_ok-fault_at-in-Err-Why : goal.returns-in_ok-fault_at-in-Err-Why
returns-in_ok-fault_at-in-Err-Why c =
    let ts = c.as_slice.result.now in
    let tr = c.as_slice-in-Err-Why.result.now in
    let left = c.in-Err-Why.left in
    let first : whole_of (script.reads ts) ≡ Err left = why_is _ c.whole.result _ left (c.whole.ensures (script.reads ts) c.script.ensures.gives) (search rules) in
    let second : c.in_ok-stands-in-Err-Why.stands ≡ goes_on (whole_of (script.reads tr)) =
    c.in_ok-stands-in-Err-Why.ensures {u = tt} (whole_of (script.reads tr)) (c.whole-in-Err-Why.ensures (script.reads tr) c.script-in-Err-Why.ensures.gives) in
    let all : ts ≡ lexemes_of c.args.text.now c.args.front.now.tokens = search rules in
    let some : (left == 0) ≡ false = search rules in
    let up : tr ≡ trial ts (length ts - left) = search rules in
    let told : c.in_ok-fault_at-in-Err-Why.field-0 ≡ fault_at c.args.text.now c.args.front.now.tokens (length c.args.front.now.tokens - left) c.in_ok-stands-in-Err-Why.stands = search rules in
    stopped c.args.text.now c.args.front.now ts tr left c.in_ok-stands-in-Err-Why.stands c.in_ok-fault_at-in-Err-Why.field-0 all first some up second told
