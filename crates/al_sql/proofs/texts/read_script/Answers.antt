use Rattle.al_sql.proofs.ScriptTexts.{only, only_fault}
use Rattle.al_sql.proofs.texts.read_script.Goals as goal

pub returns-clause-only : goal.returns-clause-only
returns-clause-only c = only c.args.text.now c.in_ok-front.front c.answered.result ((c.in_ok-front.ensures {u = tt}).only) c.answered.ensures

pub returns-clause-only_fault : goal.returns-clause-only_fault
returns-clause-only_fault c = only_fault c.args.text.now c.in_ok-front.front c.answered.result ((c.in_ok-front.ensures {u = tt}).only) c.answered.ensures
