use Rattle.std.proofs.Common.{List, length, subst}
use Rattle.al_values.specs.Gives.{GivesUnlessNoMemory}
use Rattle.al_spec.specs.declared.kinds.Token.{Token}
use Rattle.al_spec.specs.Files.{answer}
use Rattle.al_spec.proofs.Answer.{read_found, read_sound, read_fault, read_only, read_only_fault}
use Rattle.al_spec.proofs.read.read.Goals as goal

pub returns-clause-found : goal.returns-clause-found
returns-clause-found c =
    let g : GivesUnlessNoMemory c.answer.result (answer c.in_ok-all.all (length c.args.text.now)) = subst (λ (ts : List Token). GivesUnlessNoMemory c.answer.result (answer ts (length c.args.text.now))) c.as_slice.ensures c.answer.ensures.gives in
    read_found c.args.text.now c.utf8.text c.in_ok-all.all c.in_ok-all.ensures c.answer.result g

pub returns-clause-sound : goal.returns-clause-sound
returns-clause-sound c =
    let g : GivesUnlessNoMemory c.answer.result (answer c.in_ok-all.all (length c.args.text.now)) = subst (λ (ts : List Token). GivesUnlessNoMemory c.answer.result (answer ts (length c.args.text.now))) c.as_slice.ensures c.answer.ensures.gives in
    read_sound c.args.text.now c.utf8.text c.in_ok-all.all c.in_ok-all.ensures c.answer.result g c.answer.ensures.few

pub returns-clause-only : goal.returns-clause-only
returns-clause-only c =
    let g : GivesUnlessNoMemory c.answer.result (answer c.in_ok-all.all (length c.args.text.now)) = subst (λ (ts : List Token). GivesUnlessNoMemory c.answer.result (answer ts (length c.args.text.now))) c.as_slice.ensures c.answer.ensures.gives in
    read_only c.args.text.now c.utf8.text c.in_ok-all.all c.in_ok-all.ensures c.answer.result g

pub returns-clause-fault : goal.returns-clause-fault
returns-clause-fault c =
    let g : GivesUnlessNoMemory c.answer.result (answer c.in_ok-all.all (length c.args.text.now)) = subst (λ (ts : List Token). GivesUnlessNoMemory c.answer.result (answer ts (length c.args.text.now))) c.as_slice.ensures c.answer.ensures.gives in
    read_fault c.args.text.now c.utf8.text c.in_ok-all.all c.in_ok-all.ensures c.answer.result g

pub returns-clause-only_fault : goal.returns-clause-only_fault
returns-clause-only_fault c =
    let g : GivesUnlessNoMemory c.answer.result (answer c.in_ok-all.all (length c.args.text.now)) = subst (λ (ts : List Token). GivesUnlessNoMemory c.answer.result (answer ts (length c.args.text.now))) c.as_slice.ensures c.answer.ensures.gives in
    read_only_fault c.args.text.now c.utf8.text c.in_ok-all.all c.in_ok-all.ensures c.answer.result g
