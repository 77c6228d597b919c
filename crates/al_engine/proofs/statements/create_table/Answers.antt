use Rattle.std.proofs.Common.{◌+◌, ◌∷◌, ◌∙◌, ap, arith, length, refl, sym, Some, slice_set, true}
use Rattle.al_history.specs.declared.entry.Entry.TheVariants.{Wait}
use Rattle.al_history.specs.declared.entry.Want.TheVariants as wants
use Rattle.al_history.specs.Past.{Past}
use Rattle.al_engine.specs.Listed.{Listed}
use Rattle.al_engine.specs.Kept.{parts_of}
use Rattle.al_engine.proofs.StatementLemmas.{done_went, refused_went}
use Rattle.al_engine.proofs.CreateLemmas.{refusal_of, look_refused, look_amid, look_room, looked_past, made_past, made_tables, make_fits, create_fails, create_makes, create_waits, create_waits_went}
use Rattle.al_engine.proofs.statements.create_table.Goals as goal

pub refuse-requires-clause-amid : goal.refuse-requires-clause-amid
refuse-requires-clause-amid c =
    look_amid c.args.terms.now (parts_of c.args.machine.now) c.args.session c.args.state c.args.xact c.args.name.now c.args.columns.now c.requires.kept c.requires.state c.requires.goes c.requires.in_xact c.requires.statement c.in-Some.cause (sym c.in-Some.is ∙ c.in_ok-cause.ensures)

pub refuse-requires-clause-refused : goal.refuse-requires-clause-refused
refuse-requires-clause-refused c =
    look_refused c.args.terms.now (parts_of c.args.machine.now) c.args.session c.args.state c.args.xact c.args.name.now c.args.columns.now c.requires.kept c.requires.state c.requires.goes c.requires.in_xact c.requires.statement c.in-Some.cause (sym c.in-Some.is ∙ c.in_ok-cause.ensures)

pub look-requires-clause-fits : goal.look-requires-clause-fits
look-requires-clause-fits c =
    omega (arith, look_room c.args.terms.now (parts_of c.args.machine.now) c.args.state.looked c.requires.kept)

pub refuse-requires-in-Some-refusal-clause-amid : goal.refuse-requires-in-Some-refusal-clause-amid
refuse-requires-in-Some-refusal-clause-amid c =
    let fits = sym c.in_ok-cause.ensures ∙ c.in_default.is in
    let refusal = refusal_of c.args.terms.now (parts_of c.args.machine.now) c.args.state.looked c.args.xact c.args.name.now c.args.columns.now c.as_slice-columns.result.now c.in_ok-taker.taker c.in_ok-refusal.refusal c.in_ok-refusal.ensures c.as_slice-columns.ensures c.in_ok-taker.ensures in
    let past_is = looked_past c.args.state.looked c.args.xact _ c.reserve.new.self c.args.machine.now.journal c.look.ensures.past c.in_ok-reserve.ensures.entries in
    let failed = create_fails c.args.terms.now (parts_of c.args.machine.now) c.args.session c.args.state c.args.xact c.args.name.now c.args.columns.now c.requires.kept c.requires.state c.requires.goes c.requires.in_xact c.requires.statement fits c.in-Some-refusal.cause (parts_of c.look.new.machine) (sym c.in-Some-refusal.is ∙ refusal) past_is (omega (arith, c.look.ensures.room, c.in_ok-reserve.ensures.ok)) c.look.ensures.weight c.look.ensures.sessions c.look.ensures.tables c.look.ensures.locks c.look.ensures.committed in
    failed.amid

pub refuse-requires-in-Some-refusal-clause-refused : goal.refuse-requires-in-Some-refusal-clause-refused
refuse-requires-in-Some-refusal-clause-refused c =
    let fits = sym c.in_ok-cause.ensures ∙ c.in_default.is in
    let refusal = refusal_of c.args.terms.now (parts_of c.args.machine.now) c.args.state.looked c.args.xact c.args.name.now c.args.columns.now c.as_slice-columns.result.now c.in_ok-taker.taker c.in_ok-refusal.refusal c.in_ok-refusal.ensures c.as_slice-columns.ensures c.in_ok-taker.ensures in
    let past_is = looked_past c.args.state.looked c.args.xact _ c.reserve.new.self c.args.machine.now.journal c.look.ensures.past c.in_ok-reserve.ensures.entries in
    let failed = create_fails c.args.terms.now (parts_of c.args.machine.now) c.args.session c.args.state c.args.xact c.args.name.now c.args.columns.now c.requires.kept c.requires.state c.requires.goes c.requires.in_xact c.requires.statement fits c.in-Some-refusal.cause (parts_of c.look.new.machine) (sym c.in-Some-refusal.is ∙ refusal) past_is (omega (arith, c.look.ensures.room, c.in_ok-reserve.ensures.ok)) c.look.ensures.weight c.look.ensures.sessions c.look.ensures.tables c.look.ensures.locks c.look.ensures.committed in
    failed.refused

pub returns-in-Some-refusal-clause-went : goal.returns-in-Some-refusal-clause-went
returns-in-Some-refusal-clause-went c =
    let fits = sym c.in_ok-cause.ensures ∙ c.in_default.is in
    let refusal = refusal_of c.args.terms.now (parts_of c.args.machine.now) c.args.state.looked c.args.xact c.args.name.now c.args.columns.now c.as_slice-columns.result.now c.in_ok-taker.taker c.in_ok-refusal.refusal c.in_ok-refusal.ensures c.as_slice-columns.ensures c.in_ok-taker.ensures in
    let past_is = looked_past c.args.state.looked c.args.xact _ c.reserve.new.self c.args.machine.now.journal c.look.ensures.past c.in_ok-reserve.ensures.entries in
    let failed = create_fails c.args.terms.now (parts_of c.args.machine.now) c.args.session c.args.state c.args.xact c.args.name.now c.args.columns.now c.requires.kept c.requires.state c.requires.goes c.requires.in_xact c.requires.statement fits c.in-Some-refusal.cause (parts_of c.look.new.machine) (sym c.in-Some-refusal.is ∙ refusal) past_is (omega (arith, c.look.ensures.room, c.in_ok-reserve.ensures.ok)) c.look.ensures.weight c.look.ensures.sessions c.look.ensures.tables c.look.ensures.locks c.look.ensures.committed in
    refused_went _ _ _ _ _ failed.stage failed.more c.refuse-in-Some-refusal.ensures.went

pub look-requires-in-Some-taker-clause-fits : goal.look-requires-in-Some-taker-clause-fits
look-requires-in-Some-taker-clause-fits c =
    omega (arith, look_room c.args.terms.now (parts_of c.args.machine.now) c.args.state.looked c.requires.kept)

pub wait_for_end-requires-clause-fits : goal.wait_for_end-requires-clause-fits
wait_for_end-requires-clause-fits c =
    omega (arith, look_room c.args.terms.now (parts_of c.args.machine.now) c.args.state.looked c.requires.kept, c.look-in-Some-taker.ensures.weight)

pub returns-in-Some-taker-clause-kept : goal.returns-in-Some-taker-clause-kept
returns-in-Some-taker-clause-kept c =
    let fits = sym c.in_ok-cause.ensures ∙ c.in_default.is in
    let refusal = refusal_of c.args.terms.now (parts_of c.args.machine.now) c.args.state.looked c.args.xact c.args.name.now c.args.columns.now c.as_slice-columns.result.now c.in_ok-taker.taker c.in_ok-refusal.refusal c.in_ok-refusal.ensures c.as_slice-columns.ensures c.in_ok-taker.ensures in
    let free = sym refusal ∙ c.in_default-refusal.is in
    let taken = sym c.in_ok-taker.ensures ∙ c.in-Some-taker.is in
    let looked = looked_past c.args.state.looked c.args.xact _ c.reserve.new.self c.args.machine.now.journal c.look-in-Some-taker.ensures.past c.in_ok-reserve.ensures.entries in
    let past_is = c.wait_for_end.ensures.past ∙ ap (λ (past : Past). Wait c.args.xact (wants.Ends c.in-Some-taker.other) ∷ past) looked in
    create_waits c.args.terms.now (parts_of c.args.machine.now) c.args.session c.args.state c.args.xact c.args.name.now c.args.columns.now c.requires.kept c.requires.state c.requires.goes c.requires.in_xact c.requires.statement fits free c.in-Some-taker.other (parts_of c.wait_for_end.new.machine) taken past_is (omega (arith, c.wait_for_end.ensures.room, c.look-in-Some-taker.ensures.room, c.in_ok-reserve.ensures.ok)) (c.wait_for_end.ensures.weight ∙ ap (λ n. n + 2) c.look-in-Some-taker.ensures.weight) (c.wait_for_end.ensures.sessions ∙ ap (λ (l : Listed). slice_set l.list c.args.session (record c.args.state { looked = true; wants = Some (wants.Ends c.in-Some-taker.other) })) c.look-in-Some-taker.ensures.sessions) (rw c.look-in-Some-taker.ensures.sessions at c.wait_for_end.ensures.controls) (c.wait_for_end.ensures.tables ∙ c.look-in-Some-taker.ensures.tables) (c.wait_for_end.ensures.locks ∙ c.look-in-Some-taker.ensures.locks) (c.wait_for_end.ensures.committed ∙ c.look-in-Some-taker.ensures.committed)

pub returns-in-Some-taker-clause-went : goal.returns-in-Some-taker-clause-went
returns-in-Some-taker-clause-went c =
    let fits = sym c.in_ok-cause.ensures ∙ c.in_default.is in
    let refusal = refusal_of c.args.terms.now (parts_of c.args.machine.now) c.args.state.looked c.args.xact c.args.name.now c.args.columns.now c.as_slice-columns.result.now c.in_ok-taker.taker c.in_ok-refusal.refusal c.in_ok-refusal.ensures c.as_slice-columns.ensures c.in_ok-taker.ensures in
    let free = sym refusal ∙ c.in_default-refusal.is in
    let taken = sym c.in_ok-taker.ensures ∙ c.in-Some-taker.is in
    let looked = looked_past c.args.state.looked c.args.xact _ c.reserve.new.self c.args.machine.now.journal c.look-in-Some-taker.ensures.past c.in_ok-reserve.ensures.entries in
    let past_is = c.wait_for_end.ensures.past ∙ ap (λ (past : Past). Wait c.args.xact (wants.Ends c.in-Some-taker.other) ∷ past) looked in
    create_waits_went c.args.terms.now (parts_of c.args.machine.now) c.args.session c.args.state c.args.xact c.args.name.now c.args.columns.now c.requires.kept c.requires.state c.requires.goes c.requires.in_xact c.requires.statement fits free c.in-Some-taker.other _ taken past_is

pub make-requires-clause-fits : goal.make-requires-clause-fits
make-requires-clause-fits c =
    let refusal = refusal_of c.args.terms.now (parts_of c.args.machine.now) c.args.state.looked c.args.xact c.args.name.now c.args.columns.now c.as_slice-columns.result.now c.in_ok-taker.taker c.in_ok-refusal.refusal c.in_ok-refusal.ensures c.as_slice-columns.ensures c.in_ok-taker.ensures in
    let free = sym refusal ∙ c.in_default-refusal.is in
    let untaken = sym c.in_ok-taker.ensures ∙ c.in_default-taker.is in
    omega (arith, make_fits c.args.terms.now (parts_of c.args.machine.now) c.args.state.looked c.args.xact c.args.name.now c.args.columns.now free untaken, ap length c.as_slice-columns.ensures)

pub done-requires-clause-amid : goal.done-requires-clause-amid
done-requires-clause-amid c =
    let fits = sym c.in_ok-cause.ensures ∙ c.in_default.is in
    let refusal = refusal_of c.args.terms.now (parts_of c.args.machine.now) c.args.state.looked c.args.xact c.args.name.now c.args.columns.now c.as_slice-columns.result.now c.in_ok-taker.taker c.in_ok-refusal.refusal c.in_ok-refusal.ensures c.as_slice-columns.ensures c.in_ok-taker.ensures in
    let free = sym refusal ∙ c.in_default-refusal.is in
    let untaken = sym c.in_ok-taker.ensures ∙ c.in_default-taker.is in
    let past_is = made_past c.args.state.looked c.args.xact c.args.name.now c.args.columns.now c.as_slice-columns.result.now _ c.reserve.new.self c.args.machine.now.journal c.in_ok-make.ensures.past c.in_ok-reserve.ensures.entries c.as_slice-columns.ensures in
    let tables_are = made_tables c.args.state.looked c.args.xact c.args.name.now c.args.columns.now c.as_slice-columns.result.now _ _ c.reserve.new.self c.args.machine.now.journal c.in_ok-make.ensures.tables c.in_ok-reserve.ensures.entries c.as_slice-columns.ensures in
    let acted = create_makes c.args.terms.now (parts_of c.args.machine.now) c.args.session c.args.state c.args.xact c.args.name.now c.args.columns.now c.requires.kept c.requires.state c.requires.goes c.requires.in_xact c.requires.statement fits free _ (parts_of c.make.new.machine) untaken refl past_is (omega (arith, c.in_ok-make.ensures.room, c.in_ok-reserve.ensures.ok)) (omega (arith, c.in_ok-make.ensures.weight, ap length c.as_slice-columns.ensures)) c.in_ok-make.ensures.sessions tables_are c.in_ok-make.ensures.locks c.in_ok-make.ensures.committed in
    acted.amid

pub done-requires-clause-done : goal.done-requires-clause-done
done-requires-clause-done c =
    let fits = sym c.in_ok-cause.ensures ∙ c.in_default.is in
    let refusal = refusal_of c.args.terms.now (parts_of c.args.machine.now) c.args.state.looked c.args.xact c.args.name.now c.args.columns.now c.as_slice-columns.result.now c.in_ok-taker.taker c.in_ok-refusal.refusal c.in_ok-refusal.ensures c.as_slice-columns.ensures c.in_ok-taker.ensures in
    let free = sym refusal ∙ c.in_default-refusal.is in
    let untaken = sym c.in_ok-taker.ensures ∙ c.in_default-taker.is in
    let past_is = made_past c.args.state.looked c.args.xact c.args.name.now c.args.columns.now c.as_slice-columns.result.now _ c.reserve.new.self c.args.machine.now.journal c.in_ok-make.ensures.past c.in_ok-reserve.ensures.entries c.as_slice-columns.ensures in
    let tables_are = made_tables c.args.state.looked c.args.xact c.args.name.now c.args.columns.now c.as_slice-columns.result.now _ _ c.reserve.new.self c.args.machine.now.journal c.in_ok-make.ensures.tables c.in_ok-reserve.ensures.entries c.as_slice-columns.ensures in
    let acted = create_makes c.args.terms.now (parts_of c.args.machine.now) c.args.session c.args.state c.args.xact c.args.name.now c.args.columns.now c.requires.kept c.requires.state c.requires.goes c.requires.in_xact c.requires.statement fits free _ (parts_of c.make.new.machine) untaken refl past_is (omega (arith, c.in_ok-make.ensures.room, c.in_ok-reserve.ensures.ok)) (omega (arith, c.in_ok-make.ensures.weight, ap length c.as_slice-columns.ensures)) c.in_ok-make.ensures.sessions tables_are c.in_ok-make.ensures.locks c.in_ok-make.ensures.committed in
    acted.done

pub returns-clause-went : goal.returns-clause-went
returns-clause-went c =
    let fits = sym c.in_ok-cause.ensures ∙ c.in_default.is in
    let refusal = refusal_of c.args.terms.now (parts_of c.args.machine.now) c.args.state.looked c.args.xact c.args.name.now c.args.columns.now c.as_slice-columns.result.now c.in_ok-taker.taker c.in_ok-refusal.refusal c.in_ok-refusal.ensures c.as_slice-columns.ensures c.in_ok-taker.ensures in
    let free = sym refusal ∙ c.in_default-refusal.is in
    let untaken = sym c.in_ok-taker.ensures ∙ c.in_default-taker.is in
    let past_is = made_past c.args.state.looked c.args.xact c.args.name.now c.args.columns.now c.as_slice-columns.result.now _ c.reserve.new.self c.args.machine.now.journal c.in_ok-make.ensures.past c.in_ok-reserve.ensures.entries c.as_slice-columns.ensures in
    let tables_are = made_tables c.args.state.looked c.args.xact c.args.name.now c.args.columns.now c.as_slice-columns.result.now _ _ c.reserve.new.self c.args.machine.now.journal c.in_ok-make.ensures.tables c.in_ok-reserve.ensures.entries c.as_slice-columns.ensures in
    let acted = create_makes c.args.terms.now (parts_of c.args.machine.now) c.args.session c.args.state c.args.xact c.args.name.now c.args.columns.now c.requires.kept c.requires.state c.requires.goes c.requires.in_xact c.requires.statement fits free _ (parts_of c.make.new.machine) untaken refl past_is (omega (arith, c.in_ok-make.ensures.room, c.in_ok-reserve.ensures.ok)) (omega (arith, c.in_ok-make.ensures.weight, ap length c.as_slice-columns.ensures)) c.in_ok-make.ensures.sessions tables_are c.in_ok-make.ensures.locks c.in_ok-make.ensures.committed in
    done_went _ _ _ _ _ _ acted.stage (omega arith) acted.more c.done.ensures.rows c.done.ensures.went
