use Rattle.std.proofs.Common.{◌≡◌, ◌∷◌, length, ◌∙◌, ap, arith, refl, sym}
use Rattle.al_history.specs.declared.entry.Entry.TheVariants.{Look, Read}
use Rattle.al_history.specs.declared.statement.Statement.TheVariants as statements
use Rattle.al_history.specs.Past.{Past, past_of}
use Rattle.al_engine.specs.Kept.{Parts, parts_of}
use Rattle.al_engine.proofs.AskLemmas.{pushed}
use Rattle.al_engine.proofs.CountLemmas.{rows_within}
use Rattle.al_engine.proofs.StatementLemmas.{StaysBut, stays, done_went, refused_went}
use Rattle.al_engine.proofs.UseLemmas.{has_table, over_so}
use Rattle.al_engine.proofs.ActLemmas.{select_fails, select_acts}
use Rattle.al_engine.proofs.statements.select.Goals as goal

pub returns-in_err-rows-clause-bounded : goal.returns-in_err-rows-clause-bounded
returns-in_err-rows-clause-bounded g c =
    let there = (has_table c.args.terms.now (parts_of c.args.machine.now) c.args.session c.args.state c.args.xact (statements.Select c.requires.locked.0) c.requires.locked.0 c.args.at c.index-table.result.now c.requires.locked.1 refl c.index-table.ensures).there in
    omega (arith, rows_within _ (parts_of c.args.machine.now) c.args.at c.index-table.result.now c.requires.locked.1.uses.kept there, c.rows_of.ensures.bounded)

pub returns-in_err-weight-clause-bounded : goal.returns-in_err-weight-clause-bounded
returns-in_err-weight-clause-bounded g c =
    let there = (has_table c.args.terms.now (parts_of c.args.machine.now) c.args.session c.args.state c.args.xact (statements.Select c.requires.locked.0) c.requires.locked.0 c.args.at c.index-table.result.now c.requires.locked.1 refl c.index-table.ensures).there in
    omega (arith, rows_within _ (parts_of c.args.machine.now) c.args.at c.index-table.result.now c.requires.locked.1.uses.kept there, c.rows_of.ensures.bounded)

pub returns-in_err-so_far-clause-bounded : goal.returns-in_err-so_far-clause-bounded
returns-in_err-so_far-clause-bounded g c =
    let there = (has_table c.args.terms.now (parts_of c.args.machine.now) c.args.session c.args.state c.args.xact (statements.Select c.requires.locked.0) c.requires.locked.0 c.args.at c.index-table.result.now c.requires.locked.1 refl c.index-table.ensures).there in
    omega (arith, rows_within _ (parts_of c.args.machine.now) c.args.at c.index-table.result.now c.requires.locked.1.uses.kept there, c.rows_of.ensures.bounded)

pub returns-in_err-over_limit-clause-bounded : goal.returns-in_err-over_limit-clause-bounded
returns-in_err-over_limit-clause-bounded g c =
    let there = (has_table c.args.terms.now (parts_of c.args.machine.now) c.args.session c.args.state c.args.xact (statements.Select c.requires.locked.0) c.requires.locked.0 c.args.at c.index-table.result.now c.requires.locked.1 refl c.index-table.ensures).there in
    omega (arith, rows_within _ (parts_of c.args.machine.now) c.args.at c.index-table.result.now c.requires.locked.1.uses.kept there, c.rows_of.ensures.bounded)

pub returns-in_err-reserve-clause-bounded : goal.returns-in_err-reserve-clause-bounded
returns-in_err-reserve-clause-bounded g c =
    let there = (has_table c.args.terms.now (parts_of c.args.machine.now) c.args.session c.args.state c.args.xact (statements.Select c.requires.locked.0) c.requires.locked.0 c.args.at c.index-table.result.now c.requires.locked.1 refl c.index-table.ensures).there in
    omega (arith, rows_within _ (parts_of c.args.machine.now) c.args.at c.index-table.result.now c.requires.locked.1.uses.kept there, c.rows_of.ensures.bounded)

pub refuse-requires-clause-amid : goal.refuse-requires-clause-amid
refuse-requires-clause-amid g c =
    let h = has_table c.args.terms.now (parts_of c.args.machine.now) c.args.session c.args.state c.args.xact (statements.Select c.requires.locked.0) c.requires.locked.0 c.args.at c.index-table.result.now c.requires.locked.1 refl c.index-table.ensures in
    let names = rw (c.as_slice.ensures, c.in_ok-columns.ensures, c.deref.ensures.value) at c.in_ok-names.ensures in
    let q : Parts = parts_of c.note_heavy.new.machine in
    let past_is : past_of q.journal ≡ Look c.args.xact ∷ past_of c.args.machine.now.journal = pushed _ _ c.reserve.new.self c.args.machine.now.journal c.note_heavy.ensures.past c.in_ok-reserve.ensures.entries in
    let still : StaysBut (parts_of c.args.machine.now) q = stays (parts_of c.args.machine.now) q _ past_is c.note_heavy.ensures.sessions c.note_heavy.ensures.locks c.note_heavy.ensures.committed (omega (arith, c.note_heavy.ensures.room, c.in_ok-reserve.ensures.ok)) refl refl (omega (arith, c.note_heavy.ensures.weight, c.requires.locked.1.uses.kept.sound.weighed)) in
    let failed = select_fails _ _ _ _ _ _ c.args.at c.index-table.result.now h.found h.there h.uses h.locked h.looks c.in_ok-names.names c.in_ok-rows.rows names (rw c.deref.ensures.value at c.in_ok-rows.ensures.rows) c.in-Some.cause q (sym c.in-Some.is ∙ over_so _ _ _ _ _ _ c.in_ok-over_limit.ensures c.in_ok-so_far.ensures (rw (c.as_slice-2.ensures, c.as_slice-3.ensures) at c.in_ok-weight.ensures)) still c.note_heavy.ensures.tables past_is in
    failed.amid

pub refuse-requires-clause-refused : goal.refuse-requires-clause-refused
refuse-requires-clause-refused g c =
    let h = has_table c.args.terms.now (parts_of c.args.machine.now) c.args.session c.args.state c.args.xact (statements.Select c.requires.locked.0) c.requires.locked.0 c.args.at c.index-table.result.now c.requires.locked.1 refl c.index-table.ensures in
    let names = rw (c.as_slice.ensures, c.in_ok-columns.ensures, c.deref.ensures.value) at c.in_ok-names.ensures in
    let q : Parts = parts_of c.note_heavy.new.machine in
    let past_is : past_of q.journal ≡ Look c.args.xact ∷ past_of c.args.machine.now.journal = pushed _ _ c.reserve.new.self c.args.machine.now.journal c.note_heavy.ensures.past c.in_ok-reserve.ensures.entries in
    let still : StaysBut (parts_of c.args.machine.now) q = stays (parts_of c.args.machine.now) q _ past_is c.note_heavy.ensures.sessions c.note_heavy.ensures.locks c.note_heavy.ensures.committed (omega (arith, c.note_heavy.ensures.room, c.in_ok-reserve.ensures.ok)) refl refl (omega (arith, c.note_heavy.ensures.weight, c.requires.locked.1.uses.kept.sound.weighed)) in
    let failed = select_fails _ _ _ _ _ _ c.args.at c.index-table.result.now h.found h.there h.uses h.locked h.looks c.in_ok-names.names c.in_ok-rows.rows names (rw c.deref.ensures.value at c.in_ok-rows.ensures.rows) c.in-Some.cause q (sym c.in-Some.is ∙ over_so _ _ _ _ _ _ c.in_ok-over_limit.ensures c.in_ok-so_far.ensures (rw (c.as_slice-2.ensures, c.as_slice-3.ensures) at c.in_ok-weight.ensures)) still c.note_heavy.ensures.tables past_is in
    failed.refused

pub returns-in-Some-clause-went : goal.returns-in-Some-clause-went
returns-in-Some-clause-went g c =
    let h = has_table c.args.terms.now (parts_of c.args.machine.now) c.args.session c.args.state c.args.xact (statements.Select c.requires.locked.0) c.requires.locked.0 c.args.at c.index-table.result.now c.requires.locked.1 refl c.index-table.ensures in
    let names = rw (c.as_slice.ensures, c.in_ok-columns.ensures, c.deref.ensures.value) at c.in_ok-names.ensures in
    let q : Parts = parts_of c.note_heavy.new.machine in
    let past_is : past_of q.journal ≡ Look c.args.xact ∷ past_of c.args.machine.now.journal = pushed _ _ c.reserve.new.self c.args.machine.now.journal c.note_heavy.ensures.past c.in_ok-reserve.ensures.entries in
    let still : StaysBut (parts_of c.args.machine.now) q = stays (parts_of c.args.machine.now) q _ past_is c.note_heavy.ensures.sessions c.note_heavy.ensures.locks c.note_heavy.ensures.committed (omega (arith, c.note_heavy.ensures.room, c.in_ok-reserve.ensures.ok)) refl refl (omega (arith, c.note_heavy.ensures.weight, c.requires.locked.1.uses.kept.sound.weighed)) in
    let failed = select_fails _ _ _ _ _ _ c.args.at c.index-table.result.now h.found h.there h.uses h.locked h.looks c.in_ok-names.names c.in_ok-rows.rows names (rw c.deref.ensures.value at c.in_ok-rows.ensures.rows) c.in-Some.cause q (sym c.in-Some.is ∙ over_so _ _ _ _ _ _ c.in_ok-over_limit.ensures c.in_ok-so_far.ensures (rw (c.as_slice-2.ensures, c.as_slice-3.ensures) at c.in_ok-weight.ensures)) still c.note_heavy.ensures.tables past_is in
    refused_went _ _ _ _ _ failed.stage failed.more c.refuse.ensures.went

pub returns-in-Some-clause-bounded : goal.returns-in-Some-clause-bounded
returns-in-Some-clause-bounded g c =
    let there = (has_table c.args.terms.now (parts_of c.args.machine.now) c.args.session c.args.state c.args.xact (statements.Select c.requires.locked.0) c.requires.locked.0 c.args.at c.index-table.result.now c.requires.locked.1 refl c.index-table.ensures).there in
    omega (arith, rows_within _ (parts_of c.args.machine.now) c.args.at c.index-table.result.now c.requires.locked.1.uses.kept there, c.rows_of.ensures.bounded)

pub done-requires-clause-amid : goal.done-requires-clause-amid
done-requires-clause-amid g c =
    let h = has_table c.args.terms.now (parts_of c.args.machine.now) c.args.session c.args.state c.args.xact (statements.Select c.requires.locked.0) c.requires.locked.0 c.args.at c.index-table.result.now c.requires.locked.1 refl c.index-table.ensures in
    let names = rw (c.as_slice.ensures, c.in_ok-columns.ensures, c.deref.ensures.value) at c.in_ok-names.ensures in
    let q : Parts = parts_of c.note_heavy-2.new.machine in
    let looked : past_of c.note_heavy.new.machine.journal ≡ Look c.args.xact ∷ past_of c.args.machine.now.journal = pushed _ _ c.reserve.new.self c.args.machine.now.journal c.note_heavy.ensures.past c.in_ok-reserve.ensures.entries in
    let past_is : past_of q.journal ≡ Read c.args.xact c.in_ok-names.names c.in_ok-rows.rows ∷ Look c.args.xact ∷ past_of c.args.machine.now.journal = c.note_heavy-2.ensures.past ∙ ap (λ (past : Past). Read c.args.xact c.in_ok-names.names c.in_ok-rows.rows ∷ past) looked in
    let still : StaysBut (parts_of c.args.machine.now) q = stays (parts_of c.args.machine.now) q _ past_is (c.note_heavy-2.ensures.sessions ∙ c.note_heavy.ensures.sessions) (c.note_heavy-2.ensures.locks ∙ c.note_heavy.ensures.locks) (c.note_heavy-2.ensures.committed ∙ c.note_heavy.ensures.committed) (omega (arith, c.note_heavy-2.ensures.room, c.note_heavy.ensures.room, c.in_ok-reserve.ensures.ok)) refl refl (omega (arith, c.note_heavy-2.ensures.weight, c.note_heavy.ensures.weight, c.requires.locked.1.uses.kept.sound.weighed, rw (c.as_slice-2.ensures, c.as_slice-3.ensures) at c.in_ok-weight.ensures)) in
    let fits = sym (over_so _ _ _ _ _ _ c.in_ok-over_limit.ensures c.in_ok-so_far.ensures (rw (c.as_slice-2.ensures, c.as_slice-3.ensures) at c.in_ok-weight.ensures)) ∙ c.in_default.is in
    let acted = select_acts _ _ _ _ _ _ c.args.at c.index-table.result.now h.found h.there h.uses h.locked h.looks c.in_ok-names.names c.in_ok-rows.rows names (rw c.deref.ensures.value at c.in_ok-rows.ensures.rows) c.len-entry.result q fits (c.len-entry.ensures.past ∙ ap length looked) still (c.note_heavy-2.ensures.tables ∙ c.note_heavy.ensures.tables) past_is in
    acted.amid

pub done-requires-clause-done : goal.done-requires-clause-done
done-requires-clause-done g c =
    let h = has_table c.args.terms.now (parts_of c.args.machine.now) c.args.session c.args.state c.args.xact (statements.Select c.requires.locked.0) c.requires.locked.0 c.args.at c.index-table.result.now c.requires.locked.1 refl c.index-table.ensures in
    let names = rw (c.as_slice.ensures, c.in_ok-columns.ensures, c.deref.ensures.value) at c.in_ok-names.ensures in
    let q : Parts = parts_of c.note_heavy-2.new.machine in
    let looked : past_of c.note_heavy.new.machine.journal ≡ Look c.args.xact ∷ past_of c.args.machine.now.journal = pushed _ _ c.reserve.new.self c.args.machine.now.journal c.note_heavy.ensures.past c.in_ok-reserve.ensures.entries in
    let past_is : past_of q.journal ≡ Read c.args.xact c.in_ok-names.names c.in_ok-rows.rows ∷ Look c.args.xact ∷ past_of c.args.machine.now.journal = c.note_heavy-2.ensures.past ∙ ap (λ (past : Past). Read c.args.xact c.in_ok-names.names c.in_ok-rows.rows ∷ past) looked in
    let still : StaysBut (parts_of c.args.machine.now) q = stays (parts_of c.args.machine.now) q _ past_is (c.note_heavy-2.ensures.sessions ∙ c.note_heavy.ensures.sessions) (c.note_heavy-2.ensures.locks ∙ c.note_heavy.ensures.locks) (c.note_heavy-2.ensures.committed ∙ c.note_heavy.ensures.committed) (omega (arith, c.note_heavy-2.ensures.room, c.note_heavy.ensures.room, c.in_ok-reserve.ensures.ok)) refl refl (omega (arith, c.note_heavy-2.ensures.weight, c.note_heavy.ensures.weight, c.requires.locked.1.uses.kept.sound.weighed, rw (c.as_slice-2.ensures, c.as_slice-3.ensures) at c.in_ok-weight.ensures)) in
    let fits = sym (over_so _ _ _ _ _ _ c.in_ok-over_limit.ensures c.in_ok-so_far.ensures (rw (c.as_slice-2.ensures, c.as_slice-3.ensures) at c.in_ok-weight.ensures)) ∙ c.in_default.is in
    let acted = select_acts _ _ _ _ _ _ c.args.at c.index-table.result.now h.found h.there h.uses h.locked h.looks c.in_ok-names.names c.in_ok-rows.rows names (rw c.deref.ensures.value at c.in_ok-rows.ensures.rows) c.len-entry.result q fits (c.len-entry.ensures.past ∙ ap length looked) still (c.note_heavy-2.ensures.tables ∙ c.note_heavy.ensures.tables) past_is in
    acted.done

pub returns-clause-went : goal.returns-clause-went
returns-clause-went g c =
    let h = has_table c.args.terms.now (parts_of c.args.machine.now) c.args.session c.args.state c.args.xact (statements.Select c.requires.locked.0) c.requires.locked.0 c.args.at c.index-table.result.now c.requires.locked.1 refl c.index-table.ensures in
    let names = rw (c.as_slice.ensures, c.in_ok-columns.ensures, c.deref.ensures.value) at c.in_ok-names.ensures in
    let q : Parts = parts_of c.note_heavy-2.new.machine in
    let looked : past_of c.note_heavy.new.machine.journal ≡ Look c.args.xact ∷ past_of c.args.machine.now.journal = pushed _ _ c.reserve.new.self c.args.machine.now.journal c.note_heavy.ensures.past c.in_ok-reserve.ensures.entries in
    let past_is : past_of q.journal ≡ Read c.args.xact c.in_ok-names.names c.in_ok-rows.rows ∷ Look c.args.xact ∷ past_of c.args.machine.now.journal = c.note_heavy-2.ensures.past ∙ ap (λ (past : Past). Read c.args.xact c.in_ok-names.names c.in_ok-rows.rows ∷ past) looked in
    let still : StaysBut (parts_of c.args.machine.now) q = stays (parts_of c.args.machine.now) q _ past_is (c.note_heavy-2.ensures.sessions ∙ c.note_heavy.ensures.sessions) (c.note_heavy-2.ensures.locks ∙ c.note_heavy.ensures.locks) (c.note_heavy-2.ensures.committed ∙ c.note_heavy.ensures.committed) (omega (arith, c.note_heavy-2.ensures.room, c.note_heavy.ensures.room, c.in_ok-reserve.ensures.ok)) refl refl (omega (arith, c.note_heavy-2.ensures.weight, c.note_heavy.ensures.weight, c.requires.locked.1.uses.kept.sound.weighed, rw (c.as_slice-2.ensures, c.as_slice-3.ensures) at c.in_ok-weight.ensures)) in
    let fits = sym (over_so _ _ _ _ _ _ c.in_ok-over_limit.ensures c.in_ok-so_far.ensures (rw (c.as_slice-2.ensures, c.as_slice-3.ensures) at c.in_ok-weight.ensures)) ∙ c.in_default.is in
    let acted = select_acts _ _ _ _ _ _ c.args.at c.index-table.result.now h.found h.there h.uses h.locked h.looks c.in_ok-names.names c.in_ok-rows.rows names (rw c.deref.ensures.value at c.in_ok-rows.ensures.rows) c.len-entry.result q fits (c.len-entry.ensures.past ∙ ap length looked) still (c.note_heavy-2.ensures.tables ∙ c.note_heavy.ensures.tables) past_is in
    done_went _ _ _ _ _ _ acted.stage (omega arith) acted.more c.done.ensures.rows c.done.ensures.went

pub returns-clause-bounded : goal.returns-clause-bounded
returns-clause-bounded g c =
    let there = (has_table c.args.terms.now (parts_of c.args.machine.now) c.args.session c.args.state c.args.xact (statements.Select c.requires.locked.0) c.requires.locked.0 c.args.at c.index-table.result.now c.requires.locked.1 refl c.index-table.ensures).there in
    omega (arith, rows_within _ (parts_of c.args.machine.now) c.args.at c.index-table.result.now c.requires.locked.1.uses.kept there, c.rows_of.ensures.bounded)
