use Rattle.std.proofs.Common.{◌≡◌, ℕ, ◌+◌, ◌∷◌, length, ◌∙◌, ap, arith, refl, sym}
use Rattle.al_history.specs.declared.entry.Entry.TheVariants.{Look, Add}
use Rattle.al_history.specs.declared.statement.Statement.TheVariants as statements
use Rattle.al_history.specs.Past.{Past, past_of}
use Rattle.al_history.specs.Weight.{row_weight}
use Rattle.al_engine.specs.Kept.{Parts, parts_of}
use Rattle.al_engine.proofs.AskLemmas.{pushed, past_same}
use Rattle.al_engine.proofs.StatementLemmas.{StaysBut, stays, done_went, refused_went}
use Rattle.al_engine.proofs.UseLemmas.{has_table, first_told, second_told, over_so}
use Rattle.al_engine.proofs.ActLemmas.{insert_fails, insert_acts}
use Rattle.al_engine.proofs.statements.insert.Goals as goal

pub refuse-requires-clause-amid : goal.refuse-requires-clause-amid
refuse-requires-clause-amid c =
    let h = has_table c.args.terms.now (parts_of c.args.machine.now) c.args.session c.args.state c.args.xact (statements.Insert c.requires.locked.0 c.args.written.now) c.requires.locked.0 c.args.at c.index-table.result.now c.requires.locked.1 refl c.index-table.ensures in
    let q : Parts = parts_of c.note_heavy.new.machine in
    let past_is : past_of q.journal ≡ Look c.args.xact ∷ past_of c.args.machine.now.journal = pushed _ _ c.reserve.new.self c.args.machine.now.journal c.note_heavy.ensures.past c.in_ok-reserve.ensures.entries in
    let still : StaysBut (parts_of c.args.machine.now) q = stays (parts_of c.args.machine.now) q _ past_is c.note_heavy.ensures.sessions c.note_heavy.ensures.locks c.note_heavy.ensures.committed (omega (arith, c.note_heavy.ensures.room, c.in_ok-reserve.ensures.ok)) refl refl (omega (arith, c.note_heavy.ensures.weight, c.requires.locked.1.uses.kept.sound.weighed)) in
    let failed = insert_fails _ _ _ _ _ _ c.args.at c.index-table.result.now h.found h.there c.args.written.now h.uses h.locked h.looks c.in_ok-columns.columns (rw c.deref.ensures.value at c.in_ok-columns.ensures) c.in-Some.cause q (first_told _ _ c.in-Some.cause (sym c.in-Some.is ∙ (rw (c.as_slice.ensures, c.len.ensures) at c.in_ok-cause.ensures))) still c.note_heavy.ensures.tables past_is in
    failed.amid

pub refuse-requires-clause-refused : goal.refuse-requires-clause-refused
refuse-requires-clause-refused c =
    let h = has_table c.args.terms.now (parts_of c.args.machine.now) c.args.session c.args.state c.args.xact (statements.Insert c.requires.locked.0 c.args.written.now) c.requires.locked.0 c.args.at c.index-table.result.now c.requires.locked.1 refl c.index-table.ensures in
    let q : Parts = parts_of c.note_heavy.new.machine in
    let past_is : past_of q.journal ≡ Look c.args.xact ∷ past_of c.args.machine.now.journal = pushed _ _ c.reserve.new.self c.args.machine.now.journal c.note_heavy.ensures.past c.in_ok-reserve.ensures.entries in
    let still : StaysBut (parts_of c.args.machine.now) q = stays (parts_of c.args.machine.now) q _ past_is c.note_heavy.ensures.sessions c.note_heavy.ensures.locks c.note_heavy.ensures.committed (omega (arith, c.note_heavy.ensures.room, c.in_ok-reserve.ensures.ok)) refl refl (omega (arith, c.note_heavy.ensures.weight, c.requires.locked.1.uses.kept.sound.weighed)) in
    let failed = insert_fails _ _ _ _ _ _ c.args.at c.index-table.result.now h.found h.there c.args.written.now h.uses h.locked h.looks c.in_ok-columns.columns (rw c.deref.ensures.value at c.in_ok-columns.ensures) c.in-Some.cause q (first_told _ _ c.in-Some.cause (sym c.in-Some.is ∙ (rw (c.as_slice.ensures, c.len.ensures) at c.in_ok-cause.ensures))) still c.note_heavy.ensures.tables past_is in
    failed.refused

pub returns-in-Some-clause-went : goal.returns-in-Some-clause-went
returns-in-Some-clause-went c =
    let h = has_table c.args.terms.now (parts_of c.args.machine.now) c.args.session c.args.state c.args.xact (statements.Insert c.requires.locked.0 c.args.written.now) c.requires.locked.0 c.args.at c.index-table.result.now c.requires.locked.1 refl c.index-table.ensures in
    let q : Parts = parts_of c.note_heavy.new.machine in
    let past_is : past_of q.journal ≡ Look c.args.xact ∷ past_of c.args.machine.now.journal = pushed _ _ c.reserve.new.self c.args.machine.now.journal c.note_heavy.ensures.past c.in_ok-reserve.ensures.entries in
    let still : StaysBut (parts_of c.args.machine.now) q = stays (parts_of c.args.machine.now) q _ past_is c.note_heavy.ensures.sessions c.note_heavy.ensures.locks c.note_heavy.ensures.committed (omega (arith, c.note_heavy.ensures.room, c.in_ok-reserve.ensures.ok)) refl refl (omega (arith, c.note_heavy.ensures.weight, c.requires.locked.1.uses.kept.sound.weighed)) in
    let failed = insert_fails _ _ _ _ _ _ c.args.at c.index-table.result.now h.found h.there c.args.written.now h.uses h.locked h.looks c.in_ok-columns.columns (rw c.deref.ensures.value at c.in_ok-columns.ensures) c.in-Some.cause q (first_told _ _ c.in-Some.cause (sym c.in-Some.is ∙ (rw (c.as_slice.ensures, c.len.ensures) at c.in_ok-cause.ensures))) still c.note_heavy.ensures.tables past_is in
    refused_went _ _ _ _ _ failed.stage failed.more c.refuse.ensures.went

pub refuse-requires-in-Some-over_limit-clause-amid : goal.refuse-requires-in-Some-over_limit-clause-amid
refuse-requires-in-Some-over_limit-clause-amid c =
    let h = has_table c.args.terms.now (parts_of c.args.machine.now) c.args.session c.args.state c.args.xact (statements.Insert c.requires.locked.0 c.args.written.now) c.requires.locked.0 c.args.at c.index-table.result.now c.requires.locked.1 refl c.index-table.ensures in
    let q : Parts = parts_of c.note_heavy-in-Some-over_limit.new.machine in
    let past_is : past_of q.journal ≡ Look c.args.xact ∷ past_of c.args.machine.now.journal = pushed _ _ c.reserve.new.self c.args.machine.now.journal c.note_heavy-in-Some-over_limit.ensures.past c.in_ok-reserve.ensures.entries in
    let still : StaysBut (parts_of c.args.machine.now) q = stays (parts_of c.args.machine.now) q _ past_is c.note_heavy-in-Some-over_limit.ensures.sessions c.note_heavy-in-Some-over_limit.ensures.locks c.note_heavy-in-Some-over_limit.ensures.committed (omega (arith, c.note_heavy-in-Some-over_limit.ensures.room, c.in_ok-reserve.ensures.ok)) refl refl (omega (arith, c.note_heavy-in-Some-over_limit.ensures.weight, c.requires.locked.1.uses.kept.sound.weighed)) in
    let failed = insert_fails _ _ _ _ _ _ c.args.at c.index-table.result.now h.found h.there c.args.written.now h.uses h.locked h.looks c.in_ok-columns.columns (rw c.deref.ensures.value at c.in_ok-columns.ensures) c.in-Some-over_limit.cause q (second_told _ _ _ (sym (rw (c.as_slice.ensures, c.len.ensures) at c.in_ok-cause.ensures) ∙ c.in_default.is) (sym c.in-Some-over_limit.is ∙ (over_so _ _ _ _ _ _ c.in_ok-over_limit.ensures c.in_ok-so_far.ensures (c.in_ok-weight.ensures ∙ ap (λ (n : ℕ). 1 + n) (c.in_ok-row_weight.ensures ∙ ap row_weight (c.as_slice-3.ensures ∙ (rw c.as_slice-2.ensures at c.in_ok-row.ensures))))))) still c.note_heavy-in-Some-over_limit.ensures.tables past_is in
    failed.amid

pub refuse-requires-in-Some-over_limit-clause-refused : goal.refuse-requires-in-Some-over_limit-clause-refused
refuse-requires-in-Some-over_limit-clause-refused c =
    let h = has_table c.args.terms.now (parts_of c.args.machine.now) c.args.session c.args.state c.args.xact (statements.Insert c.requires.locked.0 c.args.written.now) c.requires.locked.0 c.args.at c.index-table.result.now c.requires.locked.1 refl c.index-table.ensures in
    let q : Parts = parts_of c.note_heavy-in-Some-over_limit.new.machine in
    let past_is : past_of q.journal ≡ Look c.args.xact ∷ past_of c.args.machine.now.journal = pushed _ _ c.reserve.new.self c.args.machine.now.journal c.note_heavy-in-Some-over_limit.ensures.past c.in_ok-reserve.ensures.entries in
    let still : StaysBut (parts_of c.args.machine.now) q = stays (parts_of c.args.machine.now) q _ past_is c.note_heavy-in-Some-over_limit.ensures.sessions c.note_heavy-in-Some-over_limit.ensures.locks c.note_heavy-in-Some-over_limit.ensures.committed (omega (arith, c.note_heavy-in-Some-over_limit.ensures.room, c.in_ok-reserve.ensures.ok)) refl refl (omega (arith, c.note_heavy-in-Some-over_limit.ensures.weight, c.requires.locked.1.uses.kept.sound.weighed)) in
    let failed = insert_fails _ _ _ _ _ _ c.args.at c.index-table.result.now h.found h.there c.args.written.now h.uses h.locked h.looks c.in_ok-columns.columns (rw c.deref.ensures.value at c.in_ok-columns.ensures) c.in-Some-over_limit.cause q (second_told _ _ _ (sym (rw (c.as_slice.ensures, c.len.ensures) at c.in_ok-cause.ensures) ∙ c.in_default.is) (sym c.in-Some-over_limit.is ∙ (over_so _ _ _ _ _ _ c.in_ok-over_limit.ensures c.in_ok-so_far.ensures (c.in_ok-weight.ensures ∙ ap (λ (n : ℕ). 1 + n) (c.in_ok-row_weight.ensures ∙ ap row_weight (c.as_slice-3.ensures ∙ (rw c.as_slice-2.ensures at c.in_ok-row.ensures))))))) still c.note_heavy-in-Some-over_limit.ensures.tables past_is in
    failed.refused

pub returns-in-Some-over_limit-clause-went : goal.returns-in-Some-over_limit-clause-went
returns-in-Some-over_limit-clause-went c =
    let h = has_table c.args.terms.now (parts_of c.args.machine.now) c.args.session c.args.state c.args.xact (statements.Insert c.requires.locked.0 c.args.written.now) c.requires.locked.0 c.args.at c.index-table.result.now c.requires.locked.1 refl c.index-table.ensures in
    let q : Parts = parts_of c.note_heavy-in-Some-over_limit.new.machine in
    let past_is : past_of q.journal ≡ Look c.args.xact ∷ past_of c.args.machine.now.journal = pushed _ _ c.reserve.new.self c.args.machine.now.journal c.note_heavy-in-Some-over_limit.ensures.past c.in_ok-reserve.ensures.entries in
    let still : StaysBut (parts_of c.args.machine.now) q = stays (parts_of c.args.machine.now) q _ past_is c.note_heavy-in-Some-over_limit.ensures.sessions c.note_heavy-in-Some-over_limit.ensures.locks c.note_heavy-in-Some-over_limit.ensures.committed (omega (arith, c.note_heavy-in-Some-over_limit.ensures.room, c.in_ok-reserve.ensures.ok)) refl refl (omega (arith, c.note_heavy-in-Some-over_limit.ensures.weight, c.requires.locked.1.uses.kept.sound.weighed)) in
    let failed = insert_fails _ _ _ _ _ _ c.args.at c.index-table.result.now h.found h.there c.args.written.now h.uses h.locked h.looks c.in_ok-columns.columns (rw c.deref.ensures.value at c.in_ok-columns.ensures) c.in-Some-over_limit.cause q (second_told _ _ _ (sym (rw (c.as_slice.ensures, c.len.ensures) at c.in_ok-cause.ensures) ∙ c.in_default.is) (sym c.in-Some-over_limit.is ∙ (over_so _ _ _ _ _ _ c.in_ok-over_limit.ensures c.in_ok-so_far.ensures (c.in_ok-weight.ensures ∙ ap (λ (n : ℕ). 1 + n) (c.in_ok-row_weight.ensures ∙ ap row_weight (c.as_slice-3.ensures ∙ (rw c.as_slice-2.ensures at c.in_ok-row.ensures))))))) still c.note_heavy-in-Some-over_limit.ensures.tables past_is in
    refused_went _ _ _ _ _ failed.stage failed.more c.refuse-in-Some-over_limit.ensures.went

pub done-requires-clause-amid : goal.done-requires-clause-amid
done-requires-clause-amid c =
    let h = has_table c.args.terms.now (parts_of c.args.machine.now) c.args.session c.args.state c.args.xact (statements.Insert c.requires.locked.0 c.args.written.now) c.requires.locked.0 c.args.at c.index-table.result.now c.requires.locked.1 refl c.index-table.ensures in
    let q : Parts = parts_of c.note_heavy-3.new.machine in
    let looked : past_of c.note_heavy-2.new.machine.journal ≡ Look c.args.xact ∷ past_of c.args.machine.now.journal = pushed _ _ c.reserve.new.self c.args.machine.now.journal c.note_heavy-2.ensures.past c.in_ok-reserve.ensures.entries in
    let past_is : past_of q.journal ≡ Add c.args.xact c.index-table.result.now.number c.in_ok-row.row ∷ Look c.args.xact ∷ past_of c.args.machine.now.journal = c.note_heavy-3.ensures.past ∙ ap (λ (past : Past). Add c.args.xact c.index-table.result.now.number c.in_ok-row.row ∷ past) looked in
    let still : StaysBut (parts_of c.args.machine.now) q = stays (parts_of c.args.machine.now) q _ past_is (c.note_heavy-3.ensures.sessions ∙ c.note_heavy-2.ensures.sessions) (c.note_heavy-3.ensures.locks ∙ c.note_heavy-2.ensures.locks) (c.note_heavy-3.ensures.committed ∙ c.note_heavy-2.ensures.committed) (omega (arith, c.note_heavy-3.ensures.room, c.note_heavy-2.ensures.room, c.in_ok-reserve.ensures.ok)) refl refl (omega (arith, c.note_heavy-3.ensures.weight, c.note_heavy-2.ensures.weight, c.requires.locked.1.uses.kept.sound.weighed, c.in_ok-weight.ensures, rw c.as_slice-3.ensures at c.in_ok-row_weight.ensures)) in
    let place : c.len-2.result + 1 ≡ length (past_of c.args.machine.now.journal) + 1 = ap (λ n. n + 1) (c.len-2.ensures.past ∙ ap length (past_same c.reserve.new.self c.args.machine.now.journal c.in_ok-reserve.ensures.entries)) in
    let fits = sym (second_told _ _ _ (sym (rw (c.as_slice.ensures, c.len.ensures) at c.in_ok-cause.ensures) ∙ c.in_default.is) (over_so _ _ _ _ _ _ c.in_ok-over_limit.ensures c.in_ok-so_far.ensures (c.in_ok-weight.ensures ∙ ap (λ (n : ℕ). 1 + n) (c.in_ok-row_weight.ensures ∙ ap row_weight (c.as_slice-3.ensures ∙ (rw c.as_slice-2.ensures at c.in_ok-row.ensures)))))) ∙ c.in_default-over_limit.is in
    let acted = insert_acts _ _ _ _ _ _ c.args.at c.index-table.result.now h.found h.there c.args.written.now h.uses h.locked h.looks c.in_ok-columns.columns (rw c.deref.ensures.value at c.in_ok-columns.ensures) fits c.in_ok-row.row (rw c.as_slice-2.ensures at c.in_ok-row.ensures) (record { number = c.len-2.result + 1; maker = c.args.xact; values = c.in_ok-values.values }) q place refl (rw (c.deref.ensures.value, c.as_slice-4.ensures) at c.in_ok-values.ensures) still (c.note_heavy-3.ensures.tables ∙ (c.note_heavy-2.ensures.tables ∙ (rw h.there at c.in_ok-push_row.ensures.ok))) past_is in
    acted.amid

pub done-requires-clause-done : goal.done-requires-clause-done
done-requires-clause-done c =
    let h = has_table c.args.terms.now (parts_of c.args.machine.now) c.args.session c.args.state c.args.xact (statements.Insert c.requires.locked.0 c.args.written.now) c.requires.locked.0 c.args.at c.index-table.result.now c.requires.locked.1 refl c.index-table.ensures in
    let q : Parts = parts_of c.note_heavy-3.new.machine in
    let looked : past_of c.note_heavy-2.new.machine.journal ≡ Look c.args.xact ∷ past_of c.args.machine.now.journal = pushed _ _ c.reserve.new.self c.args.machine.now.journal c.note_heavy-2.ensures.past c.in_ok-reserve.ensures.entries in
    let past_is : past_of q.journal ≡ Add c.args.xact c.index-table.result.now.number c.in_ok-row.row ∷ Look c.args.xact ∷ past_of c.args.machine.now.journal = c.note_heavy-3.ensures.past ∙ ap (λ (past : Past). Add c.args.xact c.index-table.result.now.number c.in_ok-row.row ∷ past) looked in
    let still : StaysBut (parts_of c.args.machine.now) q = stays (parts_of c.args.machine.now) q _ past_is (c.note_heavy-3.ensures.sessions ∙ c.note_heavy-2.ensures.sessions) (c.note_heavy-3.ensures.locks ∙ c.note_heavy-2.ensures.locks) (c.note_heavy-3.ensures.committed ∙ c.note_heavy-2.ensures.committed) (omega (arith, c.note_heavy-3.ensures.room, c.note_heavy-2.ensures.room, c.in_ok-reserve.ensures.ok)) refl refl (omega (arith, c.note_heavy-3.ensures.weight, c.note_heavy-2.ensures.weight, c.requires.locked.1.uses.kept.sound.weighed, c.in_ok-weight.ensures, rw c.as_slice-3.ensures at c.in_ok-row_weight.ensures)) in
    let place : c.len-2.result + 1 ≡ length (past_of c.args.machine.now.journal) + 1 = ap (λ n. n + 1) (c.len-2.ensures.past ∙ ap length (past_same c.reserve.new.self c.args.machine.now.journal c.in_ok-reserve.ensures.entries)) in
    let fits = sym (second_told _ _ _ (sym (rw (c.as_slice.ensures, c.len.ensures) at c.in_ok-cause.ensures) ∙ c.in_default.is) (over_so _ _ _ _ _ _ c.in_ok-over_limit.ensures c.in_ok-so_far.ensures (c.in_ok-weight.ensures ∙ ap (λ (n : ℕ). 1 + n) (c.in_ok-row_weight.ensures ∙ ap row_weight (c.as_slice-3.ensures ∙ (rw c.as_slice-2.ensures at c.in_ok-row.ensures)))))) ∙ c.in_default-over_limit.is in
    let acted = insert_acts _ _ _ _ _ _ c.args.at c.index-table.result.now h.found h.there c.args.written.now h.uses h.locked h.looks c.in_ok-columns.columns (rw c.deref.ensures.value at c.in_ok-columns.ensures) fits c.in_ok-row.row (rw c.as_slice-2.ensures at c.in_ok-row.ensures) (record { number = c.len-2.result + 1; maker = c.args.xact; values = c.in_ok-values.values }) q place refl (rw (c.deref.ensures.value, c.as_slice-4.ensures) at c.in_ok-values.ensures) still (c.note_heavy-3.ensures.tables ∙ (c.note_heavy-2.ensures.tables ∙ (rw h.there at c.in_ok-push_row.ensures.ok))) past_is in
    acted.done

pub returns-clause-went : goal.returns-clause-went
returns-clause-went c =
    let h = has_table c.args.terms.now (parts_of c.args.machine.now) c.args.session c.args.state c.args.xact (statements.Insert c.requires.locked.0 c.args.written.now) c.requires.locked.0 c.args.at c.index-table.result.now c.requires.locked.1 refl c.index-table.ensures in
    let q : Parts = parts_of c.note_heavy-3.new.machine in
    let looked : past_of c.note_heavy-2.new.machine.journal ≡ Look c.args.xact ∷ past_of c.args.machine.now.journal = pushed _ _ c.reserve.new.self c.args.machine.now.journal c.note_heavy-2.ensures.past c.in_ok-reserve.ensures.entries in
    let past_is : past_of q.journal ≡ Add c.args.xact c.index-table.result.now.number c.in_ok-row.row ∷ Look c.args.xact ∷ past_of c.args.machine.now.journal = c.note_heavy-3.ensures.past ∙ ap (λ (past : Past). Add c.args.xact c.index-table.result.now.number c.in_ok-row.row ∷ past) looked in
    let still : StaysBut (parts_of c.args.machine.now) q = stays (parts_of c.args.machine.now) q _ past_is (c.note_heavy-3.ensures.sessions ∙ c.note_heavy-2.ensures.sessions) (c.note_heavy-3.ensures.locks ∙ c.note_heavy-2.ensures.locks) (c.note_heavy-3.ensures.committed ∙ c.note_heavy-2.ensures.committed) (omega (arith, c.note_heavy-3.ensures.room, c.note_heavy-2.ensures.room, c.in_ok-reserve.ensures.ok)) refl refl (omega (arith, c.note_heavy-3.ensures.weight, c.note_heavy-2.ensures.weight, c.requires.locked.1.uses.kept.sound.weighed, c.in_ok-weight.ensures, rw c.as_slice-3.ensures at c.in_ok-row_weight.ensures)) in
    let place : c.len-2.result + 1 ≡ length (past_of c.args.machine.now.journal) + 1 = ap (λ n. n + 1) (c.len-2.ensures.past ∙ ap length (past_same c.reserve.new.self c.args.machine.now.journal c.in_ok-reserve.ensures.entries)) in
    let fits = sym (second_told _ _ _ (sym (rw (c.as_slice.ensures, c.len.ensures) at c.in_ok-cause.ensures) ∙ c.in_default.is) (over_so _ _ _ _ _ _ c.in_ok-over_limit.ensures c.in_ok-so_far.ensures (c.in_ok-weight.ensures ∙ ap (λ (n : ℕ). 1 + n) (c.in_ok-row_weight.ensures ∙ ap row_weight (c.as_slice-3.ensures ∙ (rw c.as_slice-2.ensures at c.in_ok-row.ensures)))))) ∙ c.in_default-over_limit.is in
    let acted = insert_acts _ _ _ _ _ _ c.args.at c.index-table.result.now h.found h.there c.args.written.now h.uses h.locked h.looks c.in_ok-columns.columns (rw c.deref.ensures.value at c.in_ok-columns.ensures) fits c.in_ok-row.row (rw c.as_slice-2.ensures at c.in_ok-row.ensures) (record { number = c.len-2.result + 1; maker = c.args.xact; values = c.in_ok-values.values }) q place refl (rw (c.deref.ensures.value, c.as_slice-4.ensures) at c.in_ok-values.ensures) still (c.note_heavy-3.ensures.tables ∙ (c.note_heavy-2.ensures.tables ∙ (rw h.there at c.in_ok-push_row.ensures.ok))) past_is in
    done_went _ _ _ _ _ _ acted.stage (omega arith) acted.more c.done.ensures.rows c.done.ensures.went
