use Rattle.std.proofs.Common.{◌≡◌, Bor, ℕ, List, true, false, ◌∙◌, sym, ap, option_map}
use Rattle.al_queue.specs.Waits.{holds}
use Rattle.al_engine.specs.declared.stored.StoredTable.{StoredTable}
use Rattle.al_engine.specs.Kept.{parts_of}
use Rattle.al_engine.specs.Using.{mode_of}
use Rattle.al_engine.proofs.Amid.{amid_begins}
use Rattle.al_engine.proofs.AskLemmas.{over_uncut}
use Rattle.al_engine.proofs.UseLemmas.{not_held, is_held_so, found_of, there_of, none_of, missing, lacks_lock, look_refused, uses_of, one_table}
use Rattle.al_engine.proofs.statements.use_table.Goals as goal

pub unknown-requires-clause-refused : goal.unknown-requires-clause-refused
unknown-requires-clause-refused g c =
    let u = uses_of c.args.terms.now (parts_of c.args.machine.now) c.args.session c.args.state c.args.xact c.args.statement.now c.unwrap-name.result.now c.requires.kept c.requires.state c.requires.goes c.requires.in_xact c.requires.statement (sym c.used_name.ensures ∙ ap (option_map (λ (n : Bor (List ℕ)). n.now)) c.unwrap-name.ensures) in
    missing _ _ _ _ _ _ _ _ u (none_of (parts_of c.args.machine.now) c.args.xact c.unwrap-name.result.now c.deref-2.result.now c.deref.result.now c.deref-2.ensures.value c.deref.ensures.value c.in_default.ensures.none)

pub ask-requires-clause-lacks : goal.ask-requires-clause-lacks
ask-requires-clause-lacks g c =
    let u = uses_of c.args.terms.now (parts_of c.args.machine.now) c.args.session c.args.state c.args.xact c.args.statement.now c.unwrap-name.result.now c.requires.kept c.requires.state c.requires.goes c.requires.in_xact c.requires.statement (sym c.used_name.ensures ∙ ap (option_map (λ (n : Bor (List ℕ)). n.now)) c.unwrap-name.ensures) in
    let found = found_of (parts_of c.args.machine.now) c.args.xact c.unwrap-name.result.now c.deref-2.result.now c.deref.result.now c.in-Some.at c.deref-2.ensures.value c.deref.ensures.value c.in-Some.ensures.found in
    let there = there_of c.deref-2.result.now c.args.machine.now.tables.items c.in-Some.at c.index.result.now c.deref-2.ensures.value c.in-Some.ensures.within c.index.ensures in
    let none : holds c.args.machine.now.locks.locks c.args.session c.index.result.now.number (mode_of c.args.statement.now) ≡ false = rw c.mode_of-mode.ensures at (not_held _ (sym c.lacks.ensures ∙ c.if-lacks.true)) in
    rw c.mode_of-mode.ensures (lacks_lock _ _ _ _ _ _ _ _ u c.in-Some.at c.index.result.now found there none)

pub refuse-requires-clause-amid : goal.refuse-requires-clause-amid
refuse-requires-clause-amid g c = rw (over_uncut _ _ _ _ (sym c.in-Some-2.is ∙ c.in_ok-cause.ensures)) (amid_begins _ _ _ c.requires.kept)

pub refuse-requires-clause-refused : goal.refuse-requires-clause-refused
refuse-requires-clause-refused g c =
    let u = uses_of c.args.terms.now (parts_of c.args.machine.now) c.args.session c.args.state c.args.xact c.args.statement.now c.unwrap-name.result.now c.requires.kept c.requires.state c.requires.goes c.requires.in_xact c.requires.statement (sym c.used_name.ensures ∙ ap (option_map (λ (n : Bor (List ℕ)). n.now)) c.unwrap-name.ensures) in
    let found = found_of (parts_of c.args.machine.now) c.args.xact c.unwrap-name.result.now c.deref-2.result.now c.deref.result.now c.in-Some.at c.deref-2.ensures.value c.deref.ensures.value c.in-Some.ensures.found in
    let there = there_of c.deref-2.result.now c.args.machine.now.tables.items c.in-Some.at c.index.result.now c.deref-2.ensures.value c.in-Some.ensures.within c.index.ensures in
    let locked : holds c.args.machine.now.locks.locks c.args.session c.index.result.now.number (mode_of c.args.statement.now) ≡ true = rw c.mode_of-mode.ensures at (is_held_so _ (sym c.lacks.ensures ∙ c.if-lacks.false)) in
    look_refused _ _ _ _ _ _ _ _ u c.in-Some.at c.index.result.now found there locked c.in-Some-2.cause (sym c.in-Some-2.is ∙ c.in_ok-cause.ensures)

pub act-requires-clause-locked : goal.act-requires-clause-locked
act-requires-clause-locked g c =
    let u = uses_of c.args.terms.now (parts_of c.args.machine.now) c.args.session c.args.state c.args.xact c.args.statement.now c.unwrap-name.result.now c.requires.kept c.requires.state c.requires.goes c.requires.in_xact c.requires.statement (sym c.used_name.ensures ∙ ap (option_map (λ (n : Bor (List ℕ)). n.now)) c.unwrap-name.ensures) in
    let found = found_of (parts_of c.args.machine.now) c.args.xact c.unwrap-name.result.now c.deref-2.result.now c.deref.result.now c.in-Some.at c.deref-2.ensures.value c.deref.ensures.value c.in-Some.ensures.found in
    let there = there_of c.deref-2.result.now c.args.machine.now.tables.items c.in-Some.at c.index.result.now c.deref-2.ensures.value c.in-Some.ensures.within c.index.ensures in
    let locked : holds c.args.machine.now.locks.locks c.args.session c.index.result.now.number (mode_of c.args.statement.now) ≡ true = rw c.mode_of-mode.ensures at (is_held_so _ (sym c.lacks.ensures ∙ c.if-lacks.false)) in
    record {
      name = c.unwrap-name.result.now;
      name_is = sym c.used_name.ensures ∙ ap (option_map (λ (n : Bor (List ℕ)). n.now)) c.unwrap-name.ensures;
      uses = u;
      within = rw c.deref-2.ensures.value at c.in-Some.ensures.within;
      found = found;
      locked = λ table also. one_table c.args.machine.now.tables.items c.in-Some.at c.index.result.now table (λ (t : StoredTable). holds c.args.machine.now.locks.locks c.args.session t.number (mode_of c.args.statement.now) ≡ true) there also locked;
      fits = sym c.in_ok-cause.ensures ∙ c.in_default-2.is;
    }
