use Rattle.std.proofs.Common.{◌∙◌, sym}
use Rattle.std.proofs.lemmas.Bool.{iff_false}
use Rattle.al_cycles.specs.Blocks.{blocks}
use Rattle.al_cycles.proofs.Layers.{already, left-out, placed, read-known, reaches-same}
use Rattle.al_cycles.proofs.rounds.place.Goals as goal

pub returns-then-is_some-clause-amid : goal.returns-then-is_some-clause-amid
returns-then-is_some-clause-amid c =
    already (blocks c.args.locks.now c.args.waits.now) c.args.locks.now.sessions c.args.end c.args.between c.args.session c.args.table.now.items c.requires.amid
    (read-known c.args.table.now.items c.args.session _ _ _ c.requires.amid.len c.requires.known c.index.ensures (sym c.is_some.ensures ∙ c.if-is_some.true))

pub returns-then-not-reaches-clause-amid : goal.returns-then-not-reaches-clause-amid
returns-then-not-reaches-clause-amid c =
    left-out (blocks c.args.locks.now c.args.waits.now) c.args.locks.now.sessions c.args.end c.args.between c.args.session c.args.table.now.items c.requires.amid
    (read-known c.args.table.now.items c.args.session _ _ _ c.requires.amid.len c.requires.known c.index.ensures (sym c.is_some.ensures ∙ c.if-is_some.false))
    (λ h. iff_false c.reaches.ensures c.if-not-reaches.true
    (reaches-same (blocks c.args.locks.now c.args.waits.now) c.args.locks.now.sessions c.args.end _ _ c.args.session c.args.between (sym c.deref.ensures.value) h))

pub returns-clause-amid : goal.returns-clause-amid
returns-clause-amid c =
    placed (blocks c.args.locks.now c.args.waits.now) c.args.locks.now.sessions c.args.end c.args.between c.args.session c.args.table.now.items c.requires.amid c.requires.known
    (read-known c.args.table.now.items c.args.session _ _ _ c.requires.amid.len c.requires.known c.index.ensures (sym c.is_some.ensures ∙ c.if-is_some.false))
    (reaches-same (blocks c.args.locks.now c.args.waits.now) c.args.locks.now.sessions c.args.end _ _ c.args.session c.args.between c.deref.ensures.value (c.reaches.ensures.0 c.if-not-reaches.false))
