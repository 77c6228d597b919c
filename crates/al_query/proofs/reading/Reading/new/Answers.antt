use Rattle.al_query.proofs.OriginRows.{reads_as}
use Rattle.al_query.proofs.reading.Reading.new.Goals as goal

pub returns-clause-as_shape : goal.returns-clause-as_shape
returns-clause-as_shape c = rw (c.in_ok-origins_of.ensures, c.slots.ensures) (reads_as c.args.shape.now.slots)
