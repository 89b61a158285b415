-- The clients are those of the lines.
use Rattle.amf_broker.proofs.switchboard.Switchboard.awake_from.Goals as goal

pub returns-clause-awake : goal.returns-clause-awake
returns-clause-awake c = rw (← c.self.view_is) c.awake_until.ensures.awake
