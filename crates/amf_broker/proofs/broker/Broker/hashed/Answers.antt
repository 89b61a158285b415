-- A new broker is in the first state.
use Rattle.amf_broker.specs.State.{first}
use Rattle.amf_broker.proofs.broker.Broker.hashed.Goals as goal

pub returns : goal.returns
unfolding first
returns c = rw c.new-board.ensures
