-- Only a subscribe has a destination.
use Rattle.flex_msgs.proofs.Written.{writes_none}
use Rattle.amf_poll_session.proofs.Requests.{no_destination}
use Rattle.amf_poll_session.proofs.asking.add_destination.Goals as goal

pub returns-in_default : goal.returns-in_default
returns-in_default c = record { writes = writes_none c.args.builder.now; value = no_destination c.args.builder.now c.args.destination.now c.args.request c.in_default.not-Subscribe }
