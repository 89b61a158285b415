use Rattle.amf_poll_session.proofs.Bounds.{every_session}
use Rattle.amf_poll_session.proofs.laws.each_session.Goals as goal

pub returns : goal.returns
returns c = every_session
