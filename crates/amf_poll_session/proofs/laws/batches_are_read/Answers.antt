-- What the gateway answers to a poll.
use Rattle.amf_poll_session.proofs.Batched.{batches_are_read}
use Rattle.amf_poll_session.proofs.laws.batches_are_read.Goals as goal

pub returns : goal.returns
returns c = batches_are_read
