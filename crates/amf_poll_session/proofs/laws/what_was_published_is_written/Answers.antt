-- Both ends.
use Rattle.amf_poll_session.proofs.Delivering.{all_delivered}
use Rattle.amf_poll_session.proofs.laws.what_was_published_is_written.Goals as goal

pub returns : goal.returns
returns c = all_delivered c.each_is_taken_once.ensures c.delivery_holds.ensures
