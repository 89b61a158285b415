-- Messages that were added one after another stand so.
use Rattle.flex_msgs.proofs.Batched.{batch_law}
use Rattle.flex_msgs.proofs.facts.batch_law.Goals as goal

pub returns : goal.returns
returns c = batch_law
