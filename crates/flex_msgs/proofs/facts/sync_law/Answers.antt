-- A graph that holds a sync is the one that is said of its batch.
use Rattle.flex_msgs.proofs.Batched.{sync_law}
use Rattle.flex_msgs.proofs.facts.sync_law.Goals as goal

pub returns : goal.returns
returns c = sync_law
