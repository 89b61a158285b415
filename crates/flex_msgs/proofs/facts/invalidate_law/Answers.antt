-- A graph that holds an invalidate is the one that is said of its texts.
use Rattle.flex_msgs.proofs.AnsweredAlike.{invalidate_law}
use Rattle.flex_msgs.proofs.facts.invalidate_law.Goals as goal

pub returns : goal.returns
returns c = invalidate_law
