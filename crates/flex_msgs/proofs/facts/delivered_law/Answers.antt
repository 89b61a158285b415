-- A graph that holds a delivered message is the one that is said of the stored one.
use Rattle.flex_msgs.proofs.AnsweredAlike.{delivered_law}
use Rattle.flex_msgs.proofs.facts.delivered_law.Goals as goal

pub returns : goal.returns
returns c = delivered_law
