-- A graph that holds an error is the one that is said of its texts.
use Rattle.flex_msgs.proofs.AnsweredAlike.{error_law}
use Rattle.flex_msgs.proofs.facts.error_law.Goals as goal

pub returns : goal.returns
returns c = error_law
