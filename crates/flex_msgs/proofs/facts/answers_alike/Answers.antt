-- What is answered for isomorphic graphs is isomorphic.
use Rattle.flex_msgs.proofs.GraphsAlike.{answers_alike}
use Rattle.flex_msgs.proofs.facts.answers_alike.Goals as goal

pub returns : goal.returns
returns c = answers_alike
