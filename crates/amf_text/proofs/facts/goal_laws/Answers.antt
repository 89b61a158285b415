-- The laws hold.
use Rattle.amf_text.proofs.Finish.{goal_laws}
use Rattle.amf_text.proofs.facts.goal_laws.Goals as goal

pub returns : goal.returns
returns c = goal_laws
