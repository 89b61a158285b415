use Rattle.std.proofs.Common.{refl}
use Rattle.amf_gateway.proofs.Coming.{nothing_served}
use Rattle.amf_gateway.proofs.links.answer_link.Goals as goal

pub returns-in-Err-clause-served : goal.returns-in-Err-clause-served
returns-in-Err-clause-served g c = nothing_served _ g.met.O.Outside.hands_none _ _ _ _ _ _ _ _ refl
