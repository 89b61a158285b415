-- The laws hold.
use Rattle.amf_text.proofs.Faults.{fault_laws}
use Rattle.amf_text.proofs.facts.fault_laws.Goals as goal

pub returns : goal.returns
returns c = fault_laws
