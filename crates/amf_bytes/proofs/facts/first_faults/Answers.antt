-- The law holds.
use Rattle.amf_bytes.proofs.FirstFaults.{first_faults}
use Rattle.amf_bytes.proofs.facts.first_faults.Goals as goal

pub returns : goal.returns
returns c = first_faults
