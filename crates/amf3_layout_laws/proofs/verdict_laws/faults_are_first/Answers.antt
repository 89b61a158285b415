-- A fault is the first field that is wrong.
use Rattle.amf_io.proofs.Inputs.{fault_is_first}
use Rattle.amf3_spelling.specs.Reads3.{IsReading3}
use Rattle.amf3_layout_laws.proofs.verdict_laws.faults_are_first.Goals as goal

pub returns : goal.returns
returns c = λ a t built valid base at input reason. fault_is_first (IsReading3 a t) base at input reason
