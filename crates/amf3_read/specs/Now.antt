-- Where the loop over the open nodes stands. A device by which verdicts are proved.
use Rattle.amf_graph.specs.declared.value.NodeId.{NodeId}
use Rattle.amf_graph.specs.declared.value.Value.{Value}
use Rattle.amf3_read.specs.declared.opening.Parts.{Parts}

-- a value is wanted, or was read, or so much of an open node is still to be read
pub data Now : Type 0 where
  wanted : Now
  given : (v : Value) → Now
  unfinished : (node : NodeId) (todo : Parts) → Now
