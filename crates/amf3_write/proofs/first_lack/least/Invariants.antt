use Rattle.std.proofs.Common.{take}
use Rattle.amf_graph.specs.Renumbered.{numbers_of}
use Rattle.amf_graph.specs.Rooted.{content}
use Rattle.amf3_write.specs.Found.{IsLeast}
use Rattle.amf3_write.specs.PartLacks.{PartLacks3}
use Rattle.amf3_write.proofs.first_lack.least.Given as goal

abbrev pub invariant-loop-node : goal.invariant-loop-node
invariant-loop-node l = IsLeast (PartLacks3 (content l.graph) l.numbering (numbers_of (take l.node-index l.found))) l.least
