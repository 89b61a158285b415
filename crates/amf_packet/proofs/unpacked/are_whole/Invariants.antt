use Rattle.std.proofs.Common.{take}
use Rattle.std.specs.List.{AllByRecursion}
use Rattle.amf_graph.specs.Reached.{IsWhole}
use Rattle.amf_packet.specs.Content.{body_of}
use Rattle.amf_packet.proofs.unpacked.are_whole.Given as goal

abbrev pub invariant-loop-message : goal.invariant-loop-message
invariant-loop-message l = AllByRecursion (λ m. IsWhole (body_of m.body).graph) (take l.message-index l.messages)
