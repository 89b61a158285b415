use Rattle.std.proofs.Common.{arith}
use Rattle.amf_graph.specs.Reached.{IsWhole}
use Rattle.amf_packet.specs.declared.packet.Message.{Message as KeptMessage}
use Rattle.amf_packet.specs.Content.{body_of}
use Rattle.amf_packet.proofs.WholeReads.{all_next, all_taken}
use Rattle.amf_packet.proofs.unpacked.are_whole.Goals as goal

pub loop-message-preserved : goal.loop-message-preserved
loop-message-preserved c = all_next (λ (m : KeptMessage). IsWhole (body_of m.body).graph) c.args.messages.now c.loop-message.message-index c.message-item.result c.loop-message.invariant (omega arith) c.message-item.is c.is_whole.ensures

pub returns : goal.returns
returns c = all_taken (λ (m : KeptMessage). IsWhole (body_of m.body).graph) c.args.messages.now c.loop-message.message-index (omega arith) c.loop-message.invariant
