use Rattle.std.proofs.Common.{List, [], map, take}
use Rattle.amf_graph.specs.Graph.{Graph}
use Rattle.amf_packet.specs.Content.{message_of}
use Rattle.amf_text.specs.Documents as text
use Rattle.amf_text_write.specs.declared.layout.Layout.{Layout}
use Rattle.amf_text_write.specs.PacketTexts.{AreMessageTexts}
use Rattle.amf_json.specs.TextParts.{TellMessages}
use Rattle.amf_json.proofs.packet.put_messages.Given as goal

abbrev pub invariant-loop-message : goal.invariant-loop-message
invariant-loop-message l = (layout : Layout) (headers : List (text.Header Graph)) → AreMessageTexts layout headers [] l.fn.texts → TellMessages layout headers (map message_of (take l.message-index l.messages)) l.texts
