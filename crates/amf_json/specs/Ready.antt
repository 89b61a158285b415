-- What can be read back from its text: whole graphs of so few nodes that each label is short, and names, versions and counts that their fields have.
use Rattle.amf_graph.specs.Graph.{Graph}
use Rattle.amf_graph.specs.Reached.{IsWhole}
use Rattle.amf_packet.specs.Packet.{Packet}
use Rattle.amf_sol.specs.SharedObject.{Shared}
use Rattle.amf_text.specs.Documents.{Document}
use Rattle.amf_text.specs.DocumentLaws.{IsFew, HasFewNodes}
use Rattle.amf_text.specs.Tellable.{IsTellable}
use Rattle.amf_json.specs.JsonTexts.{packet_document, file_document}

abbrev pub IsReadyGraph : Graph → Type 0
IsReadyGraph g = IsWhole g × IsFew g

abbrev pub IsReady : Document Graph → Type 0
IsReady d = IsTellable d × HasFewNodes d

abbrev pub IsReadyPacket : Packet → Type 0
IsReadyPacket p = IsReady (packet_document p)

abbrev pub IsReadyFile : Shared → Type 0
IsReadyFile o = IsReady (file_document o)
