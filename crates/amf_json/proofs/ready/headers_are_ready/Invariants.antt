use Rattle.std.proofs.Common.{map, take}
use Rattle.amf_packet.specs.Content.{header_of}
use Rattle.amf_json.specs.TextParts.{AreReadyHeaders}
use Rattle.amf_json.proofs.ready.headers_are_ready.Given as goal

abbrev pub invariant-loop-header : goal.invariant-loop-header
invariant-loop-header l = AreReadyHeaders (map header_of (take l.header-index l.headers))
