use Rattle.std.proofs.Common.{[], map, take}
use Rattle.amf_packet.specs.Content.{header_of}
use Rattle.amf_text_write.specs.declared.layout.Layout.{Layout}
use Rattle.amf_text_write.specs.PacketTexts.{AreHeaderTexts}
use Rattle.amf_json.specs.TextParts.{TellHeaders}
use Rattle.amf_json.proofs.packet.put_headers.Given as goal

abbrev pub invariant-loop-header : goal.invariant-loop-header
invariant-loop-header l = (layout : Layout) → AreHeaderTexts layout [] l.fn.texts → TellHeaders layout (map header_of (take l.header-index l.headers)) l.texts
