-- The headers so far, and those that are left.
use Rattle.std.proofs.Common.{◌≡◌, ◌++◌, map}
use Rattle.amf_packet.specs.Content.{header_of as header_seen}
use Rattle.amf_text_pages.specs.Written.{header_written}
use Rattle.amf_json.specs.JsonTexts.{header_told}
use Rattle.amf_bytes.proofs.packets.headers_of.Given as goal

abbrev pub invariant-loop-header : goal.invariant-loop-header
invariant-loop-header l = map header_told (map header_seen l.headers.items) ++ map header_written l.header-iterator.rest.items ≡ map header_written l.fn.written.items
