-- What was read of a text, as a document.
use Rattle.std.specs.Prelude.{map}
use Rattle.amf_graph.specs.Graph.{Graph}
use Rattle.amf_graph.specs.Rooted.{content}
use Rattle.amf_text.specs.Documents as documents
use Rattle.amf_text_pages.specs.declared.written.PacketForm.{PacketForm}
use Rattle.amf_text_pages.specs.declared.written.PacketForm.TheVariants as form
use Rattle.amf_text_pages.specs.declared.written.FileVersion.{FileVersion}
use Rattle.amf_text_pages.specs.declared.written.FileVersion.TheVariants as version
use Rattle.amf_text_pages.specs.declared.written.WrittenHeader.{WrittenHeader}
use Rattle.amf_text_pages.specs.declared.written.WrittenMessage.{WrittenMessage}
use Rattle.amf_text_pages.specs.declared.written.Written.{Written}
use Rattle.amf_text_pages.specs.declared.written.Written.TheVariants as written

abbrev pub form_named : PacketForm → documents.Form
form_named form.Plain = documents.plain
form_named form.Amf3 = documents.amf3
form_named form.Call = documents.call

abbrev pub version_named : FileVersion → documents.FileVersion
version_named version.Amf0 = documents.file0
version_named version.Amf3 = documents.file3

abbrev pub header_written : WrittenHeader → documents.Header Graph
header_written h = record { name = h.name.items; must = h.must; form = form_named h.form; graph = content h.graph }

abbrev pub message_written : WrittenMessage → documents.Message Graph
message_written m = record { target = m.target.items; response = m.response.items; form = form_named m.form; graph = content m.graph }

abbrev pub document_written : Written → documents.Document Graph
document_written (written.Value3 g) = documents.value3 (content g)
document_written (written.Value0 g) = documents.value0 (content g)
document_written (written.SharedObject name v g) = documents.file name.items (version_named v) (content g)
document_written (written.Packet v hs ms) = documents.packet v (map header_written hs.items) (map message_written ms.items)
