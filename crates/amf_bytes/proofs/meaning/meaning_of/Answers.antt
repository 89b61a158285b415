-- What a text means can be told, and so it can be given to its writer.
use Rattle.std.proofs.Common.{◌≤◌, length, sym, ap, ◌∙◌, subst}
use Rattle.amf_wire.specs.Text.{IsText}
use Rattle.amf_graph.specs.Rooted.{content}
use Rattle.amf_packet.specs.Content.{packet_of}
use Rattle.amf_text.specs.Tellable.{IsTellable}
use Rattle.amf_text_pages.specs.declared.written.Written.{Written}
use Rattle.amf_text_pages.specs.Written.{document_written}
use Rattle.amf_json.proofs.FittedInputs.{is_holder}
use Rattle.amf_bytes.proofs.Ready.{packet_ready}
use Rattle.amf_bytes.proofs.meaning.meaning_of.Goals as goal

pub file_of-requires-clause-text : goal.file_of-requires-clause-text
file_of-requires-clause-text c =
    let t = subst (λ (w : Written). IsTellable (document_written w)) c.in-SharedObject.is (c.whole_laws.ensures.tellable c.requires.0 _ c.requires.1) in
    subst IsText (sym c.deref.ensures.value) t.0.0

pub file_of-requires-clause-short : goal.file_of-requires-clause-short
file_of-requires-clause-short c =
    let t = subst (λ (w : Written). IsTellable (document_written w)) c.in-SharedObject.is (c.whole_laws.ensures.tellable c.requires.0 _ c.requires.1) in
    subst (λ x. length x ≤ 65535) (sym c.deref.ensures.value) t.0.1

pub file_of-requires-clause-holder : goal.file_of-requires-clause-holder
file_of-requires-clause-holder c =
    let t = subst (λ (w : Written). IsTellable (document_written w)) c.in-SharedObject.is (c.whole_laws.ensures.tellable c.requires.0 _ c.requires.1) in
    (t.2, is_holder (content c.in-SharedObject.graph) t.2 t.1 t.3)

pub returns-in_ok-packet-in-Packet : goal.returns-in_ok-packet-in-Packet
returns-in_ok-packet-in-Packet c =
    let same = ap document_written c.in-Packet.is ∙ sym c.in_ok-packet-in-Packet.ensures in
    record { means = same; spellable = packet_ready (packet_of c.in_ok-packet-in-Packet.packet) (subst IsTellable same (c.whole_laws.ensures.tellable c.requires.0 _ c.requires.1)) }
