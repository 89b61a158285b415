use Rattle.std.proofs.Common.{refl, sym, ap, subst}
use Rattle.amf_wire.specs.Text.{IsText}
use Rattle.amf_graph.specs.Rooted.{content}
use Rattle.amf_packet.specs.declared.body.Body.{Body as KeptBody}
use Rattle.amf0_spelling.specs.declared.form.Form.TheVariants as form
use Rattle.amf_packet.specs.Content.{body_of, header_of}
use Rattle.amf_text_write.specs.declared.packets.PacketForm.TheVariants as told
use Rattle.amf_json.proofs.TextParts.{header_added}
use Rattle.amf_json.proofs.packet.put_header.Goals as goal

pub header-requires : goal.header-requires
header-requires c = subst IsText (sym c.as_bytes-name.ensures) c.requires

pub header-requires-in-Amf3 : goal.header-requires-in-Amf3
header-requires-in-Amf3 c = subst IsText (sym c.as_bytes-name.ensures) c.requires

pub header-requires-in-Plain : goal.header-requires-in-Plain
header-requires-in-Plain c = subst IsText (sym c.as_bytes-name.ensures) c.requires

pub returns-in-Call : goal.returns-in-Call
returns-in-Call c = header_added c.header.result (header_of c.args.header.now) c.as_bytes-name.result.now told.Call (content c.in-Call.graph) c.args.texts.now c.header.new.self (record { form = form.Call; graph = content c.in-Call.graph }) c.as_bytes-name.ensures (ap (λ (b : KeptBody). body_of b) c.in-Call.is) refl refl c.header.ensures

pub returns-in-Amf3 : goal.returns-in-Amf3
returns-in-Amf3 c = header_added c.header-in-Amf3.result (header_of c.args.header.now) c.as_bytes-name.result.now told.Amf3 (content c.in-Amf3.graph) c.args.texts.now c.header-in-Amf3.new.self (record { form = form.Amf3; graph = content c.in-Amf3.graph }) c.as_bytes-name.ensures (ap (λ (b : KeptBody). body_of b) c.in-Amf3.is) refl refl c.header-in-Amf3.ensures

pub returns-in_ok-low-in-Plain : goal.returns-in_ok-low-in-Plain
returns-in_ok-low-in-Plain c = header_added c.header-in-Plain.result (header_of c.args.header.now) c.as_bytes-name.result.now told.Plain (content c.in_ok-low-in-Plain.low) c.args.texts.now c.header-in-Plain.new.self (record { form = form.Plain; graph = content c.in-Plain.graph }) c.as_bytes-name.ensures (ap (λ (b : KeptBody). body_of b) c.in-Plain.is) refl c.in_ok-low-in-Plain.ensures c.header-in-Plain.ensures
