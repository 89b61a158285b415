use Rattle.std.proofs.Common.{refl, sym, ap, subst}
use Rattle.amf_wire.specs.Text.{IsText}
use Rattle.amf_graph.specs.Rooted.{content}
use Rattle.amf_packet.specs.declared.body.Body.{Body as KeptBody}
use Rattle.amf0_spelling.specs.declared.form.Form.TheVariants as form
use Rattle.amf_packet.specs.Content.{body_of, message_of}
use Rattle.amf_text_write.specs.declared.packets.PacketForm.TheVariants as told
use Rattle.amf_json.proofs.TextParts.{message_added}
use Rattle.amf_json.proofs.packet.put_message.Goals as goal

pub message-requires-clause-target : goal.message-requires-clause-target
message-requires-clause-target c = subst IsText (sym c.as_bytes-target.ensures) c.requires.target

pub message-requires-clause-response : goal.message-requires-clause-response
message-requires-clause-response c = subst IsText (sym c.as_bytes-response.ensures) c.requires.response

pub message-requires-in-Amf3-clause-target : goal.message-requires-in-Amf3-clause-target
message-requires-in-Amf3-clause-target c = subst IsText (sym c.as_bytes-target.ensures) c.requires.target

pub message-requires-in-Amf3-clause-response : goal.message-requires-in-Amf3-clause-response
message-requires-in-Amf3-clause-response c = subst IsText (sym c.as_bytes-response.ensures) c.requires.response

pub message-requires-in-Plain-clause-target : goal.message-requires-in-Plain-clause-target
message-requires-in-Plain-clause-target c = subst IsText (sym c.as_bytes-target.ensures) c.requires.target

pub message-requires-in-Plain-clause-response : goal.message-requires-in-Plain-clause-response
message-requires-in-Plain-clause-response c = subst IsText (sym c.as_bytes-response.ensures) c.requires.response

pub returns-in-Call : goal.returns-in-Call
returns-in-Call c =
    message_added c.message.result (message_of c.args.message.now) c.as_bytes-target.result.now c.as_bytes-response.result.now told.Call (content c.in-Call.graph) c.args.texts.now c.message.new.self (record { form = form.Call; graph = content c.in-Call.graph })
    c.as_bytes-target.ensures c.as_bytes-response.ensures (ap (λ (b : KeptBody). body_of b) c.in-Call.is) refl refl c.message.ensures

pub returns-in-Amf3 : goal.returns-in-Amf3
returns-in-Amf3 c =
    message_added c.message-in-Amf3.result (message_of c.args.message.now) c.as_bytes-target.result.now c.as_bytes-response.result.now told.Amf3 (content c.in-Amf3.graph) c.args.texts.now c.message-in-Amf3.new.self (record { form = form.Amf3; graph = content c.in-Amf3.graph })
    c.as_bytes-target.ensures c.as_bytes-response.ensures (ap (λ (b : KeptBody). body_of b) c.in-Amf3.is) refl refl c.message-in-Amf3.ensures

pub returns-in_ok-low-in-Plain : goal.returns-in_ok-low-in-Plain
returns-in_ok-low-in-Plain c =
    message_added c.message-in-Plain.result (message_of c.args.message.now) c.as_bytes-target.result.now c.as_bytes-response.result.now told.Plain (content c.in_ok-low-in-Plain.low) c.args.texts.now c.message-in-Plain.new.self (record { form = form.Plain; graph = content c.in-Plain.graph })
    c.as_bytes-target.ensures c.as_bytes-response.ensures (ap (λ (b : KeptBody). body_of b) c.in-Plain.is) refl c.in_ok-low-in-Plain.ensures c.message-in-Plain.ensures
