use Rattle.std.proofs.Common.{refl, sym, subst}
use Rattle.amf_packet.specs.declared.body.Body.{Body as KeptBody}
use Rattle.amf_packet.specs.declared.body.Body.TheVariants.{Call, Amf3, Plain}
use Rattle.amf0_spelling.specs.declared.form.Form.TheVariants as form
use Rattle.amf_packet.specs.Content.{body_of}
use Rattle.amf_listings.specs.PacketParts.{HasLoweredBody}
use Rattle.amf_listings.proofs.packet_lowering.body_has_lowering.Goals as goal

pub returns-in-Call : goal.returns-in-Call
returns-in-Call c = subst (λ (b : KeptBody). HasLoweredBody (body_of b)) (sym c.in-Call.is) (body_of (Call c.in-Call.field-0), (refl, refl))

pub returns-in-Amf3 : goal.returns-in-Amf3
returns-in-Amf3 c = subst (λ (b : KeptBody). HasLoweredBody (body_of b)) (sym c.in-Amf3.is) (body_of (Amf3 c.in-Amf3.field-0), (refl, refl))

pub returns-in-Plain : goal.returns-in-Plain
returns-in-Plain c =
    let f = c.is_finished.ensures in
    let low = c.graphs_have_one_lowering.ensures.built c.in-Plain.graph.arena c.in-Plain.graph.root f.finished f.bounds f.names in
    subst (λ (b : KeptBody). HasLoweredBody (body_of b)) (sym c.in-Plain.is) (record { form = form.Plain; graph = low.0 }, (refl, low.1.is))
