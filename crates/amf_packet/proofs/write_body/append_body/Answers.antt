use Rattle.std.proofs.Common.{Err, ap, refl, subst}
use Rattle.amf_wire.specs.Style.{canonical}
use Rattle.amf_graph.specs.Graph.{Graph}
use Rattle.amf0_spelling.specs.declared.form.Form.{Form}
use Rattle.amf_packet.specs.Content.{body_of}
use Rattle.amf_packet.specs.Packet.{BodyBy}
use Rattle.amf_packet.specs.PacketLacks.{IsBodyLack}
use Rattle.amf_packet.specs.WriteParts.{Appends}
use Rattle.amf_packet.proofs.write_body.append_body.Goals as goal

pub returns-in-Ok-clause-writes : goal.returns-in-Ok-clause-writes
returns-in-Ok-clause-writes c =
    let a = c.args.out.now.items in
    let b = c.append_formed.new.out.items in
    subst (λ (f : Form). Appends (BodyBy canonical f (body_of c.args.body.now).graph) a b) c.form.ensures
    (subst (λ (g : Graph). Appends (BodyBy canonical c.form.result g) a b) c.graph.ensures c.in-Ok.ensures.written)

pub returns-in-Err-NoSpelling-clause-writes : goal.returns-in-Err-NoSpelling-clause-writes
returns-in-Err-NoSpelling-clause-writes c =
    let l = c.in-Err-NoSpelling.lack in (
      refl,
      subst (λ (f : Form). IsBodyLack f (body_of c.args.body.now).graph l.node l.kind) c.form.ensures
          (subst (λ (g : Graph). IsBodyLack c.form.result g l.node l.kind) c.graph.ensures (c.in-Err-NoSpelling.ensures.lack l (ap Err c.in-Err-NoSpelling.field-0-is))),
    )
