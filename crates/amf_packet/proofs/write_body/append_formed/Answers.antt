-- The form chooses.
use Rattle.std.proofs.Common.{OnOk, sym, subst}
use Rattle.std.specs.Result.{IsErrOf}
use Rattle.amf_wire.specs.Style.{canonical}
use Rattle.amf_graph.specs.declared.lack.Lack.{Lack}
use Rattle.amf_graph.specs.declared.write_end.WriteEnd.TheVariants.{NoSpelling}
use Rattle.amf_graph.specs.Rooted.{content}
use Rattle.amf0_spelling.specs.declared.form.Form.{Form}
use Rattle.amf_packet.specs.Packet.{BodyBy}
use Rattle.amf_packet.specs.PacketLacks.{IsBodyLack}
use Rattle.amf_packet.specs.WriteParts.{Appends}
use Rattle.amf_packet.proofs.write_body.append_formed.Goals as goal

pub returns-in-Call-clause-written : goal.returns-in-Call-clause-written
returns-in-Call-clause-written c = subst (λ (f : Form). OnOk c.append_call.result (Appends (BodyBy canonical f (content c.args.graph.now)) c.args.out.now.items c.append_call.new.out.items)) (sym c.in-Call.is) c.append_call.ensures.written

pub returns-in-Call-clause-lack : goal.returns-in-Call-clause-lack
returns-in-Call-clause-lack c = subst (λ (f : Form). (l : Lack) → IsErrOf c.append_call.result (NoSpelling l) → IsBodyLack f (content c.args.graph.now) l.node l.kind) (sym c.in-Call.is) c.append_call.ensures.lack

pub returns-in-Amf3-clause-written : goal.returns-in-Amf3-clause-written
returns-in-Amf3-clause-written c = subst (λ (f : Form). OnOk c.append_amf3.result (Appends (BodyBy canonical f (content c.args.graph.now)) c.args.out.now.items c.append_amf3.new.out.items)) (sym c.in-Amf3.is) c.append_amf3.ensures.written

pub returns-in-Amf3-clause-lack : goal.returns-in-Amf3-clause-lack
returns-in-Amf3-clause-lack c = subst (λ (f : Form). (l : Lack) → IsErrOf c.append_amf3.result (NoSpelling l) → IsBodyLack f (content c.args.graph.now) l.node l.kind) (sym c.in-Amf3.is) c.append_amf3.ensures.lack

pub returns-in-Plain-clause-written : goal.returns-in-Plain-clause-written
returns-in-Plain-clause-written c = subst (λ (f : Form). OnOk c.append_plain.result (Appends (BodyBy canonical f (content c.args.graph.now)) c.args.out.now.items c.append_plain.new.out.items)) (sym c.in-Plain.is) c.append_plain.ensures.written

pub returns-in-Plain-clause-lack : goal.returns-in-Plain-clause-lack
returns-in-Plain-clause-lack c = subst (λ (f : Form). (l : Lack) → IsErrOf c.append_plain.result (NoSpelling l) → IsBodyLack f (content c.args.graph.now) l.node l.kind) (sym c.in-Plain.is) c.append_plain.ensures.lack
