use Rattle.std.proofs.Common.{IfOk, List, sym, subst}
use Rattle.amf_io.specs.Field.{Field}
use Rattle.amf_graph.specs.Rooted.{content}
use Rattle.amf_packet.specs.Content.{packet_of}
use Rattle.amf_sol.specs.StoredFile.{shared}
use Rattle.amf_wire.specs.Style.{free}
use Rattle.amf_commands.specs.declared.content.Content.{Content as KeptContent}
use Rattle.amf_commands.specs.declared.format.Format.{Format}
use Rattle.amf_commands.specs.Content.{content_of, packet, file}
use Rattle.amf_commands.specs.Formats.{IsSpelling}
use Rattle.amf_commands.specs.Told.{IsTold}
use Rattle.amf_commands.proofs.Told.{spelled_value, spelled_packet, spelled_file}
use Rattle.amf_commands.proofs.content.json_text.Goals as goal

abbrev WasRead : Format → KeptContent → Type 0
WasRead from x = (fs : List Field) × IsSpelling from free (content_of x) fs

pub value_text-requires : goal.value_text-requires
value_text-requires c =
    let s = subst (WasRead c.args.from) c.in-Value.is c.requires in
    spelled_value c.args.from (content c.in-Value.graph) s.0 s.1

pub packet_text-requires : goal.packet_text-requires
packet_text-requires c =
    let s = subst (WasRead c.args.from) c.in-Packet.is c.requires in
    (spelled_packet c.args.from (packet_of c.in-Packet.packet) s.0 s.1).1

pub returns-in-Value : goal.returns-in-Value
returns-in-Value c = subst (λ (x : KeptContent). IfOk c.value_text.result (λ bytes. IsTold c.args.layout c.args.from (content_of x) bytes.items)) (sym c.in-Value.is) c.value_text.ensures

pub returns-in-Packet : goal.returns-in-Packet
returns-in-Packet c =
    let p = packet_of c.in-Packet.packet in
    let s = subst (WasRead c.args.from) c.in-Packet.is c.requires in
    let of = (spelled_packet c.args.from p s.0 s.1).0 in
    subst (λ (x : KeptContent). IfOk c.packet_text.result (λ bytes. IsTold c.args.layout c.args.from (content_of x) bytes.items)) (sym c.in-Packet.is)
    (subst (λ (f : Format). IfOk c.packet_text.result (λ bytes. IsTold c.args.layout f (packet p) bytes.items)) (sym of) c.packet_text.ensures)

pub returns-in-File : goal.returns-in-File
returns-in-File c =
    let o = shared c.in-File.file in
    let s = subst (WasRead c.args.from) c.in-File.is c.requires in
    let of = spelled_file c.args.from o s.0 s.1 in
    subst (λ (x : KeptContent). IfOk c.file_text.result (λ bytes. IsTold c.args.layout c.args.from (content_of x) bytes.items)) (sym c.in-File.is)
    (subst (λ (f : Format). IfOk c.file_text.result (λ bytes. IsTold c.args.layout f (file o) bytes.items)) (sym of) c.file_text.ensures)
