use Rattle.std.proofs.Common.{refl}
use Rattle.amf_io.specs.Field.{flat}
use Rattle.amf_packet.specs.Content.{packet_of}
use Rattle.amf_commands.proofs.Told.{packet_told}
use Rattle.amf_commands.proofs.content.packet_text.Goals as goal

pub packet_json-requires : goal.packet_json-requires
packet_json-requires c = c.packet_is_ready.ensures (flat c.requires.0) (c.requires.0, c.requires.1, refl)

pub returns : goal.returns
returns c =
    let ready = c.packet_is_ready.ensures (flat c.requires.0) (c.requires.0, c.requires.1, refl) in
    packet_told (λ v. v.items) c.args.layout (packet_of c.args.packet.now) c.packet_json.result ready c.packet_json.ensures
