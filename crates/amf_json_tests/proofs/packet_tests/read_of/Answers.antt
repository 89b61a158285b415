use Rattle.std.proofs.Common.{refl}
use Rattle.amf_io.specs.Field.{flat}
use Rattle.amf_json_tests.proofs.packet_tests.read_of.Goals as goal

pub returns : goal.returns
returns c =
    let a = c.in_ok-packet.ensures.answers in
    c.packet_is_ready.ensures (flat a.fields) (a.fields, a.read, refl)
