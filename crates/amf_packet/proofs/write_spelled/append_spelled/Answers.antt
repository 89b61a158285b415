use Rattle.std.proofs.Common.{◌++◌, ap, ◌∙◌}
use Rattle.amf_packet.specs.Packet.{Body}
use Rattle.amf_packet.proofs.SpelledParts.{sized_spelled}
use Rattle.amf_packet.proofs.write_spelled.append_spelled.Goals as goal

pub returns : goal.returns
returns c = λ (b : Body) s.
    let mid = c.append_length.new.out.items in
    sized_spelled b c.args.body.now c.args.out.now.items mid c.extend_from_slice.new.self.items c.in_ok-append_length.ensures.written (c.in_ok-extend_from_slice.ensures.items ∙ ap (λ x. mid ++ x) c.as_bytes.ensures) s
