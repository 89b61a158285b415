use Rattle.std.proofs.Common.{◌++◌, ap, ◌∙◌}
use Rattle.amf_packet.proofs.WriteFields.{length_written}
use Rattle.amf_packet.proofs.write_parts.append_length.Goals as goal

pub returns-clause-written : goal.returns-clause-written
returns-clause-written c = length_written c.args.out.now.items c.extend_from_slice.new.self.items (c.in_ok-extend_from_slice.ensures.items ∙ ap (λ w. c.args.out.now.items ++ w) c.to_be_bytes.ensures)
