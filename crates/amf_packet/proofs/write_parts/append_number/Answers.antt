use Rattle.std.proofs.Common.{◌++◌, ap, ◌∙◌, arith}
use Rattle.amf_packet.proofs.WriteFields.{count_written, version_written}
use Rattle.amf_packet.proofs.write_parts.append_number.Goals as goal

pub returns-clause-count : goal.returns-clause-count
returns-clause-count c = count_written c.args.number c.args.out.now.items c.extend_from_slice.new.self.items (omega arith) (c.in_ok-extend_from_slice.ensures.items ∙ ap (λ w. c.args.out.now.items ++ w) c.to_be_bytes.ensures)

pub returns-clause-version : goal.returns-clause-version
returns-clause-version c = λ is. version_written c.args.number c.args.out.now.items c.extend_from_slice.new.self.items is (c.in_ok-extend_from_slice.ensures.items ∙ ap (λ w. c.args.out.now.items ++ w) c.to_be_bytes.ensures)
