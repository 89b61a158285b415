use Rattle.std.proofs.Common.{[], ◌∷◌, ◌++◌, ap, ◌∙◌}
use Rattle.amf_packet.proofs.WriteFields.{must_written, byte_of}
use Rattle.amf_packet.proofs.write_parts.append_must.Goals as goal

pub returns-clause-written : goal.returns-clause-written
returns-clause-written c = must_written c.args.must c.args.out.now.items c.push.new.self.items (c.in_ok-push.ensures.items ∙ ap (λ m. c.args.out.now.items ++ m ∷ []) (byte_of c.args.must))
