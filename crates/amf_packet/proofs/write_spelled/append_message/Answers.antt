use Rattle.std.proofs.lemmas.Result.{on_ok_weaker}
use Rattle.amf_packet.specs.Packet.{Message}
use Rattle.amf_packet.proofs.SpelledParts.{message_spelled}
use Rattle.amf_packet.proofs.write_spelled.append_message.Goals as goal

pub append_name-requires : goal.append_name-requires
append_name-requires c = (c.requires.0, tt)

pub append_name-requires-2 : goal.append_name-requires-2
append_name-requires-2 c = c.requires.1

pub returns : goal.returns
returns c =
    on_ok_weaker c.append_spelled.result (λ sized (m : Message) s. message_spelled m c.args.message.now c.args.out.now.items c.append_name.new.out.items c.append_name-2.new.out.items c.append_spelled.new.out.items s c.in_ok-append_name.ensures.written c.in_ok-append_name-2.ensures.written sized)
    c.append_spelled.ensures
