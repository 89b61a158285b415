-- The packet has one message, whose body is the graph.
use Rattle.std.proofs.Common.{◌∙◌, List, [], ◌∷◌, ◌++◌, ap}
use Rattle.amf_packet.specs.declared.body.Body.TheVariants.{Call}
use Rattle.amf_packet.specs.declared.packet.Header.{Header}
use Rattle.amf_packet.specs.declared.packet.Message.{Message}
use Rattle.amf_poll_session.proofs.Requests.{packet_texts, packet_spelled}
use Rattle.amf_poll_session.proofs.asking.packet_bytes.Goals as goal

pub write_packet_keyed-requires-clause-texts : goal.write_packet_keyed-requires-clause-texts
write_packet_keyed-requires-clause-texts c =
    let target = c.in_ok-of_bytes.field-0 in
    let response = c.in_ok-of_bytes-2.field-0 in
    let m : Message = record { target = target; response = response; body = Call c.args.graph } in
    let ms : List Message = c.of_vec-2.result in
    packet_texts c.args.graph target response (record { version = 3; headers = c.of_vec.result; messages = ms }) ms c.in_ok-of_bytes.ensures c.in_ok-of_bytes-2.ensures
    (c.of_vec-2.ensures ∙ c.in_ok-push.ensures.items ∙ ap (λ (l : List Message). l ++ m ∷ []) c.new-messages.ensures.items)
    (ap (λ (hs : List Header). record { version = 3; headers = hs; messages = ms }) (c.of_vec.ensures ∙ c.new.ensures.items))

pub returns : goal.returns
returns c =
    let target = c.in_ok-of_bytes.field-0 in
    let response = c.in_ok-of_bytes-2.field-0 in
    let m : Message = record { target = target; response = response; body = Call c.args.graph } in
    let ms : List Message = c.of_vec-2.result in
    packet_spelled c.args.graph target response (record { version = 3; headers = c.of_vec.result; messages = ms }) ms c.in_ok-of_bytes.ensures c.in_ok-of_bytes-2.ensures
    (c.of_vec-2.ensures ∙ c.in_ok-push.ensures.items ∙ ap (λ (l : List Message). l ++ m ∷ []) c.new-messages.ensures.items)
    (ap (λ (hs : List Header). record { version = 3; headers = hs; messages = ms }) (c.of_vec.ensures ∙ c.new.ensures.items))
    c.new-out.result.items c.write_packet_keyed.new.out.items c.new-out.ensures.items c.in_ok-write_packet_keyed.ensures.written
