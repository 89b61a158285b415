use Rattle.std.proofs.Common.{◌≡◌, ◌+◌, List, [], ◌∷◌, length, map, Some, None, sym, ap, ◌∙◌, subst, refl, arith}
use Rattle.std.proofs.lemmas.List.{length-map}
use Rattle.amf_packet.specs.declared.packet.Header.{Header as KeptHeader}
use Rattle.amf_packet.specs.declared.packet.Message.{Message as KeptMessage}
use Rattle.amf_packet.specs.Content.{header_of, message_of}
use Rattle.amf_packet.specs.Packet.{Header}
use Rattle.amf_packet.specs.WriteParts.{header_texts, message_texts, IsFirstLong}
use Rattle.amf_packet.proofs.WriteTexts.{long_left, long_right, long_none}
use Rattle.amf_packet.proofs.WriteTold.{few_headers, few_messages}
use Rattle.amf_packet.proofs.write_texts.first_long.Goals as goal

pub returns-in-Some : goal.returns-in-Some
returns-in-Some c =
    let h : IsFirstLong (header_texts (map header_of c.args.packet.now.headers)) (Some c.in-Some.value) = subst (λ r. IsFirstLong (header_texts (map header_of c.args.packet.now.headers)) r) c.in-Some.is (subst (λ (z : List KeptHeader). IsFirstLong (header_texts (map header_of z)) c.first_long_header.result) c.as_slice-headers.ensures c.first_long_header.ensures) in
    long_left (header_texts (map header_of c.args.packet.now.headers)) (message_texts (map message_of c.args.packet.now.messages)) c.in-Some.value h

pub returns-in-Some-first_long_message : goal.returns-in-Some-first_long_message
returns-in-Some-first_long_message c =
    let h : IsFirstLong (header_texts (map header_of c.args.packet.now.headers)) None = subst (λ r. IsFirstLong (header_texts (map header_of c.args.packet.now.headers)) r) c.in-None.is (subst (λ (z : List KeptHeader). IsFirstLong (header_texts (map header_of z)) c.first_long_header.result) c.as_slice-headers.ensures c.first_long_header.ensures) in
    let m : IsFirstLong (message_texts (map message_of c.args.packet.now.messages)) (Some c.in-Some-first_long_message.place) = subst (λ r. IsFirstLong (message_texts (map message_of c.args.packet.now.messages)) r) c.in-Some-first_long_message.is (subst (λ (z : List KeptMessage). IsFirstLong (message_texts (map message_of z)) c.first_long_message.result) c.as_slice.ensures c.first_long_message.ensures) in
    let n : length c.as_slice-headers.result.now ≡ length (header_texts (map header_of c.args.packet.now.headers)) = ap length c.as_slice-headers.ensures ∙ sym (length-map c.args.packet.now.headers header_of) ∙ sym (length-map (map header_of c.args.packet.now.headers) (λ (x : Header). x.name ∷ [])) in
    long_right (header_texts (map header_of c.args.packet.now.headers)) (message_texts (map message_of c.args.packet.now.messages)) (length c.as_slice-headers.result.now) c.in-Some-first_long_message.place (length c.as_slice-headers.result.now + c.in-Some-first_long_message.place) n refl h m

pub returns-in-None-first_long_message : goal.returns-in-None-first_long_message
returns-in-None-first_long_message c =
    let h : IsFirstLong (header_texts (map header_of c.args.packet.now.headers)) None = subst (λ r. IsFirstLong (header_texts (map header_of c.args.packet.now.headers)) r) c.in-None.is (subst (λ (z : List KeptHeader). IsFirstLong (header_texts (map header_of z)) c.first_long_header.result) c.as_slice-headers.ensures c.first_long_header.ensures) in
    let m : IsFirstLong (message_texts (map message_of c.args.packet.now.messages)) None = subst (λ r. IsFirstLong (message_texts (map message_of c.args.packet.now.messages)) r) c.in-None-first_long_message.is (subst (λ (z : List KeptMessage). IsFirstLong (message_texts (map message_of z)) c.first_long_message.result) c.as_slice.ensures c.first_long_message.ensures) in
    long_none (header_texts (map header_of c.args.packet.now.headers)) (message_texts (map message_of c.args.packet.now.messages)) h m

pub first_long_header-requires : goal.first_long_header-requires
first_long_header-requires c = omega (arith, ap length c.as_slice-headers.ensures, few_headers c.args.packet.now c.requires)

pub first_long_message-requires : goal.first_long_message-requires
first_long_message-requires c = omega (arith, ap length c.as_slice.ensures, few_messages c.args.packet.now c.requires)

pub overflow_cast-result : goal.overflow_cast-result
overflow_cast-result c = omega (arith, ap length c.as_slice-headers.ensures, few_headers c.args.packet.now c.requires)
