use Rattle.std.proofs.Common.{◌≡◌, ◌∙◌, Option, length, subst, sym, ap, arith, rules}
use Rattle.amf_packet.specs.declared.packet.Packet.{Packet as KeptPacket}
use Rattle.amf_packet.specs.Unpacked.{Unpacks, IsUnpackedFrom}
use Rattle.amf_client.proofs.MeaningLemmas.{one_message, only_one, other_messages}
use Rattle.amf_client.proofs.meaning.meaning.Goals as goal

-- none, or more than one
pub returns-then-messages-ne1 : goal.returns-then-messages-ne1
returns-then-messages-ne1 c =
    let unpacked : IsUnpackedFrom c.args.body.now c.in-Some.packet = subst (λ (o : Option KeptPacket). Unpacks c.args.body.now o) c.in-Some.is c.in_ok-packet.ensures in
    let spelled = unpacked.spelled in
    let other : length c.as_slice-messages.result.now ≡ 1 → ⊥ = λ one. search rules in
    (other_messages c.in-Some.packet c.args.body.now spelled (λ one. other (ap length c.as_slice-messages.ensures ∙ one)), omega arith, omega arith)

-- one
pub returns : goal.returns
returns c =
    let unpacked : IsUnpackedFrom c.args.body.now c.in-Some.packet = subst (λ (o : Option KeptPacket). Unpacks c.args.body.now o) c.in-Some.is c.in_ok-packet.ensures in
    let spelled = unpacked.spelled in
    let one : length c.as_slice-messages.result.now ≡ 1 = search rules in
    let only = only_one c.as_slice-messages.result.now c.index-messages-0.result (omega (arith, one)) (omega (arith, one)) c.index-messages-0.is in
    one_message c.in-Some.packet c.args.body.now c.index-messages-0.result c.message_meaning.result spelled (sym c.as_slice-messages.ensures ∙ only) c.message_meaning.ensures
