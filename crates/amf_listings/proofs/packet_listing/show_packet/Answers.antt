use Rattle.std.proofs.Common.{List, map, subst, ◌++◌, ap, ◌∙◌}
use Rattle.amf_packet.specs.declared.packet.Header.{Header as KeptHeader}
use Rattle.amf_packet.specs.declared.packet.Message.{Message as KeptMessage}
use Rattle.amf_packet.specs.Content.{header_of, message_of, packet_of}
use Rattle.amf_listings.specs.PacketListing.{AreHeaders, AreMessages}
use Rattle.amf_listings.specs.PacketParts.{Appended}
use Rattle.amf_listings.proofs.PacketSteps.{packet_shown}
use Rattle.amf_listings.proofs.packet_listing.show_packet.Goals as goal

pub returns-clause-shown : goal.returns-clause-shown
returns-clause-shown c =
    packet_shown (packet_of c.args.packet.now) _ c.push_version.new.out.items c.push_headers.new.out.items c.push_messages.new.out.items c.args.out.now.items c.extend_from_slice.new.self.items
    c.new-listing.ensures.items
    c.in_ok-push_version.ensures
    (subst (λ (z : List KeptHeader). Appended (AreHeaders (map header_of z)) c.push_version.new.out.items c.push_headers.new.out.items) c.as_slice.ensures c.in_ok-push_headers.ensures)
    (subst (λ (z : List KeptMessage). Appended (AreMessages (map message_of z)) c.push_headers.new.out.items c.push_messages.new.out.items) c.as_slice-2.ensures c.in_ok-push_messages.ensures)
    (c.in_ok-extend_from_slice.ensures.items ∙ ap (λ w. c.args.out.now.items ++ w) c.deref.ensures.value)
