use Rattle.std.proofs.Common.{subst}
use Rattle.amf_wire.specs.Style.{canonical}
use Rattle.amf_packet.specs.Content.{packet_of}
use Rattle.amf_packet.specs.Packet.{SpellsPacket}
use Rattle.amf_packet.specs.PacketLacks.{texts_by_value}
use Rattle.amf_packet.specs.WriteParts.{IsFirstLong}
use Rattle.amf_packet.proofs.WriteTexts.{fit_all}
use Rattle.amf_packet.proofs.WriteTold.{many_many, many_long, many_lack, long_many, long_long, long_lack, begun_written, begun_many, begun_long, begun_lack, few_headers, few_messages}
use Rattle.amf_packet.proofs.write.write_packet_keyed.Goals as goal

pub returns-then-is_too_many-clause-many : goal.returns-then-is_too_many-clause-many
returns-then-is_too_many-clause-many c = many_many (packet_of c.args.packet.now) (c.is_too_many.ensures.many c.if-is_too_many.true)

pub returns-then-is_too_many-clause-long : goal.returns-then-is_too_many-clause-long
returns-then-is_too_many-clause-long c = many_long (packet_of c.args.packet.now) (c.is_too_many.ensures.many c.if-is_too_many.true)

pub returns-then-is_too_many-clause-lack : goal.returns-then-is_too_many-clause-lack
returns-then-is_too_many-clause-lack c = many_lack (packet_of c.args.packet.now)

pub first_long-requires : goal.first_long-requires
first_long-requires c = (c.is_too_many.ensures.few c.if-is_too_many.false)

pub returns-in-Some-clause-many : goal.returns-in-Some-clause-many
returns-in-Some-clause-many c = long_many (packet_of c.args.packet.now) c.in-Some.value (c.is_too_many.ensures.few c.if-is_too_many.false)

pub returns-in-Some-clause-long : goal.returns-in-Some-clause-long
returns-in-Some-clause-long c = long_long (packet_of c.args.packet.now) c.in-Some.value (c.is_too_many.ensures.few c.if-is_too_many.false) (subst (λ r. IsFirstLong (texts_by_value (packet_of c.args.packet.now)) r) c.in-Some.is c.first_long.ensures)

pub returns-in-Some-clause-lack : goal.returns-in-Some-clause-lack
returns-in-Some-clause-lack c = long_lack (packet_of c.args.packet.now) c.in-Some.value

pub append_whole-requires-clause-texts : goal.append_whole-requires-clause-texts
append_whole-requires-clause-texts c = fit_all (texts_by_value (packet_of c.args.packet.now)) c.requires.texts (subst (λ r. IsFirstLong (texts_by_value (packet_of c.args.packet.now)) r) c.in-None.is c.first_long.ensures)

pub append_whole-requires-clause-headers : goal.append_whole-requires-clause-headers
append_whole-requires-clause-headers c = few_headers c.args.packet.now (c.is_too_many.ensures.few c.if-is_too_many.false)

pub append_whole-requires-clause-messages : goal.append_whole-requires-clause-messages
append_whole-requires-clause-messages c = few_messages c.args.packet.now (c.is_too_many.ensures.few c.if-is_too_many.false)

pub returns-in-None-clause-written : goal.returns-in-None-clause-written
returns-in-None-clause-written c = begun_written (packet_of c.args.packet.now) c.args.out.now.items c.append_whole.new.out.items (SpellsPacket canonical (packet_of c.args.packet.now)) c.append_whole.result c.append_whole.ensures.writes

pub returns-in-None-clause-many : goal.returns-in-None-clause-many
returns-in-None-clause-many c = begun_many (packet_of c.args.packet.now) c.args.out.now.items c.append_whole.new.out.items (SpellsPacket canonical (packet_of c.args.packet.now)) c.append_whole.result (c.is_too_many.ensures.few c.if-is_too_many.false) c.append_whole.ensures.writes

pub returns-in-None-clause-long : goal.returns-in-None-clause-long
returns-in-None-clause-long c = begun_long (packet_of c.args.packet.now) c.args.out.now.items c.append_whole.new.out.items (SpellsPacket canonical (packet_of c.args.packet.now)) c.append_whole.result (subst (λ r. IsFirstLong (texts_by_value (packet_of c.args.packet.now)) r) c.in-None.is c.first_long.ensures) c.append_whole.ensures.writes

pub returns-in-None-clause-lack : goal.returns-in-None-clause-lack
returns-in-None-clause-lack c = begun_lack (packet_of c.args.packet.now) c.args.out.now.items c.append_whole.new.out.items (SpellsPacket canonical (packet_of c.args.packet.now)) c.append_whole.result (c.is_too_many.ensures.few c.if-is_too_many.false) (subst (λ r. IsFirstLong (texts_by_value (packet_of c.args.packet.now)) r) c.in-None.is c.first_long.ensures) c.append_whole.ensures.writes
