use Rattle.std.proofs.Common.{◌≡◌, Err, ap, subst}
use Rattle.amf_graph.specs.declared.lack.Lack.{Lack}
use Rattle.amf_packet.specs.Content.{packet_of}
use Rattle.amf_commands.specs.declared.format.Format.TheVariants.{Packet}
use Rattle.amf_commands.specs.Content.{packet}
use Rattle.amf_commands.specs.Formats.{IsUnwritten}
use Rattle.amf_commands.proofs.Goes.{packet_written, packet_unwritten}
use Rattle.amf_commands.proofs.spelling.spell_packet.Goals as goal

pub write_packet_keyed-requires-clause-version : goal.write_packet_keyed-requires-clause-version
write_packet_keyed-requires-clause-version c = c.requires.version

pub write_packet_keyed-requires-clause-texts : goal.write_packet_keyed-requires-clause-texts
write_packet_keyed-requires-clause-texts c = c.requires.texts

pub returns-in-Ok-clause-written : goal.returns-in-Ok-clause-written
returns-in-Ok-clause-written c = let low = c.packet_has_lowering.ensures in packet_written (packet_of c.args.packet.now) low.0 _ c.write_packet_keyed.new.out.items low.1 c.new-bytes.ensures.items c.in-Ok.ensures.written

pub returns-in-Err-NoSpelling-clause-lack : goal.returns-in-Err-NoSpelling-clause-lack
returns-in-Err-NoSpelling-clause-lack c = λ number l is.
    let low = c.packet_has_lowering.ensures in
    let e = c.in-Err-NoSpelling in
    let p = packet_of c.args.packet.now in
    let told = e.ensures.lack e.value e.lack (ap Err e.field-0-is) in
    let i : e.value ≡ number = cc in
    let j : e.lack ≡ l = cc in
    subst (λ k. IsUnwritten Packet (packet p) k l) i (subst (λ (m : Lack). IsUnwritten Packet (packet p) e.value m) j (packet_unwritten p low.0 e.value e.lack low.1 told.2))

pub unreachable-requires : goal.unreachable-requires
unreachable-requires c = let e = c.in-Err-TooMany in c.requires.few (e.ensures.many.0 (ap Err e.field-0-is))

pub unreachable-requires-in-Err-LongText : goal.unreachable-requires-in-Err-LongText
unreachable-requires-in-Err-LongText c = let e = c.in-Err-LongText in c.requires.short e.field-0-0 ((e.ensures.long e.field-0-0).0 (ap Err e.field-0-is)).1
