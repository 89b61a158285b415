use Rattle.std.proofs.Common.{IfOk, sym, subst}
use Rattle.amf_graph.specs.Rooted.{content}
use Rattle.amf_packet.specs.Content.{packet_of}
use Rattle.amf_sol.specs.StoredFile.{shared}
use Rattle.amf_commands.specs.declared.content.Content.{Content as KeptContent}
use Rattle.amf_commands.specs.declared.format.Format.{Format}
use Rattle.amf_commands.specs.Content.{content_of, packet, file}
use Rattle.amf_commands.specs.Formats.{IsWritten, IsUnwritten}
use Rattle.amf_commands.specs.ReadContent.{IsSpellable}
use Rattle.amf_commands.proofs.Goes.{of_values, is_packet, is_file, ready}
use Rattle.amf_commands.proofs.spelling.spell.Goals as goal

pub spell_value-requires : goal.spell_value-requires
spell_value-requires c = of_values c.args.to (content c.in-Value.graph) (subst (λ (x : KeptContent). IsSpellable c.args.to (content_of x)) c.in-Value.is c.requires)

pub spell_packet-requires : goal.spell_packet-requires
spell_packet-requires c = ready c.args.to (packet_of c.in-Packet.packet) (subst (λ (x : KeptContent). IsSpellable c.args.to (content_of x)) c.in-Packet.is c.requires)

pub returns-in-Value-clause-written : goal.returns-in-Value-clause-written
returns-in-Value-clause-written c = subst (λ (x : KeptContent). IfOk c.spell_value.result (λ bytes. IsWritten c.args.to (content_of x) bytes.items)) (sym c.in-Value.is) c.spell_value.ensures.written

pub returns-in-Value-clause-lack : goal.returns-in-Value-clause-lack
returns-in-Value-clause-lack c = λ number l is. subst (λ (x : KeptContent). IsUnwritten c.args.to (content_of x) number l) (sym c.in-Value.is) (c.spell_value.ensures.lack number l is)

pub returns-in-Packet-clause-written : goal.returns-in-Packet-clause-written
returns-in-Packet-clause-written c =
    let p = packet_of c.in-Packet.packet in
    let to = is_packet c.args.to p (subst (λ (x : KeptContent). IsSpellable c.args.to (content_of x)) c.in-Packet.is c.requires) in
    subst (λ (x : KeptContent). IfOk c.spell_packet.result (λ bytes. IsWritten c.args.to (content_of x) bytes.items)) (sym c.in-Packet.is)
    (subst (λ (f : Format). IfOk c.spell_packet.result (λ bytes. IsWritten f (packet p) bytes.items)) (sym to) c.spell_packet.ensures.written)

pub returns-in-Packet-clause-lack : goal.returns-in-Packet-clause-lack
returns-in-Packet-clause-lack c = λ number l is.
    let p = packet_of c.in-Packet.packet in
    let to = is_packet c.args.to p (subst (λ (x : KeptContent). IsSpellable c.args.to (content_of x)) c.in-Packet.is c.requires) in
    subst (λ (x : KeptContent). IsUnwritten c.args.to (content_of x) number l) (sym c.in-Packet.is)
    (subst (λ (f : Format). IsUnwritten f (packet p) number l) (sym to) (c.spell_packet.ensures.lack number l is))

pub returns-in-File-clause-written : goal.returns-in-File-clause-written
returns-in-File-clause-written c =
    let o = shared c.in-File.file in
    let to = is_file c.args.to o (subst (λ (x : KeptContent). IsSpellable c.args.to (content_of x)) c.in-File.is c.requires) in
    subst (λ (x : KeptContent). IfOk c.spell_file.result (λ bytes. IsWritten c.args.to (content_of x) bytes.items)) (sym c.in-File.is)
    (subst (λ (f : Format). IfOk c.spell_file.result (λ bytes. IsWritten f (file o) bytes.items)) (sym to) c.spell_file.ensures.written)

pub returns-in-File-clause-lack : goal.returns-in-File-clause-lack
returns-in-File-clause-lack c = λ number l is.
    let o = shared c.in-File.file in
    let to = is_file c.args.to o (subst (λ (x : KeptContent). IsSpellable c.args.to (content_of x)) c.in-File.is c.requires) in
    subst (λ (x : KeptContent). IsUnwritten c.args.to (content_of x) number l) (sym c.in-File.is)
    (subst (λ (f : Format). IsUnwritten f (file o) number l) (sym to) (c.spell_file.ensures.lack number l is))
