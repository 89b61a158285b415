use Rattle.std.proofs.Common.{Result, refl, sym, subst, arith}
use Rattle.amf_io.specs.declared.ends.ReadEnd.{ReadEnd}
use Rattle.amf_io.specs.Cursor.{source_of, place, bound, unread}
use Rattle.amf_io.specs.ReadEnds.{GoesBy}
use Rattle.amf_graph.specs.Rooted.{RootedArena}
use Rattle.amf_packet.specs.declared.packet.Packet.{Packet as KeptPacket}
use Rattle.amf_packet.specs.Content.{packet_of}
use Rattle.amf_commands.specs.declared.content.Content.{Content as KeptContent}
use Rattle.amf_commands.specs.declared.content.Content.TheVariants as kept
use Rattle.amf_commands.specs.declared.format.Format.TheVariants.{Amf3, Amf0, Packet}
use Rattle.amf_commands.specs.Content.{content_of, packet}
use Rattle.amf_commands.specs.ReadContent.{AnswersOne}
use Rattle.amf_commands.proofs.Inputs.{of_value, answers_mapped, goes_mapped, packet_answers}
use Rattle.amf_commands.proofs.reading.read_one.Goals as goal

pub read_packet_keyed-requires : goal.read_packet_keyed-requires
read_packet_keyed-requires g c = omega (arith, c.requires.limit)

pub returns-in-Amf3-clause-goes : goal.returns-in-Amf3-clause-goes
returns-in-Amf3-clause-goes g c =
    subst (λ (r : Result KeptContent ReadEnd). GoesBy g.S.Source.tells g.S.Source.left g.S.Source.faults c.args.cursor.now c.read_one3.new.cursor r) (sym c.valued.ensures)
    (goes_mapped (λ (x : RootedArena). kept.Value x) g.S.Source.tells g.S.Source.left g.S.Source.faults c.args.cursor.now c.read_one3.new.cursor c.read_one3.result c.read_one3.ensures.goes)

pub returns-in-Amf3-clause-answers : goal.returns-in-Amf3-clause-answers
returns-in-Amf3-clause-answers g c =
    let left = g.S.Source.left in
    let y = g.S.Source.tells (source_of c.args.cursor.now).now in
    let input = unread left c.args.cursor.now in
    let rest = unread left c.read_one3.new.cursor in
    let at = place c.args.cursor.now in
    let k = place c.read_one3.new.cursor in
    subst (λ (r : Result KeptContent ReadEnd). AnswersOne content_of c.args.from y input rest at k r) (sym c.valued.ensures)
    (answers_mapped c.args.from Amf3 (λ (x : RootedArena). kept.Value x) of_value y input rest at k c.read_one3.result c.in-Amf3.is (λ x. refl) c.read_one3.ensures.answers)

pub returns-in-Amf0-clause-goes : goal.returns-in-Amf0-clause-goes
returns-in-Amf0-clause-goes g c =
    subst (λ (r : Result KeptContent ReadEnd). GoesBy g.S.Source.tells g.S.Source.left g.S.Source.faults c.args.cursor.now c.read_one0.new.cursor r) (sym c.valued-in-Amf0.ensures)
    (goes_mapped (λ (x : RootedArena). kept.Value x) g.S.Source.tells g.S.Source.left g.S.Source.faults c.args.cursor.now c.read_one0.new.cursor c.read_one0.result c.read_one0.ensures.goes)

pub returns-in-Amf0-clause-answers : goal.returns-in-Amf0-clause-answers
returns-in-Amf0-clause-answers g c =
    let left = g.S.Source.left in
    let y = g.S.Source.tells (source_of c.args.cursor.now).now in
    let input = unread left c.args.cursor.now in
    let rest = unread left c.read_one0.new.cursor in
    let at = place c.args.cursor.now in
    let k = place c.read_one0.new.cursor in
    subst (λ (r : Result KeptContent ReadEnd). AnswersOne content_of c.args.from y input rest at k r) (sym c.valued-in-Amf0.ensures)
    (answers_mapped c.args.from Amf0 (λ (x : RootedArena). kept.Value x) of_value y input rest at k c.read_one0.result c.in-Amf0.is (λ x. refl) c.read_one0.ensures.answers)

pub returns-in-Packet-clause-goes : goal.returns-in-Packet-clause-goes
returns-in-Packet-clause-goes g c =
    subst (λ (r : Result KeptContent ReadEnd). GoesBy g.S.Source.tells g.S.Source.left g.S.Source.faults c.args.cursor.now c.read_packet_keyed.new.cursor r) (sym c.packeted.ensures)
    (goes_mapped (λ (x : KeptPacket). kept.Packet x) g.S.Source.tells g.S.Source.left g.S.Source.faults c.args.cursor.now c.read_packet_keyed.new.cursor c.read_packet_keyed.result c.read_packet_keyed.ensures.goes)

pub returns-in-Packet-clause-answers : goal.returns-in-Packet-clause-answers
returns-in-Packet-clause-answers g c =
    let left = g.S.Source.left in
    let y = g.S.Source.tells (source_of c.args.cursor.now).now in
    let input = unread left c.args.cursor.now in
    let rest = unread left c.read_packet_keyed.new.cursor in
    let at = place c.args.cursor.now in
    let k = place c.read_packet_keyed.new.cursor in
    subst (λ (r : Result KeptContent ReadEnd). AnswersOne content_of c.args.from y input rest at k r) (sym c.packeted.ensures)
    (answers_mapped c.args.from Packet (λ (x : KeptPacket). kept.Packet x) (λ (x : KeptPacket). packet (packet_of x)) y input rest at k c.read_packet_keyed.result c.in-Packet.is (λ x. refl)
    (packet_answers y input rest at k (bound c.args.cursor.now) c.read_packet_keyed.result c.requires.limit c.read_packet_keyed.ensures.answers))
