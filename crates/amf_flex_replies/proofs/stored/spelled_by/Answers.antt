use Rattle.std.proofs.Common.{◌≡◌, ◌∙◌, ◌<◌, Err, subst, arith}
use Rattle.amf_io.specs.Cursor.{place, unread}
use Rattle.amf_io.specs.Field.{AreBytes}
use Rattle.amf_io.specs.InMemory.{nothing_left}
use Rattle.amf_io.specs.ReadEnds.{Counts as CountsRead}
use Rattle.amf_io.specs.declared.ends.ReadEnd.{ReadEnd}
use Rattle.amf_graph.specs.Rooted.{RootedArena}
use Rattle.amf_graph.proofs.Alls.{all_by_place}
use Rattle.amf_flex_replies.specs.Batching.{AnswersValue}
use Rattle.amf_flex_replies.proofs.ReadStored.{refused_none, trailing_none, whole_found, no_read_fault}
use Rattle.amf_flex_replies.proofs.stored.spelled_by.Goals as goal

pub unreachable-requires : goal.unreachable-requires
unreachable-requires c = no_read_fault RootedArena (subst (λ (e : ReadEnd). CountsRead {T = RootedArena} 0 0 (Err e)) c.in-Err-ReadFault.field-0-is c.in-Err-ReadFault.ensures.goes.cause)

pub returns-in-Err-Refused-clause-finds : goal.returns-in-Err-Refused-clause-finds
returns-in-Err-Refused-clause-finds c =
    let are : AreBytes c.args.bytes.now = all_by_place (λ b. b < 256) c.args.bytes.now 0 (λ i l. omega (arith, c.type_inv.bytes i)) in
    let input = unread nothing_left c.in_ok-cursor.cursor in
    let rest = unread nothing_left c.read_value.new.cursor in
    let at = place c.in_ok-cursor.cursor in
    let k = place c.read_value.new.cursor in
    refused_none input c.args.bytes.now at c.in_ok-cursor.ensures.unread c.in_ok-cursor.ensures.place are c.requires rest k c.in-Err-Refused.field-0-0
    (subst (λ (e : ReadEnd). AnswersValue (Unit {0}) input rest at k (Err e)) c.in-Err-Refused.field-0-is c.in-Err-Refused.ensures.answers)

pub returns-then-is_at_end-clause-finds : goal.returns-then-is_at_end-clause-finds
returns-then-is_at_end-clause-finds c =
    let are : AreBytes c.args.bytes.now = all_by_place (λ b. b < 256) c.args.bytes.now 0 (λ i l. omega (arith, c.type_inv.bytes i)) in
    whole_found (unread nothing_left c.in_ok-cursor.cursor) c.args.bytes.now (place c.in_ok-cursor.cursor) c.in_ok-cursor.ensures.unread c.in_ok-cursor.ensures.place are c.requires (unread nothing_left c.read_value.new.cursor) (place c.read_value.new.cursor) c.in-Ok.graph (c.is_at_end.ensures.0 c.if-is_at_end.true) c.in-Ok.ensures.answers

pub returns-clause-finds : goal.returns-clause-finds
returns-clause-finds c =
    let are : AreBytes c.args.bytes.now = all_by_place (λ b. b < 256) c.args.bytes.now 0 (λ i l. omega (arith, c.type_inv.bytes i)) in
    trailing_none (unread nothing_left c.in_ok-cursor.cursor) c.args.bytes.now (place c.in_ok-cursor.cursor) c.in_ok-cursor.ensures.unread c.in_ok-cursor.ensures.place are c.requires (unread nothing_left c.read_value.new.cursor) (place c.read_value.new.cursor) c.in-Ok.graph
    (λ e. let yes = c.is_at_end.ensures.1 e in let no = c.if-is_at_end.false in cc) c.in-Ok.ensures.answers
