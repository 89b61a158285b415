use Rattle.std.proofs.Common.{◌+◌, length, ap, ◌∙◌, subst, arith, Err}
use Rattle.amf_io.specs.Cursor.{place, bound, unread, GivesBytes, Appends}
use Rattle.amf_io.specs.declared.ends.ReadEnd.TheVariants.{Refused}
use Rattle.amf_io.specs.Field.{AreBytes}
use Rattle.amf_io.specs.ReadEnds.{IsEnd}
use Rattle.amf_wire_fields.specs.FieldSize.{contents_refusal}
use Rattle.amf_wire_fields.proofs.Chunks.{chunk_done, chunk_refused, chunk_cut}
use Rattle.amf_wire_fields.proofs.contents.read_contents.Goals as goal

pub returns-in-Err-clause-answers : goal.returns-in-Err-clause-answers
returns-in-Err-clause-answers g c =
    let input = unread g.S.Source.left c.args.cursor.now in
    let rest = unread g.S.Source.left c.take_into.new.self in
    let at = place c.args.cursor.now in
    let limit = bound c.args.cursor.now in
    chunk_cut (g.S.Source.tells c.args.cursor.now.source.now) c.args.contents c.args.size input rest c.take_into.new.out.items at limit c.in-Err.end c.read_end.result (omega (arith, c.if-size-eq0.false))
    (subst (λ k. IsEnd c.in-Err.end k c.read_end.result) c.at-start.ensures.place c.read_end.ensures)
    (λ t. subst (λ l. GivesBytes input rest l c.take_into.new.out.items at limit c.args.size (Err c.in-Err.end)) c.new-bytes.ensures.items (c.in-Err.ensures.gives t))

pub returns-in-Some-clause-answers : goal.returns-in-Some-clause-answers
returns-in-Some-clause-answers g c =
    let input = unread g.S.Source.left c.args.cursor.now in
    let rest = unread g.S.Source.left c.take_into.new.self in
    let e = c.in_default.ensures in
    chunk_refused (g.S.Source.tells c.args.cursor.now.source.now) c.args.contents input rest c.take_into.new.out.items (place c.args.cursor.now) (place c.take_into.new.self) (bound c.args.cursor.now)
    c.args.size c.in-Some.reason c.refused.result (omega (arith, c.if-size-eq0.false)) (e.grown ∙ ap (λ l. length l + c.args.size) c.new-bytes.ensures.items)
    (λ t. subst (λ l. Appends input rest l c.take_into.new.out.items c.args.size) c.new-bytes.ensures.items (e.gives t)) e.place.0 (omega (arith, e.place.1, e.bound)) (subst AreBytes c.deref.ensures.value c.in-Some.ensures.bytes)
    (c.in-Some.ensures.refusal ∙ ap (contents_refusal c.args.contents) c.deref.ensures.value)
    (c.refused.ensures ∙ ap (λ k. Refused (record { reason = c.in-Some.reason; at = k })) c.at-start.ensures.place)

pub returns-in-None-clause-answers : goal.returns-in-None-clause-answers
returns-in-None-clause-answers g c =
    let input = unread g.S.Source.left c.args.cursor.now in
    let rest = unread g.S.Source.left c.take_into.new.self in
    let e = c.in_default.ensures in
    chunk_done (g.S.Source.tells c.args.cursor.now.source.now) c.args.contents input rest c.take_into.new.out.items (place c.args.cursor.now) (place c.take_into.new.self) (bound c.args.cursor.now)
    c.args.size (omega (arith, c.if-size-eq0.false)) (e.grown ∙ ap (λ l. length l + c.args.size) c.new-bytes.ensures.items)
    (λ t. subst (λ l. Appends input rest l c.take_into.new.out.items c.args.size) c.new-bytes.ensures.items (e.gives t)) e.place.0 (omega (arith, e.place.1, e.bound)) (subst AreBytes c.deref.ensures.value c.in-None.ensures.bytes)
    (c.in-None.ensures.refusal ∙ ap (contents_refusal c.args.contents) c.deref.ensures.value)
