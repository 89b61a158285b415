use Rattle.std.proofs.Common.{◌/◌, [], length, None, Some, Ok, Err, refl, sym, ◌∙◌, arith}
use Rattle.amf_wire.specs.U29.{u29_value}
use Rattle.amf_io.specs.Field.{text_kind}
use Rattle.amf_io.specs.declared.reason.Reason.TheVariants.{BadTextIndex}
use Rattle.amf_io.proofs.CursorReads.{field_ended}
use Rattle.amf_graph.specs.Arena.{text_at}
use Rattle.amf3_spelling.specs.Refusals3.{text_header_refusal, text_header_kind}
use Rattle.amf3_layout_laws.specs.Layout3Words.{text_behind, new_text}
use Rattle.amf3_layout_laws.specs.Layout3State.{State3, state_of}
use Rattle.amf_wire_fields.proofs.LayoutBinds.{passed_on}
use Rattle.amf3_read.specs.Ready.{text_read}
use Rattle.amf3_read.specs.Names.{name_layout}
use Rattle.amf3_read.proofs.Empties.{tells_empty}
use Rattle.amf3_read.proofs.NameReads.{is_named, is_unnamed, some_bytes, name_ends, name_answers, empty_reads}
use Rattle.amf3_read.proofs.TextReads.{even_number, new_header, known_header, past_header, known_text_is, known_there, known_continues, new_text_reads, known_text_reads, header_refused}
use Rattle.amf3_read.proofs.text.read_name.Goals as goal

pub returns-in_err-read_number-clause-answers : goal.returns-in_err-read_number-clause-answers
returns-in_err-read_number-clause-answers g c =
    let S = g.S.Source in
    let s : State3 = state_of c.args.builder.now c.args.tables.now in
    let end = c.in_err-read_number.field-0.0 in
    passed_on S.tells S.left S.faults _ (name_layout s) c.args.cursor.now c.read_number.new.cursor c.from_residual.result end c.from_residual.ensures.1
    (name_ends S.tells S.left S.faults s c.args.cursor.now c.read_number.new.cursor end
    (field_ended S.tells S.left S.faults (text_header_kind (length s.words.texts)) (λ b. text_behind text_kind s (u29_value b)) c.args.cursor.now c.read_number.new.cursor end c.in_err-read_number.ensures.number))

pub returns-then-size-eq0-clause-answers : goal.returns-then-size-eq0-clause-answers
returns-then-size-eq0-clause-answers g c =
    let S = g.S.Source in
    let a = c.args.builder.now in
    let t = c.args.tables.now in
    let s : State3 = state_of a t in
    let e = c.in_ok-read_number.ensures in
    let h = c.get-header.result in
    name_answers S.tells S.left S.faults s (λ k. new_text s []) a t c.args.cursor.now c.read_number.new.cursor h None refl
    (empty_reads S.tells S.left S.faults s c.args.cursor.now c.read_number.new.cursor e.number.bytes h e.number.goes e.number.field e.placed (c.get-header.ensures.value ∙ e.number.value) c.if-header-eq1.true c.if-size-eq0.true)

pub returns-then-size-eq0-clause-continues : goal.returns-then-size-eq0-clause-continues
returns-then-size-eq0-clause-continues g c =
    let e = c.in_ok-read_number.ensures in
    let n = e.number.field.taken in
    known_continues c.args.builder.now c.args.tables.now c.args.cursor.now c.read_number.new.cursor c.requires e.placed e.goes.same_bound (omega arith)

pub returns-in_err-text-clause-answers : goal.returns-in_err-text-clause-answers
returns-in_err-text-clause-answers g c =
    let S = g.S.Source in
    let a = c.args.builder.now in
    let t = c.args.tables.now in
    let s : State3 = state_of a t in
    let e = c.in_ok-read_number.ensures in
    let h = c.get-header.result in
    let end = c.in_err-text.field-0.0 in
    passed_on S.tells S.left S.faults _ (name_layout s) c.args.cursor.now c.read_new_text.new.cursor c.from_residual-in_err-text.result end c.from_residual-in_err-text.ensures.1
    (name_ends S.tells S.left S.faults s c.args.cursor.now c.read_new_text.new.cursor end
    (new_text_reads S.tells S.left S.faults (text_read a t) (text_header_refusal (length s.words.texts)) text_kind s c.args.cursor.now c.read_number.new.cursor c.read_new_text.new.cursor e.number.bytes h (Err end)
    e.number.goes e.number.field (c.get-header.ensures.value ∙ e.number.value) (new_header (length s.words.texts) h c.if-header-eq1.true) c.if-header-eq1.true c.in_err-text.ensures.answers))

pub returns-then-header-eq1-clause-answers : goal.returns-then-header-eq1-clause-answers
returns-then-header-eq1-clause-answers g c =
    let S = g.S.Source in
    let a = c.args.builder.now in
    let t = c.args.tables.now in
    let z = c.read_new_text.new.builder in
    let u = c.read_new_text.new.tables in
    let s : State3 = state_of a t in
    let e = c.in_ok-read_number.ensures in
    let h = c.get-header.result in
    let text = c.in_ok-text.text in
    name_answers S.tells S.left S.faults s (text_read z u) z u c.args.cursor.now c.read_new_text.new.cursor text (Some text) (is_named s z u text (some_bytes (text_at z text.0) (omega (arith, c.in_ok-text.ensures.long, c.if-size-eq0.false))))
    (new_text_reads S.tells S.left S.faults (text_read z u) (text_header_refusal (length s.words.texts)) text_kind s c.args.cursor.now c.read_number.new.cursor c.read_new_text.new.cursor e.number.bytes h (Ok text)
    e.number.goes e.number.field (c.get-header.ensures.value ∙ e.number.value) (new_header (length s.words.texts) h c.if-header-eq1.true) c.if-header-eq1.true c.in_ok-text.ensures.answers)

pub returns-in_default-clause-answers : goal.returns-in_default-clause-answers
returns-in_default-clause-answers g c =
    let S = g.S.Source in
    let a = c.args.builder.now in
    let t = c.args.tables.now in
    let s : State3 = state_of a t in
    let e = c.in_ok-read_number.ensures in
    let h = c.get-header.result in
    name_ends S.tells S.left S.faults s c.args.cursor.now c.read_number.new.cursor c.refused.result
    (header_refused S.tells S.left S.faults (text_header_refusal (length s.words.texts)) text_kind s c.args.cursor.now c.read_number.new.cursor c.read_number.new.cursor e.number.bytes h c.at-start.result BadTextIndex c.refused.result
    e.number.field (c.get-header.ensures.value ∙ e.number.value) (past_header a t h (even_number h c.if-header-eq1.false) c.in_default.ensures) c.refused.ensures c.at-start.ensures.place)

pub text_of-requires : goal.text_of-requires
text_of-requires g c = known_there c.args.builder.now c.args.tables.now (c.get-header.result / 2) c.in-Some.text.0 c.requires.tables c.in-Some.ensures

pub returns-then-is_empty-clause-answers : goal.returns-then-is_empty-clause-answers
returns-then-is_empty-clause-answers g c =
    let S = g.S.Source in
    let a = c.args.builder.now in
    let t = c.args.tables.now in
    let s : State3 = state_of a t in
    let e = c.in_ok-read_number.ensures in
    let h = c.get-header.result in
    let text = c.in-Some.text in
    name_answers S.tells S.left S.faults s (text_read a t) a t c.args.cursor.now c.read_number.new.cursor text None (is_unnamed a t text (tells_empty _ _ _ (sym c.text_of.ensures) (sym c.is_empty.ensures ∙ c.if-is_empty.true)))
    (known_text_reads S.tells S.left S.faults (text_read a t) (text_header_refusal (length s.words.texts)) text_kind s c.args.cursor.now c.read_number.new.cursor e.number.bytes h text
    e.number.goes e.number.field e.placed (c.get-header.ensures.value ∙ e.number.value) (known_header a t h text.0 c.in-Some.ensures) (even_number h c.if-header-eq1.false) (known_text_is a t text (h / 2) c.in-Some.ensures))

pub returns-then-is_empty-clause-continues : goal.returns-then-is_empty-clause-continues
returns-then-is_empty-clause-continues g c =
    let e = c.in_ok-read_number.ensures in
    let n = e.number.field.taken in
    known_continues c.args.builder.now c.args.tables.now c.args.cursor.now c.read_number.new.cursor c.requires e.placed e.goes.same_bound (omega arith)

pub returns-clause-answers : goal.returns-clause-answers
returns-clause-answers g c =
    let S = g.S.Source in
    let a = c.args.builder.now in
    let t = c.args.tables.now in
    let s : State3 = state_of a t in
    let e = c.in_ok-read_number.ensures in
    let h = c.get-header.result in
    let text = c.in-Some.text in
    name_answers S.tells S.left S.faults s (text_read a t) a t c.args.cursor.now c.read_number.new.cursor text (Some text) (is_named s a t text (tells_empty _ _ _ (sym c.text_of.ensures) (sym c.is_empty.ensures ∙ c.if-is_empty.false)))
    (known_text_reads S.tells S.left S.faults (text_read a t) (text_header_refusal (length s.words.texts)) text_kind s c.args.cursor.now c.read_number.new.cursor e.number.bytes h text
    e.number.goes e.number.field e.placed (c.get-header.ensures.value ∙ e.number.value) (known_header a t h text.0 c.in-Some.ensures) (even_number h c.if-header-eq1.false) (known_text_is a t text (h / 2) c.in-Some.ensures))

pub returns-clause-continues : goal.returns-clause-continues
returns-clause-continues g c =
    let e = c.in_ok-read_number.ensures in
    let n = e.number.field.taken in
    known_continues c.args.builder.now c.args.tables.now c.args.cursor.now c.read_number.new.cursor c.requires e.placed e.goes.same_bound (omega arith)
