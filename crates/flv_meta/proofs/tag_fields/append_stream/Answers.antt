-- One field, and what is behind it.
use Rattle.amf_io.specs.Field.{raw_kind}
use Rattle.flv_meta.specs.FileLayout.{body_layout}
use Rattle.amf_io.proofs.FieldReads.{field_then, field_end}
use Rattle.flv_meta.proofs.tag_fields.append_stream.Goals as goal

pub returns-in_err-append_raw-clause-answers : goal.returns-in_err-append_raw-clause-answers
returns-in_err-append_raw-clause-answers g c =
    let S = g.S.Source in
    field_end S.tells S.left S.faults (raw_kind 3) c.args.out.now.items c.append_raw.new.out.items c.append_raw.new.out.items tt (body_layout c.args.size) c.args.cursor.now c.append_raw.new.cursor c.from_residual.result c.in_err-append_raw.field-0.0 c.from_residual.ensures.1 c.in_err-append_raw.ensures.answers

pub returns-clause-answers : goal.returns-clause-answers
returns-clause-answers g c =
    let S = g.S.Source in
    field_then S.tells S.left S.faults (raw_kind 3) c.args.out.now.items c.append_raw.new.out.items c.append_body.new.out.items c.in_ok-append_raw.field-0 (body_layout c.args.size) c.args.cursor.now c.append_raw.new.cursor c.append_body.new.cursor c.append_body.result
    c.in_ok-append_raw.ensures.goes c.in_ok-append_raw.ensures.answers c.append_body.ensures.answers
