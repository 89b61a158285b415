-- One field, and what is behind it.
use Rattle.amf_io.specs.Field.{raw_kind}
use Rattle.flv_meta.specs.FileLayout.{size_layout}
use Rattle.amf_io.proofs.FieldReads.{field_then, field_end}
use Rattle.flv_meta.proofs.tag_fields.append_tag.Goals as goal

pub returns-in_err-append_raw-clause-answers : goal.returns-in_err-append_raw-clause-answers
returns-in_err-append_raw-clause-answers g c =
    let S = g.S.Source in
    field_end S.tells S.left S.faults (raw_kind 1) c.args.out.now.items c.append_raw.new.out.items c.append_raw.new.out.items tt size_layout c.args.cursor.now c.append_raw.new.cursor c.from_residual.result c.in_err-append_raw.field-0.0 c.from_residual.ensures.1 c.in_err-append_raw.ensures.answers

pub returns-clause-answers : goal.returns-clause-answers
returns-clause-answers g c =
    let S = g.S.Source in
    field_then S.tells S.left S.faults (raw_kind 1) c.args.out.now.items c.append_raw.new.out.items c.append_size.new.out.items c.in_ok-append_raw.field-0 size_layout c.args.cursor.now c.append_raw.new.cursor c.append_size.new.cursor c.append_size.result
    c.in_ok-append_raw.ensures.goes c.in_ok-append_raw.ensures.answers c.append_size.ensures.answers
