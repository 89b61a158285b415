-- One field, and what is behind it.
use Rattle.amf_io.specs.Field.{raw_kind}
use Rattle.flv_meta.specs.FileLayout.{offset_layout}
use Rattle.amf_io.proofs.FieldReads.{field_then, field_end}
use Rattle.flv_meta.proofs.head.append_flags.Goals as goal

pub returns-in_err-append_raw-clause-answers : goal.returns-in_err-append_raw-clause-answers
returns-in_err-append_raw-clause-answers g c =
    let S = g.S.Source in
    field_end S.tells S.left S.faults (raw_kind 1) c.args.out.now.items c.append_raw.new.out.items c.append_raw.new.out.items tt offset_layout c.args.cursor.now c.append_raw.new.cursor c.from_residual.result c.in_err-append_raw.field-0.0 c.from_residual.ensures.1 c.in_err-append_raw.ensures.answers

pub returns-clause-answers : goal.returns-clause-answers
returns-clause-answers g c =
    let S = g.S.Source in
    field_then S.tells S.left S.faults (raw_kind 1) c.args.out.now.items c.append_raw.new.out.items c.append_offset.new.out.items c.in_ok-append_raw.field-0 offset_layout c.args.cursor.now c.append_raw.new.cursor c.append_offset.new.cursor c.append_offset.result
    c.in_ok-append_raw.ensures.goes c.in_ok-append_raw.ensures.answers c.append_offset.ensures.answers
