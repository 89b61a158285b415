-- One field, and what is behind it.
use Rattle.std.specs.Prelude.{codes}
use Rattle.amf_io.specs.declared.reason.Reason.TheVariants.{BadSignature}
use Rattle.amf_io.specs.Exact.{exact_kind}
use Rattle.flv_meta.specs.FileLayout.{version_layout}
use Rattle.amf_io.proofs.FieldReads.{field_then, field_end}
use Rattle.flv_meta.proofs.head.append_head.Goals as goal

pub returns-in_err-append_exactly-clause-answers : goal.returns-in_err-append_exactly-clause-answers
returns-in_err-append_exactly-clause-answers g c =
    let S = g.S.Source in
    field_end S.tells S.left S.faults (exact_kind BadSignature (codes "FLV")) c.args.out.now.items c.append_exactly.new.out.items c.append_exactly.new.out.items tt version_layout c.args.cursor.now c.append_exactly.new.cursor c.from_residual.result c.in_err-append_exactly.field-0.0 c.from_residual.ensures.1 c.in_err-append_exactly.ensures.answers

pub returns-clause-answers : goal.returns-clause-answers
returns-clause-answers g c =
    let S = g.S.Source in
    field_then S.tells S.left S.faults (exact_kind BadSignature (codes "FLV")) c.args.out.now.items c.append_exactly.new.out.items c.append_version.new.out.items c.in_ok-append_exactly.field-0 version_layout c.args.cursor.now c.append_exactly.new.cursor c.append_version.new.cursor c.append_version.result
    c.in_ok-append_exactly.ensures.goes c.in_ok-append_exactly.ensures.answers c.append_version.ensures.answers
