-- One field, and what is behind it.
use Rattle.std.specs.Prelude.{[], ◌∷◌}
use Rattle.amf_io.specs.declared.reason.Reason.TheVariants.{BadLength}
use Rattle.amf_io.specs.Exact.{exact_kind}
use Rattle.flv_meta.specs.FileLayout.{number_layout}
use Rattle.amf_io.proofs.FieldReads.{field_then, field_end}
use Rattle.flv_meta.proofs.head.append_offset.Goals as goal

pub returns-in_err-append_exactly-clause-answers : goal.returns-in_err-append_exactly-clause-answers
returns-in_err-append_exactly-clause-answers g c =
    let S = g.S.Source in
    field_end S.tells S.left S.faults (exact_kind BadLength (0 ∷ 0 ∷ 0 ∷ 9 ∷ [])) c.args.out.now.items c.append_exactly.new.out.items c.append_exactly.new.out.items tt number_layout c.args.cursor.now c.append_exactly.new.cursor c.from_residual.result c.in_err-append_exactly.field-0.0 c.from_residual.ensures.1 c.in_err-append_exactly.ensures.answers

pub returns-clause-answers : goal.returns-clause-answers
returns-clause-answers g c =
    let S = g.S.Source in
    field_then S.tells S.left S.faults (exact_kind BadLength (0 ∷ 0 ∷ 0 ∷ 9 ∷ [])) c.args.out.now.items c.append_exactly.new.out.items c.append_number.new.out.items c.in_ok-append_exactly.field-0 number_layout c.args.cursor.now c.append_exactly.new.cursor c.append_number.new.cursor c.append_number.result
    c.in_ok-append_exactly.ensures.goes c.in_ok-append_exactly.ensures.answers c.append_number.ensures.answers
