-- Data of some bytes, and the number behind them.
use Rattle.std.proofs.Common.{◌≡◌, ◌<◌, ◌++◌, ℕ, zero, suc, List, arith, refl, subst}
use Rattle.amf_io.specs.Field.{raw_kind}
use Rattle.amf_io.specs.Layout.{want}
use Rattle.amf_io.specs.CursorReads.{Answers}
use Rattle.flv_meta.specs.FileLayout.{number_layout, body_layout}
use Rattle.amf_io.proofs.FieldReads.{field_then, field_end}
use Rattle.flv_meta.proofs.tag_fields.append_body.Goals as goal

body_is : (size : ℕ) (front : List ℕ) → 0 < size → want (raw_kind size) (λ d. number_layout (front ++ d)) ≡ body_layout size front
body_is zero front less = absurd (omega (arith, less))
body_is (suc n) front less = refl

pub returns-in_err-append_raw-clause-answers : goal.returns-in_err-append_raw-clause-answers
returns-in_err-append_raw-clause-answers g c =
    let S = g.S.Source in
    subst (λ t. Answers S.tells S.left (λ done. c.append_raw.new.out.items) t c.args.cursor.now c.append_raw.new.cursor c.from_residual.result) (body_is c.args.size c.args.out.now.items (omega arith))
    (field_end S.tells S.left S.faults (raw_kind c.args.size) c.args.out.now.items c.append_raw.new.out.items c.append_raw.new.out.items tt number_layout c.args.cursor.now c.append_raw.new.cursor c.from_residual.result c.in_err-append_raw.field-0.0 c.from_residual.ensures.1 c.in_err-append_raw.ensures.answers)

pub returns-clause-answers : goal.returns-clause-answers
returns-clause-answers g c =
    let S = g.S.Source in
    subst (λ t. Answers S.tells S.left (λ done. c.append_number-2.new.out.items) t c.args.cursor.now c.append_number-2.new.cursor c.append_number-2.result) (body_is c.args.size c.args.out.now.items (omega arith))
    (field_then S.tells S.left S.faults (raw_kind c.args.size) c.args.out.now.items c.append_raw.new.out.items c.append_number-2.new.out.items c.in_ok-append_raw.field-0 number_layout c.args.cursor.now c.append_raw.new.cursor c.append_number-2.new.cursor c.append_number-2.result
    c.in_ok-append_raw.ensures.goes c.in_ok-append_raw.ensures.answers c.append_number-2.ensures.answers)
