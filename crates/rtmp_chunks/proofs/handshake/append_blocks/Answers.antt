-- Two fields, one behind the other.
use Rattle.amf_io.specs.Layout.{give, want}
use Rattle.amf_io.specs.Field.{raw_kind}
use Rattle.std.proofs.Common.{◌++◌}
use Rattle.amf_io.proofs.FieldReads.{field_then, field_end}
use Rattle.rtmp_chunks.proofs.handshake.append_blocks.Goals as goal

pub returns-in_err-append_raw-clause-answers : goal.returns-in_err-append_raw-clause-answers
returns-in_err-append_raw-clause-answers g c =
    let S = g.S.Source in
    field_end S.tells S.left S.faults (raw_kind 1536) c.args.out.now.items c.append_raw.new.out.items c.append_raw.new.out.items tt (λ f. want (raw_kind 1536) (λ b. give (f ++ b))) c.args.cursor.now c.append_raw.new.cursor c.from_residual.result c.in_err-append_raw.field-0.0 c.from_residual.ensures.1 c.in_err-append_raw.ensures.answers

pub returns-clause-answers : goal.returns-clause-answers
returns-clause-answers g c =
    let S = g.S.Source in
    field_then S.tells S.left S.faults (raw_kind 1536) c.args.out.now.items c.append_raw.new.out.items c.append_raw-2.new.out.items c.in_ok-append_raw.field-0 (λ f. want (raw_kind 1536) (λ b. give (f ++ b))) c.args.cursor.now c.append_raw.new.cursor c.append_raw-2.new.cursor c.append_raw-2.result
    c.in_ok-append_raw.ensures.goes c.in_ok-append_raw.ensures.answers c.append_raw-2.ensures.answers
