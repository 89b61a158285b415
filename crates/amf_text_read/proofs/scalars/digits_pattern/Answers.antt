use Rattle.std.proofs.Common.{ap, ◌∙◌, Some}
use Rattle.amf_text_read.proofs.HexPairs.{refused_are, written_are}
use Rattle.amf_text_read.proofs.scalars.digits_pattern.Goals as goal

pub returns-in-Ok : goal.returns-in-Ok
returns-in-Ok c =
    ap Some c.be64_at.ensures ∙ written_are c.args.digits.now c.decode_to_slice.new.out c.decode_to_slice.result c.decode_to_slice.auto.out c.decode_to_slice.ensures.value c.in-Ok.is

pub returns-in-Err : goal.returns-in-Err
returns-in-Err c = refused_are c.args.digits.now c.decode_to_slice.new.out c.decode_to_slice.result c.in-Err.field-0 c.decode_to_slice.ensures.value c.in-Err.is
