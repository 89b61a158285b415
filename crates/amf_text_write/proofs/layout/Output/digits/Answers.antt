use Rattle.std.proofs.Common.{◌<◌, ◌^◌, arith}
use Rattle.json.proofs.Printed.Floats.{IsNumber-plain}
use Rattle.amf_text_write.proofs.Finite.{finite, numbered, reads_back}
use Rattle.amf_text_write.proofs.ToldLeaves.{digits_told, exponent_below}
use Rattle.amf_text_write.proofs.Telling.{on_ok}
use Rattle.amf_text_write.proofs.layout.Output.digits.Goals as goal

pub float_from_bits-bits : goal.float_from_bits-bits
float_from_bits-bits c = rw (numbered c.args.bits (exponent_below c.args.bits c.requires.finite)) tt

pub format_finite-requires : goal.format_finite-requires
format_finite-requires c = finite c.args.bits (exponent_below c.args.bits c.requires.finite)

pub token-requires : goal.token-requires
token-requires c = IsNumber-plain _ c.format_finite.ensures.plain

pub returns : goal.returns
returns c = λ d are.
    let p = c.args.bits in
    let s = c.format_finite.result.now in
    let fits : p < 2 ^ 64 = omega arith in
    let reads = reads_back p s fits (exponent_below p c.requires.finite) c.format_finite.ensures.parses in
    on_ok c.token.result (λ e. digits_told d p s c.args.self.now c.token.new.self are fits c.requires.finite c.requires.part (IsNumber-plain s c.format_finite.ensures.plain) reads e) c.token.ensures
