use Rattle.std.proofs.Common.{arith}
use Rattle.amf_wire_fields.proofs.Chunks.{are_bytes}
use Rattle.amf_wire_fields.proofs.LooseText.{begins_text}
use Rattle.amf_wire_fields.proofs.text.begins_with_text.Goals as goal

pub returns : goal.returns
returns c = begins_text c.is_amf_text.result c.args.bytes.now c.args.size (omega arith) (are_bytes c.args.bytes.now (λ i. omega (arith, c.type_inv.bytes i))) c.is_amf_text.ensures.test
