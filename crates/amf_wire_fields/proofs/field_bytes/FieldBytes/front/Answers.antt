use Rattle.std.proofs.Common.{arith}
use Rattle.amf_wire_fields.proofs.Chunks.{are_bytes}
use Rattle.amf_wire_fields.proofs.field_bytes.FieldBytes.front.Goals as goal

pub returns-clause-bytes : goal.returns-clause-bytes
returns-clause-bytes c = are_bytes c.args.bytes.now (λ i. omega (arith, c.type_inv.bytes i))
