use Rattle.std.proofs.Common.{sym, ◌∙◌, arith}
use Rattle.amf_wire_fields.proofs.Chunks.{are_bytes, class_refused}
use Rattle.amf_wire_fields.proofs.contents.Contents.refusal.Goals as goal

pub returns-in-Class-clause-refusal : goal.returns-in-Class-clause-refusal
returns-in-Class-clause-refusal c = class_refused c.args.self c.args.bytes.now c.named.result _ c.in-Class.is c.named.ensures (sym c.is_some.ensures ∙ c.if-is_some.true)

pub returns-in-Class-2-clause-refusal : goal.returns-in-Class-2-clause-refusal
returns-in-Class-2-clause-refusal c = class_refused c.args.self c.args.bytes.now c.named.result _ c.in-Class-2.is c.named.ensures (sym c.is_some.ensures ∙ c.if-is_some.false)

pub returns-in-Class-2-clause-bytes : goal.returns-in-Class-2-clause-bytes
returns-in-Class-2-clause-bytes c = are_bytes c.args.bytes.now (λ i. omega (arith, c.type_inv.bytes i))
