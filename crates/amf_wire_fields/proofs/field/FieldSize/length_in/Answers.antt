use Rattle.std.proofs.Common.{arith, ap, ◌∙◌}
use Rattle.amf_io.specs.Field.{whole}
use Rattle.amf_wire_fields.specs.FieldSize.{size_of}
use Rattle.amf_wire_fields.proofs.Ahead.{fixed_there, number_few}
use Rattle.amf_wire_fields.proofs.field.FieldSize.length_in.Goals as goal

pub returns-in-Byte-clause-whole : goal.returns-in-Byte-clause-whole
returns-in-Byte-clause-whole c = ap (λ k. whole (size_of k) c.args.bytes.now) c.in-Byte.is ∙ fixed_there 1 c.args.bytes.now (omega arith) (omega arith)

pub returns-in-Two-clause-whole : goal.returns-in-Two-clause-whole
returns-in-Two-clause-whole c = ap (λ k. whole (size_of k) c.args.bytes.now) c.in-Two.is ∙ fixed_there 2 c.args.bytes.now (omega arith) (omega arith)

pub returns-in-Four-clause-whole : goal.returns-in-Four-clause-whole
returns-in-Four-clause-whole c = ap (λ k. whole (size_of k) c.args.bytes.now) c.in-Four.is ∙ fixed_there 4 c.args.bytes.now (omega arith) (omega arith)

pub returns-in-Eight-clause-whole : goal.returns-in-Eight-clause-whole
returns-in-Eight-clause-whole c = ap (λ k. whole (size_of k) c.args.bytes.now) c.in-Eight.is ∙ fixed_there 8 c.args.bytes.now (omega arith) (omega arith)

pub returns-in-Whole-clause-whole : goal.returns-in-Whole-clause-whole
returns-in-Whole-clause-whole c = ap (λ k. whole (size_of k) c.args.bytes.now) c.in-U29.is ∙ c.in-Whole.ensures.answer.ends

pub returns-in-Whole-clause-few : goal.returns-in-Whole-clause-few
returns-in-Whole-clause-few c = let few = number_few _ c.in-Whole.used c.args.bytes.now c.in-Whole.ensures.answer in omega arith
