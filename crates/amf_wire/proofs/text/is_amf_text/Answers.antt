-- The answer is that of the computed test.
use Rattle.std.proofs.Common.{◌↔◌, IsTrue, rules}
use Rattle.amf_wire.specs.Text.{IsText}
use Rattle.amf_wire.proofs.TextFront.{same_test}
use Rattle.amf_wire.proofs.text.is_amf_text.Goals as goal

pub returns-clause-test : goal.returns-clause-test
returns-clause-test c = let h : IsTrue c.is_none.result ↔ IsText c.args.bytes.now = search rules in same_test c.is_none.result c.args.bytes.now h
