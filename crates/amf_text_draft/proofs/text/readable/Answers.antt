use Rattle.std.proofs.Common.{arith}
use Rattle.amf_text_draft.proofs.text.readable.Goals as goal

pub returns-in-Ok-clause-some : goal.returns-in-Ok-clause-some
returns-in-Ok-clause-some c = (c.in-Ok.ensures.cases.0, (omega arith, c.in-Ok.ensures.cases.1))
