use Rattle.std.proofs.Common.{◌∙◌}
use Rattle.amf_text_read.proofs.Faults.{front_all}
use Rattle.amf_text_read.proofs.verdict.front_of.Goals as goal

pub returns-in-Ok : goal.returns-in-Ok
returns-in-Ok c = c.in-Ok.ensures.cases.0 ∙ front_all c.args.text.now c.in-Ok.ensures.cases.1
