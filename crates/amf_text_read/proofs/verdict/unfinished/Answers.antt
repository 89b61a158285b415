use Rattle.std.proofs.Common.{sym, ap, ◌∙◌}
use Rattle.amf_text_read.specs.Stops.{stop_named}
use Rattle.amf_text_read.proofs.Faults.{comma_fault, end_fault, token_fault}
use Rattle.amf_text_read.proofs.verdict.unfinished.Goals as goal

pub returns-in-Ended : goal.returns-in-Ended
returns-in-Ended c = rw c.end_fault.ensures.reason (end_fault c.args.text.now c.end_fault.result.at c.requires.left (sym (ap stop_named c.in-Ended.is) ∙ c.requires.stop) c.end_fault.ensures.at)

pub returns-in-CommaLast : goal.returns-in-CommaLast
returns-in-CommaLast c =
    rw c.end_fault-in-CommaLast.ensures.reason (comma_fault c.args.text.now c.end_fault-in-CommaLast.result.at _ c.requires.left (sym (ap stop_named c.in-CommaLast.is) ∙ c.requires.stop) c.end_fault-in-CommaLast.ensures.at)

pub returns-in-Fault : goal.returns-in-Fault
returns-in-Fault c = token_fault c.args.text.now c.in-Fault.at c.requires.left (sym (ap stop_named c.in-Fault.is) ∙ c.requires.stop)
