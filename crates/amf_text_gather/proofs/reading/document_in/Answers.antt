use Rattle.amf_text_gather.proofs.Ends.{not_ended}
use Rattle.amf_text_gather.proofs.reading.document_in.Goals as goal

pub returns : goal.returns
returns c = λ p e. not_ended c.args.frame p c.in_default.not-Ended e
