use Rattle.amf_text.specs.Refused.{front}
use Rattle.amf_text_read.proofs.Faults.{wrong_fault, wrong_few}
use Rattle.amf_text_read.proofs.verdict.wrong_token.Goals as goal

pub returns : goal.returns
returns c =
    let place = rw (c.as_bytes.ensures.value, c.requires.front) at c.place_of.ensures in
    wrong_fault c.args.text.now c.args.tokens c.place_of.result c.args.reason c.requires.wrong (place (wrong_few (front c.args.text.now) c.args.tokens c.args.reason c.requires.wrong))
