use Rattle.amf_bytes.proofs.RunsOfTexts.{of_text}
use Rattle.amf_bytes.proofs.run.output_of.Goals as goal

pub returns-clause-makes : goal.returns-clause-makes
returns-clause-makes g c = λ told.
    let left = g.I.Source.left in
    of_text (left c.args.input.now) (left c.take_text.new.input) c.in_ok-text.text.items c.bytes_of.result (c.in_ok-text.ensures.takes told) c.bytes_of.ensures
