use Rattle.amf_fixtures.proofs.read3.read_into3.Goals as goal

pub returns : goal.returns
returns c = c.in_ok-value.ensures.answers.read.value
