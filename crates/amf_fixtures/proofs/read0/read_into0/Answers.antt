use Rattle.amf_fixtures.proofs.read0.read_into0.Goals as goal

pub returns : goal.returns
returns c = c.in_ok-read.ensures.answers.read.read.value
