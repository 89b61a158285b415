-- What was seen grows at its end.
use Rattle.amf_desk.proofs.Own.{called_begins, looked_begins, joined_begins}
use Rattle.amf_desk.proofs.laws.seen_goes_on.Goals as goal

pub returns-clause-called : goal.returns-clause-called
returns-clause-called c = called_begins

pub returns-clause-looked : goal.returns-clause-looked
returns-clause-looked c = looked_begins

pub returns-clause-joined : goal.returns-clause-joined
returns-clause-joined c = joined_begins
