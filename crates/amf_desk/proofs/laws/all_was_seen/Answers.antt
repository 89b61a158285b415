-- What the closing pass has seen is the whole history.
use Rattle.amf_desk.proofs.Own.{closed_whole}
use Rattle.amf_desk.proofs.laws.all_was_seen.Goals as goal

pub returns : goal.returns
returns c = closed_whole
