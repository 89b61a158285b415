-- Documents that match have one JSON.
use Rattle.amf_text.proofs.OneText.{same_json}
use Rattle.amf_text.proofs.facts.same_json.Goals as goal

pub returns : goal.returns
returns c = same_json
