-- Each document that can be told has a JSON.
use Rattle.amf_text.proofs.JsonExists.{json_exists}
use Rattle.amf_text.proofs.facts.json_exists.Goals as goal

pub returns : goal.returns
returns c = json_exists
