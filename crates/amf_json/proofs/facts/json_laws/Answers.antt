use Rattle.amf_json.proofs.JsonLawRows.{json_laws}
use Rattle.amf_json.proofs.facts.json_laws.Goals as goal

pub returns : goal.returns
returns c = json_laws
