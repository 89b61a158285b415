-- The law of the shipped service.
use Rattle.amf_service.proofs.Lawful.{lawful}
use Rattle.amf_service.proofs.names.NamesService.is_lawful.Goals as goal

pub returns : goal.returns
returns c = lawful.names
