use Rattle.flv_meta.proofs.DropAndSet.{metadata_holds}
use Rattle.flv_meta.proofs.laws.metadata_laws.Goals as goal

pub returns : goal.returns
returns c = metadata_holds
