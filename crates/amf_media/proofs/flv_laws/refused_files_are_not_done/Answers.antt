use Rattle.amf_media.proofs.FlvVerdicts.{refused_files}
use Rattle.amf_media.proofs.flv_laws.refused_files_are_not_done.Goals as goal

pub returns : goal.returns
returns c = refused_files
