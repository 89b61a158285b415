use Rattle.amf_media.proofs.FlvVerdicts.{accepted_files, spelled_values}
use Rattle.amf_media.proofs.flv_laws.accepted_files_are_refused_at_values.Goals as goal

pub returns : goal.returns
returns c = record { files = accepted_files; values = spelled_values }
