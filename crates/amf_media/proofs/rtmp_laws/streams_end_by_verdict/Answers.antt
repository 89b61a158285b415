use Rattle.amf_media.proofs.StreamVerdicts as law
use Rattle.amf_media.proofs.rtmp_laws.streams_end_by_verdict.Goals as goal

pub returns : goal.returns
returns c = law.streams_end_by_verdict
