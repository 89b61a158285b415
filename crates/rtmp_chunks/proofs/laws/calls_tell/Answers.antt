use Rattle.rtmp_chunks.proofs.Calls.{calls_tell}
use Rattle.rtmp_chunks.proofs.laws.calls_tell.Goals as goal

pub returns : goal.returns
returns c = record { calls = calls_tell }
