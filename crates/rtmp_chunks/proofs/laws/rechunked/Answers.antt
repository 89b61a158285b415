use Rattle.rtmp_chunks.proofs.Rechunking.{rechunked}
use Rattle.rtmp_chunks.proofs.laws.rechunked.Goals as goal

pub returns : goal.returns
returns c = record { again = rechunked }
