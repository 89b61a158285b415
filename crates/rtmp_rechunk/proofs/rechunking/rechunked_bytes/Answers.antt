use Rattle.rtmp_rechunk.proofs.Again.{rechunked_bytes}
use Rattle.rtmp_rechunk.proofs.rechunking.rechunked_bytes.Goals as goal

pub returns : goal.returns
returns c = record { bytes = rechunked_bytes }
