-- The first state.
use Rattle.std.proofs.Common.{refl}
use Rattle.rtmp_chunks.proofs.NextReads.{no_chunks}
use Rattle.rtmp_chunks.proofs.parts.Chunks.new.Goals as goal

pub returns-clause-start : goal.returns-clause-start
returns-clause-start c = no_chunks 128 c.new.result.items refl c.new.ensures.items
