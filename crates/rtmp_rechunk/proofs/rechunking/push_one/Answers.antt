use Rattle.rtmp_chunks.specs.Table.{message_seen}
use Rattle.rtmp_rechunk.proofs.Again.{only_memory}
use Rattle.rtmp_rechunk.proofs.rechunking.push_one.Goals as goal

pub memory_of-requires : goal.memory_of-requires
memory_of-requires c = only_memory (message_seen c.args.message.now) c.in-Err.end c.requires c.in-Err.ensures.ends
