-- What is not refused can be written.
use Rattle.std.proofs.Common.{subst}
use Rattle.amf_io.specs.Field.{AreBytes}
use Rattle.rtmp_chunks.specs.Table.{message_seen}
use Rattle.rtmp_chunks.proofs.Refusals.{none_pushed}
use Rattle.rtmp_chunks.proofs.chunker.is_pushed.Goals as goal

pub returns : goal.returns
returns c = none_pushed (message_seen c.args.m.now) c.requires c.are_in_range.ensures.kind c.are_in_range.ensures.stream c.are_in_range.ensures.time (subst AreBytes c.as_slice.ensures c.are_bytes.ensures)
