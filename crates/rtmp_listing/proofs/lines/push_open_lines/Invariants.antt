use Rattle.std.proofs.Common.{◌≡◌, ◌++◌, take}
use Rattle.rtmp_chunks.specs.Table.{opens_seen}
use Rattle.rtmp_listing.specs.Listing.{open_lines}
use Rattle.rtmp_listing.proofs.lines.push_open_lines.Given as goal

abbrev pub invariant-loop-one : goal.invariant-loop-one
invariant-loop-one l = l.out.items ≡ l.fn.out.items ++ open_lines (opens_seen (take l.one-index l.unfinished))
