use Rattle.std.proofs.Common.{◌≡◌, [], List, ℕ, ◌-◌, Ok}
use Rattle.amf_io.specs.Cursor.{source_of, place, bound, unread}
use Rattle.amf_io.specs.ReadEnds.{GoesBy, IsPlaced}
use Rattle.rtmp_chunks.specs.Chunk.{Message as Seen, Unfinished}
use Rattle.rtmp_chunks.specs.Table.{held}
use Rattle.rtmp_rechunk.specs.Reads.{Puts, SoFar}
use Rattle.rtmp_rechunk.proofs.reading.read_messages.Given as goal

abbrev pub invariant-loop-message : goal.invariant-loop-message
invariant-loop-message g l =
    let H = g.H.Handler in
    let S = g.S.Source in
    let O = g.O.Sink in
    record {
      goes : GoesBy {X = Unit {0}} S.tells S.left S.faults l.fn.cursor l.cursor (Ok tt);
      placed : IsPlaced l.cursor;
      told : O.tells l.out → O.tells l.fn.out;
      no_fault : O.faults l.out ≡ O.faults l.fn.out;
      says : (m : Seen) (bytes : List ℕ) → H.says l.handler m bytes → H.says l.fn.handler m bytes;
      same_end : (open_ones : List Unfinished) (bytes : List ℕ) → H.ends l.handler open_ones bytes → H.ends l.fn.handler open_ones bytes;
      so_far : S.tells (source_of l.fn.cursor).now → SoFar (H.says l.fn.handler) (held l.fn.chunks []) (held l.chunks []) (unread S.left l.fn.cursor) (unread S.left l.cursor) (place l.fn.cursor) (place l.cursor) (bound l.fn.cursor) (Puts (O.tells l.out) (O.held l.fn.out) (O.held l.out) l.fn.waiting.items l.waiting.items);
    }

abbrev pub decreases-loop-message : goal.decreases-loop-message
decreases-loop-message g l = bound l.cursor - place l.cursor
