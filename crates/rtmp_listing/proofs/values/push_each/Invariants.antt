use Rattle.std.proofs.Common.{◌≡◌, ◌+◌, length}
use Rattle.amf_io.specs.Cursor.{place, bound, unread}
use Rattle.amf_io.specs.InMemory.{nothing_left}
use Rattle.rtmp_listing.specs.Values.{ListedSoFar}
use Rattle.rtmp_listing.proofs.values.push_each.Given as goal

abbrev pub invariant-loop-alloc : goal.invariant-loop-alloc
invariant-loop-alloc l =
    record {
      so_far : ListedSoFar (place l.fn.cursor) (unread nothing_left l.fn.cursor) (place l.cursor) (unread nothing_left l.cursor) l.fn.out.items l.out.items;
      end : place l.cursor + length (unread nothing_left l.cursor) ≡ bound l.cursor;
      same_bound : bound l.cursor ≡ bound l.fn.cursor;
    }

abbrev pub decreases-loop-alloc : goal.decreases-loop-alloc
decreases-loop-alloc l = length (unread nothing_left l.cursor)
