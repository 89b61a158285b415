use Rattle.std.proofs.Common.{◌≡◌, ◌+◌, ◌-◌, ◌≤◌, ◌++◌, length}
use Rattle.amf_io.specs.Cursor.{source_of, place, bound, ahead, unread}
use Rattle.amf_wire_fields.specs.FieldSize.{size_of}
use Rattle.amf_wire_fields.proofs.FieldLoop.{Grows}
use Rattle.amf_wire_fields.proofs.field.read_by_bytes.Given as goal

abbrev pub invariant-loop-size : goal.invariant-loop-size
invariant-loop-size g l =
    let tells = g.S.Source.tells in
    let left = g.S.Source.left in
    let faults = g.S.Source.faults in
    record {
      told : tells (source_of l.fn.cursor).now → tells (source_of l.cursor).now;
      same_name : (source_of l.cursor).ghost_name ≡ (source_of l.fn.cursor).ghost_name;
      same_bound : bound l.cursor ≡ bound l.fn.cursor;
      started : l.start ≡ place l.fn.cursor;
      parts : tells (source_of l.fn.cursor).now → unread left l.fn.cursor ≡ l.field ++ unread left l.cursor;
      total : tells (source_of l.fn.cursor).now → place l.cursor + length (unread left l.cursor) ≡ place l.fn.cursor + length (unread left l.fn.cursor);
      taken : place l.cursor ≡ l.start + length l.field;
      within : place l.cursor ≤ bound l.cursor;
      none_past : place l.cursor + ahead l.cursor ≤ bound l.cursor + 1;
      grows : Grows (size_of l.size) l.field;
      no_fault : faults (source_of l.cursor).now ≡ faults (source_of l.fn.cursor).now;
    }

abbrev pub decreases-loop-size : goal.decreases-loop-size
decreases-loop-size g l = 8 - length l.field
