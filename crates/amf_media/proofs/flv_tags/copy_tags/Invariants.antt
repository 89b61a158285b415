use Rattle.std.proofs.Common.{◌≡◌, ◌≤◌, ◌-◌}
use Rattle.amf_io.specs.Cursor.{place, bound}
use Rattle.amf_io.specs.Stretch.{between}
use Rattle.amf_media.specs.declared.ending.MediaEnd.TheVariants.{Done}
use Rattle.amf_media.specs.FlvSteps.{Moves, GoesOn}
use Rattle.amf_media.proofs.flv_tags.copy_tags.Given as goal

abbrev pub invariant-tags : goal.invariant-tags
invariant-tags g l =
    let S = g.S.Source in
    let O = g.O.Sink in
    record {
      moves : Moves S.tells S.left S.faults l.fn.cursor l.cursor Done;
      told : O.tells l.out → O.tells l.fn.out;
      on : GoesOn l.job (between S.tells S.left l.fn.cursor l.cursor) (O.tells l.out) (O.held l.fn.out) (O.held l.out) l.fn.waiting.items l.waiting.items;
      steady : O.faults l.out ≡ O.faults l.fn.out;
      placed : place l.cursor ≤ bound l.cursor;
    }

abbrev pub decreases-tags : goal.decreases-tags
decreases-tags g l = bound l.cursor - place l.cursor
