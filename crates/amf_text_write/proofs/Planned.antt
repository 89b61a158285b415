-- A graph's plan gives its way of telling.
use Rattle.std.proofs.Common.{refl}
use Rattle.amf_text.specs.Scalars.{Digits, AreDigits}
use Rattle.amf_text.specs.Texts.{IsWay}
use Rattle.amf_text_write.specs.declared.way.Way.{Way}
use Rattle.amf_text_write.specs.Plans.{IsPlannedWay, way_by}
use Rattle.amf_text_write.specs.Ways.{graph_in, IsWayOf}
use Rattle.amf_text_write.proofs.TableMarks.{row_marked, row_width}

pub planned_way : (c : Way) (d : Digits) → IsPlannedWay c → AreDigits d → IsWayOf c (way_by c d)
planned_way c d p are = record {
  order = refl;
  rows = refl;
  marks = λ i. row_marked (graph_in c) c.numbering.now c.marks.now c.rows.now c.width p.once p.is_tabled i;
  width = row_width (graph_in c) c.numbering.now c.marks.now c.rows.now c.width p.once p.is_tabled;
  digits = are;
  bare = refl;
}

pub is_way : (c : Way) (d : Digits) → IsPlannedWay c → IsWay d c.bare (graph_in c) (way_by c d)
is_way c d p = record { is_order = p.is_order; is_table = p.is_tabled.is_table; same_digits = refl; same_bare = refl }
