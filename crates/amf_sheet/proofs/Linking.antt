-- Numbers in place of labels.
use Rattle.std.proofs.Common.{◌≡◌, List, [], ◌∷◌, map, refl, ap, ◌∙◌}
use Rattle.amf_graph.specs.declared.value.Value.{Value as Stored}
use Rattle.amf_graph.specs.declared.value.TextId.{TextId}
use Rattle.amf_graph.specs.declared.value.NodeId.{NodeId}
use Rattle.amf_graph.specs.Arena.{Arena}
use Rattle.amf_graph.specs.Building.{closed, shape_head}
use Rattle.amf_graph.specs.Views.{named}
use Rattle.amf_graph.proofs.Alls.{all_weaker}
use Rattle.amf_sheet.specs.declared.row.Row.{Row}
use Rattle.amf_sheet.specs.declared.row.Row.TheVariants as row
use Rattle.amf_sheet.specs.Labels.{linked, linked_node, linked_arena}
use Rattle.amf_sheet.specs.Rows.{Columns, columns, span_of, RowIn, row_node, sheet_arena, IsSheet}
use Rattle.amf_sheet.proofs.Spans.{span_map, span_in_map}

abbrev pub linked_pair : List NodeId → TextId × Stored → TextId × Stored
linked_pair labels p = (p.0, linked labels p.1)

abbrev pub linked_columns : List NodeId → Columns → Columns
linked_columns labels c = columns (map (λ p. (p.0, linked labels p.1)) c.names) (map (linked labels) c.values)

named_linked : (labels : List NodeId) (ps : List (TextId × Stored)) → named (map (λ p. (p.0, linked labels p.1)) ps) ≡ map (λ p. (p.0, linked labels p.1)) (named ps)
named_linked labels [] = refl
named_linked labels (p ∷ ps) = ap (λ w. (p.0.0, linked labels p.1) ∷ w) (named_linked labels ps)

row_linked : (labels : List NodeId) (c : Columns) (r : Row) → row_node (linked_columns labels c) r ≡ linked_node labels (row_node c r)
row_linked labels c row.Untold = refl
row_linked labels c (row.Leaf l) = refl
row_linked labels c (row.Parts s ps vs) =
    ap (λ w. closed (shape_head s) (named w) (span_of (map (linked labels) c.values) vs)) (span_map (linked_pair labels) c.names ps)
    ∙ ap (λ w. closed (shape_head s) w (span_of (map (linked labels) c.values) vs)) (named_linked labels (span_of c.names ps))
    ∙ ap (closed (shape_head s) (map (λ p. (p.0, linked labels p.1)) (named (span_of c.names ps)))) (span_map (linked labels) c.values vs)

rows_linked : (labels : List NodeId) (c : Columns) (rs : List Row) → map (row_node (linked_columns labels c)) rs ≡ map (linked_node labels) (map (row_node c) rs)
rows_linked labels c [] = refl
rows_linked labels c (r ∷ rs) = ap (λ n. n ∷ map (row_node (linked_columns labels c)) rs) (row_linked labels c r) ∙ ap (λ ns. linked_node labels (row_node c r) ∷ ns) (rows_linked labels c rs)

pub arena_linked : (labels : List NodeId) (a : Arena) (c : Columns) (rs : List Row) → sheet_arena a (linked_columns labels c) rs ≡ linked_arena labels (sheet_arena a c rs)
arena_linked labels a c rs = ap (λ ns. record { texts = a.texts; traits = a.traits; nodes = ns }) (rows_linked labels c rs)

row_in_linked : (labels : List NodeId) (c : Columns) (r : Row) → RowIn c r → RowIn (linked_columns labels c) r
row_in_linked labels c row.Untold h = tt
row_in_linked labels c (row.Leaf l) h = tt
row_in_linked labels c (row.Parts s ps vs) h = (span_in_map (linked_pair labels) c.names ps h.0, span_in_map (linked labels) c.values vs h.1)

pub sheet_linked : (labels : List NodeId) (a : Arena) (c : Columns) (rs : List Row) → IsSheet a c rs → IsSheet a (linked_columns labels c) rs
sheet_linked labels a c rs s = record { no_nodes = s.no_nodes; rows_in = all_weaker (RowIn c) (RowIn (linked_columns labels c)) rs (row_in_linked labels c) s.rows_in; few = s.few }
