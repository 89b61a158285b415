use Rattle.std.proofs.Common.{◌≡◌, ℕ, ◌+◌, ◌-◌, ◌<◌, List, [], ◌∷◌, ◌++◌, length, map, take, drop, get_or, set, sym, ap, ◌∙◌, arith}
use Rattle.std.proofs.lemmas.List.{length-map, length-take-le, append_assoc, get_or_default, get_or-drop, get_or-append_right, map_more}
use Rattle.std.proofs.lemmas.List.Edits.{map_over_more}
use Rattle.amf_graph.specs.Arena.{Arena, StoredNode}
use Rattle.amf_graph.specs.Building.{kept_node}
use Rattle.amf_sheet.specs.declared.row.Row.{Row}
use Rattle.amf_sheet.specs.declared.row.Row.TheVariants as row
use Rattle.amf_sheet.specs.Filling.{with_nodes, begun_row, left_row}
use Rattle.amf_sheet.proofs.filling.begin_rows.Goals as goal

-- the row that is looked at is as it was
item_is : (rs ys : List Row) (k : ℕ) (x : Row) → k < length rs → ys ≡ map left_row (take k rs) ++ drop k rs → x ≡ get_or ys k x → x ≡ get_or rs k row.Untold
item_is rs ys k x l e f =
    let n : length (map left_row (take k rs)) ≡ k = length-map (take k rs) left_row ∙ length-take-le k rs (omega arith) in
    f ∙ ap (λ w. get_or w k x) e ∙ get_or-append_right (map left_row (take k rs)) (drop k rs) k k x n (omega arith) ∙ get_or-drop k rs (k - k) x
    ∙ ap (λ i. get_or rs i x) (let z : k + (k - k) ≡ k = omega arith in z) ∙ get_or_default rs k x row.Untold l

nodes_more : (a b : Arena) (ns : List StoredNode) (rs : List Row) (k : ℕ) (x : Row) → k < length rs → b ≡ with_nodes (ns ++ map begun_row (take k rs)) a → x ≡ get_or rs k row.Untold
    → kept_node b (begun_row x) ≡ with_nodes (ns ++ map begun_row (take (k + 1) rs)) a
nodes_more a b ns rs k x l e f =
    ap (λ (y : Arena). kept_node y (begun_row x)) e ∙ ap (λ r. with_nodes ((ns ++ map begun_row (take k rs)) ++ begun_row r ∷ []) a) f
    ∙ ap (λ w. with_nodes w a) (append_assoc ns (map begun_row (take k rs)) (begun_row (get_or rs k row.Untold) ∷ []) ∙ ap (λ w. ns ++ w) (sym (map_more begun_row rs k row.Untold l)))

pub loop-row-preserved : goal.loop-row-preserved
loop-row-preserved c =
    let a = c.args.builder.now in
    let rs = c.args.rows.now in
    let k = c.loop-row.row-index in
    let l : k < length rs = omega arith in
    let inv = c.loop-row.invariant in
    let e = c.in_ok-begin_row.ensures in
    let x = get_or c.loop-row.rows k c.row-item.result in
    let m : k < length c.loop-row.rows = omega arith in
    let is : x ≡ get_or c.loop-row.rows k x = get_or_default c.loop-row.rows k c.row-item.result x m in
    record {
      builder = e.builder ∙ nodes_more a c.loop-row.builder a.nodes rs k x l inv.builder (item_is rs c.loop-row.rows k x l inv.rows is);
      rows = ap (set c.loop-row.rows k) e.row ∙ map_over_more left_row rs c.loop-row.rows k x l inv.rows is;
    }
