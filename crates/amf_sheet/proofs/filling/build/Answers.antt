use Rattle.std.proofs.Common.{◌≡◌, ℕ, ◌-◌, ◌<◌, List, ◌++◌, length, map, get_or, sym, ap, ◌∙◌, arith}
use Rattle.std.proofs.lemmas.List.{length-map, get_or_default}
use Rattle.amf_sheet.specs.declared.row.Row.{Row}
use Rattle.amf_sheet.specs.declared.row.Row.TheVariants as row
use Rattle.amf_sheet.specs.Filling.{with_nodes, begun_row, left_row, half_filled}
use Rattle.amf_sheet.specs.Rows.{columns, sheet_arena}
use Rattle.amf_sheet.proofs.Halves.{half_begun, half_done, half_more, half_fillable, half_there, half_in, each_head, each_items}
use Rattle.amf_sheet.proofs.filling.build.Goals as goal

pub begin_rows-requires-clause-names : goal.begin_rows-requires-clause-names
begin_rows-requires-clause-names c = each_head c.args.builder.now (columns c.args.names.now c.args.values.now) c.args.rows.now c.args.rows.now c.requires.told

pub begin_rows-requires-clause-items : goal.begin_rows-requires-clause-items
begin_rows-requires-clause-items c =
    let cs = columns c.args.names.now c.args.values.now in
    each_items (sheet_arena c.args.builder.now cs c.args.rows.now) cs c.args.rows.now c.requires.told

pub begin_rows-requires-clause-few : goal.begin_rows-requires-clause-few
begin_rows-requires-clause-few c = omega (arith, ap length c.requires.none, c.requires.few)

pub loop-left-init : goal.loop-left-init
loop-left-init c =
    let a = c.args.builder.now in
    let rs = c.args.rows.now in
    let e = c.in_ok-begin_rows.ensures in
    let all : length c.begin_rows.new.rows ≡ length rs = ap length e.rows ∙ length-map rs left_row in
    record {
      builder = e.builder ∙ ap (λ w. with_nodes (w ++ map begun_row rs) a) c.requires.none
          ∙ ap (λ w. with_nodes w a) (sym (half_begun (columns c.args.names.now c.args.values.now) (length c.begin_rows.new.rows) rs (omega arith)));
      rows = e.rows;
      within = omega arith;
    }

row_is : (rows rs : List Row) (n : ℕ) (x : Row) → n < length rs → rows ≡ map left_row rs → get_or rows n x ≡ get_or (map left_row rs) n row.Untold
row_is rows rs n x l e = ap (λ w. get_or w n x) e ∙ get_or_default (map left_row rs) n x row.Untold (omega (arith, length-map rs left_row))

pub fill_row-requires-clause-there : goal.fill_row-requires-clause-there
fill_row-requires-clause-there c =
    let k = c.loop-left.invariant in
    half_there c.args.builder.now c.loop-left.builder (columns c.args.names.now c.args.values.now) (c.loop-left.left - 1) c.loop-left.left c.args.rows.now (omega (arith, k.within)) k.builder

pub fill_row-requires-clause-row_in : goal.fill_row-requires-clause-row_in
fill_row-requires-clause-row_in c =
    let n = c.loop-left.left - 1 in
    let k = c.loop-left.invariant in
    let l : n < length c.args.rows.now = omega (arith, k.within) in
    half_in (columns c.args.names.now c.args.values.now) n c.args.rows.now (get_or c.begin_rows.new.rows n c.index-rows-left.result) l (row_is c.begin_rows.new.rows c.args.rows.now n c.index-rows-left.result l k.rows) c.requires.rows_in

pub fill_row-requires-clause-parts : goal.fill_row-requires-clause-parts
fill_row-requires-clause-parts c =
    let n = c.loop-left.left - 1 in
    let k = c.loop-left.invariant in
    let l : n < length c.args.rows.now = omega (arith, k.within) in
    half_fillable c.args.builder.now c.loop-left.builder (columns c.args.names.now c.args.values.now) n c.loop-left.left c.args.rows.now (get_or c.begin_rows.new.rows n c.index-rows-left.result)
    (omega arith) l k.builder (row_is c.begin_rows.new.rows c.args.rows.now n c.index-rows-left.result l k.rows) c.requires.told

pub loop-left-preserved : goal.loop-left-preserved
loop-left-preserved c =
    let n = c.loop-left.left - 1 in
    let k = c.loop-left.invariant in
    let l : n < length c.args.rows.now = omega (arith, k.within) in
    record {
      builder =
          half_more c.args.builder.now c.loop-left.builder c.fill_row.new.builder (columns c.args.names.now c.args.values.now) n c.loop-left.left c.args.rows.now (get_or c.begin_rows.new.rows n c.index-rows-left.result)
          (omega arith) l k.builder (row_is c.begin_rows.new.rows c.args.rows.now n c.index-rows-left.result l k.rows) c.in_ok-fill_row.ensures;
      rows = k.rows;
      within = omega arith;
    }

pub returns : goal.returns
returns c =
    let a = c.args.builder.now in
    let cs = columns c.args.names.now c.args.values.now in
    let none : c.loop-left.left ≡ 0 = omega arith in
    c.loop-left.invariant.builder ∙ ap (λ n. with_nodes (half_filled cs n c.args.rows.now) a) none ∙ ap (λ w. with_nodes w a) (half_done cs c.args.rows.now)
