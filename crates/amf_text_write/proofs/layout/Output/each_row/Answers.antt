use Rattle.std.proofs.Common.{◌≤◌, [], length, get_or, arith, subst, ◌∙◌, ap}
use Rattle.std.specs.List.{flat_map}
use Rattle.std.proofs.lemmas.List.{take_all}
use Rattle.std.proofs.lemmas.Option.{slice_get-get_or}
use Rattle.amf_text_write.specs.Graphs.{row_tokens}
use Rattle.amf_text_write.specs.Tells.{Tells}
use Rattle.amf_text_write.specs.Ways.{graph_in}
use Rattle.amf_text_write.proofs.NumberLists.{parts_more}
use Rattle.amf_text_write.proofs.TableTokens.{rows_by_number}
use Rattle.amf_text_write.proofs.Telling.{exactly, more_none}
use Rattle.amf_text_write.proofs.layout.Output.each_row.Goals as goal

pub row-requires-clause-there : goal.row-requires-clause-there
row-requires-clause-there c =
    let rows = c.args.way.now.rows.now in
    c.requires.is_tabled.within c.loop-number.number-index (get_or rows c.loop-number.number-index 0) (slice_get-get_or rows c.loop-number.number-index 0 (omega arith))

pub loop-number-init : goal.loop-number-init
loop-number-init c = λ w is. exactly [] c.args.self.now c.args.self.now (more_none c.args.self.now)

pub loop-number-preserved : goal.loop-number-preserved
loop-number-preserved c = λ w is.
    let k = c.args.way.now in
    parts_more (λ n. row_tokens (graph_in k) (get_or k.numbering.now n 0) w) k.rows.now c.loop-number.number-index 0 c.args.self.now c.loop-number.self c.row.new.self (omega arith) (c.loop-number.invariant w is) (c.in_ok-row.ensures w is)

pub returns : goal.returns
returns c = λ w is.
    let k = c.args.way.now in
    let rows = k.rows.now in
    let past : length rows ≤ c.loop-number.number-index = omega arith in
    let whole = ap (flat_map (λ n. row_tokens (graph_in k) (get_or k.numbering.now n 0) w)) (take_all c.loop-number.number-index rows past) ∙ rows_by_number (graph_in k) k.numbering.now rows w in
    subst (λ ts. Tells ts c.args.self.now c.loop-number.self) whole (c.loop-number.invariant w is)
