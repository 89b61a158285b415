use Rattle.std.proofs.Common.{length, sym}
use Rattle.std.proofs.lemmas.Bool.{ltb-true, ltb-false}
use Rattle.amf_text_write.proofs.Labels.{mark_found, mark_past, in_table_by}
use Rattle.amf_text_write.proofs.way.Way.has_row.Goals as goal

pub returns-in-Some : goal.returns-in-Some
returns-in-Some c = λ w is.
    let ms = c.args.self.now.marks.now in
    let i = c.number_of.result in
    in_table_by c.args.self.now w c.args.node.0 i c.in-Some.mark.now is c.number_of.ensures (mark_found ms i c.in-Some.mark.now (ltb-true i (length ms) (sym c.in-Some.ensures.lookup.0)) c.in-Some.ensures.lookup.1)

pub returns-in-None : goal.returns-in-None
returns-in-None c = λ w is.
    let ms = c.args.self.now.marks.now in
    let i = c.number_of.result in
    in_table_by c.args.self.now w c.args.node.0 i _ is c.number_of.ensures (mark_past ms i (ltb-false i (length ms) (sym c.in-None.ensures.lookup.0)))
