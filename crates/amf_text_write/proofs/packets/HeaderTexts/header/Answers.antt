use Rattle.std.proofs.Common.{sym, ◌∙◌, subst}
use Rattle.amf_text_write.specs.PacketTexts.{header_of, header_tokens, AreHeaderTexts}
use Rattle.amf_text_write.specs.Tells.{Tells}
use Rattle.amf_text_write.specs.Ways.{graph_in, IsWayOf}
use Rattle.amf_text_write.proofs.Leading.{on_ok_told}
use Rattle.amf_text_write.proofs.PacketParts.{header_added}
use Rattle.amf_text_write.proofs.Telling.{on_ok}
use Rattle.amf_text_write.proofs.packets.HeaderTexts.header.Goals as goal

pub returns : goal.returns
returns c = λ layout headers told.
    let k = c.way-way.result in
    let old = c.self.inside.output in
    let new = c.header_object.new.self in
    let x = c.args.name.now in
    on_ok c.header_object.result (λ tells. header_added x c.args.must c.args.form k c.args.graph.now old new c.way-way.ensures.planned c.way-way.ensures.graph (c.way-way.ensures.bare ∙ c.is_bare.ensures) tells layout headers (subst (AreHeaderTexts layout headers) (sym c.self.view_is) told))
    (on_ok_told c.header_object.result (IsWayOf k) (λ w. Tells (header_tokens (header_of x c.args.must c.args.form (graph_in k)) w) old new) c.header_object.ensures)
