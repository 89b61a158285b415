use Rattle.std.proofs.Common.{sym, ◌∙◌, subst}
use Rattle.amf_text_write.specs.PacketTexts.{message_of, message_tokens, AreMessageTexts}
use Rattle.amf_text_write.specs.Tells.{Tells}
use Rattle.amf_text_write.specs.Ways.{graph_in, IsWayOf}
use Rattle.amf_text_write.proofs.Leading.{on_ok_told}
use Rattle.amf_text_write.proofs.PacketParts.{message_added}
use Rattle.amf_text_write.proofs.Telling.{on_ok}
use Rattle.amf_text_write.proofs.packets.MessageTexts.message.Goals as goal

pub returns : goal.returns
returns c = λ layout headers messages told.
    let k = c.way-way.result in
    let old = c.self.inside.output in
    let new = c.message_object.new.self in
    let x = c.args.target.now in
    let y = c.args.response.now in
    on_ok c.message_object.result (λ tells. message_added x y c.args.form k c.args.graph.now old new c.way-way.ensures.planned c.way-way.ensures.graph (c.way-way.ensures.bare ∙ c.is_bare.ensures) tells layout headers messages (subst (AreMessageTexts layout headers messages) (sym c.self.view_is) told))
    (on_ok_told c.message_object.result (IsWayOf k) (λ w. Tells (message_tokens (message_of x y c.args.form (graph_in k)) w) old new) c.message_object.ensures)
