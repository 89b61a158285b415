use Rattle.std.proofs.Common.{refl, sym, ◌∙◌}
use Rattle.amf_graph.proofs.PlaceOf.{place_absent}
use Rattle.amf_text_write.proofs.Labels.{only_place}
use Rattle.amf_text_write.proofs.way.Way.number_of.Goals as goal

pub returns-in-Some : goal.returns-in-Some
returns-in-Some c = sym (only_place c.args.self.now.numbering.now c.in-Some.number c.args.node.0 c.in-Some.ensures.number (λ j e. c.in-Some.ensures.alone c.in-Some.number j refl e))

pub returns-in-None : goal.returns-in-None
returns-in-None c = c.count.ensures ∙ sym (place_absent c.args.self.now.numbering.now c.args.node.0 c.in-None.ensures.number)
