use Rattle.std.proofs.Common.{refl, ap, sym, ◌∙◌}
use Rattle.amf_graph.specs.Rooted.{content}
use Rattle.amf3_spelling.specs.declared.marker.Marker.TheVariants.{Node}
use Rattle.amf3_spelling.specs.Markers3.{marker_byte, node_marker}
use Rattle.amf3_write.proofs.Leading.{leads_placed}
use Rattle.amf3_write.proofs.WroteNodes.{shown_marker}
use Rattle.amf3_write.proofs.output.Output.known_node.Goals as goal

pub returns-in_ok-number-in-Some-clause-leads : goal.returns-in_ok-number-in-Some-clause-leads
returns-in_ok-number-in-Some-clause-leads c = λ ps.
    let a = c.args.graph.now.arena in
    let i = c.args.node.0 in
    let marked = ap node_marker c.kind_of.ensures ∙ sym (shown_marker a c.args.graph.now.root i) in
    leads_placed (content c.args.graph.now) i _ (marker_byte (Node c.kind_of.result)) c.in-Some.place ps c.args.self.now c.marker.new.self c.number.new.self c.requires.ready.placed c.in-Some.ensures.first.0 marked refl c.in_ok-marker-in-Some.ensures.ok c.in_ok-number-in-Some.ensures.ok
