use Rattle.std.proofs.Common.{◌≡◌, ◌<◌, ◌++◌, ◌∷◌, [], refl, ap, sym, ◌∙◌, subst, inr}
use Rattle.amf_graph.specs.Arena.{node_content}
use Rattle.amf_graph.specs.Building.{stored_at}
use Rattle.amf_graph.specs.Graph.{node, node_at}
use Rattle.amf_graph.specs.Rooted.{content}
use Rattle.amf_graph.specs.declared.lack.LackKind.TheVariants.{EmptyName}
use Rattle.amf_graph.specs.declared.write_end.WriteEnd.TheVariants.{NoSpelling}
use Rattle.amf3_spelling.specs.declared.marker.Marker.TheVariants.{Node}
use Rattle.amf3_spelling.specs.Markers3.{marker_byte, node_marker}
use Rattle.amf3_spelling.specs.ByteSpelling.{value}
use Rattle.amf3_spelling.specs.Tables.{Tables, with_words, add_node}
use Rattle.std.proofs.lemmas.List.{length-map}
use Rattle.amf3_write.specs.declared.output.Output.{Output}
use Rattle.amf3_write.specs.Contents.{node_segments}
use Rattle.amf3_write.specs.Unwritten.{segments_left}
use Rattle.amf3_write.specs.Writes.{BeginsWith, IsReady}
use Rattle.amf3_write.proofs.Leading.{leads_then, leads_new, stops_unnamed}
use Rattle.amf3_write.proofs.Ready.{ready_with_node}
use Rattle.amf3_write.proofs.Turns.{keeps_new, nodes_stay}
use Rattle.amf3_write.proofs.WroteNodes.{fits_now, named_from, shown_marker, same_lack, true_is}
use Rattle.amf3_write.proofs.output.Output.new_node.Goals as goal

pub returns-then-is_unnamed-clause-lack : goal.returns-then-is_unnamed-clause-lack
returns-then-is_unnamed-clause-lack c = λ l e.
    stops_unnamed (content c.args.graph.now) c.args.node.0 (segments_left c.args.graph.now.arena c.args.waiting.now.items) c.args.self.now l c.requires.new c.requires.ready.placed
    (c.is_unnamed.ensures.0 (true_is c.is_unnamed.result c.if-is_unnamed.true)) (same_lack (NoSpelling (record { kind = EmptyName; node = c.node_count.result })) l _ e (ap (λ n. NoSpelling (record { kind = EmptyName; node = n })) c.node_count.ensures.count))

pub returns-in_err-open-clause-keeps : goal.returns-in_err-open-clause-keeps
returns-in_err-open-clause-keeps c = λ front h.
    let p = c.marker.new.self in
    let m : Output = record { alloc = p.alloc; tables = c.add_node.new.self; known = p.known; bytes = p.bytes } in
    c.in_err-open.ensures.keeps front (keeps_new c.args.node.0 p m c.in_ok-add_node.ensures.ok refl front (c.in_ok-marker.ensures.keeps front h))

pub returns-clause-leads : goal.returns-clause-leads
returns-clause-leads c =
    let g = content c.args.graph.now in
    let a = c.args.graph.now.arena in
    let i = c.args.node.0 in
    let p = c.marker.new.self in
    let m : Output = record { alloc = p.alloc; tables = c.add_node.new.self; known = p.known; bytes = p.bytes } in
    let old = segments_left a c.args.waiting.now.items in
    let there = subst (λ k. i < k) (sym (length-map a.nodes (node_content a))) c.requires.there in
    let marked = ap node_marker (c.kind.ensures a (stored_at a i) c.node-view.ensures) ∙ sym (shown_marker a c.args.graph.now.root i) in
    leads_then g (value (node i) ∷ old) (node_segments (node_at g i) ++ old) (segments_left a c.open.new.waiting.items) c.args.self.now m c.open.new.self
    (leads_new g i (marker_byte (Node c.kind.result)) old c.args.self.now p m there c.requires.new c.requires.ready.placed (named_from (node_at g i).names c.is_unnamed.result c.if-is_unnamed.false c.is_unnamed.ensures.1)
    (fits_now a c.args.graph.now.root i c.is_finished.ensures.finished c.requires.there) marked c.in_ok-marker.ensures.ok c.in_ok-add_node.ensures.ok refl) c.in_ok-open.ensures.leads

pub returns-clause-falls : goal.returns-clause-falls
returns-clause-falls c =
    let i = c.args.node.0 in
    let o = c.args.self.now in
    let p = c.marker.new.self in
    let m : Output = record { alloc = p.alloc; tables = c.add_node.new.self; known = p.known; bytes = p.bytes } in
    let same : p.tables ≡ o.tables = c.in_ok-marker.ensures.ok.spelled.2 ∙ ap (λ w. with_words o.tables w) c.in_ok-marker.ensures.ok.spelled.1.1 in
    let begun : m.tables.nodes ≡ o.tables.nodes ++ i ∷ [] = ap (λ (t : Tables). t.nodes) (c.in_ok-add_node.ensures.ok ∙ ap (λ (t : Tables). add_node t i) same) in
    inr (i, c.requires.there, c.requires.new, subst (λ w. BeginsWith w c.open.new.self.tables.nodes) begun (nodes_stay m c.open.new.self c.in_ok-open.ensures.keeps), c.in_ok-open.ensures.turns)

pub returns-clause-keeps : goal.returns-clause-keeps
returns-clause-keeps c = λ front h.
    let p = c.marker.new.self in
    let m : Output = record { alloc = p.alloc; tables = c.add_node.new.self; known = p.known; bytes = p.bytes } in
    c.in_ok-open.ensures.keeps front (keeps_new c.args.node.0 p m c.in_ok-add_node.ensures.ok refl front (c.in_ok-marker.ensures.keeps front h))

pub open-requires-clause-ready : goal.open-requires-clause-ready
open-requires-clause-ready c =
    let a = c.args.graph.now.arena in
    let begun = subst (λ (t : Tables). IsReady a t c.marker.new.self.known) (sym c.marker.ensures.tables) (subst (λ k. IsReady a c.args.self.now.tables k) (sym c.marker.ensures.known) c.requires.ready) in
    ready_with_node a c.marker.new.self.tables c.add_node.new.self c.marker.new.self.known c.marker.new.self.known c.args.node.0 begun c.in_ok-add_node.ensures.ok refl
