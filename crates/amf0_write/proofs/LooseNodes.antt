-- Nodes that no index can name, which are written whole.
use Rattle.std.proofs.Common.{◌≡◌, ℕ, List, [], refl, ap, subst, inr, arith}
use Rattle.amf_graph.specs.declared.value.NodeId.{NodeId}
use Rattle.amf_graph.specs.declared.value.Value.TheVariants.{Node as NodeRef}
use Rattle.amf_graph.specs.Arena.{IsFinished, Names, text_at, date, xml_document}
use Rattle.amf_graph.specs.Bounds.{IsWithinBounds}
use Rattle.amf_graph.specs.Building.{closed, stored_at}
use Rattle.amf_graph.specs.Graph.{Node}
use Rattle.amf_graph.specs.Order.{Absent}
use Rattle.amf_graph.specs.Rooted.{RootedArena, content}
use Rattle.amf0_spelling.specs.Tables0.{Tables0}
use Rattle.amf0_write.specs.declared.output.Output.{Output}
use Rattle.amf0_write.specs.declared.unwritten.Unwritten.{Unwritten}
use Rattle.amf0_write.specs.Unwritten0.{IsMetValue, LeadsNode, TurnsFall, segments_left}
use Rattle.amf0_write.specs.Writes0.{done_of, AddsLoose, date_bytes, document_bytes}
use Rattle.amf0_write.proofs.MetValues0.{shown, node_in, node_there, node_fits, text_in, text_within}
use Rattle.amf0_write.proofs.Opening0.{dated, documented, leads_loose}

module _ (g : RootedArena) (n : NodeId) (waiting : List Unwritten) (o m : Output) (finished : IsFinished g.arena) (met : IsMetValue g (NodeRef n)) (new : Absent (done_of o) n.0) where
  pub leads_date : (p : ℕ) → stored_at g.arena n.0 ≡ closed (date p) [] [] → AddsLoose n (date_bytes p) o m → LeadsNode g n waiting waiting o m
  leads_date p there h =
      let a = g.arena in
      let e = ap (λ (y : Node). y.head) (shown a g.root n.0 (closed (date p) [] []) there) in
      leads_loose (content g) n.0 (node_there a g.root n.0 met.names) (node_fits a g.root n.0 finished met.names) (date_bytes p) (segments_left a waiting) o m n refl new (dated p e) h

  pub leads_document : (x : ℕ) (text : List ℕ) → IsWithinBounds g.arena → stored_at g.arena n.0 ≡ closed (xml_document x) [] [] → text ≡ text_at g.arena x → AddsLoose n (document_bytes text) o m → LeadsNode g n waiting waiting o m
  leads_document x text bounds there same h =
      let a = g.arena in
      let e = ap (λ (y : Node). y.head) (shown a g.root n.0 (closed (xml_document x) [] []) there) in
      let text_there = (node_in a n.0 (closed (xml_document x) [] []) finished met.names there).head in
      leads_loose (content g) n.0 (node_there a g.root n.0 met.names) (node_fits a g.root n.0 finished met.names) (document_bytes (text_at a x)) (segments_left a waiting) o m n refl new
      (documented (text_at a x) e (text_in a x finished text_there) (omega (arith, text_within a x bounds text_there))) (subst (λ (y : List ℕ). AddsLoose n (document_bytes y) o m) same h)

pub falls_loose : (g : RootedArena) (n : NodeId) (b : List ℕ) (waiting : List Unwritten) (o m : Output) → Names g.arena (NodeRef n) → Absent (done_of o) n.0 → AddsLoose n b o m → TurnsFall g waiting waiting o m
falls_loose g n b waiting o m there new h = inr (n.0, there, new, ap (λ (t : Tables0). t.amf3.done) h.tables, omega arith)
