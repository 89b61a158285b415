use Rattle.std.proofs.Common.{◌≡◌, [], refl, ap, sym, ◌∙◌, subst}
use Rattle.amf_graph.specs.Arena.{node_content, traits_at, array, object}
use Rattle.amf_graph.specs.Building.{closed, stored_at}
use Rattle.amf_graph.specs.Graph as graph
use Rattle.amf_graph.specs.Graph.{Node, node_at}
use Rattle.amf_graph.specs.Rooted.{content}
use Rattle.amf_graph.specs.Views.{named, Shows}
use Rattle.amf_iso.specs.Contents.{pairs_of, values_of}
use Rattle.amf0_spelling.specs.Lowered.{IsLowHead}
use Rattle.amf0_spelling.specs.Spells0.{IsOpenTraits}
use Rattle.amf0_write.specs.Unwritten0.{segments_left}
use Rattle.amf0_write.specs.Writes0.{Opened, date_bytes, document_bytes}
use Rattle.amf0_write.proofs.LooseNodes.{leads_date, leads_document, falls_loose}
use Rattle.amf0_write.proofs.MetValues0.{shown, node_in, node_there, node_fits, reached_node, met_items, met_names}
use Rattle.amf0_write.proofs.Opening0.{no_sealed, leads_opened}
use Rattle.amf0_write.proofs.Runs0.{on_ok}
use Rattle.amf0_write.proofs.output.Output.open.Goals as goal

pub array-requires-clause-items : goal.array-requires-clause-items
array-requires-clause-items c =
    let a = c.args.graph.now.arena in
    let i = c.args.node.0 in
    let n = closed array (named c.in-Array.names.now) c.in-Array.items.now in
    let there = subst (λ w. Shows a (stored_at a i) w) c.in-Array.is c.requires.shown in
    met_items c.args.graph.now i (node_content a n) c.in-Array.items.now (reached_node c.requires.met.reached) (shown a c.args.graph.now.root i n there) refl (node_in a i n c.is_finished.ensures.finished c.requires.met.names there).values

pub array-requires-clause-names : goal.array-requires-clause-names
array-requires-clause-names c =
    let a = c.args.graph.now.arena in
    let i = c.args.node.0 in
    let n = closed array (named c.in-Array.names.now) c.in-Array.items.now in
    let there = subst (λ w. Shows a (stored_at a i) w) c.in-Array.is c.requires.shown in
    met_names c.args.graph.now i (node_content a n) c.in-Array.names.now (reached_node c.requires.met.reached) (shown a c.args.graph.now.root i n there) refl (node_in a i n c.is_finished.ensures.finished c.requires.met.names there).names c.requires.short.1

pub object-requires-clause-open : goal.object-requires-clause-open
object-requires-clause-open c =
    let a = c.args.graph.now.arena in
    let i = c.args.node.0 in
    let n = closed (object c.in-Object.traits.0) (named c.in-Object.members.now) c.in-Object.sealed.now in
    let there = subst (λ w. Shows a (stored_at a i) w) c.in-Object.is c.requires.shown in
    let low = subst (λ (x : Node). IsLowHead x.head) (shown a c.args.graph.now.root i n there) (c.requires.low.nodes i (reached_node c.requires.met.reached)) in
    record { dynamic = low.0; unsealed = low.1 }

pub object-requires-clause-names : goal.object-requires-clause-names
object-requires-clause-names c =
    let a = c.args.graph.now.arena in
    let i = c.args.node.0 in
    let n = closed (object c.in-Object.traits.0) (named c.in-Object.members.now) c.in-Object.sealed.now in
    let there = subst (λ w. Shows a (stored_at a i) w) c.in-Object.is c.requires.shown in
    met_names c.args.graph.now i (node_content a n) c.in-Object.members.now (reached_node c.requires.met.reached) (shown a c.args.graph.now.root i n there) refl (node_in a i n c.is_finished.ensures.finished c.requires.met.names there).names c.requires.short.1

pub returns-in-Date-clause-leads : goal.returns-in-Date-clause-leads
returns-in-Date-clause-leads c =
    let a = c.args.graph.now.arena in
    let there = subst (λ w. Shows a (stored_at a c.args.node.0) w) c.in-Date.is c.requires.shown in
    on_ok c.date.result (λ h.
    leads_date c.args.graph.now c.args.node c.args.waiting.now.items c.args.self.now c.date.new.self c.is_finished.ensures.finished c.requires.met c.requires.new c.in-Date.milliseconds.0 there h) c.date.ensures.adds

pub returns-in-Date-clause-falls : goal.returns-in-Date-clause-falls
returns-in-Date-clause-falls c =
    on_ok c.date.result (λ h.
    falls_loose c.args.graph.now c.args.node (date_bytes c.in-Date.milliseconds.0) c.args.waiting.now.items c.args.self.now c.date.new.self c.requires.met.names c.requires.new h) c.date.ensures.adds

pub returns-in-XmlDocument-clause-leads : goal.returns-in-XmlDocument-clause-leads
returns-in-XmlDocument-clause-leads c =
    let a = c.args.graph.now.arena in
    let s = subst (λ w. Shows a (stored_at a c.args.node.0) w) c.in-XmlDocument.is c.requires.shown in
    on_ok c.document.result (λ h.
    leads_document c.args.graph.now c.args.node c.args.waiting.now.items c.args.self.now c.document.new.self c.is_finished.ensures.finished c.requires.met c.requires.new s.0 c.in-XmlDocument.text.now c.is_finished.ensures.bounds s.1 s.2 h) c.document.ensures.adds

pub returns-in-XmlDocument-clause-falls : goal.returns-in-XmlDocument-clause-falls
returns-in-XmlDocument-clause-falls c =
    on_ok c.document.result (λ h.
    falls_loose c.args.graph.now c.args.node (document_bytes c.in-XmlDocument.text.now) c.args.waiting.now.items c.args.self.now c.document.new.self c.requires.met.names c.requires.new h) c.document.ensures.adds

pub returns-in_ok-enter-in-Array-clause-leads : goal.returns-in_ok-enter-in-Array-clause-leads
returns-in_ok-enter-in-Array-clause-leads c =
    let g = content c.args.graph.now in
    let a = c.args.graph.now.arena in
    let i = c.args.node.0 in
    let n = closed array (named c.in-Array.names.now) c.in-Array.items.now in
    let there = subst (λ w. Shows a (stored_at a i) w) c.in-Array.is c.requires.shown in
    let before = segments_left a c.args.waiting.now.items in
    let after = segments_left a c.array.new.waiting.items in
    let m = c.enter.new.self in
    on_ok c.array.result (λ h.
    leads_opened g i (node_there a c.args.graph.now.root i c.requires.met.names) (node_fits a c.args.graph.now.root i c.is_finished.ensures.finished c.requires.met.names) before after c.args.self.now m c.array.new.self c.requires.new
    c.in_ok-enter-in-Array.ensures.ok c.in_ok-enter-in-Array.ensures.loose c.in_ok-enter-in-Array.ensures.bytes (subst (λ (x : Node). Opened x before after m c.array.new.self) (sym (shown a c.args.graph.now.root i n there)) h)) c.array.ensures.opened

pub returns-in_ok-enter-in-Object-clause-leads : goal.returns-in_ok-enter-in-Object-clause-leads
returns-in_ok-enter-in-Object-clause-leads c =
    let g = content c.args.graph.now in
    let a = c.args.graph.now.arena in
    let i = c.args.node.0 in
    let t = traits_at a c.in-Object.traits.0 in
    let ps = pairs_of a c.in-Object.members.now in
    let n = closed (object c.in-Object.traits.0) (named c.in-Object.members.now) c.in-Object.sealed.now in
    let there = subst (λ w. Shows a (stored_at a i) w) c.in-Object.is c.requires.shown in
    let s = shown a c.args.graph.now.root i n there in
    let low = subst (λ (x : Node). IsLowHead x.head) s (c.requires.low.nodes i (reached_node c.requires.met.reached)) in
    let open_traits : IsOpenTraits t = record { dynamic = low.0; unsealed = low.1 } in
    let fits = node_fits a c.args.graph.now.root i c.is_finished.ensures.finished c.requires.met.names in
    let none : values_of a c.in-Object.sealed.now ≡ [] = sym (ap (λ (x : Node). x.values) s) ∙ no_sealed (node_at g i) t (ap (λ (x : Node). x.head) s) open_traits fits in
    let whole : node_at g i ≡ record { head = graph.object t; names = ps; values = [] } = s ∙ ap (λ vs. record { head = graph.object t; names = ps; values = vs }) none in
    let before = segments_left a c.args.waiting.now.items in
    let after = segments_left a c.object.new.waiting.items in
    let m = c.enter-in-Object.new.self in
    on_ok c.object.result (λ h.
    leads_opened g i (node_there a c.args.graph.now.root i c.requires.met.names) fits before after c.args.self.now m c.object.new.self c.requires.new
    c.in_ok-enter-in-Object.ensures.ok c.in_ok-enter-in-Object.ensures.loose c.in_ok-enter-in-Object.ensures.bytes (subst (λ (x : Node). Opened x before after m c.object.new.self) (sym whole) h)) c.object.ensures.opened
