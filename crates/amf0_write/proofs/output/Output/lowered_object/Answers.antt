use Rattle.std.proofs.Common.{◌≡◌, ◌<◌, true, false, List, ℕ, [], length, refl, ap, sym, ◌∙◌, subst, arith}
use Rattle.std.specs.List.{AllByRecursion}
use Rattle.amf_graph.specs.Arena.{node_content, object}
use Rattle.amf_graph.specs.Building.{closed}
use Rattle.amf_graph.specs.Graph.{Node}
use Rattle.amf_graph.specs.Rooted.{content}
use Rattle.amf_graph.specs.Views.{named}
use Rattle.amf_iso.specs.Contents.{pairs_of}
use Rattle.amf0_spelling.specs.Lacks0.{IsShortName, class_of}
use Rattle.amf0_spelling.specs.Lowered.{IsLowHead}
use Rattle.amf0_spelling.specs.Tables0.{Tables0}
use Rattle.amf0_write.specs.Unwritten0.{segments_left}
use Rattle.amf0_write.specs.Writes0.{Opened}
use Rattle.amf0_write.proofs.Leading0.{stops_name}
use Rattle.amf0_write.proofs.MetValues0.{shown, node_in, node_there, node_fits, reached_node, met_names}
use Rattle.amf0_write.proofs.Opening0.{leads_opened}
use Rattle.amf0_write.proofs.Runs0.{falls_entered}
use Rattle.amf0_write.proofs.output.Output.lowered_object.Goals as goal

pub returns-then-class-gt-MAX_SHORT-clause-lack : goal.returns-then-class-gt-MAX_SHORT-clause-lack
returns-then-class-gt-MAX_SHORT-clause-lack c = λ e.
    let a = c.args.graph.now.arena in
    let i = c.args.node.0 in
    let n = closed (object c.args.traits.0) (named c.args.members.items) [] in
    let long = c.if-class-gt-MAX_SHORT.true in
    stops_name (content c.args.graph.now) i (segments_left a c.args.waiting.now.items) c.args.self.now c.requires.new
    (λ h.
    let own = subst (λ (m : Node). IsShortName (class_of m.head)) (shown a c.args.graph.now.root i n c.requires.there) h.0 in
    let short : length c.class-class.result.now < 65536 = subst (λ (x : List ℕ). length x < 65536) (sym c.class-class.ensures) own in
    absurd (omega (arith, short, long)))

pub returns-then-not-are_short-clause-lack : goal.returns-then-not-are_short-clause-lack
returns-then-not-are_short-clause-lack c = λ e.
    let a = c.args.graph.now.arena in
    let i = c.args.node.0 in
    let n = closed (object c.args.traits.0) (named c.args.members.items) [] in
    stops_name (content c.args.graph.now) i (segments_left a c.args.waiting.now.items) c.args.self.now c.requires.new
    (λ h.
    let own = subst (λ (m : Node). AllByRecursion (λ p. IsShortName p.0) m.names) (shown a c.args.graph.now.root i n c.requires.there) h.1 in
    let z : true ≡ false = sym (c.are_short.ensures.1 (subst (λ ps. AllByRecursion (λ p. IsShortName p.0) (pairs_of a ps)) (sym c.deref.ensures.value) own)) ∙ c.if-not-are_short.true in cc)

pub made_object-requires-clause-open : goal.made_object-requires-clause-open
made_object-requires-clause-open c =
    let a = c.args.graph.now.arena in
    let i = c.args.node.0 in
    let n = closed (object c.args.traits.0) (named c.args.members.items) [] in
    let low = subst (λ (x : Node). IsLowHead x.head) (shown a c.args.graph.now.root i n c.requires.there) (c.requires.low.nodes i (reached_node c.requires.met.reached)) in
    record { dynamic = low.0; unsealed = low.1 }

pub made_object-requires-clause-names : goal.made_object-requires-clause-names
made_object-requires-clause-names c =
    let a = c.args.graph.now.arena in
    let i = c.args.node.0 in
    let n = closed (object c.args.traits.0) (named c.args.members.items) [] in
    let short = subst (λ ps. AllByRecursion (λ p. IsShortName p.0) (pairs_of a ps)) c.deref.ensures.value (c.are_short.ensures.0 c.if-not-are_short.false) in
    let own = subst (λ (m : Node). AllByRecursion (λ p. IsShortName p.0) m.names) (sym (shown a c.args.graph.now.root i n c.requires.there)) short in
    met_names c.args.graph.now i (node_content a n) c.args.members.items (reached_node c.requires.met.reached) (shown a c.args.graph.now.root i n c.requires.there) refl (node_in a i n c.is_finished.ensures.finished c.requires.met.names c.requires.there).names own

pub returns-clause-leads : goal.returns-clause-leads
returns-clause-leads c =
    let g = content c.args.graph.now in
    let a = c.args.graph.now.arena in
    let i = c.args.node.0 in
    let n = closed (object c.args.traits.0) (named c.args.members.items) [] in
    let before = segments_left a c.args.waiting.now.items in
    let after = segments_left a c.made_object.new.waiting.items in
    let m = c.enter.new.self in
    leads_opened g i (node_there a c.args.graph.now.root i c.requires.met.names) (node_fits a c.args.graph.now.root i c.is_finished.ensures.finished c.requires.met.names) before after c.args.self.now m c.made_object.new.self c.requires.new
    c.in_ok-enter.ensures.ok c.in_ok-enter.ensures.loose c.in_ok-enter.ensures.bytes (subst (λ (x : Node). Opened x before after m c.made_object.new.self) (sym (shown a c.args.graph.now.root i n c.requires.there)) c.in_ok-made_object.ensures.opened)

pub returns-clause-falls : goal.returns-clause-falls
returns-clause-falls c =
    falls_entered c.args.graph.now c.args.waiting.now.items c.made_object.new.waiting.items c.args.node.0 c.args.self.now c.enter.new.self c.made_object.new.self c.requires.met.names c.requires.new
    (ap (λ (t : Tables0). t.amf3.done) c.in_ok-enter.ensures.ok) c.in_ok-made_object.ensures.opened.adds.tables c.in_ok-made_object.ensures.turns
