use Rattle.std.proofs.Common.{◌≡◌, true, false, List, [], ◌∷◌, map, refl, ap, sym, ◌∙◌, subst}
use Rattle.std.specs.Prelude.{◌==◌}
use Rattle.std.specs.List.{AllByRecursion}
use Rattle.amf_graph.specs.declared.value.Value.{Value as Stored}
use Rattle.amf_graph.specs.Arena.{Arena, node_content, value_content, array}
use Rattle.amf_graph.specs.Building.{closed}
use Rattle.amf_graph.specs.Graph.{Node}
use Rattle.amf_graph.specs.Rooted.{content}
use Rattle.amf_graph.specs.Views.{named}
use Rattle.amf_iso.specs.Contents.{pairs_of}
use Rattle.amf0_spelling.specs.Lacks0.{HasNoForm, IsShortName}
use Rattle.amf0_spelling.specs.Tables0.{Tables0}
use Rattle.amf0_write.specs.Unwritten0.{segments_left}
use Rattle.amf0_write.specs.Writes0.{Opened}
use Rattle.amf0_write.proofs.Leading0.{stops_form, stops_name}
use Rattle.amf0_write.proofs.MetValues0.{shown, node_in, node_there, node_fits, reached_node, met_items, met_names, some_from, pairs_none}
use Rattle.amf0_write.proofs.Opening0.{leads_opened}
use Rattle.amf0_write.proofs.Runs0.{falls_entered}
use Rattle.amf0_write.proofs.output.Output.lowered_array.Goals as goal

values_none : (a : Arena) (vs : List Stored) → map (value_content a) vs ≡ [] → vs ≡ []
values_none a [] e = refl
values_none a (v ∷ vs) e = cc

pub returns-then-not-is_empty-2-clause-lack : goal.returns-then-not-is_empty-2-clause-lack
returns-then-not-is_empty-2-clause-lack c = λ e.
    let a = c.args.graph.now.arena in
    let i = c.args.node.0 in
    let n = closed array (named c.args.names.items) c.args.items.items in
    let items = some_from c.args.items.items c.is_empty.result (c.is_empty.ensures ∙ ap (λ k. k == 0) c.args.items.ok.0) c.if-not-is_empty.true in
    let names = some_from c.args.names.items c.is_empty-then-not-is_empty.result (c.is_empty-then-not-is_empty.ensures ∙ ap (λ k. k == 0) c.args.names.ok.0) c.if-not-is_empty-2.true in
    stops_form (content c.args.graph.now) i (segments_left a c.args.waiting.now.items) c.args.self.now c.requires.new
    (subst (λ (m : Node). HasNoForm m m.head) (sym (shown a c.args.graph.now.root i n c.requires.there)) ((λ z. names (pairs_none a c.args.names.items z)), (λ z. items (values_none a c.args.items.items z))))

pub returns-then-not-are_short-clause-lack : goal.returns-then-not-are_short-clause-lack
returns-then-not-are_short-clause-lack c = λ e.
    let a = c.args.graph.now.arena in
    let i = c.args.node.0 in
    let n = closed array (named c.args.names.items) c.args.items.items in
    stops_name (content c.args.graph.now) i (segments_left a c.args.waiting.now.items) c.args.self.now c.requires.new
    (λ h.
    let own = subst (λ (m : Node). AllByRecursion (λ p. IsShortName p.0) m.names) (shown a c.args.graph.now.root i n c.requires.there) h.1 in
    let z : true ≡ false = sym (c.are_short.ensures.1 (subst (λ ps. AllByRecursion (λ p. IsShortName p.0) (pairs_of a ps)) (sym c.deref.ensures.value) own)) ∙ c.if-not-are_short.true in cc)

pub made_array-requires-clause-items : goal.made_array-requires-clause-items
made_array-requires-clause-items c =
    let a = c.args.graph.now.arena in
    let i = c.args.node.0 in
    let n = closed array (named c.args.names.items) c.args.items.items in
    met_items c.args.graph.now i (node_content a n) c.args.items.items (reached_node c.requires.met.reached) (shown a c.args.graph.now.root i n c.requires.there) refl (node_in a i n c.is_finished.ensures.finished c.requires.met.names c.requires.there).values

pub made_array-requires-clause-names : goal.made_array-requires-clause-names
made_array-requires-clause-names c =
    let a = c.args.graph.now.arena in
    let i = c.args.node.0 in
    let n = closed array (named c.args.names.items) c.args.items.items in
    let short = subst (λ ps. AllByRecursion (λ p. IsShortName p.0) (pairs_of a ps)) c.deref.ensures.value (c.are_short.ensures.0 c.if-not-are_short.false) in
    let own = subst (λ (m : Node). AllByRecursion (λ p. IsShortName p.0) m.names) (sym (shown a c.args.graph.now.root i n c.requires.there)) short in
    met_names c.args.graph.now i (node_content a n) c.args.names.items (reached_node c.requires.met.reached) (shown a c.args.graph.now.root i n c.requires.there) refl (node_in a i n c.is_finished.ensures.finished c.requires.met.names c.requires.there).names own

pub returns-clause-leads : goal.returns-clause-leads
returns-clause-leads c =
    let g = content c.args.graph.now in
    let a = c.args.graph.now.arena in
    let i = c.args.node.0 in
    let n = closed array (named c.args.names.items) c.args.items.items in
    let before = segments_left a c.args.waiting.now.items in
    let after = segments_left a c.made_array.new.waiting.items in
    let m = c.enter.new.self in
    leads_opened g i (node_there a c.args.graph.now.root i c.requires.met.names) (node_fits a c.args.graph.now.root i c.is_finished.ensures.finished c.requires.met.names) before after c.args.self.now m c.made_array.new.self c.requires.new
    c.in_ok-enter.ensures.ok c.in_ok-enter.ensures.loose c.in_ok-enter.ensures.bytes (subst (λ (x : Node). Opened x before after m c.made_array.new.self) (sym (shown a c.args.graph.now.root i n c.requires.there)) c.in_ok-made_array.ensures.opened)

pub returns-clause-falls : goal.returns-clause-falls
returns-clause-falls c =
    falls_entered c.args.graph.now c.args.waiting.now.items c.made_array.new.waiting.items c.args.node.0 c.args.self.now c.enter.new.self c.made_array.new.self c.requires.met.names c.requires.new
    (ap (λ (t : Tables0). t.amf3.done) c.in_ok-enter.ensures.ok) c.in_ok-made_array.ensures.opened.adds.tables c.in_ok-made_array.ensures.turns
