use Rattle.std.proofs.Common.{◌∷◌, [], sym, subst, OnOk, length}
use Rattle.std.specs.Result.{IsErrOf}
use Rattle.amf_graph.specs.declared.value.Value.TheVariants.{Node as NodeRef}
use Rattle.amf_graph.specs.Graph.{node}
use Rattle.amf_graph.specs.Rooted.{RootedArena, content}
use Rattle.amf_iso.specs.Remembered.{AreInOrder}
use Rattle.amf0_spelling.specs.Lowered.{IsLowered}
use Rattle.amf0_write.specs.declared.stop.Stop.TheVariants.{Lack}
use Rattle.amf0_write.specs.Stood.{ShowsLowered}
use Rattle.amf0_write.specs.Unwritten0.{IsMetValue, AreRunsOf, turns_left, Falls, LeadsToRest, StopsWithin, segments_left}
use Rattle.amf0_write.specs.Writes0.{value, done_of}
use Rattle.amf0_write.proofs.Leading0.{stops_form}
use Rattle.amf0_write.proofs.output.Output.new_node.Goals as goal

-- a graph that is seen as it stands is the one that is seen
pub stored_node-requires-clause-low : goal.stored_node-requires-clause-low
stored_node-requires-clause-low c = subst (λ (g : RootedArena). IsLowered (content g)) (sym (subst (ShowsLowered c.args.graph.now c.args.node.0) c.in-AsItStands.is c.in_ok-graph.ensures.shown)) c.requires.low

pub stored_node-requires-clause-met : goal.stored_node-requires-clause-met
stored_node-requires-clause-met c = subst (λ (g : RootedArena). IsMetValue g (NodeRef c.args.node)) (sym (subst (ShowsLowered c.args.graph.now c.args.node.0) c.in-AsItStands.is c.in_ok-graph.ensures.shown)) c.requires.met

pub stored_node-requires-clause-runs : goal.stored_node-requires-clause-runs
stored_node-requires-clause-runs c = subst (λ (g : RootedArena). AreRunsOf g c.args.waiting.now.items) (sym (subst (ShowsLowered c.args.graph.now c.args.node.0) c.in-AsItStands.is c.in_ok-graph.ensures.shown)) c.requires.runs

pub stored_node-requires-clause-order : goal.stored_node-requires-clause-order
stored_node-requires-clause-order c = subst (λ (g : RootedArena). AreInOrder g.arena c.node.new.rooms.order) (sym (subst (ShowsLowered c.args.graph.now c.args.node.0) c.in-AsItStands.is c.in_ok-graph.ensures.shown)) c.node.ensures.order

pub returns-in-AsItStands-clause-leads : goal.returns-in-AsItStands-clause-leads
returns-in-AsItStands-clause-leads c =
    subst (λ (g : RootedArena). OnOk c.stored_node.result (LeadsToRest g (value (node c.args.node.0) ∷ []) c.args.waiting.now.items c.stored_node.new.waiting.items c.args.self.now c.stored_node.new.self)) (subst (ShowsLowered c.args.graph.now c.args.node.0) c.in-AsItStands.is c.in_ok-graph.ensures.shown) c.stored_node.ensures.leads

pub returns-in-AsItStands-clause-lack : goal.returns-in-AsItStands-clause-lack
returns-in-AsItStands-clause-lack c =
    subst (λ (g : RootedArena). IsErrOf c.stored_node.result Lack → StopsWithin g (value (node c.args.node.0) ∷ []) c.args.waiting.now.items c.args.self.now) (subst (ShowsLowered c.args.graph.now c.args.node.0) c.in-AsItStands.is c.in_ok-graph.ensures.shown) c.stored_node.ensures.lack

pub returns-in-AsItStands-clause-runs : goal.returns-in-AsItStands-clause-runs
returns-in-AsItStands-clause-runs c = subst (λ (g : RootedArena). OnOk c.stored_node.result (AreRunsOf g c.stored_node.new.waiting.items)) (subst (ShowsLowered c.args.graph.now c.args.node.0) c.in-AsItStands.is c.in_ok-graph.ensures.shown) c.stored_node.ensures.runs

pub returns-in-AsItStands-clause-falls : goal.returns-in-AsItStands-clause-falls
returns-in-AsItStands-clause-falls c =
    subst (λ (g : RootedArena). OnOk c.stored_node.result (Falls (length g.arena.nodes) (done_of c.args.self.now) (done_of c.stored_node.new.self) (turns_left c.args.waiting.now.items) (turns_left c.stored_node.new.waiting.items))) (subst (ShowsLowered c.args.graph.now c.args.node.0) c.in-AsItStands.is c.in_ok-graph.ensures.shown) c.stored_node.ensures.falls

pub returns-in-AsItStands-clause-order : goal.returns-in-AsItStands-clause-order
returns-in-AsItStands-clause-order c = subst (λ (g : RootedArena). AreInOrder g.arena c.stored_node.new.order) (subst (ShowsLowered c.args.graph.now c.args.node.0) c.in-AsItStands.is c.in_ok-graph.ensures.shown) c.stored_node.ensures.order

pub returns-in-NoForm-clause-lack : goal.returns-in-NoForm-clause-lack
returns-in-NoForm-clause-lack c = λ e. stops_form (content c.args.graph.now) c.args.node.0 (segments_left c.args.graph.now.arena c.args.waiting.now.items) c.args.self.now c.requires.new (subst (ShowsLowered c.args.graph.now c.args.node.0) c.in-NoForm.is c.in_ok-graph.ensures.shown)

-- what is seen of the node is what each of these writes
pub lowered_date-requires-clause-there : goal.lowered_date-requires-clause-there
lowered_date-requires-clause-there c = subst (ShowsLowered c.args.graph.now c.args.node.0) c.in-Date.is c.in_ok-graph.ensures.shown

pub lowered_document-requires-clause-there : goal.lowered_document-requires-clause-there
lowered_document-requires-clause-there c = subst (ShowsLowered c.args.graph.now c.args.node.0) c.in-XmlDocument.is c.in_ok-graph.ensures.shown

pub lowered_array-requires-clause-there : goal.lowered_array-requires-clause-there
lowered_array-requires-clause-there c = subst (ShowsLowered c.args.graph.now c.args.node.0) c.in-Array.is c.in_ok-graph.ensures.shown

pub lowered_object-requires-clause-there : goal.lowered_object-requires-clause-there
lowered_object-requires-clause-there c = subst (ShowsLowered c.args.graph.now c.args.node.0) c.in-Object.is c.in_ok-graph.ensures.shown
