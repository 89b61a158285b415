use Rattle.std.proofs.Common.{◌≡◌, ◌≤◌, Option, Some, IfSome, sym, subst}
use Rattle.std.specs.Option.{option_map}
use Rattle.amf_wire.specs.Style.{free}
use Rattle.amf_graph.specs.Bounds.{weight}
use Rattle.amf_graph.specs.Rooted.{RootedArena, content}
use Rattle.amf3_spelling.specs.Spells3.{Spelled3}
use Rattle.flex_msgs.specs.Built.{IsStored as HoldsStored}
use Rattle.amf_answer_plan.specs.Runs.{Finds}
use Rattle.amf_flex_replies.proofs.ReadStored.{found_if_stored, none_stored, some_weaker}
use Rattle.amf_flex_replies.proofs.stored.read_stored.Goals as goal

pub returns-in-Some-clause-finds : goal.returns-in-Some-clause-finds
returns-in-Some-clause-finds c =
    found_if_stored c.in-Some.graph c.if_stored.result c.args.message.now (subst (λ (o : Option RootedArena). Finds (λ h. Spelled3 free h c.args.message.now) (option_map content o)) c.in-Some.is c.in_ok-graph.ensures.finds) c.if_stored.ensures.some c.if_stored.ensures.none

pub returns-in-None-clause-finds : goal.returns-in-None-clause-finds
returns-in-None-clause-finds c = none_stored c.args.message.now (subst (λ (o : Option RootedArena). Finds (λ h. Spelled3 free h c.args.message.now) (option_map content o)) c.in-None.is c.in_ok-graph.ensures.finds)

pub returns-in-Some-clause-stored : goal.returns-in-Some-clause-stored
returns-in-Some-clause-stored c = some_weaker c.if_stored.result (λ g. HoldsStored g × (g ≡ c.in-Some.graph)) HoldsStored (λ g h. h.0) c.if_stored.ensures.some

pub returns-in-Some-clause-light : goal.returns-in-Some-clause-light
returns-in-Some-clause-light c =
    let light = subst (λ (o : Option RootedArena). IfSome o (λ g. weight g.arena ≤ 32768)) c.in-Some.is c.in_ok-graph.ensures.light in
    some_weaker c.if_stored.result (λ g. HoldsStored g × (g ≡ c.in-Some.graph)) (λ g. weight g.arena ≤ 32768) (λ g h. subst (λ (z : RootedArena). weight z.arena ≤ 32768) (sym h.1) light) c.if_stored.ensures.some
