-- The members of an object are its pairs.
use Rattle.std.proofs.Common.{◌≡◌, ◌<◌, Some, length, get_or, sym, ap, ◌∙◌, subst, arith}
use Rattle.amf_graph.specs.declared.value.Value.{Value as Stored}
use Rattle.amf_graph.specs.Arena.{StoredNode, HeadNames, IsTraitsIn, Names, no_traits, value_content}
use Rattle.amf_graph.specs.Building.{stored_at}
use Rattle.amf_graph.specs.Rooted.{content}
use Rattle.amf_graph.specs.Views.{named}
use Rattle.amf_graph.proofs.Alls.{all_at}
use Rattle.amf_graph.proofs.Built.{stands}
use Rattle.flex_msgs.specs.Lookup.{pairs_of}
use Rattle.flex_msgs.proofs.Looking.{members_content, members_in, object_pairs}
use Rattle.flex_msgs.proofs.lookup.pairs_of.Goals as goal

pub returns-in_ok-members_of-in-Object-clause-pairs : goal.returns-in_ok-members_of-in-Object-clause-pairs
returns-in_ok-members_of-in-Object-clause-pairs c =
    let a = c.args.graph.now.arena in
    let t = get_or a.traits c.in-Object.traits.0 no_traits in
    let n = stored_at a c.in-Node.node.0 in
    ap (λ w. Some w) (members_content a t n c.in-Object.traits.0 (named c.in-Object.members.now) (named c.in_ok-members_of-in-Object.field-0.items) c.in-Object.sealed.now c.in-Object.ensures c.in_ok-members_of-in-Object.ensures)
    ∙ sym (object_pairs a c.args.graph.now.root c.in-Node.node.0 c.in-Object.traits.0 (named c.in-Object.members.now) c.in-Object.sealed.now c.in-Object.ensures)
    ∙ ap (λ (v : Stored). pairs_of (content c.args.graph.now) (value_content a v)) (sym c.in-Node.is)

pub returns-in_ok-members_of-in-Object-clause-names : goal.returns-in_ok-members_of-in-Object-clause-names
returns-in_ok-members_of-in-Object-clause-names c =
    let a = c.args.graph.now.arena in
    let t = get_or a.traits c.in-Object.traits.0 no_traits in
    let n = stored_at a c.in-Node.node.0 in
    let b = c.is_finished.ensures.finished.built in
    let l : c.in-Node.node.0 < length a.nodes = subst (Names a) c.in-Node.is c.requires in
    let w = stands a c.in-Node.node.0 b l in
    let k : c.in-Object.traits.0 < length a.traits = subst (HeadNames a) (ap (λ (z : StoredNode). z.head) c.in-Object.ensures) w.head in
    members_in a t n c.in-Object.traits.0 (named c.in-Object.members.now) (named c.in_ok-members_of-in-Object.field-0.items) c.in-Object.sealed.now c.in-Object.ensures c.in_ok-members_of-in-Object.ensures (all_at (IsTraitsIn a) a.traits c.in-Object.traits.0 no_traits k b.traits) w
