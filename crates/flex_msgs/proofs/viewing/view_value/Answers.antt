-- The members of an object of a class that is served.
use Rattle.std.proofs.Common.{◌≡◌, ◌<◌, Some, List, length, get_or, sym, ap, ◌∙◌, subst}
use Rattle.std.specs.Prelude.{IfOk, IfErr}
use Rattle.std.specs.List.{AllByRecursion}
use Rattle.amf_graph.specs.declared.value.Value.{Value as Stored}
use Rattle.amf_graph.specs.declared.value.TextId.{TextId}
use Rattle.amf_graph.specs.Arena.{StoredNode, StoredTraits, HeadNames, IsTraitsIn, Names, no_traits, text_at, traits_at, value_content}
use Rattle.amf_graph.specs.Building.{stored_at}
use Rattle.amf_graph.specs.Rooted.{content}
use Rattle.amf_graph.specs.Views.{named}
use Rattle.amf_graph.proofs.Alls.{all_at}
use Rattle.amf_graph.proofs.Built.{stands}
use Rattle.flex_msgs.specs.Asked.{request, asked}
use Rattle.flex_msgs.specs.Classes.{served_class}
use Rattle.flex_msgs.specs.KeptPairs.{IsPairIn, stored_pairs, pairs_content}
use Rattle.flex_msgs.specs.Viewing.{Refuses, value_view, served_view}
use Rattle.flex_msgs.proofs.Looking.{members_in, object_view}
use Rattle.flex_msgs.proofs.viewing.view_value.Goals as goal

pub request_of-requires : goal.request_of-requires
request_of-requires c =
    let a = c.args.graph.now.arena in
    let t = get_or a.traits c.in-Object.traits.0 no_traits in
    let b = c.is_finished.ensures.finished.built in
    let l : c.in-Node.node.0 < length a.nodes = subst (Names a) c.in-Node.is c.requires in
    let w = stands a c.in-Node.node.0 b l in
    let k : c.in-Object.traits.0 < length a.traits = subst (HeadNames a) (ap (λ (z : StoredNode). z.head) c.in-Object.ensures) w.head in
    let items = ap named c.deref.ensures.value ∙ c.in_ok-pairs.ensures in
    members_in a t (stored_at a c.in-Node.node.0) c.in-Object.traits.0 (named c.in-Object.members.now) (named c.deref.result.now) c.in-Object.sealed.now c.in-Object.ensures items (all_at (IsTraitsIn a) a.traits c.in-Object.traits.0 no_traits k b.traits) w

pub returns-clause-ok : goal.returns-clause-ok
returns-clause-ok c =
    let a = c.args.graph.now.arena in
    let g = content c.args.graph.now in
    let class = ap (λ (t : StoredTraits). text_at a t.class) c.traits.ensures ∙ sym c.text.ensures in
    let kind : served_class (traits_at a c.in-Object.traits.0).class ≡ Some c.in-Some.class = ap served_class class ∙ sym c.named.ensures ∙ c.in-Some.is in
    let items = ap named c.deref.ensures.value ∙ c.in_ok-pairs.ensures in
    let view = object_view a c.args.graph.now.root c.args.value c.in-Node.node.0 c.in-Object.traits.0 (named c.in-Object.members.now) (named c.deref.result.now) c.in-Object.sealed.now c.in-Some.class c.in-Node.is c.in-Object.ensures items kind in
    subst (λ v. IfOk c.request_of.result (λ r. v ≡ request (asked a r))) (sym view) c.request_of.ensures.ok

pub returns-clause-err : goal.returns-clause-err
returns-clause-err c =
    let a = c.args.graph.now.arena in
    let g = content c.args.graph.now in
    let class = ap (λ (t : StoredTraits). text_at a t.class) c.traits.ensures ∙ sym c.text.ensures in
    let kind : served_class (traits_at a c.in-Object.traits.0).class ≡ Some c.in-Some.class = ap served_class class ∙ sym c.named.ensures ∙ c.in-Some.is in
    let items = ap named c.deref.ensures.value ∙ c.in_ok-pairs.ensures in
    let view = object_view a c.args.graph.now.root c.args.value c.in-Node.node.0 c.in-Object.traits.0 (named c.in-Object.members.now) (named c.deref.result.now) c.in-Object.sealed.now c.in-Some.class c.in-Node.is c.in-Object.ensures items kind in
    subst (λ v. IfErr c.request_of.result (Refuses v)) (sym view) c.request_of.ensures.err
