-- An object has the kind of its class, by its operation.
use Rattle.std.proofs.Common.{◌∙◌, ap, sym, refl}
use Rattle.amf_graph.specs.Grafting.{node_value}
use Rattle.amf_graph.specs.Arena.{StoredTraits, node_content, text_at, traits_at}
use Rattle.amf_graph.specs.Building.{stored_at}
use Rattle.flex_msgs.specs.Classes.{operation_name}
use Rattle.flex_msgs.specs.Lookup.{value_named, members_of}
use Rattle.flex_msgs.specs.Viewing.{whole_number}
use Rattle.amf_poll_session.specs.Replies.{class_kind}
use Rattle.amf_poll_session.proofs.Replies.{object_kind, object_member}
use Rattle.amf_poll_session.proofs.reply.kind_at.Goals as goal

pub returns : goal.returns
returns c =
    let a = c.args.graph.now.arena in
    let root = c.args.graph.now.root in
    let i = c.in-Node.node.0 in
    let t = c.in-Object.traits.0 in
    let members = members_of (traits_at a t) (node_content a (stored_at a i)) in
    let class = ap (λ (t : StoredTraits). text_at a t.class) c.traits.ensures ∙ sym c.text.ensures in
    let named = object_member a root (node_value i) c.in_ok-operation.operation i t operation_name _ _ refl c.in-Object.ensures c.in_ok-operation.ensures.value in
    let number = c.whole_number.ensures a ∙ ap whole_number named in
    c.class_kind.ensures ∙ ap (class_kind c.text.result.now) number
    ∙ ap (λ x. class_kind x (whole_number (value_named operation_name members))) (sym class)
    ∙ sym (object_kind a root c.args.value i t _ _ c.in-Node.is c.in-Object.ensures)
