use Rattle.std.proofs.Common.{◌≡◌, ◌∷◌, [], List, length, get_or, sym, ap, ◌∙◌, arith}
use Rattle.amf_graph.specs.declared.value.Value.{Value as Stored}
use Rattle.amf_graph.specs.declared.value.Value.TheVariants.{Undefined}
use Rattle.amf_packet.proofs.CallRoots.{node_there, view_array, items_are}
use Rattle.amf_packet.proofs.read_body.first_item.Goals as goal

pub unreachable-requires : goal.unreachable-requires
unreachable-requires c = c.in_default.not-Node c.requires.call.1.place (c.root.ensures ∙ c.requires.call.1.is_root)

pub node-requires : goal.node-requires
node-requires c = node_there c.args.graph.now c.requires.call.0 c.requires.call.1 c.in-Node.node (sym c.root.ensures ∙ c.in-Node.is)

pub unreachable-requires-in_default-node : goal.unreachable-requires-in_default-node
unreachable-requires-in_default-node c =
    let v = view_array c.args.graph.now c.requires.call.0 c.requires.call.1 c.in-Node.node (sym c.root.ensures ∙ c.in-Node.is) c.node.result c.node.ensures in
    c.in_default-node.not-Array v.0 v.1 v.2

pub bounds-items-0 : goal.bounds-items-0
bounds-items-0 c =
    let e : c.in-Array.items.now ≡ c.requires.call.0 ∷ [] = items_are c.args.graph.now c.requires.call.0 c.requires.call.1 c.in-Node.node (sym c.root.ensures ∙ c.in-Node.is) c.in-Array.items c.in-Array.names c.in-Array.ensures in
    let l : length c.in-Array.items.now ≡ 1 = ap length e in
    omega (arith, l)

pub returns : goal.returns
returns c = λ item h. ap (λ (l : List Stored). get_or l 0 Undefined) (items_are c.args.graph.now item h c.in-Node.node (sym c.root.ensures ∙ c.in-Node.is) c.in-Array.items c.in-Array.names c.in-Array.ensures)
