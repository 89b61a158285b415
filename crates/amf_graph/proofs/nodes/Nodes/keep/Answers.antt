-- A node more, in the pools.
use Rattle.std.proofs.Common.{◌++◌, ◌∷◌, [], false, ap, ◌∙◌}
use Rattle.amf_graph.specs.Bodies.{body_node}
use Rattle.amf_graph.proofs.NodeKept.{nodes_grow, nodes_push, on_err}
use Rattle.amf_graph.proofs.NodeKinds.{are_grown, are_pushed}
use Rattle.amf_graph.proofs.nodes.Nodes.keep.Goals as goal

pub invariant_of-self : goal.invariant_of-self
invariant_of-self c = are_grown c.self.inside.pools c.keep_body.new.pools c.self.inside.slots.items c.self.inside.used c.self.inside.rows.items c.self.inside.kinds.items c.self.invariant c.in_err-row.ensures.grows

pub returns-in_err-row-clause-err : goal.returns-in_err-row-clause-err
returns-in_err-row-clause-err c = on_err c.from_residual.result (nodes_grow c.self.inside.pools c.keep_body.new.pools c.self.inside.slots.items c.self.inside.used c.self.inside.rows.items c.self.invariant.placed c.in_err-row.ensures.grows ∙ c.self.view_is)

pub invariant_of-self-in_err-push_row : goal.invariant_of-self-in_err-push_row
invariant_of-self-in_err-push_row c = rw (c.in_err-push_row.ensures.rows, c.in_err-push_row.ensures.kinds) (are_grown c.self.inside.pools c.keep_body.new.pools c.self.inside.slots.items c.self.inside.used c.self.inside.rows.items c.self.inside.kinds.items c.self.invariant c.in_ok-row.ensures.grows)

pub returns-in_err-push_row-clause-err : goal.returns-in_err-push_row-clause-err
returns-in_err-push_row-clause-err c =
    on_err c.from_residual-in_err-push_row.result
    (rw c.in_err-push_row.ensures.rows (nodes_grow c.self.inside.pools c.keep_body.new.pools c.self.inside.slots.items c.self.inside.used c.self.inside.rows.items c.self.invariant.placed c.in_ok-row.ensures.grows ∙ c.self.view_is))

pub invariant_of-self-2 : goal.invariant_of-self-2
invariant_of-self-2 c =
    are_pushed c.self.inside.pools c.keep_body.new.pools c.self.inside.slots.items c.self.inside.used c.self.inside.rows.items c.push_row.new.rows.items c.self.inside.kinds.items c.push_row.new.kinds.items (body_node false c.args.body) c.in_ok-row.row c.kind-kind.result
    c.in_ok-push_row.ensures.rows c.in_ok-push_row.ensures.kinds c.kind-kind.ensures c.self.invariant c.in_ok-row.ensures.grows c.in_ok-row.ensures.ok

pub returns-clause-ok : goal.returns-clause-ok
returns-clause-ok c =
    nodes_push c.self.inside.pools c.keep_body.new.pools c.self.inside.slots.items c.self.inside.used c.self.inside.rows.items c.push_row.new.rows.items (body_node false c.args.body) c.in_ok-row.row c.in_ok-push_row.ensures.rows c.self.invariant.placed c.in_ok-row.ensures.grows c.in_ok-row.ensures.ok
    ∙ ap (λ w. w ++ (body_node false c.args.body) ∷ []) c.self.view_is
