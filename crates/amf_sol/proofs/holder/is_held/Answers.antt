use Rattle.std.proofs.Common.{◌≡◌, ◌<◌, true, false, arith}
use Rattle.std.specs.List.{list_any}
use Rattle.amf_graph.specs.Graph.{node_at}
use Rattle.amf_graph.specs.Order.{values_met}
use Rattle.amf_graph.specs.Rooted.{content}
use Rattle.amf3_spelling.proofs.Clean.{below_length}
use Rattle.amf_sol.specs.HolderTest.{is_node}
use Rattle.amf_sol.proofs.Holders.{not_held, is_held, numbered_there, more_stays}
use Rattle.amf_sol.proofs.holder.is_held.Goals as goal

pub holds-requires : goal.holds-requires
holds-requires c =
    let g = c.args.graph.now in
    numbered_there g.arena g.root c.args.numbering.now c.loop-number.number c.node_at.result.0 c.is_finished.ensures.finished c.is_finished.ensures.names c.requires c.node_at.ensures

pub returns-then-branch-clause-held : goal.returns-then-branch-clause-held
returns-then-branch-clause-held c =
    let g = content c.args.graph.now in
    let i = c.node_at.result.0 in
    let a = c.in_ok-holds.ensures in
    let b = c.if-branch.true in
    let e : list_any (is_node c.args.held.0) (values_met (node_at g i)) ≡ true = cc in
    λ z. (i, (c.requires i).1 (c.loop-number.number, c.node_at.ensures), is_held c.args.held.0 (node_at g i) e)

pub loop-number-preserved : goal.loop-number-preserved
loop-number-preserved c =
    let g = content c.args.graph.now in
    let j = c.node_at.result.0 in
    let a = c.in_ok-holds.ensures in
    let b = c.if-branch.false in
    let e : list_any (is_node c.args.held.0) (values_met (node_at g j)) ≡ false = cc in
    λ k i lt f. more_stays c.args.numbering.now c.loop-number.number k i j (λ n. list_any (is_node c.args.held.0) (values_met (node_at g n)) ≡ false) c.loop-number.invariant c.node_at.ensures e lt f

pub returns-clause-unheld : goal.returns-clause-unheld
returns-clause-unheld c =
    let g = content c.args.graph.now in
    λ j r h.
    let place = (c.requires j).0 r in
    let within = below_length c.args.numbering.now place.0 j place.1 in
    let lt : place.0 < c.loop-number.number = omega (arith, within, c.count-number-end.ensures, c.loop-number-test.false) in
    absurd (not_held c.args.held.0 (node_at g j) (c.loop-number.invariant place.0 j lt place.1) h)
