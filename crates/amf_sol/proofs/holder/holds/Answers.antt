use Rattle.std.proofs.Common.{◌≡◌}
use Rattle.std.specs.List.{list_any}
use Rattle.amf_sol.specs.HolderTest.{is_stored_node}
use Rattle.amf_sol.proofs.Holders.{stored_test}
use Rattle.amf_sol.proofs.holder.holds.Goals as goal

pub returns : goal.returns
returns c =
    let a : c.has_node.result ≡ list_any (is_stored_node c.args.held.0) c.as_slice.result.now = c.has_node.ensures in
    let b = c.as_slice.ensures.value in
    let d = c.in_ok-met.ensures.values in
    let e = stored_test c.args.held.0 c.args.graph.now.arena c.in_ok-met.met.items in
    cc
