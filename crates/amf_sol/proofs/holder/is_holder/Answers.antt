use Rattle.std.proofs.Common.{◌≡◌, true, sym, ◌∙◌}
use Rattle.amf_graph.specs.declared.value.Value.TheVariants.{Node as NodeRef}
use Rattle.amf_sol.proofs.Holders.{decides}
use Rattle.amf_sol.proofs.holder.is_holder.Goals as goal

pub returns : goal.returns
returns c =
    let g = c.args.graph.now in
    let e : g.root ≡ NodeRef c.in-Node.root = sym c.root.ensures ∙ c.in-Node.is in
    let f = c.if-not-has_pairs_alone.ensures in
    let alone : c.has_pairs_alone.result ≡ true = cc in
    decides g.arena g.root c.in-Node.root c.in_ok-held.held e c.is_finished.ensures.names (c.has_pairs_alone.ensures.0 alone) c.in_ok-held.ensures.held c.in_ok-held.ensures.unheld
