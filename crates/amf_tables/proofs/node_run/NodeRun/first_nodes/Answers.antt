use Rattle.std.proofs.Common.{map, ◌++◌, ◌∷◌, [], ap, sym, ◌∙◌}
use Rattle.std.proofs.lemmas.List.{map-append}
use Rattle.amf_tables.specs.TableParts.{node_number}
use Rattle.amf_tables.proofs.NodeRuns.{take_next}
use Rattle.amf_tables.proofs.node_run.NodeRun.first_nodes.Goals as goal

pub loop-index-preserved : goal.loop-index-preserved
loop-index-preserved c =
    ap (map node_number) c.in_ok-push-in-Some.ensures.items
    ∙ map-append node_number c.loop-index.nodes.items (c.in-Some.node ∷ [])
    ∙ ap (λ w. w ++ c.in-Some.node.0 ∷ []) c.loop-index.invariant
    ∙ sym (take_next c.args.self.now c.loop-index.index c.in-Some.node.0 c.in-Some.ensures)
