-- What was built is the graph that is said.
use Rattle.std.proofs.Common.{◌∙◌, ap}
use Rattle.amf_graph.specs.Arena.{Arena, graph_of}
use Rattle.amf_graph.specs.declared.value.Value.{Value as Stored}
use Rattle.amf_graph.specs.Rooted.{content}
use Rattle.amf_plain_calls.specs.FoundForms.{fault_arena}
use Rattle.amf_plain_calls.proofs.faults.fault_graph.Goals as goal

pub returns : goal.returns
returns c =
    let made = rw c.in_ok-object.ensures at c.add_fault.ensures.made in
    let is = made c.in_ok-builder.ensures in
    ap content c.finished.ensures.graph ∙ ap (λ (a : Arena). graph_of a c.in_ok-object.object) is.0 ∙ ap (λ (v : Stored). graph_of (fault_arena c.args.fault.now) v) is.1
