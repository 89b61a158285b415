use Rattle.std.proofs.Common.{◌∷◌, [], refl}
use Rattle.amf_graph.specs.Arena.{wrapper, values, dictionary}
use Rattle.amf_graph.specs.Views.{flat}
use Rattle.amf_iso.proofs.MetValues.{values_in, met_array, met_object, met_values, met_none, no_parts, array_in, object_in}
use Rattle.amf_iso.proofs.met.values_met.Goals as goal
use Rattle.amf_iso.proofs.met.values_met.Goals.{in-Array+in_ok-push_by_name-in-Array+in_ok-extend_from_slice-in-Array, in-Object+in_ok-extend_from_slice-in-Object+in_ok-push_by_name-in-Object, in-Wrapper+in_ok-push-in-Wrapper, in-Values+in_ok-extend_from_slice-in-Values, in-Dictionary+in_ok-push_entries-in-Dictionary, in_default}

pub returns-clause-values : goal.returns-clause-values
returns-clause-values c =
    let a = c.args.graph.now.arena in
    let root = c.args.graph.now.root in
    let i = c.args.node.0 in
    elim c.match-node.branch [
      | in-Array+in_ok-push_by_name-in-Array+in_ok-extend_from_slice-in-Array w ↦
          let pairs = w.in_ok-push_by_name-in-Array.ensures in
          rw (w.met-is, w.in_ok-extend_from_slice-in-Array.ensures.items, w.in_ok-push_by_name-in-Array.ensures.items, c.new-met.ensures.items)
          (met_array a root i w.in-Array.items.now w.in-Array.names.now pairs.sorted w.in-Array.ensures pairs.content)
      | in-Object+in_ok-extend_from_slice-in-Object+in_ok-push_by_name-in-Object w ↦
          let pairs = w.in_ok-push_by_name-in-Object.ensures in
          rw (w.met-is, w.in_ok-push_by_name-in-Object.ensures.items, w.in_ok-extend_from_slice-in-Object.ensures.items, c.new-met.ensures.items)
          (met_object a root i w.in-Object.traits.0 w.in-Object.sealed.now w.in-Object.members.now pairs.sorted w.in-Object.ensures pairs.content)
      | in-Wrapper+in_ok-push-in-Wrapper w ↦
          rw (w.met-is, w.in_ok-push-in-Wrapper.ensures.items, c.new-met.ensures.items) (met_values a root i (wrapper w.in-Wrapper.class) (w.in-Wrapper.value ∷ []) refl w.in-Wrapper.ensures)
      | in-Values+in_ok-extend_from_slice-in-Values w ↦
          rw (w.met-is, w.in_ok-extend_from_slice-in-Values.ensures.items, c.new-met.ensures.items) (met_values a root i (values w.in-Values.fixed w.in-Values.of.0) w.in-Values.items.now refl w.in-Values.ensures)
      | in-Dictionary+in_ok-push_entries-in-Dictionary w ↦
          rw (w.met-is, w.in_ok-push_entries-in-Dictionary.ensures, c.new-met.ensures.items) (met_values a root i (dictionary w.in-Dictionary.weak) (flat w.in-Dictionary.entries.now) refl w.in-Dictionary.ensures)
      | in_default w ↦
          rw (w.met-is, c.new-met.ensures.items) (met_none a root i c.node.result c.node.ensures (no_parts c.node.result w.in_default.not-Array w.in_default.not-Object w.in_default.not-Wrapper w.in_default.not-Values w.in_default.not-Dictionary))
    ]

pub returns-clause-names : goal.returns-clause-names
returns-clause-names c =
    let a = c.args.graph.now.arena in
    let i = c.args.node.0 in
    let f = c.is_finished.ensures.finished in
    elim c.match-node.branch [
      | in-Array+in_ok-push_by_name-in-Array+in_ok-extend_from_slice-in-Array w ↦
          rw (w.met-is, w.in_ok-extend_from_slice-in-Array.ensures.items, w.in_ok-push_by_name-in-Array.ensures.items, c.new-met.ensures.items)
          (array_in a w.in_ok-push_by_name-in-Array.ensures.sorted w.in-Array.items.now w.in_ok-push_by_name-in-Array.ensures.names (values_in a i _ f c.requires w.in-Array.ensures))
      | in-Object+in_ok-extend_from_slice-in-Object+in_ok-push_by_name-in-Object w ↦
          rw (w.met-is, w.in_ok-push_by_name-in-Object.ensures.items, w.in_ok-extend_from_slice-in-Object.ensures.items, c.new-met.ensures.items)
          (object_in a w.in_ok-push_by_name-in-Object.ensures.sorted w.in-Object.sealed.now w.in_ok-push_by_name-in-Object.ensures.names (values_in a i _ f c.requires w.in-Object.ensures))
      | in-Wrapper+in_ok-push-in-Wrapper w ↦
          rw (w.met-is, w.in_ok-push-in-Wrapper.ensures.items, c.new-met.ensures.items) (values_in a i _ f c.requires w.in-Wrapper.ensures)
      | in-Values+in_ok-extend_from_slice-in-Values w ↦
          rw (w.met-is, w.in_ok-extend_from_slice-in-Values.ensures.items, c.new-met.ensures.items) (values_in a i _ f c.requires w.in-Values.ensures)
      | in-Dictionary+in_ok-push_entries-in-Dictionary w ↦
          rw (w.met-is, w.in_ok-push_entries-in-Dictionary.ensures, c.new-met.ensures.items) (values_in a i _ f c.requires w.in-Dictionary.ensures)
      | in_default w ↦ rw (w.met-is, c.new-met.ensures.items) tt
    ]
