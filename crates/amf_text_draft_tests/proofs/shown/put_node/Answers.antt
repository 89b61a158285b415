-- What the view of a node names is there.
use Rattle.amf_text_draft_tests.proofs.Held.{node_in}
use Rattle.amf_text_draft_tests.proofs.shown.put_node.Goals as goal

pub put_array-requires-clause-items : goal.put_array-requires-clause-items
put_array-requires-clause-items g c = (node_in c.args.graph.now.arena c.args.node.0 _ c.is_finished.ensures.finished c.requires c.in-Array.ensures).values

pub put_array-requires-clause-names : goal.put_array-requires-clause-names
put_array-requires-clause-names g c = (node_in c.args.graph.now.arena c.args.node.0 _ c.is_finished.ensures.finished c.requires c.in-Array.ensures).names

pub put_object-requires-clause-traits : goal.put_object-requires-clause-traits
put_object-requires-clause-traits g c = (node_in c.args.graph.now.arena c.args.node.0 _ c.is_finished.ensures.finished c.requires c.in-Object.ensures).head

pub put_object-requires-clause-sealed : goal.put_object-requires-clause-sealed
put_object-requires-clause-sealed g c = (node_in c.args.graph.now.arena c.args.node.0 _ c.is_finished.ensures.finished c.requires c.in-Object.ensures).values

pub put_object-requires-clause-members : goal.put_object-requires-clause-members
put_object-requires-clause-members g c = (node_in c.args.graph.now.arena c.args.node.0 _ c.is_finished.ensures.finished c.requires c.in-Object.ensures).names

pub put_wrapper-requires : goal.put_wrapper-requires
put_wrapper-requires g c = (node_in c.args.graph.now.arena c.args.node.0 _ c.is_finished.ensures.finished c.requires c.in-Wrapper.ensures).values.0

pub put_vector-requires-clause-of : goal.put_vector-requires-clause-of
put_vector-requires-clause-of g c = (node_in c.args.graph.now.arena c.args.node.0 _ c.is_finished.ensures.finished c.requires c.in-Values.ensures).head

pub put_vector-requires-clause-items : goal.put_vector-requires-clause-items
put_vector-requires-clause-items g c = (node_in c.args.graph.now.arena c.args.node.0 _ c.is_finished.ensures.finished c.requires c.in-Values.ensures).values

pub put_dictionary-requires : goal.put_dictionary-requires
put_dictionary-requires g c = (node_in c.args.graph.now.arena c.args.node.0 _ c.is_finished.ensures.finished c.requires c.in-Dictionary.ensures).values
