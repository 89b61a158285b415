-- What is written of each kind of node is what the node holds.
use Rattle.amf_graph.specs.declared.views.NodeView.TheVariants as view
use Rattle.amf_show.proofs.Held.{node_in, each_sealed, written_as}
use Rattle.amf_show.proofs.Viewed.{view_written}
use Rattle.amf_show.proofs.lister.Lister.push_contents.Goals as goal

pub returns-in-XmlDocument : goal.returns-in-XmlDocument
returns-in-XmlDocument c =
    let g = c.args.self.now.graph.now in
    written_as c.push_worded.result c.args.out.now.items c.push_worded.new.out.items _ _ (view_written c.args.self.now.numbering.now g.arena g.root c.args.node.0 (view.XmlDocument c.in-XmlDocument.text) c.in-XmlDocument.ensures) c.push_worded.ensures

pub returns-in-Xml : goal.returns-in-Xml
returns-in-Xml c =
    let g = c.args.self.now.graph.now in
    written_as c.push_worded-in-Xml.result c.args.out.now.items c.push_worded-in-Xml.new.out.items _ _ (view_written c.args.self.now.numbering.now g.arena g.root c.args.node.0 (view.Xml c.in-Xml.text) c.in-Xml.ensures) c.push_worded-in-Xml.ensures

pub returns-in-Date : goal.returns-in-Date
returns-in-Date c =
    let g = c.args.self.now.graph.now in
    written_as c.push_date.result c.args.out.now.items c.push_date.new.out.items _ _ (view_written c.args.self.now.numbering.now g.arena g.root c.args.node.0 (view.Date c.in-Date.milliseconds) c.in-Date.ensures) c.push_date.ensures

pub returns-in-Bytes : goal.returns-in-Bytes
returns-in-Bytes c =
    let g = c.args.self.now.graph.now in
    written_as c.push_byte_array.result c.args.out.now.items c.push_byte_array.new.out.items _ _ (view_written c.args.self.now.numbering.now g.arena g.root c.args.node.0 (view.Bytes c.in-Bytes.bytes) c.in-Bytes.ensures) c.push_byte_array.ensures

pub returns-in-Ints : goal.returns-in-Ints
returns-in-Ints c =
    let g = c.args.self.now.graph.now in
    written_as c.push_ints.result c.args.out.now.items c.push_ints.new.out.items _ _ (view_written c.args.self.now.numbering.now g.arena g.root c.args.node.0 (view.Ints c.in-Ints.fixed c.in-Ints.items) c.in-Ints.ensures) c.push_ints.ensures

pub returns-in-Uints : goal.returns-in-Uints
returns-in-Uints c =
    let g = c.args.self.now.graph.now in
    written_as c.push_uints.result c.args.out.now.items c.push_uints.new.out.items _ _ (view_written c.args.self.now.numbering.now g.arena g.root c.args.node.0 (view.Uints c.in-Uints.fixed c.in-Uints.items) c.in-Uints.ensures) c.push_uints.ensures

pub returns-in-Doubles : goal.returns-in-Doubles
returns-in-Doubles c =
    let g = c.args.self.now.graph.now in
    written_as c.push_doubles.result c.args.out.now.items c.push_doubles.new.out.items _ _ (view_written c.args.self.now.numbering.now g.arena g.root c.args.node.0 (view.Doubles c.in-Doubles.fixed c.in-Doubles.items) c.in-Doubles.ensures) c.push_doubles.ensures

pub returns-in-Array : goal.returns-in-Array
returns-in-Array c =
    let g = c.args.self.now.graph.now in
    written_as c.push_array.result c.args.out.now.items c.push_array.new.out.items _ _ (view_written c.args.self.now.numbering.now g.arena g.root c.args.node.0 (view.Array c.in-Array.items c.in-Array.names) c.in-Array.ensures) c.push_array.ensures

pub returns-in-Object : goal.returns-in-Object
returns-in-Object c =
    let g = c.args.self.now.graph.now in
    written_as c.push_object.result c.args.out.now.items c.push_object.new.out.items _ _ (view_written c.args.self.now.numbering.now g.arena g.root c.args.node.0 (view.Object c.in-Object.traits c.in-Object.sealed c.in-Object.members) c.in-Object.ensures) c.push_object.ensures

pub returns-in-Wrapper : goal.returns-in-Wrapper
returns-in-Wrapper c =
    let g = c.args.self.now.graph.now in
    written_as c.push_wrapper.result c.args.out.now.items c.push_wrapper.new.out.items _ _ (view_written c.args.self.now.numbering.now g.arena g.root c.args.node.0 (view.Wrapper c.in-Wrapper.class c.in-Wrapper.value) c.in-Wrapper.ensures) c.push_wrapper.ensures

pub returns-in-Values : goal.returns-in-Values
returns-in-Values c =
    let g = c.args.self.now.graph.now in
    written_as c.push_vector.result c.args.out.now.items c.push_vector.new.out.items _ _ (view_written c.args.self.now.numbering.now g.arena g.root c.args.node.0 (view.Values c.in-Values.fixed c.in-Values.of c.in-Values.items) c.in-Values.ensures) c.push_vector.ensures

pub returns-in-Dictionary : goal.returns-in-Dictionary
returns-in-Dictionary c =
    let g = c.args.self.now.graph.now in
    written_as c.push_dictionary.result c.args.out.now.items c.push_dictionary.new.out.items _ _ (view_written c.args.self.now.numbering.now g.arena g.root c.args.node.0 (view.Dictionary c.in-Dictionary.weak c.in-Dictionary.entries) c.in-Dictionary.ensures) c.push_dictionary.ensures

pub push_array-requires-clause-items : goal.push_array-requires-clause-items
push_array-requires-clause-items c = (node_in c.args.self.now.graph.now.arena c.args.node.0 _ c.is_finished.ensures.finished c.requires c.in-Array.ensures).values

pub push_array-requires-clause-names : goal.push_array-requires-clause-names
push_array-requires-clause-names c = (node_in c.args.self.now.graph.now.arena c.args.node.0 _ c.is_finished.ensures.finished c.requires c.in-Array.ensures).names

pub push_object-requires-clause-traits : goal.push_object-requires-clause-traits
push_object-requires-clause-traits c = (node_in c.args.self.now.graph.now.arena c.args.node.0 _ c.is_finished.ensures.finished c.requires c.in-Object.ensures).head

pub push_object-requires-clause-sealed : goal.push_object-requires-clause-sealed
push_object-requires-clause-sealed c = (node_in c.args.self.now.graph.now.arena c.args.node.0 _ c.is_finished.ensures.finished c.requires c.in-Object.ensures).values

pub push_object-requires-clause-members : goal.push_object-requires-clause-members
push_object-requires-clause-members c = (node_in c.args.self.now.graph.now.arena c.args.node.0 _ c.is_finished.ensures.finished c.requires c.in-Object.ensures).names

pub push_wrapper-requires : goal.push_wrapper-requires
push_wrapper-requires c = (node_in c.args.self.now.graph.now.arena c.args.node.0 _ c.is_finished.ensures.finished c.requires c.in-Wrapper.ensures).values.0

pub push_vector-requires-clause-of : goal.push_vector-requires-clause-of
push_vector-requires-clause-of c = (node_in c.args.self.now.graph.now.arena c.args.node.0 _ c.is_finished.ensures.finished c.requires c.in-Values.ensures).head

pub push_vector-requires-clause-items : goal.push_vector-requires-clause-items
push_vector-requires-clause-items c = (node_in c.args.self.now.graph.now.arena c.args.node.0 _ c.is_finished.ensures.finished c.requires c.in-Values.ensures).values

pub push_dictionary-requires : goal.push_dictionary-requires
push_dictionary-requires c = (node_in c.args.self.now.graph.now.arena c.args.node.0 _ c.is_finished.ensures.finished c.requires c.in-Dictionary.ensures).values

pub push_object-requires-clause-each : goal.push_object-requires-clause-each
push_object-requires-clause-each c = each_sealed c.args.self.now.graph.now.arena c.in-Object.traits.0 _ c.in-Object.sealed.now (node_in c.args.self.now.graph.now.arena c.args.node.0 _ c.is_finished.ensures.finished c.requires c.in-Object.ensures)
