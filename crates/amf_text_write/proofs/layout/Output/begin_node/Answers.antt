use Rattle.std.proofs.Common.{refl, [], ◌∷◌, map}
use Rattle.std.specs.Prelude.{codes}
use Rattle.json.specs.Tree.{json_tokens}
use Rattle.amf_graph.specs.Arena.{xml_document, xml, date, bytes, ints, uints, doubles, array, object, wrapper, values, dictionary, text_at}
use Rattle.amf_graph.specs.Building.{closed}
use Rattle.amf_graph.specs.Graph as graph
use Rattle.amf_graph.specs.Views.{named, flat}
use Rattle.amf_text.specs.Scalars.{AreDigits, alone, word, hex, told_text, told_pattern}
use Rattle.amf_text.specs.Told.{told_body}
use Rattle.amf_text_write.specs.Tells.{Tells}
use Rattle.amf_text_write.specs.Ways.{arena_in, graph_in}
use Rattle.amf_text_write.proofs.Bodies.{xml_document_told, xml_told, date_told, bytes_told}
use Rattle.amf_text_write.proofs.Leading.{on_ok_told}
use Rattle.amf_text_write.proofs.NodeBodies.{node_in, each_sealed, node_opens, node_whole}
use Rattle.amf_text_write.proofs.Telling.{exactly, on_ok}
use Rattle.amf_text_write.proofs.layout.Output.begin_node.Goals as goal

pub returns-in-XmlDocument : goal.returns-in-XmlDocument
returns-in-XmlDocument c =
    let g = c.args.way.now.graph.now in
    let x = c.in-XmlDocument.ensures in
    on_ok c.text_alone.result (λ e.
    node_whole g.arena g.root c.args.levels c.args.node.0 (xml_document x.0) c.args.waiting.now.items c.args.self.now c.text_alone.new.self (λ w. json_tokens (alone (codes "$xmldoc") (told_text c.in-XmlDocument.text.now))) x.1
    (λ w. xml_document_told (graph_in c.args.way.now) c.args.levels c.in-XmlDocument.text.now (text_at g.arena x.0) w x.2) (λ w are. exactly _ c.args.self.now c.text_alone.new.self e)) c.text_alone.ensures

pub returns-in-Xml : goal.returns-in-Xml
returns-in-Xml c =
    let g = c.args.way.now.graph.now in
    let x = c.in-Xml.ensures in
    on_ok c.text_alone-in-Xml.result (λ e.
    node_whole g.arena g.root c.args.levels c.args.node.0 (xml x.0) c.args.waiting.now.items c.args.self.now c.text_alone-in-Xml.new.self (λ w. json_tokens (alone (codes "$xml") (told_text c.in-Xml.text.now))) x.1
    (λ w. xml_told (graph_in c.args.way.now) c.args.levels c.in-Xml.text.now (text_at g.arena x.0) w x.2) (λ w are. exactly _ c.args.self.now c.text_alone-in-Xml.new.self e)) c.text_alone-in-Xml.ensures

pub returns-in-Date : goal.returns-in-Date
returns-in-Date c =
    let g = c.args.way.now.graph.now in
    on_ok c.pattern_alone.result (node_whole g.arena g.root c.args.levels c.args.node.0 (date c.in-Date.time.0) c.args.waiting.now.items c.args.self.now c.pattern_alone.new.self (λ w. json_tokens (alone (codes "$date") (told_pattern w.digits c.in-Date.time.0))) c.in-Date.ensures
    (λ w. date_told (graph_in c.args.way.now) c.args.levels c.in-Date.time.0 w))
    (on_ok_told c.pattern_alone.result (λ w. AreDigits w.digits) (λ w. Tells (json_tokens (alone (codes "$date") (told_pattern w.digits c.in-Date.time.0))) c.args.self.now c.pattern_alone.new.self) (λ w are. c.pattern_alone.ensures w.digits are))

pub returns-in-Bytes : goal.returns-in-Bytes
returns-in-Bytes c =
    let g = c.args.way.now.graph.now in
    on_ok c.hex_alone.result (λ e.
    node_whole g.arena g.root c.args.levels c.args.node.0 (bytes c.in-Bytes.bytes.now) c.args.waiting.now.items c.args.self.now c.hex_alone.new.self (λ w. json_tokens (alone (codes "$bytes") (word (hex c.in-Bytes.bytes.now)))) c.in-Bytes.ensures
    (λ w. bytes_told (graph_in c.args.way.now) c.args.levels c.in-Bytes.bytes.now w) (λ w are. exactly _ c.args.self.now c.hex_alone.new.self e)) c.hex_alone.ensures

pub returns-in-Ints : goal.returns-in-Ints
returns-in-Ints c =
    let g = c.args.way.now.graph.now in
    on_ok c.ints.result (node_whole g.arena g.root c.args.levels c.args.node.0 (ints c.in-Ints.fixed c.in-Ints.items.now) c.args.waiting.now.items c.args.self.now c.ints.new.self (λ w. json_tokens (told_body w.digits (graph.ints c.in-Ints.fixed c.in-Ints.items.now) [] [])) c.in-Ints.ensures (λ w. refl))
    (on_ok_told c.ints.result (λ w. AreDigits w.digits) (λ w. Tells (json_tokens (told_body w.digits (graph.ints c.in-Ints.fixed c.in-Ints.items.now) [] [])) c.args.self.now c.ints.new.self)
    (λ w are. on_ok c.ints.result (exactly (json_tokens (told_body w.digits (graph.ints c.in-Ints.fixed c.in-Ints.items.now) [] [])) c.args.self.now c.ints.new.self) (c.ints.ensures w.digits)))

pub returns-in-Uints : goal.returns-in-Uints
returns-in-Uints c =
    let g = c.args.way.now.graph.now in
    on_ok c.uints.result (node_whole g.arena g.root c.args.levels c.args.node.0 (uints c.in-Uints.fixed c.in-Uints.items.now) c.args.waiting.now.items c.args.self.now c.uints.new.self (λ w. json_tokens (told_body w.digits (graph.uints c.in-Uints.fixed c.in-Uints.items.now) [] [])) c.in-Uints.ensures (λ w. refl))
    (on_ok_told c.uints.result (λ w. AreDigits w.digits) (λ w. Tells (json_tokens (told_body w.digits (graph.uints c.in-Uints.fixed c.in-Uints.items.now) [] [])) c.args.self.now c.uints.new.self)
    (λ w are. on_ok c.uints.result (exactly (json_tokens (told_body w.digits (graph.uints c.in-Uints.fixed c.in-Uints.items.now) [] [])) c.args.self.now c.uints.new.self) (c.uints.ensures w.digits)))

pub returns-in-Doubles : goal.returns-in-Doubles
returns-in-Doubles c =
    let g = c.args.way.now.graph.now in
    on_ok c.doubles.result (node_whole g.arena g.root c.args.levels c.args.node.0 (doubles c.in-Doubles.fixed (map (λ p. p.0) c.in-Doubles.items.now)) c.args.waiting.now.items c.args.self.now c.doubles.new.self
    (λ w. json_tokens (told_body w.digits (graph.doubles c.in-Doubles.fixed (map (λ p. p.0) c.in-Doubles.items.now)) [] [])) c.in-Doubles.ensures (λ w. refl))
    (on_ok_told c.doubles.result (λ w. AreDigits w.digits) (λ w. Tells (json_tokens (told_body w.digits (graph.doubles c.in-Doubles.fixed (map (λ p. p.0) c.in-Doubles.items.now)) [] [])) c.args.self.now c.doubles.new.self) (λ w are. c.doubles.ensures w.digits are))

pub returns-in-Array : goal.returns-in-Array
returns-in-Array c =
    let g = c.args.way.now.graph.now in
    on_ok c.array.result (node_opens g.arena g.root c.args.levels c.args.node.0 (closed array (named c.in-Array.names.now) c.in-Array.items.now) c.args.waiting.now.items c.array.new.waiting.items c.args.self.now c.array.new.self c.in-Array.ensures) c.array.ensures

pub returns-in-Object : goal.returns-in-Object
returns-in-Object c =
    let g = c.args.way.now.graph.now in
    on_ok c.object.result (node_opens g.arena g.root c.args.levels c.args.node.0 (closed (object c.in-Object.traits.0) (named c.in-Object.members.now) c.in-Object.sealed.now) c.args.waiting.now.items c.object.new.waiting.items c.args.self.now c.object.new.self c.in-Object.ensures) c.object.ensures

pub returns-in-Wrapper : goal.returns-in-Wrapper
returns-in-Wrapper c =
    let g = c.args.way.now.graph.now in
    let n = closed (wrapper c.in-Wrapper.class) [] (c.in-Wrapper.value ∷ []) in
    on_ok c.wrapper.result (node_opens g.arena g.root c.args.levels c.args.node.0 n c.args.waiting.now.items c.wrapper.new.waiting.items c.args.self.now c.wrapper.new.self c.in-Wrapper.ensures)
    (c.wrapper.ensures (graph_in c.args.way.now) g.arena (node_in g.arena c.args.node.0 n c.is_finished.ensures.finished c.requires c.in-Wrapper.ensures).values.0)

pub returns-in-Values : goal.returns-in-Values
returns-in-Values c =
    let g = c.args.way.now.graph.now in
    on_ok c.vector.result (node_opens g.arena g.root c.args.levels c.args.node.0 (closed (values c.in-Values.fixed c.in-Values.of.0) [] c.in-Values.items.now) c.args.waiting.now.items c.vector.new.waiting.items c.args.self.now c.vector.new.self c.in-Values.ensures) c.vector.ensures

pub returns-in-Dictionary : goal.returns-in-Dictionary
returns-in-Dictionary c =
    let g = c.args.way.now.graph.now in
    let n = closed (dictionary c.in-Dictionary.weak) [] (flat c.in-Dictionary.entries.now) in
    on_ok c.dictionary.result (node_opens g.arena g.root c.args.levels c.args.node.0 n c.args.waiting.now.items c.dictionary.new.waiting.items c.args.self.now c.dictionary.new.self c.in-Dictionary.ensures)
    (c.dictionary.ensures (graph_in c.args.way.now) g.arena (node_in g.arena c.args.node.0 n c.is_finished.ensures.finished c.requires c.in-Dictionary.ensures).values)

pub array-requires-clause-items : goal.array-requires-clause-items
array-requires-clause-items c = (node_in (arena_in c.args.way.now) c.args.node.0 _ c.is_finished.ensures.finished c.requires c.in-Array.ensures).values

pub array-requires-clause-names : goal.array-requires-clause-names
array-requires-clause-names c = (node_in (arena_in c.args.way.now) c.args.node.0 _ c.is_finished.ensures.finished c.requires c.in-Array.ensures).names

pub object-requires-clause-traits : goal.object-requires-clause-traits
object-requires-clause-traits c = (node_in (arena_in c.args.way.now) c.args.node.0 _ c.is_finished.ensures.finished c.requires c.in-Object.ensures).head

pub object-requires-clause-sealed : goal.object-requires-clause-sealed
object-requires-clause-sealed c = (node_in (arena_in c.args.way.now) c.args.node.0 _ c.is_finished.ensures.finished c.requires c.in-Object.ensures).values

pub object-requires-clause-members : goal.object-requires-clause-members
object-requires-clause-members c = (node_in (arena_in c.args.way.now) c.args.node.0 _ c.is_finished.ensures.finished c.requires c.in-Object.ensures).names

pub object-requires-clause-each : goal.object-requires-clause-each
object-requires-clause-each c = each_sealed (arena_in c.args.way.now) c.in-Object.traits.0 _ c.in-Object.sealed.now (node_in (arena_in c.args.way.now) c.args.node.0 _ c.is_finished.ensures.finished c.requires c.in-Object.ensures)

pub vector-requires-clause-of : goal.vector-requires-clause-of
vector-requires-clause-of c = (node_in (arena_in c.args.way.now) c.args.node.0 _ c.is_finished.ensures.finished c.requires c.in-Values.ensures).head

pub vector-requires-clause-items : goal.vector-requires-clause-items
vector-requires-clause-items c = (node_in (arena_in c.args.way.now) c.args.node.0 _ c.is_finished.ensures.finished c.requires c.in-Values.ensures).values
