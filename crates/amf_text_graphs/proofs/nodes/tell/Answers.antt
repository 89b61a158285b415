use Rattle.std.proofs.Common.{ap}
use Rattle.amf_graph.specs.Graph as graph
use Rattle.amf_text_pages.specs.Pages.{kept_of}
use Rattle.amf_text_graphs.proofs.NodesTold.{leaf_ok}
use Rattle.amf_text_graphs.proofs.nodes.tell.Goals as goal

pub returns-in-XmlDocument : goal.returns-in-XmlDocument
returns-in-XmlDocument c =
    leaf_ok c.args.rows.now c.args.book.now c.tell_xml_document.new.book c.args.id.0 (kept_of c.args.node) graph.xml_document c.deref.result.now c.in-XmlDocument.text.items c.tell_xml_document.result
    (ap kept_of c.in-XmlDocument.is) c.deref.ensures.value c.tell_xml_document.ensures

pub returns-in-Xml : goal.returns-in-Xml
returns-in-Xml c =
    leaf_ok c.args.rows.now c.args.book.now c.tell_xml.new.book c.args.id.0 (kept_of c.args.node) graph.xml c.deref-in-Xml.result.now c.in-Xml.text.items c.tell_xml.result
    (ap kept_of c.in-Xml.is) c.deref-in-Xml.ensures.value c.tell_xml.ensures

pub returns-in-Doubles : goal.returns-in-Doubles
returns-in-Doubles c =
    leaf_ok c.args.rows.now c.args.book.now c.tell_doubles.new.book c.args.id.0 (kept_of c.args.node) (graph.doubles c.in-Doubles.fixed) c.deref-in-Doubles.result.now c.in-Doubles.items.items c.tell_doubles.result
    (ap kept_of c.in-Doubles.is) c.deref-in-Doubles.ensures.value c.tell_doubles.ensures
