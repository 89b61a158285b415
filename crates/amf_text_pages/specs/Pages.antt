-- Nodes, pages and documents of the code in the words of the model.
use Rattle.std.specs.Prelude.{ℕ, List, [], ◌∷◌, map}
use Rattle.amf_graph.specs.Graph as graph
use Rattle.amf_text.specs.Documents as documents
use Rattle.amf_text.specs.Meant.{open_class}
use Rattle.amf_text_trees.specs.Sheets as sheet
use Rattle.amf_text_trees.specs.Frames as frames
use Rattle.amf_text_trees.specs.Frames.{kept, simple, object_kept, traits_of}
use Rattle.amf_text_pages.specs.declared.page.Class.{Class}
use Rattle.amf_text_pages.specs.declared.page.Node.{Node}
use Rattle.amf_text_pages.specs.declared.page.Node.TheVariants as node
use Rattle.amf_text_pages.specs.declared.page.Sheet.{Sheet}
use Rattle.amf_text_pages.specs.declared.page.Page.{Page}
use Rattle.amf_text_pages.specs.declared.page.Header.{Header}
use Rattle.amf_text_pages.specs.declared.page.Message.{Message}
use Rattle.amf_text_pages.specs.declared.page.Document.{Document}
use Rattle.amf_text_pages.specs.declared.page.Document.TheVariants as document
use Rattle.amf_text_pages.specs.Entries.{entry_of, entries_of, pairs_of, texts_of}
use Rattle.amf_text_pages.specs.Written.{form_named, version_named}

abbrev pub class_of : Class → frames.Class
class_of c = record { name = c.name.items; dynamic = c.dynamic; members = pairs_of c.members }

abbrev pub kept_of : Node → sheet.Kept
kept_of (node.Array ps es) = kept graph.array (pairs_of ps) (entries_of es)
kept_of (node.Open ps) = kept (graph.object open_class) (pairs_of ps) []
kept_of (node.Sealed c ps) = object_kept (class_of c) (pairs_of ps)
kept_of (node.Ordered c names ps) =
    kept (graph.object (traits_of (class_of c) (texts_of names))) (pairs_of c.members) (sheet.entries_by (texts_of names) (pairs_of ps))
kept_of (node.Wrapper w e) = kept (graph.wrapper w) [] (entry_of e ∷ [])
kept_of (node.Values b x es) = kept (graph.values b x.items) [] (entries_of es)
kept_of (node.Dictionary b es) = kept (graph.dictionary b) [] (entries_of es)
kept_of (node.XmlDocument x) = simple (graph.xml_document x.items)
kept_of (node.Xml x) = simple (graph.xml x.items)
kept_of (node.Date p) = simple (graph.date p)
kept_of (node.Bytes x) = simple (graph.bytes x.items)
kept_of (node.Ints b ns) = simple (graph.ints b ns.items)
kept_of (node.Uints b ns) = simple (graph.uints b ns.items)
kept_of (node.Doubles b ns) = simple (graph.doubles b ns.items)

abbrev pub sheet_of : Sheet → sheet.Sheet
sheet_of s = record { nodes = map kept_of s.nodes.items; calls = texts_of s.calls }

abbrev pub page_of : Page → sheet.Page
page_of p = record { sheet = sheet_of p.sheet; table = pairs_of p.table; root = entry_of p.root }

abbrev pub header_of : Header → documents.Header sheet.Page
header_of h = record { name = h.name.items; must = h.must; form = form_named h.form; graph = page_of h.page }

abbrev pub message_of : Message → documents.Message sheet.Page
message_of m = record { target = m.target.items; response = m.response.items; form = form_named m.form; graph = page_of m.page }

abbrev pub document_of : Document → documents.Document sheet.Page
document_of (document.Value3 p) = documents.value3 (page_of p)
document_of (document.Value0 p) = documents.value0 (page_of p)
document_of (document.File name version p) = documents.file name.items (version_named version) (page_of p)
document_of (document.Packet version hs ms) = documents.packet version (map header_of hs.items) (map message_of ms.items)

-- a file with another name
abbrev pub named : List ℕ → documents.Document sheet.Page → documents.Document sheet.Page
named x (documents.file name version p) = documents.file x version p
named x d = d
