-- Values, names and numbers of the code in the words of the model.
use Rattle.std.specs.Prelude.{ℕ, List, map}
use Rattle.std.specs.declared.vec.Vec.{Vec}
use Rattle.std.specs.declared.alloc.Global.{Global}
use Rattle.amf_graph.specs.Graph as graph
use Rattle.amf_text_trees.specs.Sheets as sheet
use Rattle.amf_text_pages.specs.declared.entry.Entry.{Entry}
use Rattle.amf_text_pages.specs.declared.entry.Entry.TheVariants as code

abbrev pub entry_of : Entry → sheet.Entry
entry_of code.Undefined = sheet.leaf graph.undefined
entry_of code.Null = sheet.leaf graph.null
entry_of (code.Bool b) = sheet.leaf (graph.boolean b)
entry_of (code.Integer n) = sheet.leaf (graph.integer n)
entry_of (code.Double p) = sheet.leaf (graph.double p.0)
entry_of (code.Text x) = sheet.leaf (graph.text x.items)
entry_of (code.Label x) = sheet.label x.items
entry_of (code.Node n) = sheet.node n

abbrev pub pair_of : Vec ℕ Global × Entry → List ℕ × sheet.Entry
pair_of p = (p.0.items, entry_of p.1)

abbrev pub entries_of : Vec Entry Global → List sheet.Entry
entries_of es = map entry_of es.items

abbrev pub pairs_of : Vec (Vec ℕ Global × Entry) Global → sheet.Pairs
pairs_of ps = map pair_of ps.items

abbrev pub texts_of : Vec (Vec ℕ Global) Global → List (List ℕ)
texts_of xs = map (λ x. x.items) xs.items
