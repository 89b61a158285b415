use Rattle.std.proofs.Common.{◌≡◌, ◌++◌, map}
use Rattle.std.specs.List.{AllByRecursion}
use Rattle.amf_text_graphs.specs.Graphs.{IsWritable, header_graph}
use Rattle.amf_text_pages.specs.Pages.{header_of}
use Rattle.amf_text_pages.specs.Written.{header_written}
use Rattle.amf_text_graphs.proofs.documents.headers_with_graphs.Given as goal

abbrev pub invariant-loop-header : goal.invariant-loop-header
invariant-loop-header l =
    (map header_written l.all.items ++ map header_graph (map header_of l.header-iterator.rest.items)
    ≡ map header_graph (map header_of l.fn.headers.items))
    × AllByRecursion (λ h. IsWritable h.graph) (map header_graph (map header_of l.header-iterator.rest.items))
