use Rattle.std.proofs.Common.{◌≡◌, ◌++◌, map, take}
use Rattle.std.specs.List.{flat_map}
use Rattle.amf_text_trees.specs.Pages.{page_calls}
use Rattle.amf_text_pages.specs.Pages.{header_of}
use Rattle.amf_text_graphs.proofs.calls.add_header_calls.Given as goal

abbrev pub invariant-loop-header : goal.invariant-loop-header
invariant-loop-header l = l.calls.items ≡ l.fn.calls.items ++ flat_map (λ h. page_calls h.graph) (map header_of (take l.header-index l.fn.headers))
