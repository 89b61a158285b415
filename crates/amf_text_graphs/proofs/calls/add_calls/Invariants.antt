use Rattle.std.proofs.Common.{◌≡◌, ◌++◌, map, take}
use Rattle.amf_text_trees.specs.Pages.{is_row}
use Rattle.amf_text_pages.specs.Entries.{pairs_of}
use Rattle.amf_text_graphs.proofs.calls.add_calls.Given as goal

abbrev pub invariant-loop-label : goal.invariant-loop-label
invariant-loop-label l =
    l.calls.items ≡ l.fn.calls.items ++ map (is_row (pairs_of l.fn.page.table)) (map (λ x. x.items) (take l.label-index l.fn.page.sheet.calls.items))
