use Rattle.std.proofs.Common.{◌≡◌, ◌++◌, map, take}
use Rattle.std.specs.List.{flat_map}
use Rattle.amf_text_trees.specs.Pages.{page_calls}
use Rattle.amf_text_pages.specs.Pages.{message_of}
use Rattle.amf_text_graphs.proofs.calls.add_message_calls.Given as goal

abbrev pub invariant-loop-message : goal.invariant-loop-message
invariant-loop-message l = l.calls.items ≡ l.fn.calls.items ++ flat_map (λ m. page_calls m.graph) (map message_of (take l.message-index l.fn.messages))
