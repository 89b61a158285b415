use Rattle.std.proofs.Common.{◌≡◌, ◌++◌, map}
use Rattle.std.specs.List.{AllByRecursion}
use Rattle.amf_text_graphs.specs.Graphs.{IsWritable, message_graph}
use Rattle.amf_text_pages.specs.Pages.{message_of}
use Rattle.amf_text_pages.specs.Written.{message_written}
use Rattle.amf_text_graphs.proofs.documents.messages_with_graphs.Given as goal

abbrev pub invariant-loop-message : goal.invariant-loop-message
invariant-loop-message l =
    (map message_written l.all.items ++ map message_graph (map message_of l.message-iterator.rest.items)
    ≡ map message_graph (map message_of l.fn.messages.items))
    × AllByRecursion (λ m. IsWritable m.graph) (map message_graph (map message_of l.message-iterator.rest.items))
