use Rattle.std.proofs.Common.{true, [], subst}
use Rattle.amf_graph.specs.Graph as graph
use Rattle.amf_text_trees.specs.Frames.{kept}
use Rattle.amf_text_pages.specs.Entries.{pairs_of}
use Rattle.amf_text_graphs.specs.Telling.{NodeTold}
use Rattle.amf_text_graphs.proofs.Tellings.{on_ok}
use Rattle.amf_text_graphs.proofs.nodes.tell_open.Goals as goal

pub returns : goal.returns
returns c =
    on_ok _ _ c.tell_object.result
    (λ f. subst (λ w. NodeTold c.args.rows.now c.args.book.now c.tell_object.new.book c.args.id.0 (kept (graph.object (record { class = w; dynamic = true; sealed = [] })) (pairs_of c.args.members) [])) c.new.ensures.items
    (f [] [] (λ z m. tt) (λ z m. tt)))
    c.tell_object.ensures
