use Rattle.amf_text.specs.Scalars.{read_number}
use Rattle.amf_text_graphs.specs.Graphs.{graphs_in}
use Rattle.amf_text_pages.specs.Pages.{document_of}
use Rattle.amf_text_pages.specs.Written.{document_written}
use Rattle.amf_text_draft.proofs.Verdicts.{are_writable, is_written, means_graphs}
use Rattle.amf_text_draft.proofs.text.accepted.Goals as goal

pub document_with_graphs-requires : goal.document_with_graphs-requires
document_with_graphs-requires c =
    let pages = document_of c.args.document in
    let linked = rw c.in-None.is at c.in_ok-refusal.ensures in
    let means = means_graphs (c.tree_laws.ensures read_number) c.args.text.now pages c.requires.utf8 c.requires.gathers linked in
    are_writable c.whole_laws.ensures c.few_nodes.ensures c.args.text.now (graphs_in pages) c.requires.within means

pub returns-in_ok-document_with_graphs-in-None-clause-written : goal.returns-in_ok-document_with_graphs-in-None-clause-written
returns-in_ok-document_with_graphs-in-None-clause-written c =
    let pages = document_of c.args.document in
    let linked = rw c.in-None.is at c.in_ok-refusal.ensures in
    let means = means_graphs (c.tree_laws.ensures read_number) c.args.text.now pages c.requires.utf8 c.requires.gathers linked in
    let ok = c.in_ok-document_with_graphs-in-None in
    is_written c.args.text.now (graphs_in pages) (document_written ok.field-0) c.requires.within means ok.ensures

pub returns-in_ok-document_with_graphs-in-None-clause-weighs : goal.returns-in_ok-document_with_graphs-in-None-clause-weighs
returns-in_ok-document_with_graphs-in-None-clause-weighs c =
    let pages = document_of c.args.document in
    let linked = rw c.in-None.is at c.in_ok-refusal.ensures in
    let means = means_graphs (c.tree_laws.ensures read_number) c.args.text.now pages c.requires.utf8 c.requires.gathers linked in
    let ok = c.in_ok-document_with_graphs-in-None in
    let written = is_written c.args.text.now (graphs_in pages) (document_written ok.field-0) c.requires.within means ok.ensures in
    c.few_nodes.ensures.together read_number c.args.text.now (document_written ok.field-0) written.means
