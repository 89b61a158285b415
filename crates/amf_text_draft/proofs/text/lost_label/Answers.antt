use Rattle.std.proofs.Common.{sym, ◌∙◌}
use Rattle.amf_text.specs.Scalars.{read_number}
use Rattle.amf_text_pages.specs.Pages.{document_of}
use Rattle.amf_text_draft.proofs.Verdicts.{is_lost, lost_ends}
use Rattle.amf_text_draft.proofs.text.lost_label.Goals as goal

pub no_label-requires-clause-ended : goal.no_label-requires-clause-ended
no_label-requires-clause-ended c =
    lost_ends c.args.text.now c.in-Some.label
    (is_lost (c.tree_laws.ensures read_number) c.args.text.now (document_of c.args.document.now) c.in-Some.label c.requires.utf8 c.requires.gathers
    (sym c.in_ok-label.ensures ∙ c.in-Some.is))

pub no_label-requires-clause-lost : goal.no_label-requires-clause-lost
no_label-requires-clause-lost c =
    is_lost (c.tree_laws.ensures read_number) c.args.text.now (document_of c.args.document.now) c.in-Some.label c.requires.utf8 c.requires.gathers
    (sym c.in_ok-label.ensures ∙ c.in-Some.is)
