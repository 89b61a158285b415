use Rattle.std.proofs.Common.{ap, sym, ◌∙◌}
use Rattle.amf_text.specs.Refused.{within, no_label, position_of}
use Rattle.amf_text_draft.proofs.Verdicts.{has_place}
use Rattle.amf_text_draft.proofs.text.no_label.Goals as goal

pub unreachable-requires : goal.unreachable-requires
unreachable-requires c =
    let place = has_place c.one_verdict.ensures c.args.text.now c.args.label c.requires.lost in
    c.in_default.not-Some place.0 (c.in_ok-at.ensures ∙ place.1)

pub returns : goal.returns
returns c = record {
  why =
      within c.requires.within
      (no_label c.requires.lost.document c.args.label c.in-Some.at c.requires.lost.means c.requires.lost.lost (sym c.in_ok-at.ensures ∙ c.in-Some.is));
  line = c.line_and_column-line.ensures.line ∙ ap (λ x. (position_of x c.in-Some.at).line) c.as_bytes.ensures.value;
  column = c.line_and_column-line.ensures.column ∙ ap (λ x. (position_of x c.in-Some.at).column) c.as_bytes.ensures.value;
}
