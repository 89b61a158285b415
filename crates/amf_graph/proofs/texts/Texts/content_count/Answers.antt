-- The contents are those of the texts.
use Rattle.std.proofs.Common.{length, ap, ◌∙◌}
use Rattle.amf_graph.specs.TextNumbers.{contents_of}
use Rattle.amf_graph.proofs.texts.Texts.content_count.Goals as goal

pub returns : goal.returns
returns c = c.len.ensures ∙ ap length c.self.invariant.contents ∙ ap (λ w. length (contents_of w)) c.self.view_is
