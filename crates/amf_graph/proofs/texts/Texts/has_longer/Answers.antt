-- The contents are those of the texts.
use Rattle.std.proofs.Common.{length, ltb, ap, ◌∙◌}
use Rattle.std.specs.List.{list_any}
use Rattle.amf_graph.specs.TextNumbers.{contents_of}
use Rattle.amf_graph.proofs.texts.Texts.has_longer.Goals as goal

pub returns : goal.returns
returns c = c.has_longer.ensures ∙ ap (list_any (λ x. ltb c.args.most (length x))) (c.self.invariant.contents ∙ ap contents_of c.self.view_is)
