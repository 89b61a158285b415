-- The contents are those of the texts.
use Rattle.std.proofs.Common.{◌≡◌, slice_get, Some, MatchOption, ap, subst, ◌∙◌}
use Rattle.amf_graph.specs.Order.{Absent}
use Rattle.amf_graph.specs.TextNumbers.{contents_of}
use Rattle.amf_graph.proofs.texts.Texts.find.Goals as goal

pub returns : goal.returns
returns c =
    subst (λ w. MatchOption c.number_of.result (Absent w c.args.bytes.now) (λ n. slice_get w n ≡ Some c.args.bytes.now)) (c.self.invariant.contents ∙ ap (λ w. contents_of w) c.self.view_is) c.number_of.ensures
