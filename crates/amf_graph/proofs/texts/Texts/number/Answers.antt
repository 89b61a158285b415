-- The number of a text leads to its content.
use Rattle.std.proofs.Common.{◌≡◌, ◌<◌, ◌∙◌, [], length, get_or, slice_get, Some, sym, ap, subst}
use Rattle.std.proofs.lemmas.List.{length-map}
use Rattle.amf_graph.specs.TextNumbers.{contents_of}
use Rattle.amf_graph.specs.KeptTexts.{content_at}
use Rattle.amf_graph.proofs.Contents.{number_is}
use Rattle.amf_graph.proofs.texts.Texts.number.Goals as goal

pub returns : goal.returns
returns c =
    subst (λ w. slice_get (contents_of w) c.index.result.now ≡ Some (get_or w c.args.place [])) c.self.view_is
    (number_is c.self.inside.keys c.self.inside.contents c.self.inside.chains c.self.inside.numbers.items c.args.place c.index.result.now c.self.invariant
    (subst (λ w. c.args.place < w) (ap length (sym c.self.view_is) ∙ length-map c.self.inside.numbers.items (content_at c.self.inside.contents)) c.requires) c.index.ensures)
