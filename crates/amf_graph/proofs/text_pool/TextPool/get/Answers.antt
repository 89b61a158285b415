-- There are as many texts as ends.
use Rattle.std.proofs.Common.{◌<◌, length, sym, ap, ◌∙◌, subst}
use Rattle.amf_graph.proofs.Pieces.{length-pieces}
use Rattle.amf_graph.proofs.text_pool.TextPool.get.Goals as goal

pub piece-requires-clause-there : goal.piece-requires-clause-there
piece-requires-clause-there c =
    subst (λ w. c.args.place < w) (ap length (sym c.self.view_is) ∙ length-pieces c.self.inside.bytes.items 0 c.self.inside.ends.items ∙ ap length (sym c.deref-2.ensures.value)) c.requires
