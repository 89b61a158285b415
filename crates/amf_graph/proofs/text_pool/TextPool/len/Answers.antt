-- There are as many texts as ends.
use Rattle.std.proofs.Common.{length, sym, ap, ◌∙◌}
use Rattle.amf_graph.proofs.Pieces.{length-pieces}
use Rattle.amf_graph.proofs.text_pool.TextPool.len.Goals as goal

pub returns : goal.returns
returns c = c.len.ensures ∙ c.self.inside.ends.ok.0 ∙ sym (length-pieces c.self.inside.bytes.items 0 c.self.inside.ends.items) ∙ ap length c.self.view_is
