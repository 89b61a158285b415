-- There are as many traits as heads.
use Rattle.std.proofs.Common.{length, sym, ap, ◌∙◌}
use Rattle.amf_graph.specs.TextPool.{pieces}
use Rattle.amf_graph.proofs.Pieces.{length-pieces}
use Rattle.amf_graph.proofs.ClassRows.{length-shown}
use Rattle.amf_graph.proofs.classes.Classes.len.Goals as goal

pub returns : goal.returns
returns c =
    c.len.ensures ∙ c.self.inside.heads.ok.0
    ∙ sym (length-shown c.self.inside.heads.items (pieces c.self.inside.sealed.items 0 c.self.inside.ends.items) (c.self.invariant.0 ∙ sym (length-pieces c.self.inside.sealed.items 0 c.self.inside.ends.items)))
    ∙ ap length c.self.view_is
