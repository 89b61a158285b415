-- There are as many traits as heads.
use Rattle.std.proofs.Common.{◌<◌, length, sym, ap, ◌∙◌, subst}
use Rattle.amf_graph.specs.TextPool.{pieces}
use Rattle.amf_graph.proofs.Pieces.{length-pieces}
use Rattle.amf_graph.proofs.ClassRows.{length-shown}
use Rattle.amf_graph.proofs.classes.Classes.get.Goals as goal

pub class_at-requires-clause-there : goal.class_at-requires-clause-there
class_at-requires-clause-there c =
    subst (λ w. c.args.place < w)
    (ap length (sym c.self.view_is)
    ∙ length-shown c.self.inside.heads.items (pieces c.self.inside.sealed.items 0 c.self.inside.ends.items) (c.self.invariant.0 ∙ sym (length-pieces c.self.inside.sealed.items 0 c.self.inside.ends.items))
    ∙ ap length (sym c.deref.ensures.value)) c.requires

pub class_at-requires-clause-heads : goal.class_at-requires-clause-heads
class_at-requires-clause-heads c = ap length c.deref.ensures.value ∙ c.self.invariant.0 ∙ ap length (sym c.deref-3.ensures.value)
