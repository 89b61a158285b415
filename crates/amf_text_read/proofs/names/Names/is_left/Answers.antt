-- A name is left that is found and not given.
use Rattle.std.proofs.Common.{false, not, get_or, sym, ap, ◌∙◌}
use Rattle.amf_graph.specs.TextNumbers.{contents_of}
use Rattle.amf_graph.proofs.Contents.{contents_apart}
use Rattle.amf_text_read.proofs.Left.{told_left, absent_left}
use Rattle.amf_text_read.proofs.names.Names.is_left.Goals as goal

pub returns-in-Some : goal.returns-in-Some
returns-in-Some c =
    let texts = c.self.inside.told in
    let t = told_left c.self.inside.given.items (contents_of texts) c.in-Some.number c.args.name.now (contents_apart texts) c.in-Some.ensures in
    rw (← c.self.view_is) (ap not (c.is_set.ensures ∙ ap (λ w. get_or w c.in-Some.number false) c.deref.ensures.value) ∙ sym t)

pub returns-in-None : goal.returns-in-None
returns-in-None c = rw (← c.self.view_is) (sym (absent_left c.self.inside.given.items (contents_of c.self.inside.told) c.args.name.now c.in-None.ensures))
