-- Traits have their head and their names.
use Rattle.std.proofs.Common.{false, get_or, sym, ap, ◌∙◌}
use Rattle.amf_graph.specs.Building.{stored_traits}
use Rattle.amf_graph.specs.TextPool.{pieces}
use Rattle.amf_graph.proofs.Pieces.{length-pieces}
use Rattle.amf_graph.proofs.ClassRows.{shown_at}
use Rattle.amf_graph.proofs.classes.class_at.Goals as goal

pub returns : goal.returns
returns c =
    shown_at c.args.heads.now (pieces c.args.sealed.now 0 c.args.ends.now) c.args.place (record { 0 = 0 }, false) c.requires.there (c.requires.heads ∙ sym (length-pieces c.args.sealed.now 0 c.args.ends.now))
    ∙ ap (λ w. stored_traits (get_or c.args.heads.now c.args.place (record { 0 = 0 }, false)).0 (get_or c.args.heads.now c.args.place (record { 0 = 0 }, false)).1 w) (sym c.names_at-sealed.ensures)
