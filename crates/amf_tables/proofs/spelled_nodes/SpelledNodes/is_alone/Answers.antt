use Rattle.std.proofs.Common.{map, cond, sym, subst}
use Rattle.amf_tables.specs.TableParts.{node_number}
use Rattle.amf_tables.specs.SpelledNodes.{AreSpelled}
use Rattle.amf_tables.proofs.SpelledNodes.{alone_where, placed_where}
use Rattle.amf_tables.proofs.spelled_nodes.SpelledNodes.is_alone.Goals as goal

pub returns-in-Some : goal.returns-in-Some
returns-in-Some c = rw (← c.self.view_is) (placed_where c.self.inside.placed (cond c.self.inside.split (map node_number c.self.inside.done.items) c.self.inside.placed) c.args.node.0 c.in-Some.field-0 c.in-Some.ensures.first)

pub returns-in-None : goal.returns-in-None
returns-in-None c =
    let done = cond c.self.inside.split (map node_number c.self.inside.done.items) c.self.inside.placed in
    rw (← c.self.view_is) (alone_where c.is_marked.result c.self.inside.placed done c.deref.result.now c.args.node.0 (subst (λ w. AreSpelled c.self.inside.placed done w) (sym c.deref.ensures.value) c.self.invariant) c.in-None.ensures.none c.is_marked.ensures)
