use Rattle.std.proofs.Common.{◌≡◌, map, cond, ◌∷◌, [], ap, sym, subst, ◌∙◌}
use Rattle.std.proofs.lemmas.List.{map-append}
use Rattle.amf_tables.specs.SpelledNodes.{AreSpelled}
use Rattle.amf_tables.specs.TableParts.{node_number}
use Rattle.amf_tables.proofs.SpelledNodes.{alone_split}
use Rattle.amf_tables.proofs.spelled_nodes.SpelledNodes.push_alone.Goals as goal

pub invariant_of-self-2 : goal.invariant_of-self-2
invariant_of-self-2 c =
    let placed = c.self.inside.placed in
    let old = map node_number c.self.inside.done.items in
    let all = map node_number c.begin_list.new.done.items in
    let marks = c.make_room.new.marks.items in
    let same : cond c.begin_list.new.split all placed ≡ cond c.self.inside.split old placed = c.begin_list.ensures.same in
    alone_split c.begin_list.new.split placed all (map node_number c.push.new.self.items) marks c.args.node.0 c.in_ok-begin_list.ensures.ok (ap (map node_number) c.in_ok-push.ensures.items ∙ map-append node_number c.begin_list.new.done.items (c.args.node ∷ []))
    c.in_ok-make_room.ensures.ok (subst (λ w. AreSpelled placed w marks) (sym same) (c.make_room.ensures.spelled placed (cond c.self.inside.split old placed) c.self.invariant))
