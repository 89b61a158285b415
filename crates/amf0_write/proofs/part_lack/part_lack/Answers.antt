use Rattle.std.proofs.Common.{◌∷◌, [], refl, arith}
use Rattle.std.specs.Prelude.{None}
use Rattle.amf_graph.specs.Arena.{value_content}
use Rattle.amf_graph.specs.Rooted.{content}
use Rattle.amf0_write.specs.PartLacks0.{outside_of}
use Rattle.amf0_write.specs.Written0.{tables0}
use Rattle.amf0_write.proofs.SearchSteps.{unmet_most}
use Rattle.amf0_write.proofs.PartEnds.{search_begins, search_ends, search_finds}
use Rattle.amf0_write.proofs.part_lack.part_lack.Goals as goal

pub walk-requires-clause-few : goal.walk-requires-clause-few
walk-requires-clause-few c = omega (arith, c.requires.few, unmet_most c.args.meetings.items, c.requires.room, c.is_finished.ensures.bounds.few_nodes)

pub unreachable-requires : goal.unreachable-requires
unreachable-requires c =
    let g = content c.args.graph.now in
    let v = value_content c.args.graph.now.arena c.args.value in
    let order = c.in_ok-numbering.numbering in
    let t = c.requires.lacking.0 in
    let begin = search_begins g (outside_of g (tables0 t)) t.done order (v ∷ []) (record { meetings = c.args.meetings; next = c.args.next; least = None }) refl c.requires.lacking.1 in
    search_finds g (tables0 t) v order c.in_ok-numbering.ensures.order c.walk.new.self (c.in_ok-walk.ensures (outside_of g (tables0 t)) t.done (v ∷ []) begin) c.in-None.is c.requires.reached c.requires.lacking.2

pub returns : goal.returns
returns c = λ t h.
    let g = content c.args.graph.now in
    let v = value_content c.args.graph.now.arena c.args.value in
    let order = c.in_ok-numbering.numbering in
    let begin = search_begins g (outside_of g (tables0 t)) t.done order (v ∷ []) (record { meetings = c.args.meetings; next = c.args.next; least = None }) refl h in
    search_ends g (tables0 t) v order c.in_ok-numbering.ensures.order c.walk.new.self (c.in_ok-walk.ensures (outside_of g (tables0 t)) t.done (v ∷ []) begin) c.in-Some.lack c.in-Some.is
