use Rattle.std.proofs.Common.{sym, subst}
use Rattle.amf_graph.specs.Arena.{value_content}
use Rattle.amf_graph.specs.Renumbered.{numbers_of}
use Rattle.amf_graph.specs.Rooted.{content}
use Rattle.amf3_write.specs.PartLacks.{PartLacks3}
use Rattle.amf3_write.proofs.PartReached.{some_lack}
use Rattle.amf3_write.proofs.first_lack.first_lack.Goals as goal

pub unreachable-requires : goal.unreachable-requires
unreachable-requires c =
    let g = content c.args.graph.now in
    let order = c.in_ok-numbering.numbering in
    let o = some_lack g order c.in_ok-numbering.ensures.order (value_content c.args.graph.now.arena c.args.value) (numbers_of c.args.met.now) (numbers_of c.in_ok-found.found.items) c.requires.reached c.requires.lacking c.in_ok-found.ensures.found in
    c.in-None.ensures o.0 o.1 (subst (λ w. PartLacks3 g order (numbers_of w) o.0 o.1) (sym c.deref.ensures.value) o.2)
