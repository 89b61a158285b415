-- As many steps on again.
use Rattle.std.proofs.Common.{◌≡◌, ◌+◌, ◌<◌, length, get_or, subst, arith}
use Rattle.std.proofs.lemmas.Option.{slice_get-get_or}
use Rattle.amf_graph.specs.declared.value.Value.{Value}
use Rattle.amf_graph.specs.declared.value.Value.TheVariants.{Undefined}
use Rattle.amf_graph.specs.Arena.{Names, value_content}
use Rattle.amf_graph.specs.Graph.{node}
use Rattle.amf_graph.specs.Rooted.{content}
use Rattle.amf_graph.proofs.Alls.{all_at}
use Rattle.amf0_write.specs.Chained.{AreFor, IsAfter}
use Rattle.amf0_write.proofs.ChainEnds.{for_more, twice_as_far}
use Rattle.amf0_write.proofs.chains.doubled.Goals as goal

pub loop-end-preserved : goal.loop-end-preserved
loop-end-preserved c = λ g steps a.
    let ends = c.args.ends.now in
    let i = c.loop-end.end-index in
    let within : i < length ends = omega arith in
    let v : Value = get_or ends i Undefined in
    let there = all_at (Names g.arena) ends i Undefined within a.names in
    let before = a.each i v (slice_get-get_or ends i Undefined within) in
    rw (c.in_ok-push.ensures.items)
    (for_more g (IsAfter g (steps + steps)) i c.loop-end.doubled.items c.further.result (c.loop-end.invariant g steps a) (c.further.ensures.names g steps a there)
    (twice_as_far (content g) steps (node i) (value_content g.arena v) (value_content g.arena c.further.result) before (c.further.ensures.content g steps a there)))

pub returns : goal.returns
returns c = λ g steps a.
    let whole : c.loop-end.end-index ≡ length g.arena.nodes = omega (arith, a.all) in
    subst (λ k. AreFor g (IsAfter g (steps + steps)) k c.loop-end.doubled.items) whole (c.loop-end.invariant g steps a)
