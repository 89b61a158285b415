-- What a chain ends in is what its first node is in the lowering.
use Rattle.std.proofs.Common.{◌≡◌, ◌<◌, ◌≤◌, ◌⊎◌, false, length, get_or, sym, subst, inl, inr, arith}
use Rattle.std.specs.List.{AllByRecursion}
use Rattle.std.proofs.lemmas.Option.{slice_get-get_or}
use Rattle.amf_graph.specs.declared.value.Value.{Value}
use Rattle.amf_graph.specs.declared.value.Value.TheVariants.{Undefined}
use Rattle.amf_graph.specs.Arena.{value_content}
use Rattle.amf_graph.specs.Rooted.{content}
use Rattle.amf_graph.proofs.Alls.{all_at}
use Rattle.amf0_spelling.specs.Lowered.{wraps}
use Rattle.amf0_write.specs.Chained.{IsLowFor, AreAfter}
use Rattle.amf0_write.proofs.ChainEnds.{for_more}
use Rattle.amf0_write.proofs.chains.stand_ins.Goals as goal

pub loop-end-preserved : goal.loop-end-preserved
loop-end-preserved c =
    let g = c.args.graph.now in
    let ends = c.deref-end-items.result.now in
    let i = c.loop-end.end-index in
    let found = c.in_ok-ends.ensures in
    let Ended : Value → Type 0 = λ v. wraps (content g) (value_content g.arena v) ≡ false in
    let within : i < length ends = omega arith in
    let v : Value = get_or ends i Undefined in
    let after : AreAfter g found.0 ends = subst (AreAfter g found.0) (sym c.deref-end-items.ensures.value) found.1 in
    let all : (length g.arena.nodes ≤ found.0) ⊎ AllByRecursion Ended ends = subst (λ vs. (length g.arena.nodes ≤ found.0) ⊎ AllByRecursion Ended vs) (sym c.deref-end-items.ensures.value) found.2 in
    let here : (length g.arena.nodes ≤ found.0) ⊎ Ended v = elim all [ inl l ↦ inl l | inr h ↦ inr (all_at Ended ends i Undefined within h) ] in
    let low = c.low.ensures.low found.0 i (after.each i v (slice_get-get_or ends i Undefined within)) here in
    rw (c.in_ok-push.ensures.items) (for_more g (IsLowFor g) i c.loop-end.stand_ins.items c.low.result c.loop-end.invariant c.low.ensures.names low)
