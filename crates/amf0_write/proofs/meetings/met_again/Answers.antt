-- Each value of each node of the order is met once.
use Rattle.std.proofs.Common.{◌≡◌, ◌<◌, ◌+◌, ◌∷◌, ◌++◌, [], length, take, get_or, refl, sym, ap, ◌∙◌, subst, arith, add-one, append_assoc}
use Rattle.std.proofs.Math.Seq.{take-suc}
use Rattle.std.proofs.lemmas.List.{map-append, take_all}
use Rattle.std.specs.List.{AllByRecursion}
use Rattle.amf_graph.specs.declared.value.Value.{Value}
use Rattle.amf_graph.specs.declared.value.Value.TheVariants.{Undefined}
use Rattle.amf_graph.specs.Arena.{Names, value_content}
use Rattle.amf_graph.specs.Rooted.{content}
use Rattle.amf_graph.proofs.Alls.{all_at}
use Rattle.amf_iso.specs.Contents.{values_of}
use Rattle.amf0_write.specs.Meetings.{AreMet}
use Rattle.amf0_write.proofs.MeetingSteps.{in_order, met_in, met_more}
use Rattle.amf0_write.proofs.meetings.met_again.Goals as goal

pub values_met-requires : goal.values_met-requires
values_met-requires c =
    in_order c.args.graph.now.arena c.args.graph.now.root c.args.numbering.now c.loop-number.number c.node_at.result.0 c.is_finished.ensures.finished c.is_finished.ensures.names c.requires c.node_at.ensures

pub loop-number-init : goal.loop-number-init
loop-number-init c =
    let a = c.args.graph.now.arena in
    let m = c.in_ok-meetings.meetings in
    let n = c.meet.new.self in
    let start : AreMet (length a.nodes) [] m.seen.items m.again.items = subst (λ k. AreMet k [] m.seen.items m.again.items) c.node_count.ensures c.in_ok-meetings.ensures in
    subst (λ v. AreMet (length a.nodes) (value_content a v ∷ []) n.seen.items n.again.items) c.root.ensures (c.meet.ensures.met a [] (subst (Names a) (sym c.root.ensures) c.is_finished.ensures.names) start)

pub loop-value-preserved : goal.loop-value-preserved
loop-value-preserved c =
    let a = c.args.graph.now.arena in
    let vs = c.deref-value-items.result.now in
    let i = c.loop-value.value-index in
    let within : i < length vs = omega arith in
    let v : Value = get_or vs i Undefined in
    let front = met_in (content c.args.graph.now) (take c.loop-number.number c.args.numbering.now) in
    let more : values_of a (take (i + 1) vs) ≡ values_of a (take i vs) ++ value_content a v ∷ [] = rw (add-one, take-suc vs i Undefined within, map-append) refl in
    let there = all_at (Names a) vs i Undefined within (subst (AllByRecursion (Names a)) (sym c.deref-value-items.ensures.value) c.in_ok-values.ensures.names) in
    let n = c.meet-in-loop-value.new.self in
    subst (λ w. AreMet (length a.nodes) w n.seen.items n.again.items) (append_assoc front (values_of a (take i vs)) (value_content a v ∷ []) ∙ ap (λ w. front ++ w) (sym more))
    (c.meet-in-loop-value.ensures.met a (front ++ values_of a (take i vs)) there c.loop-value.invariant)

pub loop-number-preserved : goal.loop-number-preserved
loop-number-preserved c =
    let g = content c.args.graph.now in
    let a = c.args.graph.now.arena in
    let vs = c.deref-value-items.result.now in
    let k = c.loop-number.number in
    let order = c.args.numbering.now in
    let m = c.loop-value.meetings in
    let whole : take c.loop-value.value-index vs ≡ vs = take_all c.loop-value.value-index vs (omega arith) in
    let values = ap (values_of a) (whole ∙ c.deref-value-items.ensures.value) ∙ c.in_ok-values.ensures.values in
    subst (λ w. AreMet (length a.nodes) w m.seen.items m.again.items) (ap (λ w. met_in g (take k order) ++ w) values ∙ sym (met_more g order k c.node_at.result.0 c.node_at.ensures)) c.loop-value.invariant

pub returns : goal.returns
returns c =
    let g = content c.args.graph.now in
    let m = c.loop-number.meetings in
    let n = length c.args.graph.now.arena.nodes in
    let whole : take c.loop-number.number c.args.numbering.now ≡ c.args.numbering.now = take_all c.loop-number.number c.args.numbering.now (omega arith) in
    let all : AreMet n (met_in g c.args.numbering.now) m.seen.items m.again.items = subst (λ w. AreMet n (met_in g w) m.seen.items m.again.items) whole c.loop-number.invariant in
    record { all = all.again_all; marked = all.again_is }
