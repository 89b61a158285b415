-- Number by number: none before has a lack.
use Rattle.std.proofs.Common.{◌≡◌, ◌<◌, ◌+◌, ◌-◌, true, false, length, take, get_or, Some, sym, ap, ◌∙◌, subst, arith}
use Rattle.std.specs.Prelude.{◌↔◌}
use Rattle.std.proofs.lemmas.Option.{slice_get_within, slice_get-get_or, get_or_from_slice_get}
use Rattle.amf_graph.specs.Graph.{node}
use Rattle.amf_graph.specs.Rooted.{content}
use Rattle.amf0_spelling.specs.Lacks0.{NodeLacks0, entered}
use Rattle.amf0_spelling.specs.Met.{all_met, IsTwice}
use Rattle.amf0_write.specs.Meetings.{IsFirstReason}
use Rattle.amf0_write.proofs.MeetingSteps.{in_order}
use Rattle.amf0_write.proofs.FirstReasons.{found, none_more, no_reason, enters_more, enters_same}
use Rattle.amf0_write.proofs.first_lack.first_of.Goals as goal
use Rattle.amf0_write.proofs.first_lack.first_of.Goals.{then-enters, else-enters}

pub reason-requires : goal.reason-requires
reason-requires c =
    in_order c.args.graph.now.arena c.args.graph.now.root c.args.numbering.now c.loop-number.number c.node_at-node.result.0 c.is_finished.ensures.finished c.is_finished.ensures.names c.requires.order c.node_at-node.ensures

pub enters-requires : goal.enters-requires
enters-requires c =
    in_order c.args.graph.now.arena c.args.graph.now.root c.args.numbering.now c.loop-number.number c.node_at-node.result.0 c.is_finished.ensures.finished c.is_finished.ensures.names c.requires.order c.node_at-node.ensures

pub bounds-again-node : goal.bounds-again-node
bounds-again-node c =
    let there = in_order c.args.graph.now.arena c.args.graph.now.root c.args.numbering.now c.loop-number.number c.node_at-node.result.0 c.is_finished.ensures.finished c.is_finished.ensures.names c.requires.order c.node_at-node.ensures in
    omega (arith, there, c.requires.again.all)

pub returns-in-Some : goal.returns-in-Some
returns-in-Some c =
    let g = content c.args.graph.now in
    let order = c.args.numbering.now in
    let number = c.loop-number.number in
    let i = c.node_at-node.result.0 in
    let again = c.args.again.now in
    let inv = c.loop-number.invariant in
    let there = in_order c.args.graph.now.arena c.args.graph.now.root order number i c.is_finished.ensures.finished c.is_finished.ensures.names c.requires.order c.node_at-node.ensures in
    let within : i < length again = omega (arith, there, c.requires.again.all) in
    let marked = c.requires.again.marked i there in
    let place : c.saturating_sub-place.result ≡ length (entered g (take number order)) - c.args.outside = omega (arith, inv.place, c.saturating_sub-place.ensures) in
    let twice : (get_or again i false ≡ true) ↔ IsTwice (all_met g order) (node i) = (λ e. marked.0 (slice_get-get_or again i false within ∙ ap (λ b. Some b) e), λ t. get_or_from_slice_get again i true false (marked.1 t)) in
    let told : IsFirstReason (NodeLacks0 g c.args.outside order number i) (Some c.in-Some.kind) = subst (IsFirstReason (NodeLacks0 g c.args.outside order number i)) c.in-Some.is (c.reason.ensures c.args.outside order number place twice) in
    found g c.args.outside order number i c.node_at-node.ensures c.in-Some.kind inv.none told.0 told.1

pub loop-number-preserved : goal.loop-number-preserved
loop-number-preserved c =
    let g = content c.args.graph.now in
    let order = c.args.numbering.now in
    let number = c.loop-number.number in
    let i = c.node_at-node.result.0 in
    let again = c.args.again.now in
    let inv = c.loop-number.invariant in
    let there = in_order c.args.graph.now.arena c.args.graph.now.root order number i c.is_finished.ensures.finished c.is_finished.ensures.names c.requires.order c.node_at-node.ensures in
    let within : i < length again = omega (arith, there, c.requires.again.all) in
    let marked = c.requires.again.marked i there in
    let place : c.saturating_sub-place.result ≡ length (entered g (take number order)) - c.args.outside = omega (arith, inv.place, c.saturating_sub-place.ensures) in
    let twice : (get_or again i false ≡ true) ↔ IsTwice (all_met g order) (node i) = (λ e. marked.0 (slice_get-get_or again i false within ∙ ap (λ b. Some b) e), λ t. get_or_from_slice_get again i true false (marked.1 t)) in
    record {
      none = none_more g c.args.outside order number i c.node_at-node.ensures inv.none (no_reason (NodeLacks0 g c.args.outside order number i) c.reason.result c.in_default.not-Some (c.reason.ensures c.args.outside order number place twice));
      place = elim c.if-enters.branch [
        | then-enters w ↦ subst (λ p. p ≡ length (entered g (take (number + 1) order))) (sym w.entered-is) (enters_more g order number i c.node_at-node.ensures c.loop-number.entered inv.place (sym c.enters.ensures ∙ w.if-enters.true))
        | else-enters w ↦ subst (λ p. p ≡ length (entered g (take (number + 1) order))) (sym w.entered-is) (enters_same g order number i c.node_at-node.ensures c.loop-number.entered inv.place (sym c.enters.ensures ∙ w.if-enters.false))
      ];
      few = elim c.if-enters.branch [ then-enters w ↦ omega (arith, inv.few) | else-enters w ↦ omega (arith, inv.few) ];
    }

pub returns : goal.returns
returns c = λ n k l.
    let at = slice_get_within c.args.numbering.now n l.0 l.1 in
    c.loop-number.invariant.none n k (omega (arith, at)) l
