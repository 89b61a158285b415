-- Each value of each node of the order is met once.
use Rattle.std.proofs.Common.{◌≡◌, ◌<◌, ◌+◌, ◌∷◌, ◌++◌, [], length, take, drop, replicate, get_or, refl, sym, ap, ◌∙◌, subst, arith, add-one, append_assoc}
use Rattle.std.proofs.Math.Seq.{take-suc}
use Rattle.std.proofs.lemmas.List.{map-append, length-replicate, take_all}
use Rattle.amf_graph.specs.declared.value.Value.{Value}
use Rattle.amf_graph.specs.declared.value.Value.TheVariants.{Undefined}
use Rattle.amf_graph.specs.Arena.{value_content}
use Rattle.amf_graph.specs.Rooted.{content}
use Rattle.amf_iso.specs.Contents.{values_of}
use Rattle.amf_text.specs.Texts.{all_met}
use Rattle.amf_text_write.specs.declared.meetings.Meetings.TheVariants.{None}
use Rattle.amf_text_write.specs.Counts.{AreCounts}
use Rattle.amf_text_write.proofs.Counting.{order_there, met_more, none_counted, refilled}
use Rattle.amf_text_write.proofs.meetings.count_meetings.Goals as goal

pub values_met-requires : goal.values_met-requires
values_met-requires c =
    order_there c.args.graph.now.arena c.args.graph.now.root c.args.numbering.now c.loop-number.number c.node_at.result.0 c.requires c.node_at.ensures

pub meet-requires : goal.meet-requires
meet-requires c =
    let blank : c.in_ok-counts.counts.items ≡ replicate c.count.result None = c.in_ok-counts.ensures.items_if_clones_equal (λ y h. h) in
    ap length (c.deref_mut.ensures.value ∙ blank) ∙ length-replicate c.count.result None ∙ c.count.ensures

pub meet-requires-in-loop-value : goal.meet-requires-in-loop-value
meet-requires-in-loop-value c = ap length c.deref_mut-in-loop-value.ensures.value ∙ c.loop-value.invariant.all

pub loop-number-init : goal.loop-number-init
loop-number-init c =
    let order = c.args.numbering.now in
    let v = c.in_ok-counts.counts in
    let blank : v.items ≡ replicate c.count.result None = c.in_ok-counts.ensures.items_if_clones_equal (λ y h. h) in
    let many : length v.items ≡ length order = ap length blank ∙ length-replicate c.count.result None ∙ c.count.ensures in
    let start : AreCounts order [] c.deref_mut.result.now = subst (λ w. AreCounts order [] w) (sym (c.deref_mut.ensures.value ∙ blank)) (none_counted order c.count.result c.count.ensures) in
    let met : AreCounts order (value_content c.args.graph.now.arena c.args.graph.now.root ∷ []) c.meet.new.counts = subst (λ r. AreCounts order (value_content c.args.graph.now.arena r ∷ []) c.meet.new.counts) c.root.ensures (c.meet.ensures c.args.graph.now.arena [] start) in
    subst (λ w. AreCounts order (value_content c.args.graph.now.arena c.args.graph.now.root ∷ []) w) (sym (refilled v.len c.meet.new.counts v.items (sym v.ok.0) (met.all ∙ sym many))) met

pub loop-value-preserved : goal.loop-value-preserved
loop-value-preserved c =
    let a = c.args.graph.now.arena in
    let vs = c.deref-value-items.result.now in
    let i = c.loop-value.value-index in
    let within : i < length vs = omega arith in
    let u : Value = get_or vs i Undefined in
    let order = c.args.numbering.now in
    let front = all_met (content c.args.graph.now) (take c.loop-number.number order) in
    let more : values_of a (take (i + 1) vs) ≡ values_of a (take i vs) ++ value_content a u ∷ [] = rw (add-one, take-suc vs i Undefined within, map-append) refl in
    let v = c.loop-value.counts in
    let cs = c.meet-in-loop-value.new.counts in
    let before : AreCounts order (front ++ values_of a (take i vs)) c.deref_mut-in-loop-value.result.now = subst (λ w. AreCounts order (front ++ values_of a (take i vs)) w) (sym c.deref_mut-in-loop-value.ensures.value) c.loop-value.invariant in
    let met = c.meet-in-loop-value.ensures a (front ++ values_of a (take i vs)) before in
    subst (λ w. AreCounts order w (take v.len (cs ++ drop (length cs) v.items))) (append_assoc front (values_of a (take i vs)) (value_content a u ∷ []) ∙ ap (λ w. front ++ w) (sym more))
    (subst (λ w. AreCounts order ((front ++ values_of a (take i vs)) ++ value_content a u ∷ []) w) (sym (refilled v.len cs v.items (sym v.ok.0) (met.all ∙ sym c.loop-value.invariant.all))) met)

pub loop-number-preserved : goal.loop-number-preserved
loop-number-preserved c =
    let g = content c.args.graph.now in
    let a = c.args.graph.now.arena in
    let vs = c.deref-value-items.result.now in
    let k = c.loop-number.number in
    let order = c.args.numbering.now in
    let whole : take c.loop-value.value-index vs ≡ vs = take_all c.loop-value.value-index vs (omega arith) in
    let values = ap (values_of a) (whole ∙ c.deref-value-items.ensures.value) ∙ c.in_ok-values.ensures.values in
    subst (λ w. AreCounts order w c.loop-value.counts.items) (ap (λ w. all_met g (take k order) ++ w) values ∙ sym (met_more g order k c.node_at.result.0 c.node_at.ensures)) c.loop-value.invariant

pub returns : goal.returns
returns c =
    let g = content c.args.graph.now in
    let order = c.args.numbering.now in
    let whole : take c.loop-number.number order ≡ order = take_all c.loop-number.number order (omega arith) in
    subst (λ w. AreCounts order (all_met g w) c.loop-number.counts.items) whole c.loop-number.invariant
