-- One member more.
use Rattle.std.proofs.Common.{ap, get_or, sym, ◌∙◌, arith}
use Rattle.amf_graph.specs.declared.value.Value.TheVariants.{Undefined}
use Rattle.amf_graph.specs.Arena.{StoredTraits, no_traits}
use Rattle.amf_graph.specs.Views.{named}
use Rattle.flex_msgs.proofs.Looking.{members_more, members_all, stored_none}
use Rattle.flex_msgs.proofs.lookup.members_of.Goals as goal

pub loop-place-preserved : goal.loop-place-preserved
loop-place-preserved c =
    let t = get_or c.args.graph.now.arena.traits c.args.traits.0 no_traits in
    members_more t c.traits.result.sealed.now c.args.sealed.now c.loop-place.pairs.items c.push.new.self.items c.loop-place.place (record { 0 = 0 }) Undefined
    (ap (λ (z : StoredTraits). z.sealed) c.traits.ensures) c.requires.sealed c.loop-place-test.true c.in_ok-push.ensures.items c.loop-place.invariant

pub returns : goal.returns
returns c =
    let t = get_or c.args.graph.now.arena.traits c.args.traits.0 no_traits in
    members_all t c.args.sealed.now c.loop-place.pairs.items c.extend_from_slice.new.self.items c.args.members.now c.loop-place.place (omega arith) c.in_ok-extend_from_slice.ensures.items c.loop-place.invariant

pub loop-place-init : goal.loop-place-init
loop-place-init c =
    let t = get_or c.args.graph.now.arena.traits c.args.traits.0 no_traits in
    ap named c.new-pairs.ensures.items ∙ sym (stored_none t.sealed c.args.sealed.now)
