use Rattle.std.proofs.Common.{◌≡◌, ◌≤◌, length, sym, subst, arith}
use Rattle.amf_broker.specs.declared.reply.Delivery.{Delivery}
use Rattle.amf_graph.proofs.Alls.{all_at}
use Rattle.amf_flex_replies.proofs.Reading.{added_none, added_more, added_all, added_lost, added_room, added_count}
use Rattle.amf_flex_replies.proofs.sync_messages.add_all.Goals as goal

pub loop-delivery-init : goal.loop-delivery-init
loop-delivery-init c = added_none c.args.deliveries.now c.in_ok-batch.batch c.in_ok-batch.ensures.holds c.in_ok-batch.ensures.builder c.in_ok-batch.ensures.values

pub add-requires-clause-short : goal.add-requires-clause-short
add-requires-clause-short c = subst (λ (d : Delivery). length d.message ≤ 32768) (sym c.delivery-item.is) (all_at (λ (d : Delivery). length d.message ≤ 32768) c.args.deliveries.now c.loop-delivery.delivery-index c.delivery-item.result c.loop-delivery-test.true c.requires.short)

pub add-requires-clause-room : goal.add-requires-clause-room
add-requires-clause-room c =
    let i = c.loop-delivery.invariant in
    let t = c.loop-delivery-test.true in
    let few = c.requires.few in
    record { texts = omega (arith, i.texts, t, few); traits = omega (arith, i.traits, t, few); nodes = omega (arith, i.nodes, t, few) }

pub loop-delivery-preserved : goal.loop-delivery-preserved
loop-delivery-preserved c =
    let l = c.loop-delivery in
    let h = c.in_ok-is_stored.ensures in
    added_more c.args.deliveries.now l.delivery-index l.all_stored c.in_ok-is_stored.is_stored c.delivery-item.result l.batch c.add.new.self c.loop-delivery-test.true c.delivery-item.is l.invariant h.adds h.grew h.count

pub returns-then-all_stored-clause-reads : goal.returns-then-all_stored-clause-reads
returns-then-all_stored-clause-reads c = let l = c.loop-delivery in added_all c.args.deliveries.now l.delivery-index l.all_stored l.batch c.if-all_stored.true c.loop-delivery-test.false l.invariant

pub returns-else-all_stored-clause-reads : goal.returns-else-all_stored-clause-reads
returns-else-all_stored-clause-reads c = let l = c.loop-delivery in added_lost c.args.deliveries.now l.delivery-index l.all_stored l.batch c.if-all_stored.false c.loop-delivery-test.false l.invariant

pub returns-then-all_stored-clause-room : goal.returns-then-all_stored-clause-room
returns-then-all_stored-clause-room c = let l = c.loop-delivery in added_room c.args.deliveries.now _ l.all_stored l.batch l.delivery-index c.requires.few l.invariant

pub returns-then-all_stored-clause-count : goal.returns-then-all_stored-clause-count
returns-then-all_stored-clause-count c = let l = c.loop-delivery in added_count c.args.deliveries.now _ l.all_stored l.batch l.delivery-index c.requires.few l.invariant
