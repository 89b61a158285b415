use Rattle.std.proofs.Common.{sym, subst}
use Rattle.amf_iso.specs.Contents.{pairs_of, ArePairs}
use Rattle.amf_iso.specs.Remembered.{AreInOrder}
use Rattle.amf_iso.proofs.InOrder.{already_by_name}
use Rattle.amf0_write.proofs.Standing.{seen_are, seen_back, seen_sorted, seen_order, seen_order_back}
use Rattle.amf0_write.proofs.lowered.Lowered.sorted.Goals as goal

pub returns-then-are_by_name-clause-content : goal.returns-then-are_by_name-clause-content
returns-then-are_by_name-clause-content c =
    let l = c.self.inside in
    let ps = c.args.pairs.items in
    seen_sorted l.is_lowering l.graph.now l.stand_ins.items c.args.self.now c.self.view_is ps ps
    (already_by_name (pairs_of l.graph.now.arena ps) (rw (← c.deref.ensures.value) (c.are_by_name.ensures c.if-are_by_name.true)))

pub are_by_name-requires : goal.are_by_name-requires
are_by_name-requires c =
    let l = c.self.inside in
    subst (ArePairs l.graph.now.arena) (sym c.deref.ensures.value) (seen_are l.is_lowering l.graph.now l.stand_ins.items c.args.self.now c.self.view_is c.args.pairs.items c.requires.pairs)

pub ids_by_name-requires-clause-pairs : goal.ids_by_name-requires-clause-pairs
ids_by_name-requires-clause-pairs c =
    let l = c.self.inside in
    subst (ArePairs l.graph.now.arena) (sym c.deref-2.ensures.value) (seen_are l.is_lowering l.graph.now l.stand_ins.items c.args.self.now c.self.view_is c.args.pairs.items c.requires.pairs)

pub ids_by_name-requires-clause-order : goal.ids_by_name-requires-clause-order
ids_by_name-requires-clause-order c =
    let l = c.self.inside in
    seen_order l.is_lowering l.graph.now l.stand_ins.items c.args.self.now c.self.view_is c.args.rooms.now.order c.requires.order

pub returns-clause-content : goal.returns-clause-content
returns-clause-content c =
    let l = c.self.inside in
    seen_sorted l.is_lowering l.graph.now l.stand_ins.items c.args.self.now c.self.view_is c.args.pairs.items c.in_ok-sorted.sorted.items (rw (← c.deref-2.ensures.value) c.in_ok-sorted.ensures.content)

pub returns-clause-names : goal.returns-clause-names
returns-clause-names c =
    let l = c.self.inside in
    seen_back l.is_lowering l.graph.now l.stand_ins.items c.args.self.now c.self.view_is c.in_ok-sorted.sorted.items c.in_ok-sorted.ensures.names

pub returns-clause-order : goal.returns-clause-order
returns-clause-order c =
    let l = c.self.inside in
    seen_order_back l.is_lowering l.graph.now l.stand_ins.items c.args.self.now c.self.view_is c.take_back.new.self.order (subst (AreInOrder l.graph.now.arena) (sym c.take_back.ensures) c.ids_by_name.ensures.order)

pub returns-in_err-sorted-clause-order : goal.returns-in_err-sorted-clause-order
returns-in_err-sorted-clause-order c =
    let l = c.self.inside in
    seen_order_back l.is_lowering l.graph.now l.stand_ins.items c.args.self.now c.self.view_is c.ids_by_name.new.self c.ids_by_name.ensures.order
