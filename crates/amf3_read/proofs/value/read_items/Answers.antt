use Rattle.std.proofs.Common.{◌≡◌, suc, ◌∷◌, List, refl, sym, ap, ◌∙◌, subst}
use Rattle.amf_graph.specs.declared.part.Part.TheVariants as part
use Rattle.amf3_read.specs.declared.frame.Frame.{Frame}
use Rattle.amf3_read.specs.Now as now
use Rattle.amf_wire_fields.specs.Room.{left_of}
use Rattle.amf3_read.specs.Frames.{StackSo}
use Rattle.amf3_read.specs.Follows.{item_of}
use Rattle.amf3_read.proofs.Stack.{so_end, so_open, follows_end, part_room, done}
use Rattle.amf3_read.proofs.Items.{item_waits, items_end, items_last}
use Rattle.amf3_read.proofs.value.read_items.Goals as goal

pub returns-in_err-value-clause-follows : goal.returns-in_err-value-clause-follows
returns-in_err-value-clause-follows g c =
    let S = g.S.Source in
    let b = c.args.builder.now in let u = c.args.tables.now in let d = c.args.cursor.now in let fs = c.args.frames.now in let i = c.args.node in let p = c.args.todo in
    let b1 = c.loop-value.builder in let u1 = c.loop-value.tables in let e = c.loop-value.cursor in let q = c.loop-value.todo in let h = c.loop-value.invariant.lasts in
    let b2 = c.start_item.new.builder in let u2 = c.start_item.new.tables in let e2 = c.start_item.new.cursor in
    let end = c.in_err-value.field-0.0 in
    follows_end S.tells S.left S.faults b b2 u u2 d e2 now.wanted (item_of i p ∷ fs) c.loop-value.frames c.from_residual.result end c.from_residual.ensures.1
    (λ a t k so. so_end S.tells S.left S.faults a b1 t u1 k e (item_of i q ∷ fs) (h.goes_on a t k so) b2 u2 e2 end c.in_err-value.ensures.starts)

pub put-requires-clause-room : goal.put-requires-clause-room
put-requires-clause-room g c =
    let S = g.S.Source in
    let b = c.args.builder.now in let u = c.args.tables.now in let d = c.args.cursor.now in let fs = c.args.frames.now in let i = c.args.node in let p = c.args.todo in
    let b1 = c.loop-value.builder in let u1 = c.loop-value.tables in let e = c.loop-value.cursor in let q = c.loop-value.todo in let h = c.loop-value.invariant.lasts in
    let b2 = c.start_item.new.builder in let u2 = c.start_item.new.tables in let e2 = c.start_item.new.cursor in
    let v = c.in-Value.value in let k = rw c.in-Value.is at c.in_ok-value.ensures in
    part_room (suc (left_of e2)) b2 (item_of i q) (item_waits S.tells S.left S.faults b b1 u u1 d e i p q fs h b2 u2 e2 v k.goes k.starts k.still_ready k.holds k.moves) v (part.Item v) refl

pub loop-value-preserved : goal.loop-value-preserved
loop-value-preserved g c =
    let S = g.S.Source in
    let b = c.args.builder.now in let u = c.args.tables.now in let d = c.args.cursor.now in let fs = c.args.frames.now in let i = c.args.node in let p = c.args.todo in
    let b1 = c.loop-value.builder in let u1 = c.loop-value.tables in let e = c.loop-value.cursor in let q = c.loop-value.todo in let h = c.loop-value.invariant.lasts in
    let b2 = c.start_item.new.builder in let u2 = c.start_item.new.tables in let e2 = c.start_item.new.cursor in
    let v = c.in-Value.value in let k = rw c.in-Value.is at c.in_ok-value.ensures in
    let b3 = c.put.new.self in
    let was = done _ c.put.result c.in_ok-kept-in-Value.field-0 c.in_ok-kept-in-Value.ensures.ok c.put.ensures.ok in
    let r = c.in-Some.rest in
    record {
      lasts = items_last S.tells S.left S.faults b b1 u u1 d e i p q fs h b2 u2 e2 v k.goes k.starts k.still_ready k.holds k.moves b3 was r c.in-Some.ensures;
      same = c.loop-value.invariant.same;
    }

pub returns-in-None-clause-follows : goal.returns-in-None-clause-follows
returns-in-None-clause-follows g c =
    let S = g.S.Source in
    let b = c.args.builder.now in let u = c.args.tables.now in let d = c.args.cursor.now in let fs = c.args.frames.now in let i = c.args.node in let p = c.args.todo in
    let b1 = c.loop-value.builder in let u1 = c.loop-value.tables in let e = c.loop-value.cursor in let q = c.loop-value.todo in let h = c.loop-value.invariant.lasts in
    let b2 = c.start_item.new.builder in let u2 = c.start_item.new.tables in let e2 = c.start_item.new.cursor in
    let v = c.in-Value.value in let k = rw c.in-Value.is at c.in_ok-value.ensures in
    let b3 = c.put.new.self in
    let was = done _ c.put.result c.in_ok-kept-in-Value.field-0 c.in_ok-kept-in-Value.ensures.ok c.put.ensures.ok in
    record {
      goes_on = λ a t z so. subst (λ (gs : List Frame). StackSo S.tells S.left S.faults a b3 t u2 z e2 (now.unfinished i q) gs) (sym c.loop-value.invariant.same) (items_end S.tells S.left S.faults b b1 u u1 d e i p q fs h b2 u2 e2 v k.goes k.starts k.still_ready k.holds k.moves b3 was a t z so);
      ends = λ a t z so n lt. tt;
    }

pub returns-in-Open-clause-follows : goal.returns-in-Open-clause-follows
returns-in-Open-clause-follows g c =
    let S = g.S.Source in
    let b = c.args.builder.now in let u = c.args.tables.now in let d = c.args.cursor.now in let fs = c.args.frames.now in let i = c.args.node in let p = c.args.todo in
    let b1 = c.loop-value.builder in let u1 = c.loop-value.tables in let e = c.loop-value.cursor in let q = c.loop-value.todo in let h = c.loop-value.invariant.lasts in
    let b2 = c.start_item.new.builder in let u2 = c.start_item.new.tables in let e2 = c.start_item.new.cursor in
    let k = rw c.in-Open.is at c.in_ok-value.ensures in
    let j = c.in-Open.child in let r = c.in-Open.parts in
    let gs : c.push.new.self ≡ item_of i q ∷ fs = c.in_ok-push-in-Open.ensures ∙ ap (λ (l : List Frame). item_of i q ∷ l) c.loop-value.invariant.same in
    record {
      goes_on = λ a t z so. subst (λ (l : List Frame). StackSo S.tells S.left S.faults a b2 t u2 z e2 (now.unfinished j r) l) (sym gs) (so_open S.tells S.left S.faults a b1 t u1 z e (item_of i q ∷ fs) (h.goes_on a t z so) b2 u2 e2 j r k.goes k.starts k.still_ready k.holds k.moves);
      ends = λ a t z so n lt. tt;
    }
