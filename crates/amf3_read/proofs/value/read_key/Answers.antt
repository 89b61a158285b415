use Rattle.std.proofs.Common.{suc, ◌≤◌, ◌∷◌, List, sym, subst, arith}
use Rattle.amf3_read.specs.declared.frame.Frame.{Frame}
use Rattle.amf3_read.specs.Now as now
use Rattle.amf_wire_fields.specs.Room.{left_of}
use Rattle.amf3_read.specs.Frames.{StackSo}
use Rattle.amf3_read.specs.Follows.{key_frame_of}
use Rattle.amf3_read.proofs.Stack.{so_end, so_value, so_open, follows_end, waits_grown, ready_on}
use Rattle.amf3_read.proofs.value.read_key.Goals as goal

pub returns-in_err-value-clause-follows : goal.returns-in_err-value-clause-follows
returns-in_err-value-clause-follows g c =
    let S = g.S.Source in
    let f = key_frame_of c.args.node c.args.todo in let b = c.args.builder.now in let u = c.args.tables.now in let d = c.args.cursor.now in let fs = c.args.frames.now in
    let b1 = c.start_item.new.builder in let u1 = c.start_item.new.tables in let e = c.start_item.new.cursor in
    follows_end S.tells S.left S.faults b b1 u u1 d e now.wanted (f ∷ fs) fs c.from_residual.result c.in_err-value.field-0.0 c.from_residual.ensures.1
    (λ a t k so. so_end S.tells S.left S.faults a b t u k d (f ∷ fs) so b1 u1 e c.in_err-value.field-0.0 c.in_err-value.ensures.starts)

pub give-requires-clause-ready : goal.give-requires-clause-ready
give-requires-clause-ready g c =
    let h = rw c.in-Value.is at c.in_ok-value.ensures in
    ready_on c.args.builder.now c.start_item.new.builder c.args.tables.now c.start_item.new.tables c.args.cursor.now c.start_item.new.cursor c.requires.ready h.still_ready

pub give-requires-clause-waits : goal.give-requires-clause-waits
give-requires-clause-waits g c =
    let h = rw c.in-Value.is at c.in_ok-value.ensures in
    let d = c.args.cursor.now in let e = c.start_item.new.cursor in
    let less : suc (left_of e) ≤ left_of d = let p = h.still_ready.placed.within in let q = h.goes.same_bound in let m = h.moves in omega arith in
    waits_grown (suc (left_of e)) (left_of d) c.args.builder.now c.start_item.new.builder (key_frame_of c.args.node c.args.todo) less c.requires.ready.built h.holds.1 c.requires.waits

pub returns-in-Value-clause-follows : goal.returns-in-Value-clause-follows
returns-in-Value-clause-follows g c =
    let S = g.S.Source in
    let f = key_frame_of c.args.node c.args.todo in let b = c.args.builder.now in let u = c.args.tables.now in let d = c.args.cursor.now in let fs = c.args.frames.now in
    let b1 = c.start_item.new.builder in let u1 = c.start_item.new.tables in let e = c.start_item.new.cursor in
    let v = c.in-Value.value in
    let h = rw c.in-Value.is at c.in_ok-value.ensures in
    let x = c.give.ensures.follows in
    record {
      goes_on = λ a t k so. x.goes_on a t k (so_value S.tells S.left S.faults a b t u k d (f ∷ fs) so b1 u1 e v h.goes h.starts h.still_ready h.holds h.moves);
      ends = λ a t k so. x.ends a t k (so_value S.tells S.left S.faults a b t u k d (f ∷ fs) so b1 u1 e v h.goes h.starts h.still_ready h.holds h.moves);
    }

pub returns-in_ok-push-in-Open-clause-follows : goal.returns-in_ok-push-in-Open-clause-follows
returns-in_ok-push-in-Open-clause-follows g c =
    let S = g.S.Source in
    let f = key_frame_of c.args.node c.args.todo in let b = c.args.builder.now in let u = c.args.tables.now in let d = c.args.cursor.now in let fs = c.args.frames.now in
    let b1 = c.start_item.new.builder in let u1 = c.start_item.new.tables in let e = c.start_item.new.cursor in
    let i = c.in-Open.child in let p = c.in-Open.parts in
    let h = rw c.in-Open.is at c.in_ok-value.ensures in
    record {
      goes_on = λ a t k so. subst (λ (gs : List Frame). StackSo S.tells S.left S.faults a b1 t u1 k e (now.unfinished i p) gs) (sym c.in_ok-push-in-Open.ensures) (so_open S.tells S.left S.faults a b t u k d (f ∷ fs) so b1 u1 e i p h.goes h.starts h.still_ready h.holds h.moves);
      ends = λ a t k so n lt. tt;
    }
