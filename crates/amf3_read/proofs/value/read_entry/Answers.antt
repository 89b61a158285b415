use Rattle.std.proofs.Common.{◌∷◌, List, refl, sym, subst}
use Rattle.amf_graph.specs.declared.part.Part.TheVariants as part
use Rattle.amf3_read.specs.declared.frame.Frame.{Frame}
use Rattle.amf3_read.specs.Now as now
use Rattle.amf3_read.specs.Frames.{StackSo}
use Rattle.amf3_read.specs.Follows.{entry_of}
use Rattle.amf3_read.proofs.Stack.{so_end, so_value, so_open, so_put, follows_end, done}
use Rattle.amf3_read.proofs.value.read_entry.Goals as goal

pub returns-in_err-value-clause-follows : goal.returns-in_err-value-clause-follows
returns-in_err-value-clause-follows g c =
    let S = g.S.Source in
    let f = entry_of c.args.node c.args.key c.args.todo in let b = c.args.builder.now in let u = c.args.tables.now in let d = c.args.cursor.now in let fs = c.args.frames.now in
    let b1 = c.start_apart.new.builder in let u1 = c.start_apart.new.tables in let e = c.start_apart.new.cursor in
    follows_end S.tells S.left S.faults b b1 u u1 d e now.wanted (f ∷ fs) fs c.from_residual.result c.in_err-value.field-0.0 c.from_residual.ensures.1
    (λ a t k so. so_end S.tells S.left S.faults a b t u k d (f ∷ fs) so b1 u1 e c.in_err-value.field-0.0 c.in_err-value.ensures.starts)

pub returns-in_ok-kept-in-Value-clause-follows : goal.returns-in_ok-kept-in-Value-clause-follows
returns-in_ok-kept-in-Value-clause-follows g c =
    let S = g.S.Source in
    let f = entry_of c.args.node c.args.key c.args.todo in let b = c.args.builder.now in let u = c.args.tables.now in let d = c.args.cursor.now in let fs = c.args.frames.now in
    let b1 = c.start_apart.new.builder in let u1 = c.start_apart.new.tables in let e = c.start_apart.new.cursor in
    let v = c.in-Value.value in
    let h = rw c.in-Value.is at c.in_ok-value.ensures in
    let was = done _ c.put.result c.in_ok-kept-in-Value.field-0 c.in_ok-kept-in-Value.ensures.ok c.put.ensures.ok in
    record {
      goes_on = λ a t k so. so_put S.tells S.left S.faults a b1 t u1 k e fs v f (so_value S.tells S.left S.faults a b t u k d (f ∷ fs) so b1 u1 e v h.goes h.starts h.still_ready h.holds h.moves) (part.Entry c.args.key v) refl c.put.new.self was;
      ends = λ a t k so n lt. tt;
    }

pub returns-in_ok-push-in-Open-clause-follows : goal.returns-in_ok-push-in-Open-clause-follows
returns-in_ok-push-in-Open-clause-follows g c =
    let S = g.S.Source in
    let f = entry_of c.args.node c.args.key c.args.todo in let b = c.args.builder.now in let u = c.args.tables.now in let d = c.args.cursor.now in let fs = c.args.frames.now in
    let b1 = c.start_apart.new.builder in let u1 = c.start_apart.new.tables in let e = c.start_apart.new.cursor in
    let i = c.in-Open.child in let p = c.in-Open.parts in
    let h = rw c.in-Open.is at c.in_ok-value.ensures in
    record {
      goes_on = λ a t k so. subst (λ (gs : List Frame). StackSo S.tells S.left S.faults a b1 t u1 k e (now.unfinished i p) gs) (sym c.in_ok-push-in-Open.ensures) (so_open S.tells S.left S.faults a b t u k d (f ∷ fs) so b1 u1 e i p h.goes h.starts h.still_ready h.holds h.moves);
      ends = λ a t k so n lt. tt;
    }
