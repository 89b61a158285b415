use Rattle.std.proofs.Common.{◌≡◌, ◌∷◌, reverse, sym, subst, arith}
use Rattle.amf_graph.specs.Building.{changed as changed_arena, more_part}
use Rattle.amf0_spelling.specs.TableParts0.{shown_tables}
use Rattle.amf_wire_fields.proofs.LayoutBinds.{passed_on}
use Rattle.amf3_read.proofs.Stack.{done}
use Rattle.amf0_read.specs.declared.frame.Frame.{Frame}
use Rattle.amf0_read.specs.declared.frame.Now.{Now}
use Rattle.amf0_read.specs.declared.frame.Now.TheVariants as now
use Rattle.amf0_read.specs.Frames0.{StackSo}
use Rattle.amf0_read.proofs.Stack0.{so_begin, so_end, so_start, so_done, so_put, popped, popped_none, pushed}
use Rattle.amf0_read.proofs.Fills0.{alone}
use Rattle.amf0_read.proofs.value.read_on.Goals as goal

pub loop-now-init : goal.loop-now-init
loop-now-init g c =
    let S = g.S.Source in
    so_begin S.tells S.left S.faults c.args.now (reverse c.args.frames.items) c.args.builder.now (shown_tables c.args.tables.now) c.args.cursor.now c.requires.ready c.requires.holds

pub returns-in_err-start_apart-in-Begun-clause-answers : goal.returns-in_err-start_apart-in-Begun-clause-answers
returns-in_err-start_apart-in-Begun-clause-answers g c = λ fuel fuels lt f.
    let S = g.S.Source in
    let old = c.args.now in let es = reverse c.args.frames.items in let a = c.args.builder.now in let t = shown_tables c.args.tables.now in let b = c.loop-now.builder in let u = shown_tables c.loop-now.tables in let d = c.loop-now.cursor in let fs = reverse c.loop-now.frames.items in
    let so = subst (λ (w : Now). StackSo S.tells S.left S.faults old es a b t u c.args.cursor.now d w fs) c.in-Begun.is c.loop-now.invariant in
    passed_on S.tells S.left S.faults _ _ c.args.cursor.now c.start_apart.new.cursor c.from_residual.result c.in_err-start_apart-in-Begun.field-0.0 c.from_residual.ensures.1
    (so_end S.tells S.left S.faults old es a t c.args.cursor.now b u d fs c.in-Begun.marker so c.start_apart.new.builder (shown_tables c.start_apart.new.tables) c.start_apart.new.cursor c.in_err-start_apart-in-Begun.field-0.0 c.in_err-start_apart-in-Begun.ensures.starts fuel fuels lt f)

pub loop-now-preserved-in-Begun : goal.loop-now-preserved-in-Begun
loop-now-preserved-in-Begun g c =
    let S = g.S.Source in
    let old = c.args.now in let es = reverse c.args.frames.items in let a = c.args.builder.now in let t = shown_tables c.args.tables.now in let b = c.loop-now.builder in let u = shown_tables c.loop-now.tables in let d = c.loop-now.cursor in let fs = reverse c.loop-now.frames.items in
    let so = subst (λ (w : Now). StackSo S.tells S.left S.faults old es a b t u c.args.cursor.now d w fs) c.in-Begun.is c.loop-now.invariant in
    let h = c.in_ok-start_apart-in-Begun.ensures in
    subst (λ (w : Now). StackSo S.tells S.left S.faults old es a c.start_apart.new.builder t (shown_tables c.start_apart.new.tables) c.args.cursor.now c.start_apart.new.cursor w fs) (sym c.now-now.ensures)
    (so_start S.tells S.left S.faults old es a t c.args.cursor.now b u d fs c.in-Begun.marker so c.start_apart.new.builder (shown_tables c.start_apart.new.tables) c.start_apart.new.cursor h.still_ready (let x = h.goes.same_bound in let y = h.stays in omega arith) c.in_ok-start_apart-in-Begun.field-0 h.goes h.starts h.holds)

pub returns-in_default-clause-answers : goal.returns-in_default-clause-answers
returns-in_default-clause-answers g c = λ fuel fuels lt f.
    let S = g.S.Source in
    let old = c.args.now in let es = reverse c.args.frames.items in let a = c.args.builder.now in let t = shown_tables c.args.tables.now in let b = c.loop-now.builder in let u = shown_tables c.loop-now.tables in let d = c.loop-now.cursor in let v = c.in-Given.value in
    let so = subst (λ (w : Now). StackSo S.tells S.left S.faults old es a b t u c.args.cursor.now d w (reverse c.loop-now.frames.items)) c.in-Given.is c.loop-now.invariant in
    so_done S.tells S.left S.faults old es a t c.args.cursor.now b u d v (subst (λ fs. StackSo S.tells S.left S.faults old es a b t u c.args.cursor.now d (now.Given v) fs) (popped_none c.loop-now.frames.items c.pop.new.self.items c.pop.result _ c.in_default.is c.pop.ensures.variant c.pop.ensures.items c.pop.ensures.rest) so) fuel fuels lt f

pub fill-requires-clause-opened : goal.fill-requires-clause-opened
fill-requires-clause-opened g c =
    let S = g.S.Source in
    let old = c.args.now in let es = reverse c.args.frames.items in let a = c.args.builder.now in let t = shown_tables c.args.tables.now in let b = c.loop-now.builder in let u = shown_tables c.loop-now.tables in let d = c.loop-now.cursor in let fs = reverse c.loop-now.frames.items in
    let so = subst (λ (w : Now). StackSo S.tells S.left S.faults old es a b t u c.args.cursor.now d w fs) c.in-Open.is c.loop-now.invariant in
    alone S.tells S.left S.faults old es a b t u c.args.cursor.now d c.in-Open.node c.in-Open.todo fs so

pub returns-in_err-role-in-Open-clause-answers : goal.returns-in_err-role-in-Open-clause-answers
returns-in_err-role-in-Open-clause-answers g c = λ fuel fuels lt f.
    let S = g.S.Source in
    let old = c.args.now in let es = reverse c.args.frames.items in let a = c.args.builder.now in let t = shown_tables c.args.tables.now in let b = c.loop-now.builder in let u = shown_tables c.loop-now.tables in let d = c.loop-now.cursor in let fs = reverse c.loop-now.frames.items in
    let so = subst (λ (w : Now). StackSo S.tells S.left S.faults old es a b t u c.args.cursor.now d w fs) c.in-Open.is c.loop-now.invariant in
    passed_on S.tells S.left S.faults _ _ c.args.cursor.now c.fill.new.cursor c.from_residual-in_err-role-in-Open.result c.in_err-role-in-Open.field-0.0 c.from_residual-in_err-role-in-Open.ensures.1
    (c.in_err-role-in-Open.ensures.fills.on old es fs a t c.args.cursor.now so fuel fuels lt f)

pub loop-now-preserved-in-Within : goal.loop-now-preserved-in-Within
loop-now-preserved-in-Within g c =
    let S = g.S.Source in
    let old = c.args.now in let es = reverse c.args.frames.items in let a = c.args.builder.now in let t = shown_tables c.args.tables.now in let b = c.loop-now.builder in let u = shown_tables c.loop-now.tables in let d = c.loop-now.cursor in let fs = reverse c.loop-now.frames.items in
    let so = subst (λ (w : Now). StackSo S.tells S.left S.faults old es a b t u c.args.cursor.now d w fs) c.in-Open.is c.loop-now.invariant in
    let h = rw c.in-Within.is at c.in_ok-role-in-Open.ensures in
    subst (StackSo S.tells S.left S.faults old es a c.fill.new.builder t (shown_tables c.fill.new.tables) c.args.cursor.now c.fill.new.cursor (now.Open c.in-Within.child c.in-Within.more)) (sym (pushed c.push.new.self.items c.loop-now.frames.items c.push.result c.in_ok-push-in-Within.field-0 (record { node = c.in-Open.node; role = c.in-Within.role }) c.in_ok-push-in-Within.was c.push.ensures.items))
    (h.fills.on old es fs a t c.args.cursor.now so)

pub loop-now-preserved : goal.loop-now-preserved
loop-now-preserved g c =
    let S = g.S.Source in
    let old = c.args.now in let es = reverse c.args.frames.items in let a = c.args.builder.now in let t = shown_tables c.args.tables.now in let b = c.loop-now.builder in let u = shown_tables c.loop-now.tables in let d = c.loop-now.cursor in let fs = reverse c.loop-now.frames.items in
    let so = subst (λ (w : Now). StackSo S.tells S.left S.faults old es a b t u c.args.cursor.now d w fs) c.in-Open.is c.loop-now.invariant in
    let h = rw c.in-Closed.is at c.in_ok-role-in-Open.ensures in
    h.fills.on old es fs a t c.args.cursor.now so

pub loop-now-preserved-in-Given : goal.loop-now-preserved-in-Given
loop-now-preserved-in-Given g c =
    let S = g.S.Source in
    let old = c.args.now in let es = reverse c.args.frames.items in let a = c.args.builder.now in let t = shown_tables c.args.tables.now in let b = c.loop-now.builder in let u = shown_tables c.loop-now.tables in let d = c.loop-now.cursor in let v = c.in-Given.value in
    let so = subst (λ (w : Now). StackSo S.tells S.left S.faults old es a b t u c.args.cursor.now d w (reverse c.loop-now.frames.items)) c.in-Given.is c.loop-now.invariant in
    let f : Frame = c.in-Some.frame in
    let fs = reverse c.pop.new.self.items in
    let at : reverse c.loop-now.frames.items ≡ f ∷ fs = popped c.loop-now.frames.items c.pop.new.self.items c.pop.result f c.in-Some.is c.pop.ensures.items in
    let two = subst (λ fs. StackSo S.tells S.left S.faults old es a b t u c.args.cursor.now d (now.Given v) fs) at so in
    let put = done _ c.put.result c.in_ok-kept-in-Given.field-0 c.in_ok-kept-in-Given.ensures.ok c.put.ensures.ok in
    subst (λ p. StackSo S.tells S.left S.faults old es a c.put.new.self t u c.args.cursor.now d (now.Open f.node p) fs) (sym c.todo_behind.ensures)
    (so_put S.tells S.left S.faults old es a t c.args.cursor.now b u d fs f v two c.put.new.self (subst (λ p. c.put.new.self ≡ changed_arena (more_part p) f.node.0 b) c.part_of.ensures put))
