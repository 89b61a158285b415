use Rattle.std.proofs.Common.{suc, List, [], sym, subst, arith}
use Rattle.amf_graph.specs.declared.value.Value.TheVariants as value
use Rattle.amf3_layout_laws.specs.Layout3State.{state_of}
use Rattle.amf3_layout_laws.specs.Layout3.{value_layout}
use Rattle.amf3_read.specs.declared.frame.Frame.{Frame}
use Rattle.amf3_read.specs.declared.frame.Role.TheVariants as role
use Rattle.amf3_read.specs.Now as now
use Rattle.amf_wire_fields.specs.Room.{left_of}
use Rattle.amf3_read.specs.Frames.{Nested, StackSo}
use Rattle.amf3_read.specs.Follows.{key_frame_of}
use Rattle.amf_io.proofs.CursorReads.{goes_other}
use Rattle.amf_wire_fields.proofs.LayoutBinds.{passed_on}
use Rattle.amf3_read.proofs.Stack.{so_begin, so_end, so_value, so_open, go_end, go_wait, go_open, go_closed, so_done, so_continues, waits_any, goes_passed}
use Rattle.amf3_read.proofs.value.read_value.Goals as goal

pub returns-in_err-value-clause-answers : goal.returns-in_err-value-clause-answers
returns-in_err-value-clause-answers g c = λ n lt.
    let S = g.S.Source in
    let a = c.args.builder.now in let t = c.args.tables.now in let k = c.args.cursor.now in
    let b1 = c.start_apart.new.builder in let u1 = c.start_apart.new.tables in let e = c.start_apart.new.cursor in
    let so = so_begin S.tells S.left S.faults a t k c.requires in
    passed_on S.tells S.left S.faults _ (value_layout n (state_of a t)) k e c.from_residual.result c.in_err-value.field-0.0 c.from_residual.ensures.1
    (so_end S.tells S.left S.faults a a t t k k [] so b1 u1 e c.in_err-value.field-0.0 c.in_err-value.ensures.starts n lt)

pub returns-in-Value-clause-answers : goal.returns-in-Value-clause-answers
returns-in-Value-clause-answers g c = λ n lt.
    let S = g.S.Source in
    let a = c.args.builder.now in let t = c.args.tables.now in let k = c.args.cursor.now in
    let b1 = c.start_apart.new.builder in let u1 = c.start_apart.new.tables in let e = c.start_apart.new.cursor in
    let so = so_begin S.tells S.left S.faults a t k c.requires in
    let h = rw c.in-Value.is at c.in_ok-value.ensures in
    let one = so_value S.tells S.left S.faults a a t t k k [] so b1 u1 e c.in-Value.value h.goes h.starts h.still_ready h.holds h.moves in
    so_done S.tells S.left S.faults a b1 t u1 k e c.in-Value.value one n lt

pub returns-in-Value-clause-continues : goal.returns-in-Value-clause-continues
returns-in-Value-clause-continues g c =
    let S = g.S.Source in
    let a = c.args.builder.now in let t = c.args.tables.now in let k = c.args.cursor.now in
    let b1 = c.start_apart.new.builder in let u1 = c.start_apart.new.tables in let e = c.start_apart.new.cursor in
    let so = so_begin S.tells S.left S.faults a t k c.requires in
    let h = rw c.in-Value.is at c.in_ok-value.ensures in
    let one = so_value S.tells S.left S.faults a a t t k k [] so b1 u1 e c.in-Value.value h.goes h.starts h.still_ready h.holds h.moves in
    so_continues S.tells S.left S.faults a b1 t u1 k e c.in-Value.value one

pub loop-frames-init : goal.loop-frames-init
loop-frames-init g c =
    let S = g.S.Source in
    let a = c.args.builder.now in let t = c.args.tables.now in let k = c.args.cursor.now in
    let b1 = c.start_apart.new.builder in let u1 = c.start_apart.new.tables in let e = c.start_apart.new.cursor in
    let so = so_begin S.tells S.left S.faults a t k c.requires in
    let h = rw c.in-Open.is at c.in_ok-value.ensures in
    subst (λ (l : List Frame). StackSo S.tells S.left S.faults a b1 t u1 k e (now.unfinished c.in-Open.node c.in-Open.todo) l) (sym c.new-frames.ensures)
    (so_open S.tells S.left S.faults a a t t k k [] so b1 u1 e c.in-Open.node c.in-Open.todo h.goes h.starts h.still_ready h.holds h.moves)

pub returns-in_err-todo-clause-goes : goal.returns-in_err-todo-clause-goes
returns-in_err-todo-clause-goes g c =
    let S = g.S.Source in
    let a = c.args.builder.now in let t = c.args.tables.now in let k = c.args.cursor.now in let b = c.loop-frames.builder in let u = c.loop-frames.tables in let d = c.loop-frames.cursor in let fs = c.loop-frames.frames in
    let i = c.loop-frames.innermost.node in let p = c.loop-frames.innermost.todo in
    let b1 = c.go_on.new.builder in let u1 = c.go_on.new.tables in let e = c.go_on.new.cursor in
    goes_passed S.tells S.left S.faults k d e c.from_residual-in_err-todo.result c.in_err-todo.field-0.0 c.from_residual-in_err-todo.ensures.1 c.loop-frames.invariant.goes c.in_err-todo.ensures.goes

pub returns-in_err-todo-clause-answers : goal.returns-in_err-todo-clause-answers
returns-in_err-todo-clause-answers g c = λ n lt.
    let S = g.S.Source in
    let a = c.args.builder.now in let t = c.args.tables.now in let k = c.args.cursor.now in let b = c.loop-frames.builder in let u = c.loop-frames.tables in let d = c.loop-frames.cursor in let fs = c.loop-frames.frames in
    let i = c.loop-frames.innermost.node in let p = c.loop-frames.innermost.todo in
    let b1 = c.go_on.new.builder in let u1 = c.go_on.new.tables in let e = c.go_on.new.cursor in
    passed_on S.tells S.left S.faults _ (value_layout n (state_of a t)) k e c.from_residual-in_err-todo.result c.in_err-todo.field-0.0 c.from_residual-in_err-todo.ensures.1
    (go_end S.tells S.left S.faults a b t u k d fs i p c.loop-frames.invariant b1 u1 e c.in_err-todo.field-0.0 c.in_err-todo.ensures.answers n lt)

pub loop-frames-preserved-in-Open-2 : goal.loop-frames-preserved-in-Open-2
loop-frames-preserved-in-Open-2 g c =
    let S = g.S.Source in
    let a = c.args.builder.now in let t = c.args.tables.now in let k = c.args.cursor.now in let b = c.loop-frames.builder in let u = c.loop-frames.tables in let d = c.loop-frames.cursor in let fs = c.loop-frames.frames in
    let i = c.loop-frames.innermost.node in let p = c.loop-frames.innermost.todo in
    let b1 = c.go_on.new.builder in let u1 = c.go_on.new.tables in let e = c.go_on.new.cursor in
    let h = rw c.in-Open-2.is at c.in_ok-todo.ensures in
    let so = go_open S.tells S.left S.faults a b t u k d fs i p c.loop-frames.invariant b1 u1 e h.still_ready h.stays (let x = h.goes.same_bound in let y = h.stays in omega arith) c.in-Open-2.todo h.goes h.answers h.holds in
    so

pub read_items-requires : goal.read_items-requires
read_items-requires g c =
    let S = g.S.Source in
    let a = c.args.builder.now in let t = c.args.tables.now in let k = c.args.cursor.now in let b = c.loop-frames.builder in let u = c.loop-frames.tables in let d = c.loop-frames.cursor in let fs = c.loop-frames.frames in
    let i = c.loop-frames.innermost.node in let p = c.loop-frames.innermost.todo in
    let b1 = c.go_on.new.builder in let u1 = c.go_on.new.tables in let e = c.go_on.new.cursor in
    let h = rw (c.in-Wait-Item-default.is, c.in-Wait-Item-default.field-0-is) at c.in_ok-todo.ensures in
    let so = go_wait S.tells S.left S.faults a b t u k d fs i p c.loop-frames.invariant b1 u1 e h.still_ready h.stays (let x = h.goes.same_bound in let y = h.stays in omega arith) role.Item c.in-Wait-Item-default.todo h.goes h.answers h.holds in
    record { arena = a; tables = t; cursor = k; so = so }

pub read_key-requires-clause-ready : goal.read_key-requires-clause-ready
read_key-requires-clause-ready g c =
    let S = g.S.Source in
    let a = c.args.builder.now in let t = c.args.tables.now in let k = c.args.cursor.now in let b = c.loop-frames.builder in let u = c.loop-frames.tables in let d = c.loop-frames.cursor in let fs = c.loop-frames.frames in
    let i = c.loop-frames.innermost.node in let p = c.loop-frames.innermost.todo in
    let b1 = c.go_on.new.builder in let u1 = c.go_on.new.tables in let e = c.go_on.new.cursor in
    let h = rw (c.in-Wait-Key-default.is, c.in-Wait-Key-default.field-0-is) at c.in_ok-todo.ensures in
    let so = go_wait S.tells S.left S.faults a b t u k d fs i p c.loop-frames.invariant b1 u1 e h.still_ready h.stays (let x = h.goes.same_bound in let y = h.stays in omega arith) role.Key c.in-Wait-Key-default.todo h.goes h.answers h.holds in
    so.ready

pub read_key-requires-clause-waits : goal.read_key-requires-clause-waits
read_key-requires-clause-waits g c =
    let S = g.S.Source in
    let a = c.args.builder.now in let t = c.args.tables.now in let k = c.args.cursor.now in let b = c.loop-frames.builder in let u = c.loop-frames.tables in let d = c.loop-frames.cursor in let fs = c.loop-frames.frames in
    let i = c.loop-frames.innermost.node in let p = c.loop-frames.innermost.todo in
    let b1 = c.go_on.new.builder in let u1 = c.go_on.new.tables in let e = c.go_on.new.cursor in
    let h = rw (c.in-Wait-Key-default.is, c.in-Wait-Key-default.field-0-is) at c.in_ok-todo.ensures in
    let so = go_wait S.tells S.left S.faults a b t u k d fs i p c.loop-frames.invariant b1 u1 e h.still_ready h.stays (let x = h.goes.same_bound in let y = h.stays in omega arith) role.Key c.in-Wait-Key-default.todo h.goes h.answers h.holds in
    waits_any (Nested a (suc (left_of e)) fs) (left_of e) b1 (key_frame_of i c.in-Wait-Key-default.todo) so.holds

pub read_part-requires-clause-ready : goal.read_part-requires-clause-ready
read_part-requires-clause-ready g c =
    let S = g.S.Source in
    let a = c.args.builder.now in let t = c.args.tables.now in let k = c.args.cursor.now in let b = c.loop-frames.builder in let u = c.loop-frames.tables in let d = c.loop-frames.cursor in let fs = c.loop-frames.frames in
    let i = c.loop-frames.innermost.node in let p = c.loop-frames.innermost.todo in
    let b1 = c.go_on.new.builder in let u1 = c.go_on.new.tables in let e = c.go_on.new.cursor in
    let h = rw c.in-Wait.is at c.in_ok-todo.ensures in
    let so = go_wait S.tells S.left S.faults a b t u k d fs i p c.loop-frames.invariant b1 u1 e h.still_ready h.stays (let x = h.goes.same_bound in let y = h.stays in omega arith) c.in-Wait.role c.in-Wait.todo h.goes h.answers h.holds in
    so.ready

pub read_part-requires-clause-waits : goal.read_part-requires-clause-waits
read_part-requires-clause-waits g c =
    let S = g.S.Source in
    let a = c.args.builder.now in let t = c.args.tables.now in let k = c.args.cursor.now in let b = c.loop-frames.builder in let u = c.loop-frames.tables in let d = c.loop-frames.cursor in let fs = c.loop-frames.frames in
    let i = c.loop-frames.innermost.node in let p = c.loop-frames.innermost.todo in
    let b1 = c.go_on.new.builder in let u1 = c.go_on.new.tables in let e = c.go_on.new.cursor in
    let h = rw c.in-Wait.is at c.in_ok-todo.ensures in
    let so = go_wait S.tells S.left S.faults a b t u k d fs i p c.loop-frames.invariant b1 u1 e h.still_ready h.stays (let x = h.goes.same_bound in let y = h.stays in omega arith) c.in-Wait.role c.in-Wait.todo h.goes h.answers h.holds in
    let f : Frame = record { node = i; role = c.in-Wait.role; todo = c.in-Wait.todo } in
    waits_any (Nested a (suc (left_of e)) fs) (left_of e) b1 f so.holds

pub returns-in_err-innermost-in-Wait-Item-default-clause-goes : goal.returns-in_err-innermost-in-Wait-Item-default-clause-goes
returns-in_err-innermost-in-Wait-Item-default-clause-goes g c =
    let S = g.S.Source in
    let a = c.args.builder.now in let t = c.args.tables.now in let k = c.args.cursor.now in let b = c.loop-frames.builder in let u = c.loop-frames.tables in let d = c.loop-frames.cursor in let fs = c.loop-frames.frames in
    let i = c.loop-frames.innermost.node in let p = c.loop-frames.innermost.todo in
    let b1 = c.go_on.new.builder in let u1 = c.go_on.new.tables in let e = c.go_on.new.cursor in
    let h = rw (c.in-Wait-Item-default.is, c.in-Wait-Item-default.field-0-is) at c.in_ok-todo.ensures in
    let so = go_wait S.tells S.left S.faults a b t u k d fs i p c.loop-frames.invariant b1 u1 e h.still_ready h.stays (let x = h.goes.same_bound in let y = h.stays in omega arith) role.Item c.in-Wait-Item-default.todo h.goes h.answers h.holds in
    goes_passed S.tells S.left S.faults k e c.read_items.new.cursor c.from_residual-in_err-innermost-in-Wait-Item-default.result c.in_err-innermost-in-Wait-Item-default.field-0.0 c.from_residual-in_err-innermost-in-Wait-Item-default.ensures.1 so.goes c.in_err-innermost-in-Wait-Item-default.ensures.goes

pub returns-in_err-innermost-in-Wait-Key-default-clause-goes : goal.returns-in_err-innermost-in-Wait-Key-default-clause-goes
returns-in_err-innermost-in-Wait-Key-default-clause-goes g c =
    let S = g.S.Source in
    let a = c.args.builder.now in let t = c.args.tables.now in let k = c.args.cursor.now in let b = c.loop-frames.builder in let u = c.loop-frames.tables in let d = c.loop-frames.cursor in let fs = c.loop-frames.frames in
    let i = c.loop-frames.innermost.node in let p = c.loop-frames.innermost.todo in
    let b1 = c.go_on.new.builder in let u1 = c.go_on.new.tables in let e = c.go_on.new.cursor in
    let h = rw (c.in-Wait-Key-default.is, c.in-Wait-Key-default.field-0-is) at c.in_ok-todo.ensures in
    let so = go_wait S.tells S.left S.faults a b t u k d fs i p c.loop-frames.invariant b1 u1 e h.still_ready h.stays (let x = h.goes.same_bound in let y = h.stays in omega arith) role.Key c.in-Wait-Key-default.todo h.goes h.answers h.holds in
    goes_passed S.tells S.left S.faults k e c.read_key.new.cursor c.from_residual-in_err-innermost-in-Wait-Key-default.result c.in_err-innermost-in-Wait-Key-default.field-0.0 c.from_residual-in_err-innermost-in-Wait-Key-default.ensures.1 so.goes c.in_err-innermost-in-Wait-Key-default.ensures.goes

pub returns-in_err-innermost-in-Wait-clause-goes : goal.returns-in_err-innermost-in-Wait-clause-goes
returns-in_err-innermost-in-Wait-clause-goes g c =
    let S = g.S.Source in
    let a = c.args.builder.now in let t = c.args.tables.now in let k = c.args.cursor.now in let b = c.loop-frames.builder in let u = c.loop-frames.tables in let d = c.loop-frames.cursor in let fs = c.loop-frames.frames in
    let i = c.loop-frames.innermost.node in let p = c.loop-frames.innermost.todo in
    let b1 = c.go_on.new.builder in let u1 = c.go_on.new.tables in let e = c.go_on.new.cursor in
    let h = rw c.in-Wait.is at c.in_ok-todo.ensures in
    let so = go_wait S.tells S.left S.faults a b t u k d fs i p c.loop-frames.invariant b1 u1 e h.still_ready h.stays (let x = h.goes.same_bound in let y = h.stays in omega arith) c.in-Wait.role c.in-Wait.todo h.goes h.answers h.holds in
    goes_passed S.tells S.left S.faults k e c.read_part.new.cursor c.from_residual-in_err-innermost-in-Wait.result c.in_err-innermost-in-Wait.field-0.0 c.from_residual-in_err-innermost-in-Wait.ensures.1 so.goes c.in_err-innermost-in-Wait.ensures.goes

pub returns-in_err-innermost-in-Wait-Item-default-clause-answers : goal.returns-in_err-innermost-in-Wait-Item-default-clause-answers
returns-in_err-innermost-in-Wait-Item-default-clause-answers g c = λ n lt.
    let S = g.S.Source in
    let a = c.args.builder.now in let t = c.args.tables.now in let k = c.args.cursor.now in let b = c.loop-frames.builder in let u = c.loop-frames.tables in let d = c.loop-frames.cursor in let fs = c.loop-frames.frames in
    let i = c.loop-frames.innermost.node in let p = c.loop-frames.innermost.todo in
    let b1 = c.go_on.new.builder in let u1 = c.go_on.new.tables in let e = c.go_on.new.cursor in
    let h = rw (c.in-Wait-Item-default.is, c.in-Wait-Item-default.field-0-is) at c.in_ok-todo.ensures in
    let so = go_wait S.tells S.left S.faults a b t u k d fs i p c.loop-frames.invariant b1 u1 e h.still_ready h.stays (let x = h.goes.same_bound in let y = h.stays in omega arith) role.Item c.in-Wait-Item-default.todo h.goes h.answers h.holds in
    let x = c.in_err-innermost-in-Wait-Item-default.ensures.follows in
    passed_on S.tells S.left S.faults _ (value_layout n (state_of a t)) k c.read_items.new.cursor c.from_residual-in_err-innermost-in-Wait-Item-default.result c.in_err-innermost-in-Wait-Item-default.field-0.0 c.from_residual-in_err-innermost-in-Wait-Item-default.ensures.1 (x.ends a t k so n lt)

pub returns-in_err-innermost-in-Wait-Key-default-clause-answers : goal.returns-in_err-innermost-in-Wait-Key-default-clause-answers
returns-in_err-innermost-in-Wait-Key-default-clause-answers g c = λ n lt.
    let S = g.S.Source in
    let a = c.args.builder.now in let t = c.args.tables.now in let k = c.args.cursor.now in let b = c.loop-frames.builder in let u = c.loop-frames.tables in let d = c.loop-frames.cursor in let fs = c.loop-frames.frames in
    let i = c.loop-frames.innermost.node in let p = c.loop-frames.innermost.todo in
    let b1 = c.go_on.new.builder in let u1 = c.go_on.new.tables in let e = c.go_on.new.cursor in
    let h = rw (c.in-Wait-Key-default.is, c.in-Wait-Key-default.field-0-is) at c.in_ok-todo.ensures in
    let so = go_wait S.tells S.left S.faults a b t u k d fs i p c.loop-frames.invariant b1 u1 e h.still_ready h.stays (let x = h.goes.same_bound in let y = h.stays in omega arith) role.Key c.in-Wait-Key-default.todo h.goes h.answers h.holds in
    let x = c.in_err-innermost-in-Wait-Key-default.ensures.follows in
    passed_on S.tells S.left S.faults _ (value_layout n (state_of a t)) k c.read_key.new.cursor c.from_residual-in_err-innermost-in-Wait-Key-default.result c.in_err-innermost-in-Wait-Key-default.field-0.0 c.from_residual-in_err-innermost-in-Wait-Key-default.ensures.1 (x.ends a t k so n lt)

pub returns-in_err-innermost-in-Wait-clause-answers : goal.returns-in_err-innermost-in-Wait-clause-answers
returns-in_err-innermost-in-Wait-clause-answers g c = λ n lt.
    let S = g.S.Source in
    let a = c.args.builder.now in let t = c.args.tables.now in let k = c.args.cursor.now in let b = c.loop-frames.builder in let u = c.loop-frames.tables in let d = c.loop-frames.cursor in let fs = c.loop-frames.frames in
    let i = c.loop-frames.innermost.node in let p = c.loop-frames.innermost.todo in
    let b1 = c.go_on.new.builder in let u1 = c.go_on.new.tables in let e = c.go_on.new.cursor in
    let h = rw c.in-Wait.is at c.in_ok-todo.ensures in
    let so = go_wait S.tells S.left S.faults a b t u k d fs i p c.loop-frames.invariant b1 u1 e h.still_ready h.stays (let x = h.goes.same_bound in let y = h.stays in omega arith) c.in-Wait.role c.in-Wait.todo h.goes h.answers h.holds in
    let x = c.in_err-innermost-in-Wait.ensures.follows in
    passed_on S.tells S.left S.faults _ (value_layout n (state_of a t)) k c.read_part.new.cursor c.from_residual-in_err-innermost-in-Wait.result c.in_err-innermost-in-Wait.field-0.0 c.from_residual-in_err-innermost-in-Wait.ensures.1 (x.ends a t k so n lt)

pub loop-frames-preserved-in-Wait-Item-default : goal.loop-frames-preserved-in-Wait-Item-default
loop-frames-preserved-in-Wait-Item-default g c =
    let S = g.S.Source in
    let a = c.args.builder.now in let t = c.args.tables.now in let k = c.args.cursor.now in let b = c.loop-frames.builder in let u = c.loop-frames.tables in let d = c.loop-frames.cursor in let fs = c.loop-frames.frames in
    let i = c.loop-frames.innermost.node in let p = c.loop-frames.innermost.todo in
    let b1 = c.go_on.new.builder in let u1 = c.go_on.new.tables in let e = c.go_on.new.cursor in
    let h = rw (c.in-Wait-Item-default.is, c.in-Wait-Item-default.field-0-is) at c.in_ok-todo.ensures in
    let so = go_wait S.tells S.left S.faults a b t u k d fs i p c.loop-frames.invariant b1 u1 e h.still_ready h.stays (let x = h.goes.same_bound in let y = h.stays in omega arith) role.Item c.in-Wait-Item-default.todo h.goes h.answers h.holds in
    let x = c.in_ok-innermost-in-Wait-Item-default.ensures.follows in
    x.goes_on a t k so

pub loop-frames-preserved-in-Wait-Key-default : goal.loop-frames-preserved-in-Wait-Key-default
loop-frames-preserved-in-Wait-Key-default g c =
    let S = g.S.Source in
    let a = c.args.builder.now in let t = c.args.tables.now in let k = c.args.cursor.now in let b = c.loop-frames.builder in let u = c.loop-frames.tables in let d = c.loop-frames.cursor in let fs = c.loop-frames.frames in
    let i = c.loop-frames.innermost.node in let p = c.loop-frames.innermost.todo in
    let b1 = c.go_on.new.builder in let u1 = c.go_on.new.tables in let e = c.go_on.new.cursor in
    let h = rw (c.in-Wait-Key-default.is, c.in-Wait-Key-default.field-0-is) at c.in_ok-todo.ensures in
    let so = go_wait S.tells S.left S.faults a b t u k d fs i p c.loop-frames.invariant b1 u1 e h.still_ready h.stays (let x = h.goes.same_bound in let y = h.stays in omega arith) role.Key c.in-Wait-Key-default.todo h.goes h.answers h.holds in
    let x = c.in_ok-innermost-in-Wait-Key-default.ensures.follows in
    x.goes_on a t k so

pub loop-frames-preserved-in-Wait : goal.loop-frames-preserved-in-Wait
loop-frames-preserved-in-Wait g c =
    let S = g.S.Source in
    let a = c.args.builder.now in let t = c.args.tables.now in let k = c.args.cursor.now in let b = c.loop-frames.builder in let u = c.loop-frames.tables in let d = c.loop-frames.cursor in let fs = c.loop-frames.frames in
    let i = c.loop-frames.innermost.node in let p = c.loop-frames.innermost.todo in
    let b1 = c.go_on.new.builder in let u1 = c.go_on.new.tables in let e = c.go_on.new.cursor in
    let h = rw c.in-Wait.is at c.in_ok-todo.ensures in
    let so = go_wait S.tells S.left S.faults a b t u k d fs i p c.loop-frames.invariant b1 u1 e h.still_ready h.stays (let x = h.goes.same_bound in let y = h.stays in omega arith) c.in-Wait.role c.in-Wait.todo h.goes h.answers h.holds in
    let x = c.in_ok-innermost-in-Wait.ensures.follows in
    x.goes_on a t k so

pub returns-in_default-clause-goes : goal.returns-in_default-clause-goes
returns-in_default-clause-goes g c =
    let S = g.S.Source in
    let a = c.args.builder.now in let t = c.args.tables.now in let k = c.args.cursor.now in let b = c.loop-frames.builder in let u = c.loop-frames.tables in let d = c.loop-frames.cursor in let fs = c.loop-frames.frames in
    let i = c.loop-frames.innermost.node in let p = c.loop-frames.innermost.todo in
    let b1 = c.go_on.new.builder in let u1 = c.go_on.new.tables in let e = c.go_on.new.cursor in
    let h = rw c.in-Closed.is at c.in_ok-todo.ensures in
    let so = go_closed S.tells S.left S.faults a b t u k d fs i p c.loop-frames.invariant b1 u1 e h.still_ready h.stays (let x = h.goes.same_bound in let y = h.stays in omega arith) h.goes h.answers h.holds in
    goes_other S.tells S.left S.faults k e tt (value.Node i) so.goes

pub returns-in_default-clause-answers : goal.returns-in_default-clause-answers
returns-in_default-clause-answers g c = λ n lt.
    let S = g.S.Source in
    let a = c.args.builder.now in let t = c.args.tables.now in let k = c.args.cursor.now in let b = c.loop-frames.builder in let u = c.loop-frames.tables in let d = c.loop-frames.cursor in let fs = c.loop-frames.frames in
    let i = c.loop-frames.innermost.node in let p = c.loop-frames.innermost.todo in
    let b1 = c.go_on.new.builder in let u1 = c.go_on.new.tables in let e = c.go_on.new.cursor in
    let h = rw c.in-Closed.is at c.in_ok-todo.ensures in
    let so = go_closed S.tells S.left S.faults a b t u k d fs i p c.loop-frames.invariant b1 u1 e h.still_ready h.stays (let x = h.goes.same_bound in let y = h.stays in omega arith) h.goes h.answers h.holds in
    let one = subst (λ (l : List Frame). StackSo S.tells S.left S.faults a b1 t u1 k e (now.given (value.Node i)) l) (rw c.in_default.is at c.pop.ensures) so in
    so_done S.tells S.left S.faults a b1 t u1 k e (value.Node i) one n lt

pub returns-in_default-clause-continues : goal.returns-in_default-clause-continues
returns-in_default-clause-continues g c =
    let S = g.S.Source in
    let a = c.args.builder.now in let t = c.args.tables.now in let k = c.args.cursor.now in let b = c.loop-frames.builder in let u = c.loop-frames.tables in let d = c.loop-frames.cursor in let fs = c.loop-frames.frames in
    let i = c.loop-frames.innermost.node in let p = c.loop-frames.innermost.todo in
    let b1 = c.go_on.new.builder in let u1 = c.go_on.new.tables in let e = c.go_on.new.cursor in
    let h = rw c.in-Closed.is at c.in_ok-todo.ensures in
    let so = go_closed S.tells S.left S.faults a b t u k d fs i p c.loop-frames.invariant b1 u1 e h.still_ready h.stays (let x = h.goes.same_bound in let y = h.stays in omega arith) h.goes h.answers h.holds in
    let one = subst (λ (l : List Frame). StackSo S.tells S.left S.faults a b1 t u1 k e (now.given (value.Node i)) l) (rw c.in_default.is at c.pop.ensures) so in
    so_continues S.tells S.left S.faults a b1 t u1 k e (value.Node i) one

pub returns-in_default-clause-moves : goal.returns-in_default-clause-moves
returns-in_default-clause-moves g c =
    let S = g.S.Source in
    let a = c.args.builder.now in let t = c.args.tables.now in let k = c.args.cursor.now in let b = c.loop-frames.builder in let u = c.loop-frames.tables in let d = c.loop-frames.cursor in let fs = c.loop-frames.frames in
    let i = c.loop-frames.innermost.node in let p = c.loop-frames.innermost.todo in
    let b1 = c.go_on.new.builder in let u1 = c.go_on.new.tables in let e = c.go_on.new.cursor in
    let h = rw c.in-Closed.is at c.in_ok-todo.ensures in
    let so = go_closed S.tells S.left S.faults a b t u k d fs i p c.loop-frames.invariant b1 u1 e h.still_ready h.stays (let x = h.goes.same_bound in let y = h.stays in omega arith) h.goes h.answers h.holds in
    so.moved

pub give-requires-clause-ready : goal.give-requires-clause-ready
give-requires-clause-ready g c =
    let S = g.S.Source in
    let a = c.args.builder.now in let t = c.args.tables.now in let k = c.args.cursor.now in let b = c.loop-frames.builder in let u = c.loop-frames.tables in let d = c.loop-frames.cursor in let fs = c.loop-frames.frames in
    let i = c.loop-frames.innermost.node in let p = c.loop-frames.innermost.todo in
    let b1 = c.go_on.new.builder in let u1 = c.go_on.new.tables in let e = c.go_on.new.cursor in
    let h = rw c.in-Closed.is at c.in_ok-todo.ensures in
    let so = go_closed S.tells S.left S.faults a b t u k d fs i p c.loop-frames.invariant b1 u1 e h.still_ready h.stays (let x = h.goes.same_bound in let y = h.stays in omega arith) h.goes h.answers h.holds in
    so.ready

pub give-requires-clause-waits : goal.give-requires-clause-waits
give-requires-clause-waits g c =
    let S = g.S.Source in
    let a = c.args.builder.now in let t = c.args.tables.now in let k = c.args.cursor.now in let b = c.loop-frames.builder in let u = c.loop-frames.tables in let d = c.loop-frames.cursor in let fs = c.loop-frames.frames in
    let i = c.loop-frames.innermost.node in let p = c.loop-frames.innermost.todo in
    let b1 = c.go_on.new.builder in let u1 = c.go_on.new.tables in let e = c.go_on.new.cursor in
    let h = rw c.in-Closed.is at c.in_ok-todo.ensures in
    let so = go_closed S.tells S.left S.faults a b t u k d fs i p c.loop-frames.invariant b1 u1 e h.still_ready h.stays (let x = h.goes.same_bound in let y = h.stays in omega arith) h.goes h.answers h.holds in
    let f = c.in-Some.frame in
    let gs = c.pop.new.self in
    let two = subst (λ (l : List Frame). StackSo S.tells S.left S.faults a b1 t u1 k e (now.given (value.Node i)) l) c.in-Some.ensures so in
    waits_any (Nested a (suc (suc (left_of e))) gs) (suc (left_of e)) b1 f two.holds.0

pub give-requires-clause-names : goal.give-requires-clause-names
give-requires-clause-names g c =
    let S = g.S.Source in
    let a = c.args.builder.now in let t = c.args.tables.now in let k = c.args.cursor.now in let b = c.loop-frames.builder in let u = c.loop-frames.tables in let d = c.loop-frames.cursor in let fs = c.loop-frames.frames in
    let i = c.loop-frames.innermost.node in let p = c.loop-frames.innermost.todo in
    let b1 = c.go_on.new.builder in let u1 = c.go_on.new.tables in let e = c.go_on.new.cursor in
    let h = rw c.in-Closed.is at c.in_ok-todo.ensures in
    let so = go_closed S.tells S.left S.faults a b t u k d fs i p c.loop-frames.invariant b1 u1 e h.still_ready h.stays (let x = h.goes.same_bound in let y = h.stays in omega arith) h.goes h.answers h.holds in
    so.holds.1

pub returns-in_err-innermost-in-Closed-clause-goes : goal.returns-in_err-innermost-in-Closed-clause-goes
returns-in_err-innermost-in-Closed-clause-goes g c =
    let S = g.S.Source in
    let a = c.args.builder.now in let t = c.args.tables.now in let k = c.args.cursor.now in let b = c.loop-frames.builder in let u = c.loop-frames.tables in let d = c.loop-frames.cursor in let fs = c.loop-frames.frames in
    let i = c.loop-frames.innermost.node in let p = c.loop-frames.innermost.todo in
    let b1 = c.go_on.new.builder in let u1 = c.go_on.new.tables in let e = c.go_on.new.cursor in
    let h = rw c.in-Closed.is at c.in_ok-todo.ensures in
    let so = go_closed S.tells S.left S.faults a b t u k d fs i p c.loop-frames.invariant b1 u1 e h.still_ready h.stays (let x = h.goes.same_bound in let y = h.stays in omega arith) h.goes h.answers h.holds in
    goes_passed S.tells S.left S.faults k e c.give.new.cursor c.from_residual-in_err-innermost-in-Closed.result c.in_err-innermost-in-Closed.field-0.0 c.from_residual-in_err-innermost-in-Closed.ensures.1 so.goes c.in_err-innermost-in-Closed.ensures.goes

pub returns-in_err-innermost-in-Closed-clause-answers : goal.returns-in_err-innermost-in-Closed-clause-answers
returns-in_err-innermost-in-Closed-clause-answers g c = λ n lt.
    let S = g.S.Source in
    let a = c.args.builder.now in let t = c.args.tables.now in let k = c.args.cursor.now in let b = c.loop-frames.builder in let u = c.loop-frames.tables in let d = c.loop-frames.cursor in let fs = c.loop-frames.frames in
    let i = c.loop-frames.innermost.node in let p = c.loop-frames.innermost.todo in
    let b1 = c.go_on.new.builder in let u1 = c.go_on.new.tables in let e = c.go_on.new.cursor in
    let h = rw c.in-Closed.is at c.in_ok-todo.ensures in
    let so = go_closed S.tells S.left S.faults a b t u k d fs i p c.loop-frames.invariant b1 u1 e h.still_ready h.stays (let x = h.goes.same_bound in let y = h.stays in omega arith) h.goes h.answers h.holds in
    let f = c.in-Some.frame in
    let gs = c.pop.new.self in
    let two = subst (λ (l : List Frame). StackSo S.tells S.left S.faults a b1 t u1 k e (now.given (value.Node i)) l) c.in-Some.ensures so in
    let x = c.in_err-innermost-in-Closed.ensures.follows in
    passed_on S.tells S.left S.faults _ (value_layout n (state_of a t)) k c.give.new.cursor c.from_residual-in_err-innermost-in-Closed.result c.in_err-innermost-in-Closed.field-0.0 c.from_residual-in_err-innermost-in-Closed.ensures.1 (x.ends a t k two n lt)

pub loop-frames-preserved : goal.loop-frames-preserved
loop-frames-preserved g c =
    let S = g.S.Source in
    let a = c.args.builder.now in let t = c.args.tables.now in let k = c.args.cursor.now in let b = c.loop-frames.builder in let u = c.loop-frames.tables in let d = c.loop-frames.cursor in let fs = c.loop-frames.frames in
    let i = c.loop-frames.innermost.node in let p = c.loop-frames.innermost.todo in
    let b1 = c.go_on.new.builder in let u1 = c.go_on.new.tables in let e = c.go_on.new.cursor in
    let h = rw c.in-Closed.is at c.in_ok-todo.ensures in
    let so = go_closed S.tells S.left S.faults a b t u k d fs i p c.loop-frames.invariant b1 u1 e h.still_ready h.stays (let x = h.goes.same_bound in let y = h.stays in omega arith) h.goes h.answers h.holds in
    let f = c.in-Some.frame in
    let gs = c.pop.new.self in
    let two = subst (λ (l : List Frame). StackSo S.tells S.left S.faults a b1 t u1 k e (now.given (value.Node i)) l) c.in-Some.ensures so in
    let x = c.in_ok-innermost-in-Closed.ensures.follows in
    x.goes_on a t k two
