use Rattle.std.proofs.Common.{suc, ◌≡◌, ◌≤◌, sym, subst, arith}
use Rattle.amf_graph.specs.Building.{changed as changed_arena, more_part, stored_at, HasRoom, PartNames}
use Rattle.amf0_spelling.specs.TableParts0.{shown_tables}
use Rattle.amf_wire_fields.specs.Room.{left_of}
use Rattle.amf3_read.proofs.Stack.{done}
use Rattle.amf0_read.specs.Frames0.{FilledSo, CarriesEnd}
use Rattle.amf0_read.proofs.Fills0.{fills_begin, fills_passed, fills_memory, fills_end, fills_closed, fills_wait, fills_start_end, fills_within, fills_given, fills_room, fills_there, fills_put}
use Rattle.amf0_read.proofs.fill.fill_by.Goals as goal

pub loop-role-init : goal.loop-role-init
loop-role-init g c =
    let S = g.S.Source in
    fills_begin S.tells S.left S.faults c.args.node c.args.todo c.args.builder.now (shown_tables c.args.tables.now) c.args.cursor.now c.requires.ready c.requires.opened

pub returns-in_err-go_on-clause-fills : goal.returns-in_err-go_on-clause-fills
returns-in_err-go_on-clause-fills g c =
    let S = g.S.Source in
    let i = c.args.node in let p = c.args.todo in let b = c.args.builder.now in let u = shown_tables c.args.tables.now in let d = c.args.cursor.now in let b1 = c.loop-role.builder in let u1 = shown_tables c.loop-role.tables in let e = c.loop-role.cursor in let q = c.loop-role.todo in let so = c.loop-role.invariant in
    let b2 = c.go_on.new.builder in let f = c.go_on.new.cursor in
    let end = c.in_err-go_on.field-0.0 in
    fills_passed S.tells S.left S.faults i p b u d b2 u1 f c.from_residual.result end c.from_residual.ensures.1 (fills_end S.tells S.left S.faults i p b u d b1 u1 e q so b2 f end c.in_err-go_on.ensures.answers)

pub returns-in-Closed-clause-fills : goal.returns-in-Closed-clause-fills
returns-in-Closed-clause-fills g c =
    let S = g.S.Source in
    let i = c.args.node in let p = c.args.todo in let b = c.args.builder.now in let u = shown_tables c.args.tables.now in let d = c.args.cursor.now in let b1 = c.loop-role.builder in let u1 = shown_tables c.loop-role.tables in let e = c.loop-role.cursor in let q = c.loop-role.todo in let so = c.loop-role.invariant in
    let b2 = c.go_on.new.builder in let f = c.go_on.new.cursor in
    let h = rw c.in-Closed.is at c.in_ok-go_on.ensures in
    fills_closed S.tells S.left S.faults i p b u d b1 u1 e q so b2 f h.still_ready (let x = h.goes.same_bound in let y = h.moves in omega arith) h.goes h.answers h.holds

pub start_value-requires : goal.start_value-requires
start_value-requires g c =
    let S = g.S.Source in
    let i = c.args.node in let p = c.args.todo in let b = c.args.builder.now in let u = shown_tables c.args.tables.now in let d = c.args.cursor.now in let b1 = c.loop-role.builder in let u1 = shown_tables c.loop-role.tables in let e = c.loop-role.cursor in let q = c.loop-role.todo in let so = c.loop-role.invariant in
    let b2 = c.go_on.new.builder in let f = c.go_on.new.cursor in
    let x = c.in-Wait.role in let m = c.in-Wait.marker in
    let h = rw c.in-Wait.is at c.in_ok-go_on.ensures in
    let less : suc (left_of f) ≤ left_of e = (let x = h.goes.same_bound in let y = h.moves in let z = h.still_ready.placed.within in omega arith) in
    (fills_wait S.tells S.left S.faults i p b u d b1 u1 e q so b2 f x m h.still_ready less h.goes h.answers h.holds).ready

pub returns-in_err-value-in-Wait-clause-fills : goal.returns-in_err-value-in-Wait-clause-fills
returns-in_err-value-in-Wait-clause-fills g c =
    let S = g.S.Source in
    let i = c.args.node in let p = c.args.todo in let b = c.args.builder.now in let u = shown_tables c.args.tables.now in let d = c.args.cursor.now in let b1 = c.loop-role.builder in let u1 = shown_tables c.loop-role.tables in let e = c.loop-role.cursor in let q = c.loop-role.todo in let so = c.loop-role.invariant in
    let b2 = c.go_on.new.builder in let f = c.go_on.new.cursor in
    let x = c.in-Wait.role in let m = c.in-Wait.marker in
    let h = rw c.in-Wait.is at c.in_ok-go_on.ensures in
    let less : suc (left_of f) ≤ left_of e = (let x = h.goes.same_bound in let y = h.moves in let z = h.still_ready.placed.within in omega arith) in
    let b3 = c.start_value.new.builder in let u3 = shown_tables c.start_value.new.tables in let j = c.start_value.new.cursor in
    let end = c.in_err-value-in-Wait.field-0.0 in
    let r = c.from_residual-in_err-value-in-Wait in
    fills_passed S.tells S.left S.faults i p b u d b3 u3 j r.result end r.ensures.1 (fills_start_end S.tells S.left S.faults i p b u d b1 u1 e q so b2 f x m h.still_ready less h.goes h.answers h.holds b3 u3 j end c.in_err-value-in-Wait.ensures.starts)

pub put-requires-clause-opened : goal.put-requires-clause-opened
put-requires-clause-opened g c =
    let S = g.S.Source in
    let i = c.args.node in let p = c.args.todo in let b = c.args.builder.now in let u = shown_tables c.args.tables.now in let d = c.args.cursor.now in let b1 = c.loop-role.builder in let u1 = shown_tables c.loop-role.tables in let e = c.loop-role.cursor in let q = c.loop-role.todo in let so = c.loop-role.invariant in
    let b2 = c.go_on.new.builder in let f = c.go_on.new.cursor in
    let x = c.in-Wait.role in let m = c.in-Wait.marker in
    let h = rw c.in-Wait.is at c.in_ok-go_on.ensures in
    let less : suc (left_of f) ≤ left_of e = (let x = h.goes.same_bound in let y = h.moves in let z = h.still_ready.placed.within in omega arith) in
    let b3 = c.start_value.new.builder in let u3 = shown_tables c.start_value.new.tables in let j = c.start_value.new.cursor in
    let k = rw c.in-Value.is at c.in_ok-value-in-Wait.ensures in
    let same : left_of j ≤ left_of f = (let x = k.goes.same_bound in let y = k.stays in omega arith) in
    (fills_given S.tells S.left S.faults i p b u d b1 u1 e q so b2 f x m h.still_ready less h.goes h.answers h.holds b3 u3 j k.still_ready same c.in-Value.value k.goes k.starts k.holds).holds.0.over.opened.opened

pub put-requires-clause-room : goal.put-requires-clause-room
put-requires-clause-room g c =
    let S = g.S.Source in
    let i = c.args.node in let p = c.args.todo in let b = c.args.builder.now in let u = shown_tables c.args.tables.now in let d = c.args.cursor.now in let b1 = c.loop-role.builder in let u1 = shown_tables c.loop-role.tables in let e = c.loop-role.cursor in let q = c.loop-role.todo in let so = c.loop-role.invariant in
    let b2 = c.go_on.new.builder in let f = c.go_on.new.cursor in
    let x = c.in-Wait.role in let m = c.in-Wait.marker in
    let h = rw c.in-Wait.is at c.in_ok-go_on.ensures in
    let less : suc (left_of f) ≤ left_of e = (let x = h.goes.same_bound in let y = h.moves in let z = h.still_ready.placed.within in omega arith) in
    let b3 = c.start_value.new.builder in let u3 = shown_tables c.start_value.new.tables in let j = c.start_value.new.cursor in
    let k = rw c.in-Value.is at c.in_ok-value-in-Wait.ensures in
    let same : left_of j ≤ left_of f = (let x = k.goes.same_bound in let y = k.stays in omega arith) in
    subst (HasRoom b3 (stored_at b3 i.0)) (sym c.part_of.ensures) (fills_room S.tells S.left S.faults i p b u d b1 u1 e q so b2 f x m h.still_ready less h.goes h.answers h.holds b3 u3 j k.still_ready same c.in-Value.value k.goes k.starts k.holds)

pub put-requires-clause-names : goal.put-requires-clause-names
put-requires-clause-names g c =
    let S = g.S.Source in
    let i = c.args.node in let p = c.args.todo in let b = c.args.builder.now in let u = shown_tables c.args.tables.now in let d = c.args.cursor.now in let b1 = c.loop-role.builder in let u1 = shown_tables c.loop-role.tables in let e = c.loop-role.cursor in let q = c.loop-role.todo in let so = c.loop-role.invariant in
    let b2 = c.go_on.new.builder in let f = c.go_on.new.cursor in
    let x = c.in-Wait.role in let m = c.in-Wait.marker in
    let h = rw c.in-Wait.is at c.in_ok-go_on.ensures in
    let less : suc (left_of f) ≤ left_of e = (let x = h.goes.same_bound in let y = h.moves in let z = h.still_ready.placed.within in omega arith) in
    let b3 = c.start_value.new.builder in let u3 = shown_tables c.start_value.new.tables in let j = c.start_value.new.cursor in
    let k = rw c.in-Value.is at c.in_ok-value-in-Wait.ensures in
    let same : left_of j ≤ left_of f = (let x = k.goes.same_bound in let y = k.stays in omega arith) in
    subst (PartNames b3) (sym c.part_of.ensures) (fills_there S.tells S.left S.faults i p b u d b1 u1 e q so b2 f x m h.still_ready less h.goes h.answers h.holds b3 u3 j k.still_ready same c.in-Value.value k.goes k.starts k.holds)

pub returns-in_err-kept-in-Value-clause-fills : goal.returns-in_err-kept-in-Value-clause-fills
returns-in_err-kept-in-Value-clause-fills g c =
    let S = g.S.Source in
    let i = c.args.node in let p = c.args.todo in let b = c.args.builder.now in let u = shown_tables c.args.tables.now in let d = c.args.cursor.now in let b1 = c.loop-role.builder in let u1 = shown_tables c.loop-role.tables in let e = c.loop-role.cursor in let q = c.loop-role.todo in let so = c.loop-role.invariant in
    let b2 = c.go_on.new.builder in let f = c.go_on.new.cursor in
    let b3 = c.start_value.new.builder in let u3 = shown_tables c.start_value.new.tables in let j = c.start_value.new.cursor in
    let r = c.from_residual-in_err-kept-in-Value in
    let end = c.in_err-kept-in-Value.field-0.0 in
    fills_passed S.tells S.left S.faults i p b u d c.put.new.self u3 j r.result end r.ensures.1 (subst (CarriesEnd S.tells S.left S.faults i p b u d j) (sym c.in_err-kept-in-Value.ensures.err) (fills_memory S.tells S.left S.faults i p b u d j))

pub loop-role-preserved : goal.loop-role-preserved
loop-role-preserved g c =
    let S = g.S.Source in
    let i = c.args.node in let p = c.args.todo in let b = c.args.builder.now in let u = shown_tables c.args.tables.now in let d = c.args.cursor.now in let b1 = c.loop-role.builder in let u1 = shown_tables c.loop-role.tables in let e = c.loop-role.cursor in let q = c.loop-role.todo in let so = c.loop-role.invariant in
    let b2 = c.go_on.new.builder in let f = c.go_on.new.cursor in
    let x = c.in-Wait.role in let m = c.in-Wait.marker in
    let h = rw c.in-Wait.is at c.in_ok-go_on.ensures in
    let less : suc (left_of f) ≤ left_of e = (let x = h.goes.same_bound in let y = h.moves in let z = h.still_ready.placed.within in omega arith) in
    let b3 = c.start_value.new.builder in let u3 = shown_tables c.start_value.new.tables in let j = c.start_value.new.cursor in
    let k = rw c.in-Value.is at c.in_ok-value-in-Wait.ensures in
    let same : left_of j ≤ left_of f = (let x = k.goes.same_bound in let y = k.stays in omega arith) in
    let put = done _ c.put.result c.in_ok-kept-in-Value.field-0 c.in_ok-kept-in-Value.ensures.ok c.put.ensures.ok in
    subst (FilledSo S.tells S.left S.faults i p b c.put.new.self u u3 d j) (sym c.todo_behind-todo.ensures)
    (fills_put S.tells S.left S.faults i p b u d b1 u1 e q so b2 f x m h.still_ready less h.goes h.answers h.holds b3 u3 j k.still_ready same c.in-Value.value k.goes k.starts k.holds c.put.new.self (subst (λ z. c.put.new.self ≡ changed_arena (more_part z) i.0 b3) c.part_of.ensures put)
    (let x = h.moves in let y = k.stays in let z = so.stays in omega arith))

pub returns-in-Open-clause-fills : goal.returns-in-Open-clause-fills
returns-in-Open-clause-fills g c =
    let S = g.S.Source in
    let i = c.args.node in let p = c.args.todo in let b = c.args.builder.now in let u = shown_tables c.args.tables.now in let d = c.args.cursor.now in let b1 = c.loop-role.builder in let u1 = shown_tables c.loop-role.tables in let e = c.loop-role.cursor in let q = c.loop-role.todo in let so = c.loop-role.invariant in
    let b2 = c.go_on.new.builder in let f = c.go_on.new.cursor in
    let x = c.in-Wait.role in let m = c.in-Wait.marker in
    let h = rw c.in-Wait.is at c.in_ok-go_on.ensures in
    let less : suc (left_of f) ≤ left_of e = (let x = h.goes.same_bound in let y = h.moves in let z = h.still_ready.placed.within in omega arith) in
    let b3 = c.start_value.new.builder in let u3 = shown_tables c.start_value.new.tables in let j = c.start_value.new.cursor in
    let k = rw c.in-Open.is at c.in_ok-value-in-Wait.ensures in
    let same : left_of j ≤ left_of f = (let x = k.goes.same_bound in let y = k.stays in omega arith) in
    fills_within S.tells S.left S.faults i p b u d b1 u1 e q so b2 f x m h.still_ready less h.goes h.answers h.holds b3 u3 j k.still_ready same c.in-Open.child c.in-Open.more k.goes k.starts k.holds

pub kept-requires : goal.kept-requires
kept-requires g c = λ full.
    let S = g.S.Source in
    let i = c.args.node in let p = c.args.todo in let b = c.args.builder.now in let u = shown_tables c.args.tables.now in let d = c.args.cursor.now in let b1 = c.loop-role.builder in let u1 = shown_tables c.loop-role.tables in let e = c.loop-role.cursor in let q = c.loop-role.todo in let so = c.loop-role.invariant in
    let b2 = c.go_on.new.builder in let f = c.go_on.new.cursor in
    let x = c.in-Wait.role in let m = c.in-Wait.marker in
    let h = rw c.in-Wait.is at c.in_ok-go_on.ensures in
    let less : suc (left_of f) ≤ left_of e = (let x = h.goes.same_bound in let y = h.moves in let z = h.still_ready.placed.within in omega arith) in
    let b3 = c.start_value.new.builder in let u3 = shown_tables c.start_value.new.tables in let j = c.start_value.new.cursor in
    let k = rw c.in-Value.is at c.in_ok-value-in-Wait.ensures in
    let same : left_of j ≤ left_of f = (let x = k.goes.same_bound in let y = k.stays in omega arith) in
    let room = (fills_given S.tells S.left S.faults i p b u d b1 u1 e q so b2 f x m h.still_ready less h.goes h.answers h.holds b3 u3 j k.still_ready same c.in-Value.value k.goes k.starts k.holds).holds.0.over.opened.room in
    let over = c.put.ensures.full.0 full in
    absurd (omega arith)

pub returns-in-Closed-clause-moves : goal.returns-in-Closed-clause-moves
returns-in-Closed-clause-moves g c = let x = c.loop-role.invariant.stays in let y = (rw c.in-Closed.is at c.in_ok-go_on.ensures).moves in omega arith

pub returns-in-Open-clause-moves : goal.returns-in-Open-clause-moves
returns-in-Open-clause-moves g c = let x = c.loop-role.invariant.stays in let y = (rw c.in-Wait.is at c.in_ok-go_on.ensures).moves in let z = c.in_ok-value-in-Wait.ensures.stays in omega arith
