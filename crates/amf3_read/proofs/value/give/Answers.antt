use Rattle.std.proofs.Common.{◌≡◌, ◌∷◌, subst}
use Rattle.amf3_read.specs.declared.frame.Frame.{Frame}
use Rattle.amf3_read.specs.declared.frame.Role.{Role}
use Rattle.amf3_read.specs.declared.frame.Role.TheVariants as role
use Rattle.amf3_read.specs.Now as now
use Rattle.amf_wire_fields.specs.Room.{left_of}
use Rattle.amf3_read.specs.Roles.{IsPart}
use Rattle.amf3_read.specs.Frames.{StackSo}
use Rattle.amf3_read.proofs.Stack.{key_waits, key_of, so_put, so_key, follows_end, done}
use Rattle.amf3_read.proofs.value.give.Goals as goal

pub read_entry-requires-clause-waits : goal.read_entry-requires-clause-waits
read_entry-requires-clause-waits g c =
    let f = c.args.frame in let v = c.args.value in
    key_waits (left_of c.args.cursor.now) c.args.builder.now f v (key_of f.role v c.part_of.result c.in-None.is c.part_of.ensures) c.requires.names c.requires.waits

pub returns-in_ok-kept-in-Some-clause-follows : goal.returns-in_ok-kept-in-Some-clause-follows
returns-in_ok-kept-in-Some-clause-follows g c =
    let S = g.S.Source in
    let f = c.args.frame in let v = c.args.value in let b = c.args.builder.now in let u = c.args.tables.now in let d = c.args.cursor.now in let fs = c.args.frames.now in
    let is : IsPart f.role v _ = subst (IsPart f.role v) c.in-Some.is c.part_of.ensures in
    let e = done _ c.put.result c.in_ok-kept-in-Some.field-0 c.in_ok-kept-in-Some.ensures.ok c.put.ensures.ok in
    record { goes_on = λ a t k so. so_put S.tells S.left S.faults a b t u k d fs v f so c.in-Some.part is c.put.new.self e; ends = λ a t k so n lt. tt }

pub returns-in_err-inner-in-None-clause-follows : goal.returns-in_err-inner-in-None-clause-follows
returns-in_err-inner-in-None-clause-follows g c =
    let S = g.S.Source in
    let f = c.args.frame in let v = c.args.value in let b = c.args.builder.now in let u = c.args.tables.now in let d = c.args.cursor.now in let fs = c.args.frames.now in
    let key : f.role ≡ role.Key = key_of f.role v c.part_of.result c.in-None.is c.part_of.ensures in
    let x = c.in_err-inner-in-None.ensures.follows in
    follows_end S.tells S.left S.faults b c.read_entry.new.builder u c.read_entry.new.tables d c.read_entry.new.cursor (now.given v) (f ∷ fs) c.read_entry.new.frames c.from_residual-in_err-inner-in-None.result c.in_err-inner-in-None.field-0.0 c.from_residual-in_err-inner-in-None.ensures.1
    (λ a t k so. x.ends a t k (so_key S.tells S.left S.faults a b t u k d fs v f.node f.todo (subst (λ (s : Role). StackSo S.tells S.left S.faults a b t u k d (now.given v) ((let z : Frame = record { node = f.node; role = s; todo = f.todo } in z) ∷ fs)) key so)))

pub returns-in_ok-inner-in-None-clause-follows : goal.returns-in_ok-inner-in-None-clause-follows
returns-in_ok-inner-in-None-clause-follows g c =
    let S = g.S.Source in
    let f = c.args.frame in let v = c.args.value in let b = c.args.builder.now in let u = c.args.tables.now in let d = c.args.cursor.now in let fs = c.args.frames.now in
    let key : f.role ≡ role.Key = key_of f.role v c.part_of.result c.in-None.is c.part_of.ensures in
    let x = c.in_ok-inner-in-None.ensures.follows in
    record { goes_on = λ a t k so. x.goes_on a t k (so_key S.tells S.left S.faults a b t u k d fs v f.node f.todo (subst (λ (s : Role). StackSo S.tells S.left S.faults a b t u k d (now.given v) ((let z : Frame = record { node = f.node; role = s; todo = f.todo } in z) ∷ fs)) key so)); ends = λ a t k so n lt. tt }
