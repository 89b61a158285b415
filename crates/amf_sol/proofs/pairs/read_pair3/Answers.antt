use Rattle.std.proofs.Common.{◌≡◌, ◌≤◌, sym, ap, ◌∙◌, subst, arith}
use Rattle.amf_graph.specs.declared.part.Part.TheVariants.{Named}
use Rattle.amf_graph.specs.Building.{changed, more_part, stored_at, HasRoom}
use Rattle.amf_wire_fields.specs.Room.{left_of}
use Rattle.amf_wire_fields.proofs.LayoutBinds.{passed_on}
use Rattle.amf3_read.proofs.Stack.{done}
use Rattle.amf_sol.proofs.HolderPut.{holder_room}
use Rattle.amf_sol.proofs.PairReads.{name3_ended, value3_ended, end3_ended, pair3_read, pair3_grows, pair3_text, pair3_names, pair3_ready, pair3_holder}
use Rattle.amf_sol.proofs.pairs.read_pair3.Goals as goal

pub returns-in_err-name-clause-answers : goal.returns-in_err-name-clause-answers
returns-in_err-name-clause-answers g c = λ n name lt.
    let S = g.S.Source in
    let end = c.in_err-name.field-0.0 in
    passed_on S.tells S.left S.faults _ _ c.args.cursor.now c.read_text.new.cursor c.from_residual.result end c.from_residual.ensures.1
    (name3_ended S.tells S.left S.faults c.args.builder.now c.args.tables.now n name c.args.cursor.now c.read_text.new.cursor end c.in_err-name.ensures.answers)

pub returns-in_err-value-clause-answers : goal.returns-in_err-value-clause-answers
returns-in_err-value-clause-answers g c = λ n name lt.
    let S = g.S.Source in
    let x = c.in_ok-name.name in
    let d = c.read_text.new.cursor in
    let e = c.read_value.new.cursor in
    let h = c.in_ok-name.ensures in
    let end = c.in_err-value.field-0.0 in
    let r = c.from_residual-in_err-value in
    passed_on S.tells S.left S.faults _ _ c.args.cursor.now e r.result end r.ensures.1
    (value3_ended S.tells S.left S.faults c.args.builder.now c.args.tables.now n name c.args.cursor.now c.read_text.new.builder c.read_text.new.tables x d h.goes h.answers e end
    (c.in_err-value.ensures.answers n (let m = h.moves in let s = h.goes.same_bound in omega arith)))

pub returns-in_err-read_pair_end-clause-answers : goal.returns-in_err-read_pair_end-clause-answers
returns-in_err-read_pair_end-clause-answers g c = λ n name lt.
    let S = g.S.Source in
    let x = c.in_ok-name.name in
    let d = c.read_text.new.cursor in
    let e = c.read_value.new.cursor in
    let f = c.read_pair_end.new.cursor in
    let h = c.in_ok-name.ensures in
    let k = c.in_ok-value.ensures in
    let end = c.in_err-read_pair_end.field-0.0 in
    let r = c.from_residual-in_err-read_pair_end in
    passed_on S.tells S.left S.faults _ _ c.args.cursor.now f r.result end r.ensures.1
    (end3_ended S.tells S.left S.faults c.args.builder.now c.args.tables.now n name c.args.cursor.now c.read_text.new.builder c.read_text.new.tables x d h.goes h.answers c.read_value.new.builder c.read_value.new.tables c.in_ok-value.value e k.goes
    (k.answers n (let m = h.moves in let s = h.goes.same_bound in omega arith)) f end c.in_err-read_pair_end.ensures.answers)

pub put-requires-clause-room : goal.put-requires-clause-room
put-requires-clause-room g c =
    let S = g.S.Source in
    let a = c.args.builder.now in let b = c.read_text.new.builder in let b2 = c.read_value.new.builder in
    let t = c.args.tables.now in let t1 = c.read_text.new.tables in let u = c.read_value.new.tables in
    let x = c.in_ok-name.name in let v = c.in_ok-value.value in
    let k = c.args.cursor.now in let d = c.read_text.new.cursor in let e = c.read_value.new.cursor in
    let n1 = c.in_ok-name.ensures in let v1 = c.in_ok-value.ensures in
    let r = c.requires.ready in let h = c.requires.holder in
    let grows = pair3_grows S.tells S.left S.faults a b b2 t t1 u x v k d e r h n1.continues n1.there v1.answers v1.continues in
    subst (λ i. HasRoom b2 (stored_at b2 i) (Named x v)) (sym c.requires.first) (holder_room a b2 (left_of k) h grows r.built x v)

pub put-requires-clause-names : goal.put-requires-clause-names
put-requires-clause-names g c =
    let S = g.S.Source in
    let a = c.args.builder.now in let b = c.read_text.new.builder in let b2 = c.read_value.new.builder in
    let t = c.args.tables.now in let t1 = c.read_text.new.tables in let u = c.read_value.new.tables in
    let x = c.in_ok-name.name in let v = c.in_ok-value.value in
    let k = c.args.cursor.now in let d = c.read_text.new.cursor in let e = c.read_value.new.cursor in
    let n1 = c.in_ok-name.ensures in let v1 = c.in_ok-value.ensures in
    let r = c.requires.ready in let h = c.requires.holder in
    (pair3_text S.tells S.left S.faults a b b2 t t1 u x v k d e r h n1.continues n1.there v1.answers v1.continues, pair3_names S.tells S.left S.faults a b b2 t t1 u x v k d e r h n1.continues n1.there v1.answers v1.continues)

pub returns-clause-answers : goal.returns-clause-answers
returns-clause-answers g c = λ n name lt.
    let S = g.S.Source in
    let a = c.args.builder.now in let b = c.read_text.new.builder in let b2 = c.read_value.new.builder in
    let t = c.args.tables.now in let t1 = c.read_text.new.tables in let u = c.read_value.new.tables in
    let x = c.in_ok-name.name in let v = c.in_ok-value.value in
    let k = c.args.cursor.now in let d = c.read_text.new.cursor in let e = c.read_value.new.cursor in
    let n1 = c.in_ok-name.ensures in let v1 = c.in_ok-value.ensures in
    let r = c.requires.ready in let h = c.requires.holder in
    let f = c.read_pair_end.new.cursor in let b3 = c.put.new.self in
    let w = c.in_ok-read_pair_end.ensures in
    let is : b3 ≡ changed (more_part (Named x v)) 0 b2 = done _ c.put.result c.in_ok-kept.field-0 c.in_ok-kept.ensures.ok c.put.ensures.ok ∙ ap (λ i. changed (more_part (Named x v)) i b2) c.requires.first in
    pair3_read S.tells S.left S.faults a t n name k b t1 x d n1.goes n1.answers b2 u v e v1.goes (v1.answers n (let m = n1.moves in let s = n1.goes.same_bound in omega arith)) f b3 w.goes w.answers w.placed is

pub returns-clause-ready : goal.returns-clause-ready
returns-clause-ready g c =
    let S = g.S.Source in
    let a = c.args.builder.now in let b = c.read_text.new.builder in let b2 = c.read_value.new.builder in
    let t = c.args.tables.now in let t1 = c.read_text.new.tables in let u = c.read_value.new.tables in
    let x = c.in_ok-name.name in let v = c.in_ok-value.value in
    let k = c.args.cursor.now in let d = c.read_text.new.cursor in let e = c.read_value.new.cursor in
    let n1 = c.in_ok-name.ensures in let v1 = c.in_ok-value.ensures in
    let r = c.requires.ready in let h = c.requires.holder in
    let f = c.read_pair_end.new.cursor in let b3 = c.put.new.self in
    let w = c.in_ok-read_pair_end.ensures in
    let is : b3 ≡ changed (more_part (Named x v)) 0 b2 = done _ c.put.result c.in_ok-kept.field-0 c.in_ok-kept.ensures.ok c.put.ensures.ok ∙ ap (λ i. changed (more_part (Named x v)) i b2) c.requires.first in
    let lessd : left_of d ≤ left_of k = (let m = n1.moves in let s = n1.goes.same_bound in omega arith) in
    let lesse : left_of e ≤ left_of d = (let m = v1.moves in let s = v1.goes.same_bound in omega arith) in
    pair3_ready S.tells S.left S.faults a b b2 t t1 u x v k d e r h n1.continues n1.there v1.answers v1.continues f b3 is w.placed w.moves w.goes.same_bound lessd lesse

pub returns-clause-holder : goal.returns-clause-holder
returns-clause-holder g c =
    let S = g.S.Source in
    let a = c.args.builder.now in let b = c.read_text.new.builder in let b2 = c.read_value.new.builder in
    let t = c.args.tables.now in let t1 = c.read_text.new.tables in let u = c.read_value.new.tables in
    let x = c.in_ok-name.name in let v = c.in_ok-value.value in
    let k = c.args.cursor.now in let d = c.read_text.new.cursor in let e = c.read_value.new.cursor in
    let n1 = c.in_ok-name.ensures in let v1 = c.in_ok-value.ensures in
    let r = c.requires.ready in let h = c.requires.holder in
    let f = c.read_pair_end.new.cursor in let b3 = c.put.new.self in
    let w = c.in_ok-read_pair_end.ensures in
    let is : b3 ≡ changed (more_part (Named x v)) 0 b2 = done _ c.put.result c.in_ok-kept.field-0 c.in_ok-kept.ensures.ok c.put.ensures.ok ∙ ap (λ i. changed (more_part (Named x v)) i b2) c.requires.first in
    let lessd : left_of d ≤ left_of k = (let m = n1.moves in let s = n1.goes.same_bound in omega arith) in
    let lesse : left_of e ≤ left_of d = (let m = v1.moves in let s = v1.goes.same_bound in omega arith) in
    pair3_holder S.tells S.left S.faults a b b2 t t1 u x v k d e r h n1.continues n1.there v1.answers v1.continues f b3 is w.placed w.moves w.goes.same_bound lessd lesse
