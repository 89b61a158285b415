use Rattle.std.proofs.Common.{◌≡◌, ◌≤◌, ◌<◌, true, length, sym, ap, ◌∙◌, subst, arith}
use Rattle.amf_graph.specs.declared.part.Part.TheVariants.{Named}
use Rattle.amf_graph.specs.Building.{changed, more_part, stored_at, HasRoom, size_of}
use Rattle.amf0_spelling.specs.TableParts0.{shown_tables}
use Rattle.amf_wire_fields.specs.Room.{left_of}
use Rattle.amf_wire_fields.proofs.LayoutBinds.{passed_on}
use Rattle.amf3_read.proofs.Stack.{done}
use Rattle.amf0_read.specs.Ready0.{Ready0}
use Rattle.amf_sol.proofs.HolderPut.{holder_there, holder_open, holder_room, not_full}
use Rattle.amf_sol.proofs.PairReads.{name0_ended, value0_ended, end0_ended, pair0_read, name0_ready, pair0_grows, pair0_text, pair0_names, pair0_ready, pair0_holder}
use Rattle.amf_sol.proofs.pairs.read_pair0.Goals as goal

pub returns-in_err-name-clause-answers : goal.returns-in_err-name-clause-answers
returns-in_err-name-clause-answers g c = λ n name lt.
    let S = g.S.Source in
    let t = shown_tables c.args.tables.now in
    let end = c.in_err-name.field-0.0 in
    passed_on S.tells S.left S.faults _ _ c.args.cursor.now c.read_short_text.new.cursor c.from_residual.result end c.from_residual.ensures.1
    (name0_ended S.tells S.left S.faults c.args.builder.now t n name c.args.cursor.now c.read_short_text.new.cursor end (c.in_err-name.ensures.answers t c.requires.ready.amf3.tables))

pub returns-in_err-value-clause-answers : goal.returns-in_err-value-clause-answers
returns-in_err-value-clause-answers g c = λ n name lt.
    let S = g.S.Source in
    let t = shown_tables c.args.tables.now in
    let x = c.in_ok-name.name in
    let d = c.read_short_text.new.cursor in
    let e = c.read_value0.new.cursor in
    let h = c.in_ok-name.ensures in
    let end = c.in_err-value.field-0.0 in
    let r = c.from_residual-in_err-value in
    passed_on S.tells S.left S.faults _ _ c.args.cursor.now e r.result end r.ensures.1
    (value0_ended S.tells S.left S.faults c.args.builder.now t n name c.args.cursor.now c.read_short_text.new.builder x d h.goes (h.answers t c.requires.ready.amf3.tables) e end
    (c.in_err-value.ensures.answers n (let m = h.moves in let s = h.goes.same_bound in omega arith)))

pub returns-in_err-read_pair_end-clause-answers : goal.returns-in_err-read_pair_end-clause-answers
returns-in_err-read_pair_end-clause-answers g c = λ n name lt.
    let S = g.S.Source in
    let t = shown_tables c.args.tables.now in
    let u = shown_tables c.read_value0.new.tables in
    let x = c.in_ok-name.name in
    let d = c.read_short_text.new.cursor in
    let e = c.read_value0.new.cursor in
    let f = c.read_pair_end.new.cursor in
    let h = c.in_ok-name.ensures in
    let k = c.in_ok-value.ensures in
    let end = c.in_err-read_pair_end.field-0.0 in
    let r = c.from_residual-in_err-read_pair_end in
    passed_on S.tells S.left S.faults _ _ c.args.cursor.now f r.result end r.ensures.1
    (end0_ended S.tells S.left S.faults c.args.builder.now t n name c.args.cursor.now c.read_short_text.new.builder x d h.goes (h.answers t c.requires.ready.amf3.tables) c.read_value0.new.builder u c.in_ok-value.value e k.goes
    (k.answers n (let m = h.moves in let s = h.goes.same_bound in omega arith)) f end c.in_err-read_pair_end.ensures.answers)

pub put-requires-clause-there : goal.put-requires-clause-there
put-requires-clause-there g c =
    let S = g.S.Source in
    let a = c.args.builder.now in let b = c.read_short_text.new.builder in let b2 = c.read_value0.new.builder in
    let t = shown_tables c.args.tables.now in let u = shown_tables c.read_value0.new.tables in
    let x = c.in_ok-name.name in let v = c.in_ok-value.value in
    let k = c.args.cursor.now in let d = c.read_short_text.new.cursor in let e = c.read_value0.new.cursor in
    let n1 = c.in_ok-name.ensures in let v1 = c.in_ok-value.ensures in
    let r = c.requires.ready in let h = c.requires.holder in
    let rb : Ready0 0 b t d = name0_ready a b t x.0 k d r c.is_built.ensures.built n1.kept n1.moves n1.goes.same_bound n1.placed in
    let grows = pair0_grows S.tells S.left S.faults a b b2 t u x v k d e r h n1.kept rb n1.moves n1.goes.same_bound v1.answers v1.still_ready v1.goes.same_bound in
    subst (λ i. i < length b2.nodes) (sym c.requires.first) (holder_there a b2 (left_of k) h grows r.amf3.built)

pub put-requires-clause-opened : goal.put-requires-clause-opened
put-requires-clause-opened g c =
    let S = g.S.Source in
    let a = c.args.builder.now in let b = c.read_short_text.new.builder in let b2 = c.read_value0.new.builder in
    let t = shown_tables c.args.tables.now in let u = shown_tables c.read_value0.new.tables in
    let x = c.in_ok-name.name in let v = c.in_ok-value.value in
    let k = c.args.cursor.now in let d = c.read_short_text.new.cursor in let e = c.read_value0.new.cursor in
    let n1 = c.in_ok-name.ensures in let v1 = c.in_ok-value.ensures in
    let r = c.requires.ready in let h = c.requires.holder in
    let rb : Ready0 0 b t d = name0_ready a b t x.0 k d r c.is_built.ensures.built n1.kept n1.moves n1.goes.same_bound n1.placed in
    let grows = pair0_grows S.tells S.left S.faults a b b2 t u x v k d e r h n1.kept rb n1.moves n1.goes.same_bound v1.answers v1.still_ready v1.goes.same_bound in
    subst (λ i. (stored_at b2 i).is_open ≡ true) (sym c.requires.first) (holder_open a b2 (left_of k) h grows r.amf3.built)

pub put-requires-clause-room : goal.put-requires-clause-room
put-requires-clause-room g c =
    let S = g.S.Source in
    let a = c.args.builder.now in let b = c.read_short_text.new.builder in let b2 = c.read_value0.new.builder in
    let t = shown_tables c.args.tables.now in let u = shown_tables c.read_value0.new.tables in
    let x = c.in_ok-name.name in let v = c.in_ok-value.value in
    let k = c.args.cursor.now in let d = c.read_short_text.new.cursor in let e = c.read_value0.new.cursor in
    let n1 = c.in_ok-name.ensures in let v1 = c.in_ok-value.ensures in
    let r = c.requires.ready in let h = c.requires.holder in
    let rb : Ready0 0 b t d = name0_ready a b t x.0 k d r c.is_built.ensures.built n1.kept n1.moves n1.goes.same_bound n1.placed in
    let grows = pair0_grows S.tells S.left S.faults a b b2 t u x v k d e r h n1.kept rb n1.moves n1.goes.same_bound v1.answers v1.still_ready v1.goes.same_bound in
    subst (λ i. HasRoom b2 (stored_at b2 i) (Named x v)) (sym c.requires.first) (holder_room a b2 (left_of k) h grows r.amf3.built x v)

pub put-requires-clause-names : goal.put-requires-clause-names
put-requires-clause-names g c =
    let S = g.S.Source in
    let a = c.args.builder.now in let b = c.read_short_text.new.builder in let b2 = c.read_value0.new.builder in
    let t = shown_tables c.args.tables.now in let u = shown_tables c.read_value0.new.tables in
    let x = c.in_ok-name.name in let v = c.in_ok-value.value in
    let k = c.args.cursor.now in let d = c.read_short_text.new.cursor in let e = c.read_value0.new.cursor in
    let n1 = c.in_ok-name.ensures in let v1 = c.in_ok-value.ensures in
    let r = c.requires.ready in let h = c.requires.holder in
    let rb : Ready0 0 b t d = name0_ready a b t x.0 k d r c.is_built.ensures.built n1.kept n1.moves n1.goes.same_bound n1.placed in
    (pair0_text S.tells S.left S.faults a b b2 t u x v k d e r h n1.kept rb n1.moves n1.goes.same_bound v1.answers v1.still_ready v1.goes.same_bound, pair0_names S.tells S.left S.faults a b b2 t u x v k d e r h n1.kept rb n1.moves n1.goes.same_bound v1.answers v1.still_ready v1.goes.same_bound)

pub kept-requires : goal.kept-requires
kept-requires g c =
    let S = g.S.Source in
    let a = c.args.builder.now in let b = c.read_short_text.new.builder in let b2 = c.read_value0.new.builder in
    let t = shown_tables c.args.tables.now in let u = shown_tables c.read_value0.new.tables in
    let x = c.in_ok-name.name in let v = c.in_ok-value.value in
    let k = c.args.cursor.now in let d = c.read_short_text.new.cursor in let e = c.read_value0.new.cursor in
    let n1 = c.in_ok-name.ensures in let v1 = c.in_ok-value.ensures in
    let r = c.requires.ready in let h = c.requires.holder in
    let rb : Ready0 0 b t d = name0_ready a b t x.0 k d r c.is_built.ensures.built n1.kept n1.moves n1.goes.same_bound n1.placed in
    let grows = pair0_grows S.tells S.left S.faults a b b2 t u x v k d e r h n1.kept rb n1.moves n1.goes.same_bound v1.answers v1.still_ready v1.goes.same_bound in
    λ w. not_full a b2 (left_of k) h grows r.amf3.built (subst (λ i. 268435455 ≤ size_of (stored_at b2 i)) c.requires.first (c.put.ensures.full.0 w))

pub returns-clause-answers : goal.returns-clause-answers
returns-clause-answers g c = λ n name lt.
    let S = g.S.Source in
    let a = c.args.builder.now in let b = c.read_short_text.new.builder in let b2 = c.read_value0.new.builder in
    let t = shown_tables c.args.tables.now in let u = shown_tables c.read_value0.new.tables in
    let x = c.in_ok-name.name in let v = c.in_ok-value.value in
    let k = c.args.cursor.now in let d = c.read_short_text.new.cursor in let e = c.read_value0.new.cursor in
    let n1 = c.in_ok-name.ensures in let v1 = c.in_ok-value.ensures in
    let r = c.requires.ready in let h = c.requires.holder in
    let rb : Ready0 0 b t d = name0_ready a b t x.0 k d r c.is_built.ensures.built n1.kept n1.moves n1.goes.same_bound n1.placed in
    let f = c.read_pair_end.new.cursor in let b3 = c.put.new.self in
    let w = c.in_ok-read_pair_end.ensures in
    let is : b3 ≡ changed (more_part (Named x v)) 0 b2 = done _ c.put.result c.in_ok-kept.field-0 c.in_ok-kept.ensures.ok c.put.ensures.ok ∙ ap (λ i. changed (more_part (Named x v)) i b2) c.requires.first in
    pair0_read S.tells S.left S.faults a t n name k b x d n1.goes (n1.answers t r.amf3.tables) b2 u v e v1.goes (v1.answers n (let m = n1.moves in let s = n1.goes.same_bound in omega arith)) f b3 w.goes w.answers w.placed is

pub returns-clause-ready : goal.returns-clause-ready
returns-clause-ready g c =
    let S = g.S.Source in
    let a = c.args.builder.now in let b = c.read_short_text.new.builder in let b2 = c.read_value0.new.builder in
    let t = shown_tables c.args.tables.now in let u = shown_tables c.read_value0.new.tables in
    let x = c.in_ok-name.name in let v = c.in_ok-value.value in
    let k = c.args.cursor.now in let d = c.read_short_text.new.cursor in let e = c.read_value0.new.cursor in
    let n1 = c.in_ok-name.ensures in let v1 = c.in_ok-value.ensures in
    let r = c.requires.ready in let h = c.requires.holder in
    let rb : Ready0 0 b t d = name0_ready a b t x.0 k d r c.is_built.ensures.built n1.kept n1.moves n1.goes.same_bound n1.placed in
    let f = c.read_pair_end.new.cursor in let b3 = c.put.new.self in
    let w = c.in_ok-read_pair_end.ensures in
    let is : b3 ≡ changed (more_part (Named x v)) 0 b2 = done _ c.put.result c.in_ok-kept.field-0 c.in_ok-kept.ensures.ok c.put.ensures.ok ∙ ap (λ i. changed (more_part (Named x v)) i b2) c.requires.first in
    pair0_ready S.tells S.left S.faults a b b2 t u x v k d e r h n1.kept rb n1.moves n1.goes.same_bound v1.answers v1.still_ready v1.goes.same_bound f b3 is w.placed w.moves w.goes.same_bound

pub returns-clause-holder : goal.returns-clause-holder
returns-clause-holder g c =
    let S = g.S.Source in
    let a = c.args.builder.now in let b = c.read_short_text.new.builder in let b2 = c.read_value0.new.builder in
    let t = shown_tables c.args.tables.now in let u = shown_tables c.read_value0.new.tables in
    let x = c.in_ok-name.name in let v = c.in_ok-value.value in
    let k = c.args.cursor.now in let d = c.read_short_text.new.cursor in let e = c.read_value0.new.cursor in
    let n1 = c.in_ok-name.ensures in let v1 = c.in_ok-value.ensures in
    let r = c.requires.ready in let h = c.requires.holder in
    let rb : Ready0 0 b t d = name0_ready a b t x.0 k d r c.is_built.ensures.built n1.kept n1.moves n1.goes.same_bound n1.placed in
    let f = c.read_pair_end.new.cursor in let b3 = c.put.new.self in
    let w = c.in_ok-read_pair_end.ensures in
    let is : b3 ≡ changed (more_part (Named x v)) 0 b2 = done _ c.put.result c.in_ok-kept.field-0 c.in_ok-kept.ensures.ok c.put.ensures.ok ∙ ap (λ i. changed (more_part (Named x v)) i b2) c.requires.first in
    pair0_holder S.tells S.left S.faults a b b2 t u x v k d e r h n1.kept rb n1.moves n1.goes.same_bound v1.answers v1.still_ready v1.goes.same_bound f b3 is w.placed w.moves w.goes.same_bound
