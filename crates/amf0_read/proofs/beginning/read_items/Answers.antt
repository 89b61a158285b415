use Rattle.std.proofs.Common.{rules, ◌≡◌, true, false, [], ◌∷◌, List, reverse, sym, ap, ◌∙◌, subst, arith, Some}
use Rattle.amf0_spelling.specs.TableParts0.{shown_tables}
use Rattle.amf0_layout_laws.specs.Layout0State.{state0_of}
use Rattle.amf0_layout_laws.specs.Layout0.{behind0, value0_layout}
use Rattle.amf_wire_fields.specs.Room.{left_of}
use Rattle.amf0_read.specs.declared.frame.Frame.{Frame}
use Rattle.amf0_read.specs.declared.frame.Now.TheVariants as now
use Rattle.amf0_read.specs.declared.frame.Todo.TheVariants.{Items}
use Rattle.amf0_read.specs.declared.frame.Role.TheVariants.{Item}
use Rattle.amf0_read.proofs.Stack0.{pushed}
use Rattle.amf0_read.specs.Frames0.{Holds, OpenedFrom}
use Rattle.amf0_read.specs.Beginnings0.{BeginsBy}
use Rattle.amf0_read.proofs.BeginningStarts0.{beginning_ended, items_open, item_not, item_begins, item_holds, marker_owed, begun_holds}
use Rattle.amf0_read.proofs.NodeStarts0.{array_still_ready, array_items}
use Rattle.amf0_read.specs.declared.node.Start.TheVariants as start
use denote.Enum.Bare.{same_true, sameb}
use Rattle.amf0_spelling.specs.declared.marker.Marker0.TheVariants as marker
use Rattle.amf0_spelling.specs.contracts.marker.Marker0.{the_type}
use Rattle.amf0_read.proofs.beginning.read_items.Goals as goal

pub returns-then-count-ne1-clause-leads : goal.returns-then-count-ne1-clause-leads
returns-then-count-ne1-clause-leads g c = λ n lt.
    let S = g.S.Source in
    let a = c.args.builder.now in let t = shown_tables c.args.tables.now in let k = c.args.cursor.now in
    let b = c.open_array.new.builder in let u = shown_tables c.open_array.new.tables in
    let d = c.read_count.new.cursor in
    let h = c.in_ok-count.ensures in
    let count = c.in_ok-count.count in
    let node = c.in_ok-node.node in
    let o = c.in_ok-node.ensures.ok in
    subst (λ (fs : List Frame). BeginsBy S.tells S.left (behind0 (value0_layout n) n (state0_of a t) (Some marker.Strict)) (0x0A ∷ []) false (now.Open node (Items count)) (reverse fs) (state0_of b u) k d) (sym c.new.ensures.items)
    (items_open S.tells S.left S.faults a b t u k d node c.requires o count h.goes h.answers c.if-count-ne1.true n lt)

pub returns-then-count-ne1-clause-still_ready : goal.returns-then-count-ne1-clause-still_ready
returns-then-count-ne1-clause-still_ready g c =
    let S = g.S.Source in
    let a = c.args.builder.now in let t = shown_tables c.args.tables.now in let k = c.args.cursor.now in
    let b = c.open_array.new.builder in let u = shown_tables c.open_array.new.tables in
    let d = c.read_count.new.cursor in
    let h = c.in_ok-count.ensures in
    let count = c.in_ok-count.count in
    let node = c.in_ok-node.node in
    let o = c.in_ok-node.ensures.ok in
    array_still_ready a b t u k d node.0 c.requires o h.placed (let x = h.goes.same_bound in let y = h.answers.taken in omega arith)

pub returns-then-count-ne1-clause-holds : goal.returns-then-count-ne1-clause-holds
returns-then-count-ne1-clause-holds g c =
    let S = g.S.Source in
    let a = c.args.builder.now in let t = shown_tables c.args.tables.now in let k = c.args.cursor.now in
    let b = c.open_array.new.builder in let u = shown_tables c.open_array.new.tables in
    let d = c.read_count.new.cursor in
    let h = c.in_ok-count.ensures in
    let count = c.in_ok-count.count in
    let node = c.in_ok-node.node in
    let o = c.in_ok-node.ensures.ok in
    subst (λ (fs : List Frame). Holds (left_of d) (now.Open node (Items count)) (reverse fs) b) (sym c.new.ensures.items)
    (begun_holds a b (left_of d) (start.Open node (Items count)) c.requires.amf3.built (array_items a b t u k d node.0 c.requires o (let x = h.goes.same_bound in let y = h.answers.taken in omega arith) count))

pub returns-in_err-item-clause-leads : goal.returns-in_err-item-clause-leads
returns-in_err-item-clause-leads g c = λ n lt.
    let S = g.S.Source in
    let a = c.args.builder.now in let t = shown_tables c.args.tables.now in let k = c.args.cursor.now in
    let b = c.open_array.new.builder in let u = shown_tables c.open_array.new.tables in
    let d = c.read_count.new.cursor in
    let h = c.in_ok-count.ensures in
    let count = c.in_ok-count.count in
    let node = c.in_ok-node.node in
    let o = c.in_ok-node.ensures.ok in
    let e = c.read_marker.new.cursor in
    let one : count ≡ 1 = omega arith in
    let end = c.in_err-item.field-0.0 in
    beginning_ended S.tells S.left S.faults (behind0 (value0_layout n) n (state0_of a t) (Some marker.Strict)) (0x0A ∷ []) (state0_of b u) k e c.from_residual-in_err-item.result end c.from_residual-in_err-item.ensures.1
    (item_not S.tells S.left S.faults a b t u k d node c.requires o count h.goes h.answers one e end c.in_err-item.ensures.answers n lt)

pub returns-clause-leads : goal.returns-clause-leads
returns-clause-leads g c = λ n lt.
    let S = g.S.Source in
    let a = c.args.builder.now in let t = shown_tables c.args.tables.now in let k = c.args.cursor.now in
    let b = c.open_array.new.builder in let u = shown_tables c.open_array.new.tables in
    let d = c.read_count.new.cursor in
    let h = c.in_ok-count.ensures in
    let count = c.in_ok-count.count in
    let node = c.in_ok-node.node in
    let o = c.in_ok-node.ensures.ok in
    let e = c.read_marker.new.cursor in
    let one : count ≡ 1 = omega arith in
    let m = c.in_ok-item.item in
    let w = c.in_ok-item.ensures in
    subst (λ (fs : List Frame). BeginsBy S.tells S.left (behind0 (value0_layout n) n (state0_of a t) (Some marker.Strict)) (0x0A ∷ []) c.eq.result (now.Begun m) fs (state0_of b u) k e) (sym (pushed c.push.new.self.items c.new-frames.result.items c.push.result c.in_ok-push.field-0 (record { node = node; role = Item 0 }) c.in_ok-push.was c.push.ensures.items ∙ ap (λ (l : List Frame). (let f : Frame = record { node = node; role = Item 0 } in f) ∷ reverse l) c.new-frames.ensures.items))
    (item_begins S.tells S.left S.faults a b t u k d node c.requires o count h.goes h.answers one e m w.answers (let p = w.goes.same_bound in let q = w.moves in let r = w.placed.within in omega arith) c.eq.result (λ h. same_true the_type (search rules) m marker.Switch (sym c.eq.ensures ∙ h)) (λ h s. let x : c.eq.result ≡ true = c.eq.ensures ∙ ap (λ v. sameb the_type v marker.Switch) s in cc) n lt)

pub returns-clause-still_ready : goal.returns-clause-still_ready
returns-clause-still_ready g c =
    let S = g.S.Source in
    let a = c.args.builder.now in let t = shown_tables c.args.tables.now in let k = c.args.cursor.now in
    let b = c.open_array.new.builder in let u = shown_tables c.open_array.new.tables in
    let d = c.read_count.new.cursor in
    let h = c.in_ok-count.ensures in
    let count = c.in_ok-count.count in
    let node = c.in_ok-node.node in
    let o = c.in_ok-node.ensures.ok in
    let e = c.read_marker.new.cursor in
    let one : count ≡ 1 = omega arith in
    let m = c.in_ok-item.item in
    let w = c.in_ok-item.ensures in
    marker_owed 1 a b u k d e w.placed w.goes.same_bound w.moves (array_still_ready a b t u k d node.0 c.requires o h.placed (let x = h.goes.same_bound in let y = h.answers.taken in omega arith))

pub returns-clause-holds : goal.returns-clause-holds
returns-clause-holds g c =
    let S = g.S.Source in
    let a = c.args.builder.now in let t = shown_tables c.args.tables.now in let k = c.args.cursor.now in
    let b = c.open_array.new.builder in let u = shown_tables c.open_array.new.tables in
    let d = c.read_count.new.cursor in
    let h = c.in_ok-count.ensures in
    let count = c.in_ok-count.count in
    let node = c.in_ok-node.node in
    let o = c.in_ok-node.ensures.ok in
    let e = c.read_marker.new.cursor in
    let one : count ≡ 1 = omega arith in
    let m = c.in_ok-item.item in
    let w = c.in_ok-item.ensures in
    subst (λ (fs : List Frame). Holds (left_of e) (now.Begun m) fs b) (sym (pushed c.push.new.self.items c.new-frames.result.items c.push.result c.in_ok-push.field-0 (record { node = node; role = Item 0 }) c.in_ok-push.was c.push.ensures.items ∙ ap (λ (l : List Frame). (let f : Frame = record { node = node; role = Item 0 } in f) ∷ reverse l) c.new-frames.ensures.items))
    (item_holds a b (left_of e) (left_of d) node m (let p = w.goes.same_bound in let q = w.moves in let r = w.placed.within in omega arith) c.requires.amf3.built (subst (λ j. OpenedFrom a b (left_of d) node.0 (Items j)) one (array_items a b t u k d node.0 c.requires o (let x = h.goes.same_bound in let y = h.answers.taken in omega arith) count)))
