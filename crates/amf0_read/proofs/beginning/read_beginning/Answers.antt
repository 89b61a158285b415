use Rattle.std.proofs.Common.{false, [], List, reverse, sym, ap, ◌∙◌, subst, arith}
use Rattle.amf0_spelling.specs.TableParts0.{shown_tables}
use Rattle.amf0_layout_laws.specs.Layout0State.{state0_of}
use Rattle.amf0_layout_laws.specs.Layout0.{value0_layout}
use Rattle.amf_wire_fields.specs.Room.{left_of}
use Rattle.amf0_read.specs.declared.frame.Frame.{Frame}
use Rattle.amf0_read.specs.declared.frame.Now.{Now}
use Rattle.amf0_read.specs.Ready0.{StillReady0}
use Rattle.amf0_read.specs.Frames0.{Holds, owed}
use Rattle.amf0_read.specs.Beginnings0.{BeginsBy}
use Rattle.amf0_read.proofs.BeginningStarts0.{beginning_ended, first_ended, beginning_items, front_not, front_other, marker_still_ready, begun_holds, owes_nothing}
use Rattle.amf0_read.proofs.beginning.read_beginning.Goals as goal

pub returns-in_err-marker-clause-leads : goal.returns-in_err-marker-clause-leads
returns-in_err-marker-clause-leads g c = λ n lt.
    let S = g.S.Source in
    let a = c.args.builder.now in let t = shown_tables c.args.tables.now in let k = c.args.cursor.now in
    let s = state0_of a t in
    let e = c.in_err-marker.field-0.0 in
    beginning_ended S.tells S.left S.faults (value0_layout n false s) [] s k c.read_marker.new.cursor c.from_residual.result e c.from_residual.ensures.1 (first_ended S.tells S.left S.faults n s k c.read_marker.new.cursor e lt c.in_err-marker.ensures.answers)

pub returns-in-Strict-clause-leads : goal.returns-in-Strict-clause-leads
returns-in-Strict-clause-leads g c = λ n lt.
    let S = g.S.Source in
    let a = c.args.builder.now in let t = shown_tables c.args.tables.now in let k = c.args.cursor.now in
    let m = c.in_ok-marker.marker in
    let h = c.in_ok-marker.ensures in
    let d = c.read_marker.new.cursor in
    beginning_items S.tells S.left S.faults (state0_of a t) k d m h.goes h.answers h.moves c.in-Strict.is (state0_of c.read_items.new.builder (shown_tables c.read_items.new.tables)) c.read_items.new.cursor c.read_items.result c.read_items.ensures.leads n lt

pub returns-in_err-start-in_default-clause-leads : goal.returns-in_err-start-in_default-clause-leads
returns-in_err-start-in_default-clause-leads g c = λ n lt.
    let S = g.S.Source in
    let a = c.args.builder.now in let t = shown_tables c.args.tables.now in let k = c.args.cursor.now in
    let m = c.in_ok-marker.marker in
    let h = c.in_ok-marker.ensures in
    let d = c.read_marker.new.cursor in
    let z = state0_of c.start_apart.new.builder (shown_tables c.start_apart.new.tables) in
    let e = c.in_err-start-in_default.field-0.0 in
    beginning_ended S.tells S.left S.faults (value0_layout n false (state0_of a t)) [] z k c.start_apart.new.cursor c.from_residual-in_err-start-in_default.result e c.from_residual-in_err-start-in_default.ensures.1
    (front_not S.tells S.left S.faults (state0_of a t) k d m h.goes h.answers h.moves z c.start_apart.new.cursor e c.in_err-start-in_default.ensures.starts n lt)

pub returns-in_ok-start-in_default-clause-leads : goal.returns-in_ok-start-in_default-clause-leads
returns-in_ok-start-in_default-clause-leads g c = λ n lt.
    let S = g.S.Source in
    let a = c.args.builder.now in let t = shown_tables c.args.tables.now in let k = c.args.cursor.now in
    let m = c.in_ok-marker.marker in
    let h = c.in_ok-marker.ensures in
    let d = c.read_marker.new.cursor in
    let z = state0_of c.start_apart.new.builder (shown_tables c.start_apart.new.tables) in
    let x = c.in_ok-start-in_default.start in
    let e = c.in_ok-start-in_default.ensures in
    subst (λ (fs : List Frame). BeginsBy S.tells S.left (value0_layout n false (state0_of a t)) [] false c.now.result (reverse fs) z k c.start_apart.new.cursor) (sym c.new.ensures.items)
    (subst (λ (w : Now). BeginsBy S.tells S.left (value0_layout n false (state0_of a t)) [] false w [] z k c.start_apart.new.cursor) (sym c.now.ensures)
    (front_other S.tells S.left S.faults (state0_of a t) k d m h.goes h.answers h.moves c.in_default.not-Strict z c.start_apart.new.cursor (let p = e.goes.same_bound in let q = e.stays in omega arith) x e.starts n lt))

pub returns-in_ok-start-in_default-clause-still_ready : goal.returns-in_ok-start-in_default-clause-still_ready
returns-in_ok-start-in_default-clause-still_ready g c =
    let S = g.S.Source in
    let a = c.args.builder.now in let t = shown_tables c.args.tables.now in let k = c.args.cursor.now in
    let m = c.in_ok-marker.marker in
    let h = c.in_ok-marker.ensures in
    let d = c.read_marker.new.cursor in
    let x = c.in_ok-start-in_default.start in
    let e = c.in_ok-start-in_default.ensures in
    subst (λ o. StillReady0 o 0 a c.start_apart.new.builder (shown_tables c.start_apart.new.tables) k c.start_apart.new.cursor) (sym (ap owed c.now.ensures ∙ owes_nothing x))
    (marker_still_ready 0 a c.start_apart.new.builder (shown_tables c.start_apart.new.tables) k d c.start_apart.new.cursor h.placed h.goes.same_bound h.moves e.still_ready)

pub returns-in_ok-start-in_default-clause-holds : goal.returns-in_ok-start-in_default-clause-holds
returns-in_ok-start-in_default-clause-holds g c =
    let S = g.S.Source in
    let a = c.args.builder.now in let t = shown_tables c.args.tables.now in let k = c.args.cursor.now in
    let x = c.in_ok-start-in_default.start in
    let e = c.in_ok-start-in_default.ensures in
    let b = c.start_apart.new.builder in
    subst (λ (fs : List Frame). Holds (left_of c.start_apart.new.cursor) c.now.result (reverse fs) b) (sym c.new.ensures.items)
    (subst (λ (w : Now). Holds (left_of c.start_apart.new.cursor) w [] b) (sym c.now.ensures) (begun_holds a b (left_of c.start_apart.new.cursor) x c.requires.amf3.built e.holds))
