use Rattle.std.proofs.Common.{◌≡◌, suc, ◌-◌, true, false, eqb, length, Ok, refl, sym, ap, ◌∙◌, subst, arith, Some}
use Rattle.std.proofs.lemmas.Grind.{common_steps}
use Rattle.amf_graph.specs.Arena.{head_content, text_at}
use Rattle.amf_graph.specs.Building.{stored_at}
use Rattle.amf_wire_fields.specs.Room.{left_of}
use Rattle.amf0_spelling.specs.TableParts0.{shown_tables}
use Rattle.amf0_spelling.specs.Segments0.{is_empty}
use Rattle.amf0_layout_laws.specs.Layout0State.{state0_of}
use Rattle.amf0_layout_laws.specs.Layout0.{value0_layout}
use Rattle.amf0_read.specs.declared.frame.Todo.TheVariants.{Items, Pairs}
use Rattle.amf0_read.specs.declared.frame.Role.TheVariants.{Item, Named}
use Rattle.amf0_read.specs.declared.fill.Step.TheVariants as step
use Rattle.amf0_read.specs.Frames0.{todo, Lacks, GoesOn}
use Rattle.amf0_read.proofs.GoesOn0.{item_goes, item_ends, name_ends, pair_goes, pair_ends, pairs_closed, items_closed}
use Rattle.amf0_read.proofs.TextReads0.{name_still_ready, name_waits}
use Rattle.amf0_read.proofs.Closes0.{no_items, shut_still_ready, shut_holds, shut_fits, item_waits, end_ready, end_opened, end_lacks, end_shut, end_holds, step_ended, empty_tells}
use Rattle.amf0_read.proofs.fill.go_on.Goals as goal

pub returns-in_err-marker-in-Items-clause-answers : goal.returns-in_err-marker-in-Items-clause-answers
returns-in_err-marker-in-Items-clause-answers g c = λ f lt.
    let S = g.S.Source in
    let a = c.args.builder.now in let t = shown_tables c.args.tables.now in let i = c.args.node.0 in let k = c.args.cursor.now in
    let n = c.in-Items.more - 1 in
    let some : c.in-Items.more ≡ suc (c.in-Items.more - 1) = grind (arith, common_steps, c.in-Items.more-test) in
    let is : c.args.todo ≡ Items (suc n) = c.in-Items.is ∙ ap Items some in
    let d = c.read_marker.new.cursor in
    subst (λ p. GoesOn S.tells S.left (todo (value0_layout f.values) f.pairs i p (state0_of a t)) i (state0_of a t) k d c.from_residual.result) (sym is)
    (step_ended S.tells S.left (todo (value0_layout f.values) f.pairs i (Items (suc n)) (state0_of a t)) i (state0_of a t) k d c.from_residual.result c.in_err-marker-in-Items.field-0.0 c.from_residual.ensures.1
    (item_ends S.tells S.left S.faults i n a t k d c.in_err-marker-in-Items.field-0.0 c.in_err-marker-in-Items.ensures.answers f lt))

pub returns-in_ok-marker-in-Items-clause-answers : goal.returns-in_ok-marker-in-Items-clause-answers
returns-in_ok-marker-in-Items-clause-answers g c = λ f lt.
    let S = g.S.Source in
    let a = c.args.builder.now in let t = shown_tables c.args.tables.now in let i = c.args.node.0 in let k = c.args.cursor.now in
    let n = c.in-Items.more - 1 in
    let some : c.in-Items.more ≡ suc (c.in-Items.more - 1) = grind (arith, common_steps, c.in-Items.more-test) in
    let is : c.args.todo ≡ Items (suc n) = c.in-Items.is ∙ ap Items some in
    let d = c.read_marker.new.cursor in
    let m = c.in_ok-marker-in-Items.marker in
    let e = c.in_ok-marker-in-Items.ensures in
    subst (λ p. GoesOn S.tells S.left (todo (value0_layout f.values) f.pairs i p (state0_of a t)) i (state0_of a t) k d (Ok (step.Wait (Item n) m))) (sym is)
    (item_goes S.tells S.left S.faults i n a t k d m e.answers (let p = e.moves in let q = e.goes.same_bound in let w = e.placed.within in omega arith) f lt)

pub returns-in_ok-marker-in-Items-clause-holds : goal.returns-in_ok-marker-in-Items-clause-holds
returns-in_ok-marker-in-Items-clause-holds g c =
    let S = g.S.Source in
    let a = c.args.builder.now in let t = shown_tables c.args.tables.now in let i = c.args.node.0 in let k = c.args.cursor.now in
    let n = c.in-Items.more - 1 in
    let some : c.in-Items.more ≡ suc (c.in-Items.more - 1) = grind (arith, common_steps, c.in-Items.more-test) in
    let is : c.args.todo ≡ Items (suc n) = c.in-Items.is ∙ ap Items some in
    let d = c.read_marker.new.cursor in
    item_waits a i n c.in_ok-marker-in-Items.marker (subst (λ p. Lacks (head_content a (stored_at a i).head) (stored_at a i) p) is c.requires.lacks)

pub returns-in-Items-eq0-clause-answers : goal.returns-in-Items-eq0-clause-answers
returns-in-Items-eq0-clause-answers g c = λ f lt.
    let S = g.S.Source in
    let a = c.args.builder.now in let t = shown_tables c.args.tables.now in let i = c.args.node.0 in let k = c.args.cursor.now in
    let b = c.close_node.new.self in
    let zero : c.in-Items-eq0.field-0 ≡ 0 = grind (arith, common_steps, c.in-Items-eq0.field-0-test) in
    let is : c.args.todo ≡ Items 0 = c.in-Items-eq0.is ∙ ap Items zero in
    subst (λ p. GoesOn S.tells S.left (todo (value0_layout f.values) f.pairs i p (state0_of a t)) i (state0_of b t) k k (Ok step.Closed)) (sym is)
    (items_closed S.tells S.left S.faults i a b t k c.requires.ready.amf3.placed c.close_node.ensures f lt)

pub returns-in-Items-eq0-clause-still_ready : goal.returns-in-Items-eq0-clause-still_ready
returns-in-Items-eq0-clause-still_ready g c =
    let S = g.S.Source in
    let a = c.args.builder.now in let t = shown_tables c.args.tables.now in let i = c.args.node.0 in let k = c.args.cursor.now in
    let b = c.close_node.new.self in
    let zero : c.in-Items-eq0.field-0 ≡ 0 = grind (arith, common_steps, c.in-Items-eq0.field-0-test) in
    let is : c.args.todo ≡ Items 0 = c.in-Items-eq0.is ∙ ap Items zero in
    shut_still_ready i a t k c.requires.ready c.requires.opened (no_items (head_content a (stored_at a i).head) (stored_at a i) (subst (λ p. Lacks (head_content a (stored_at a i).head) (stored_at a i) p) is c.requires.lacks)) b c.close_node.ensures

pub returns-in-Items-eq0-clause-holds : goal.returns-in-Items-eq0-clause-holds
returns-in-Items-eq0-clause-holds g c =
    let S = g.S.Source in
    let a = c.args.builder.now in let t = shown_tables c.args.tables.now in let i = c.args.node.0 in let k = c.args.cursor.now in
    let b = c.close_node.new.self in
    let zero : c.in-Items-eq0.field-0 ≡ 0 = grind (arith, common_steps, c.in-Items-eq0.field-0-test) in
    let is : c.args.todo ≡ Items 0 = c.in-Items-eq0.is ∙ ap Items zero in
    shut_holds i a t k c.requires.ready c.requires.opened (no_items (head_content a (stored_at a i).head) (stored_at a i) (subst (λ p. Lacks (head_content a (stored_at a i).head) (stored_at a i) p) is c.requires.lacks)) b c.close_node.ensures

pub returns-in_err-name-in-Pairs-clause-answers : goal.returns-in_err-name-in-Pairs-clause-answers
returns-in_err-name-in-Pairs-clause-answers g c = λ f lt.
    let S = g.S.Source in
    let a = c.args.builder.now in let t = shown_tables c.args.tables.now in let i = c.args.node.0 in let k = c.args.cursor.now in
    let y = c.read_short_text.new.builder in let d = c.read_short_text.new.cursor in
    let is : c.args.todo ≡ Pairs = c.in-Pairs.is in
    subst (λ p. GoesOn S.tells S.left (todo (value0_layout f.values) f.pairs i p (state0_of a t)) i (state0_of y t) k d c.from_residual-in_err-name-in-Pairs.result) (sym is)
    (step_ended S.tells S.left (todo (value0_layout f.values) f.pairs i Pairs (state0_of a t)) i (state0_of y t) k d c.from_residual-in_err-name-in-Pairs.result c.in_err-name-in-Pairs.field-0.0 c.from_residual-in_err-name-in-Pairs.ensures.1
    (name_ends S.tells S.left S.faults i a y t k d c.in_err-name-in-Pairs.field-0.0 (c.in_err-name-in-Pairs.ensures.answers t c.requires.ready.amf3.tables) f lt))

pub returns-in_err-marker-in-Pairs-clause-answers : goal.returns-in_err-marker-in-Pairs-clause-answers
returns-in_err-marker-in-Pairs-clause-answers g c = λ f lt.
    let S = g.S.Source in
    let a = c.args.builder.now in let t = shown_tables c.args.tables.now in let i = c.args.node.0 in let k = c.args.cursor.now in
    let y = c.read_short_text.new.builder in let d = c.read_short_text.new.cursor in
    let is : c.args.todo ≡ Pairs = c.in-Pairs.is in
    let x = c.in_ok-name-in-Pairs.name in
    let e = c.in_ok-name-in-Pairs.ensures in
    let h = c.read_marker-then-not-is_empty.new.cursor in
    let test : eqb (length c.text_of.result.now) 0 ≡ false = cc in
    let named : is_empty (text_at y x.0) ≡ false = empty_tells (text_at y x.0) c.text_of.result.now false (sym c.text_of.ensures) test in
    let m = c.in_err-marker-in-Pairs.ensures in
    let end = c.in_err-marker-in-Pairs.field-0.0 in
    subst (λ p. GoesOn S.tells S.left (todo (value0_layout f.values) f.pairs i p (state0_of a t)) i (state0_of y t) k h c.from_residual-in_err-marker-in-Pairs.result) (sym is)
    (step_ended S.tells S.left (todo (value0_layout f.values) f.pairs i Pairs (state0_of a t)) i (state0_of y t) k h c.from_residual-in_err-marker-in-Pairs.result end c.from_residual-in_err-marker-in-Pairs.ensures.1
    (pair_ends S.tells S.left S.faults i a y t k d x e.goes (e.answers t c.requires.ready.amf3.tables) false named h end m.answers f lt))

pub returns-in_err-marker-in-Pairs-2-clause-answers : goal.returns-in_err-marker-in-Pairs-2-clause-answers
returns-in_err-marker-in-Pairs-2-clause-answers g c = λ f lt.
    let S = g.S.Source in
    let a = c.args.builder.now in let t = shown_tables c.args.tables.now in let i = c.args.node.0 in let k = c.args.cursor.now in
    let y = c.read_short_text.new.builder in let d = c.read_short_text.new.cursor in
    let is : c.args.todo ≡ Pairs = c.in-Pairs.is in
    let x = c.in_ok-name-in-Pairs.name in
    let e = c.in_ok-name-in-Pairs.ensures in
    let h = c.read_marker_or_end.new.cursor in
    let test : eqb (length c.text_of.result.now) 0 ≡ true = cc in
    let named : is_empty (text_at y x.0) ≡ true = empty_tells (text_at y x.0) c.text_of.result.now true (sym c.text_of.ensures) test in
    let m = c.in_err-marker-in-Pairs-2.ensures in
    let end = c.in_err-marker-in-Pairs-2.field-0.0 in
    subst (λ p. GoesOn S.tells S.left (todo (value0_layout f.values) f.pairs i p (state0_of a t)) i (state0_of y t) k h c.from_residual-in_err-marker-in-Pairs-2.result) (sym is)
    (step_ended S.tells S.left (todo (value0_layout f.values) f.pairs i Pairs (state0_of a t)) i (state0_of y t) k h c.from_residual-in_err-marker-in-Pairs-2.result end c.from_residual-in_err-marker-in-Pairs-2.ensures.1
    (pair_ends S.tells S.left S.faults i a y t k d x e.goes (e.answers t c.requires.ready.amf3.tables) true named h end m.answers f lt))

pub returns-then-not-is_empty-clause-answers : goal.returns-then-not-is_empty-clause-answers
returns-then-not-is_empty-clause-answers g c = λ f lt.
    let S = g.S.Source in
    let a = c.args.builder.now in let t = shown_tables c.args.tables.now in let i = c.args.node.0 in let k = c.args.cursor.now in
    let y = c.read_short_text.new.builder in let d = c.read_short_text.new.cursor in
    let is : c.args.todo ≡ Pairs = c.in-Pairs.is in
    let x = c.in_ok-name-in-Pairs.name in
    let e = c.in_ok-name-in-Pairs.ensures in
    let h = c.read_marker-then-not-is_empty.new.cursor in
    let test : eqb (length c.text_of.result.now) 0 ≡ false = cc in
    let named : is_empty (text_at y x.0) ≡ false = empty_tells (text_at y x.0) c.text_of.result.now false (sym c.text_of.ensures) test in
    let m = c.in_ok-marker-in-Pairs.ensures in
    let w = c.in_ok-marker-in-Pairs.marker in
    subst (λ p. GoesOn S.tells S.left (todo (value0_layout f.values) f.pairs i p (state0_of a t)) i (state0_of y t) k h (Ok (step.Wait (Named x) w))) (sym is)
    (pair_goes S.tells S.left S.faults i a y t k d x e.goes (e.answers t c.requires.ready.amf3.tables) false named h (let p = e.goes.same_bound in let q = e.moves in let r = m.moves in let s = m.goes.same_bound in let w = m.placed.within in omega arith) (λ m. Some m) w w refl m.answers f lt)

pub returns-then-not-is_empty-clause-still_ready : goal.returns-then-not-is_empty-clause-still_ready
returns-then-not-is_empty-clause-still_ready g c =
    let S = g.S.Source in
    let a = c.args.builder.now in let t = shown_tables c.args.tables.now in let i = c.args.node.0 in let k = c.args.cursor.now in
    let y = c.read_short_text.new.builder in let d = c.read_short_text.new.cursor in
    let is : c.args.todo ≡ Pairs = c.in-Pairs.is in
    let x = c.in_ok-name-in-Pairs.name in
    let e = c.in_ok-name-in-Pairs.ensures in
    let h = c.read_marker-then-not-is_empty.new.cursor in
    let m = c.in_ok-marker-in-Pairs.ensures in
    name_still_ready a y t x.0 k d h c.requires.ready c.is_built.ensures.built e.kept e.moves m.moves (m.goes.same_bound ∙ e.goes.same_bound) m.placed

pub returns-then-not-is_empty-clause-holds : goal.returns-then-not-is_empty-clause-holds
returns-then-not-is_empty-clause-holds g c =
    let S = g.S.Source in
    let a = c.args.builder.now in let t = shown_tables c.args.tables.now in let i = c.args.node.0 in let k = c.args.cursor.now in
    let y = c.read_short_text.new.builder in let d = c.read_short_text.new.cursor in
    let is : c.args.todo ≡ Pairs = c.in-Pairs.is in
    let x = c.in_ok-name-in-Pairs.name in
    let e = c.in_ok-name-in-Pairs.ensures in
    name_waits a y i (left_of k) x c.in_ok-marker-in-Pairs.marker c.requires.opened c.requires.ready.amf3.built e.kept (subst (λ p. Lacks (head_content a (stored_at a i).head) (stored_at a i) p) is c.requires.lacks)

pub returns-in-Some-clause-answers : goal.returns-in-Some-clause-answers
returns-in-Some-clause-answers g c = λ f lt.
    let S = g.S.Source in
    let a = c.args.builder.now in let t = shown_tables c.args.tables.now in let i = c.args.node.0 in let k = c.args.cursor.now in
    let y = c.read_short_text.new.builder in let d = c.read_short_text.new.cursor in
    let is : c.args.todo ≡ Pairs = c.in-Pairs.is in
    let x = c.in_ok-name-in-Pairs.name in
    let e = c.in_ok-name-in-Pairs.ensures in
    let h = c.read_marker_or_end.new.cursor in
    let test : eqb (length c.text_of.result.now) 0 ≡ true = cc in
    let named : is_empty (text_at y x.0) ≡ true = empty_tells (text_at y x.0) c.text_of.result.now true (sym c.text_of.ensures) test in
    let m = c.in_ok-marker-in-Pairs-2.ensures in
    let w = c.in-Some.marker in
    subst (λ p. GoesOn S.tells S.left (todo (value0_layout f.values) f.pairs i p (state0_of a t)) i (state0_of y t) k h (Ok (step.Wait (Named x) w))) (sym is)
    (pair_goes S.tells S.left S.faults i a y t k d x e.goes (e.answers t c.requires.ready.amf3.tables) true named h (let p = e.goes.same_bound in let q = e.moves in let r = m.moves in let s = m.goes.same_bound in let w = m.placed.within in omega arith) (λ m. m) c.in_ok-marker-in-Pairs-2.field-0 w (ap (λ m. m) c.in-Some.is) m.answers f lt)

pub returns-in-Some-clause-still_ready : goal.returns-in-Some-clause-still_ready
returns-in-Some-clause-still_ready g c =
    let S = g.S.Source in
    let a = c.args.builder.now in let t = shown_tables c.args.tables.now in let i = c.args.node.0 in let k = c.args.cursor.now in
    let y = c.read_short_text.new.builder in let d = c.read_short_text.new.cursor in
    let is : c.args.todo ≡ Pairs = c.in-Pairs.is in
    let x = c.in_ok-name-in-Pairs.name in
    let e = c.in_ok-name-in-Pairs.ensures in
    let h = c.read_marker_or_end.new.cursor in
    let m = c.in_ok-marker-in-Pairs-2.ensures in
    name_still_ready a y t x.0 k d h c.requires.ready c.is_built.ensures.built e.kept e.moves m.moves (m.goes.same_bound ∙ e.goes.same_bound) m.placed

pub returns-in-Some-clause-holds : goal.returns-in-Some-clause-holds
returns-in-Some-clause-holds g c =
    let S = g.S.Source in
    let a = c.args.builder.now in let t = shown_tables c.args.tables.now in let i = c.args.node.0 in let k = c.args.cursor.now in
    let y = c.read_short_text.new.builder in let d = c.read_short_text.new.cursor in
    let is : c.args.todo ≡ Pairs = c.in-Pairs.is in
    let x = c.in_ok-name-in-Pairs.name in
    let e = c.in_ok-name-in-Pairs.ensures in
    name_waits a y i (left_of k) x c.in-Some.marker c.requires.opened c.requires.ready.amf3.built e.kept (subst (λ p. Lacks (head_content a (stored_at a i).head) (stored_at a i) p) is c.requires.lacks)

pub close_node-requires-in-None-clause-fits : goal.close_node-requires-in-None-clause-fits
close_node-requires-in-None-clause-fits g c =
    let S = g.S.Source in
    let a = c.args.builder.now in let t = shown_tables c.args.tables.now in let i = c.args.node.0 in let k = c.args.cursor.now in
    let y = c.read_short_text.new.builder in let d = c.read_short_text.new.cursor in
    let is : c.args.todo ≡ Pairs = c.in-Pairs.is in
    let x = c.in_ok-name-in-Pairs.name in
    let e = c.in_ok-name-in-Pairs.ensures in
    let h = c.read_marker_or_end.new.cursor in
    let m = c.in_ok-marker-in-Pairs-2.ensures in
    shut_fits i y t h (end_ready a y t x.0 i k d h c.requires.ready c.is_built.ensures.built e.kept e.moves m.moves (m.goes.same_bound ∙ e.goes.same_bound) m.placed) (end_opened a y t x.0 i k d h c.requires.ready c.is_built.ensures.built e.kept e.moves m.moves (m.goes.same_bound ∙ e.goes.same_bound) m.placed c.requires.opened (subst (λ p. Lacks (head_content a (stored_at a i).head) (stored_at a i) p) is c.requires.lacks)) (end_lacks a y t x.0 i k d h c.requires.ready c.is_built.ensures.built e.kept e.moves m.moves (m.goes.same_bound ∙ e.goes.same_bound) m.placed c.requires.opened (subst (λ p. Lacks (head_content a (stored_at a i).head) (stored_at a i) p) is c.requires.lacks))

pub returns-in-None-clause-answers : goal.returns-in-None-clause-answers
returns-in-None-clause-answers g c = λ f lt.
    let S = g.S.Source in
    let a = c.args.builder.now in let t = shown_tables c.args.tables.now in let i = c.args.node.0 in let k = c.args.cursor.now in
    let y = c.read_short_text.new.builder in let d = c.read_short_text.new.cursor in
    let is : c.args.todo ≡ Pairs = c.in-Pairs.is in
    let x = c.in_ok-name-in-Pairs.name in
    let e = c.in_ok-name-in-Pairs.ensures in
    let h = c.read_marker_or_end.new.cursor in
    let test : eqb (length c.text_of.result.now) 0 ≡ true = cc in
    let named : is_empty (text_at y x.0) ≡ true = empty_tells (text_at y x.0) c.text_of.result.now true (sym c.text_of.ensures) test in
    let m = c.in_ok-marker-in-Pairs-2.ensures in
    let b = c.close_node-in-None.new.self in
    subst (λ p. GoesOn S.tells S.left (todo (value0_layout f.values) f.pairs i p (state0_of a t)) i (state0_of b t) k h (Ok step.Closed)) (sym is)
    (pairs_closed S.tells S.left S.faults i a y t k d x e.goes (e.answers t c.requires.ready.amf3.tables) true named h b c.close_node-in-None.ensures refl c.in_ok-marker-in-Pairs-2.field-0 c.in-None.is m.answers f lt)

pub returns-in-None-clause-still_ready : goal.returns-in-None-clause-still_ready
returns-in-None-clause-still_ready g c =
    let S = g.S.Source in
    let a = c.args.builder.now in let t = shown_tables c.args.tables.now in let i = c.args.node.0 in let k = c.args.cursor.now in
    let y = c.read_short_text.new.builder in let d = c.read_short_text.new.cursor in
    let is : c.args.todo ≡ Pairs = c.in-Pairs.is in
    let x = c.in_ok-name-in-Pairs.name in
    let e = c.in_ok-name-in-Pairs.ensures in
    let h = c.read_marker_or_end.new.cursor in
    let m = c.in_ok-marker-in-Pairs-2.ensures in
    end_shut a y t x.0 i k d h c.requires.ready c.is_built.ensures.built e.kept e.moves m.moves (m.goes.same_bound ∙ e.goes.same_bound) m.placed c.requires.opened (subst (λ p. Lacks (head_content a (stored_at a i).head) (stored_at a i) p) is c.requires.lacks) c.close_node-in-None.new.self c.close_node-in-None.ensures

pub returns-in-None-clause-holds : goal.returns-in-None-clause-holds
returns-in-None-clause-holds g c =
    let S = g.S.Source in
    let a = c.args.builder.now in let t = shown_tables c.args.tables.now in let i = c.args.node.0 in let k = c.args.cursor.now in
    let y = c.read_short_text.new.builder in let d = c.read_short_text.new.cursor in
    let is : c.args.todo ≡ Pairs = c.in-Pairs.is in
    let x = c.in_ok-name-in-Pairs.name in
    let e = c.in_ok-name-in-Pairs.ensures in
    let h = c.read_marker_or_end.new.cursor in
    let m = c.in_ok-marker-in-Pairs-2.ensures in
    end_holds a y t x.0 i k d h c.requires.ready c.is_built.ensures.built e.kept e.moves m.moves (m.goes.same_bound ∙ e.goes.same_bound) m.placed c.requires.opened (subst (λ p. Lacks (head_content a (stored_at a i).head) (stored_at a i) p) is c.requires.lacks) c.close_node-in-None.new.self c.close_node-in-None.ensures
