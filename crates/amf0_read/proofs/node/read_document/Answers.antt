use Rattle.std.proofs.Common.{ap, length, refl, arith}
use Rattle.amf_graph.specs.declared.value.Value.TheVariants as value
use Rattle.amf_graph.specs.Arena.{Arena, xml_document}
use Rattle.amf0_spelling.specs.TableParts0.{shown_tables}
use Rattle.amf0_layout_laws.specs.Layout0.{long_layout, whole0}
use Rattle.amf0_layout_laws.specs.Layout0State.{state0_of}
use Rattle.amf_io.specs.Layout.{give}
use Rattle.amf0_read.specs.Ready0.{text_read}
use Rattle.amf0_read.proofs.Stack0.{are_tables}
use Rattle.amf0_read.proofs.Starts0.{made, ended}
use Rattle.amf0_read.proofs.TextReads0.{text_tables, text_grows, text_more}
use Rattle.amf0_read.proofs.NodeStarts0.{leaf_still_ready, leaf_holds, leaf_is}
use Rattle.amf0_read.proofs.node.read_document.Goals as goal

pub returns-in_err-text-clause-starts : goal.returns-in_err-text-clause-starts
returns-in_err-text-clause-starts g c = λ v n lt.
    let S = g.S.Source in
    let t = shown_tables c.args.tables.now in
    ended S.tells S.left S.faults v n (long_layout (state0_of c.args.builder.now t)) (λ x. give (whole0 x.state (xml_document x.id))) (state0_of c.read_long_text.new.builder t) c.args.cursor.now c.read_long_text.new.cursor c.from_residual.result c.in_err-text.field-0.0 c.from_residual.ensures.1 (c.in_err-text.ensures.answers t c.requires.amf3.tables)

pub returns-clause-starts : goal.returns-clause-starts
returns-clause-starts g c = λ v n lt.
    let S = g.S.Source in
    let a = c.args.builder.now in let y = c.read_long_text.new.builder in let b = c.keep_leaf.new.builder in let t = shown_tables c.args.tables.now in
    let e = c.in_ok-text.ensures in
    let x = c.in_ok-text.text in
    let node = c.in_ok-node.node in
    made S.tells S.left S.faults (text_read y t) (long_layout (state0_of a t)) (λ x. whole0 x.state (xml_document x.id)) (state0_of b t) (value.Node node) c.args.cursor.now c.read_long_text.new.cursor x e.goes (e.answers t c.requires.amf3.tables) e.placed
    (leaf_is a y b t c.args.cursor.now c.read_long_text.new.cursor (xml_document x.0) node.0 c.requires c.is_built.ensures.built (text_tables a y t x.0 c.requires.amf3.built (are_tables 1 a t c.args.cursor.now c.requires) e.kept) (text_grows a y x.0 e.kept) c.in_ok-node.ensures.built c.in_ok-node.ensures.ok refl)

pub returns-clause-still_ready : goal.returns-clause-still_ready
returns-clause-still_ready g c =
    let a = c.args.builder.now in let y = c.read_long_text.new.builder in let t = shown_tables c.args.tables.now in
    let e = c.in_ok-text.ensures in
    let x = c.in_ok-text.text in
    let p = e.goes.same_bound in
    let q = e.moves in
    leaf_still_ready a y c.keep_leaf.new.builder t c.args.cursor.now c.read_long_text.new.cursor (xml_document x.0) c.in_ok-node.node.0 c.requires c.is_built.ensures.built (text_tables a y t x.0 c.requires.amf3.built (are_tables 1 a t c.args.cursor.now c.requires) e.kept) (text_grows a y x.0 e.kept) c.in_ok-node.ensures.built c.in_ok-node.ensures.ok e.placed
    (omega (arith, text_more a y x.0 e.kept)) (omega (arith, ap (λ (w : Arena). length w.traits) e.kept.kept)) (omega (arith, ap (λ (w : Arena). length w.nodes) e.kept.kept))

pub returns-clause-holds : goal.returns-clause-holds
returns-clause-holds g c =
    let a = c.args.builder.now in let y = c.read_long_text.new.builder in let t = shown_tables c.args.tables.now in
    let e = c.in_ok-text.ensures in
    let x = c.in_ok-text.text in
    leaf_holds a y c.keep_leaf.new.builder t c.args.cursor.now c.read_long_text.new.cursor (xml_document x.0) c.in_ok-node.node.0 c.requires c.is_built.ensures.built (text_tables a y t x.0 c.requires.amf3.built (are_tables 1 a t c.args.cursor.now c.requires) e.kept) (text_grows a y x.0 e.kept) c.in_ok-node.ensures.built c.in_ok-node.ensures.ok
