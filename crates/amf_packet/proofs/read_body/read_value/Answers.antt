use Rattle.std.proofs.Common.{Ok, Err, ap}
use Rattle.amf_io.specs.Cursor.{place}
use Rattle.amf_graph.specs.Rooted.{RootedArena}
use Rattle.amf_wire.specs.Style.{free}
use Rattle.amf0_spelling.specs.TableParts0.{shown_tables}
use Rattle.amf_packet.specs.Content.{body_of}
use Rattle.amf_packet.specs.LayoutPacket.{body_layout}
use Rattle.amf_packet.specs.Packet.{BodyBy}
use Rattle.amf_packet.proofs.PartReads.{fueled_passed, goes_passed}
use Rattle.amf_packet.proofs.ValueReads.{raised_weight, from_new, names_root, closed_nodes, call_has_item, value_placed, value_stays, value_took, value_ended}
use Rattle.amf_packet.proofs.read_body.read_value.Goals as goal

pub returns-in_err-read-clause-goes : goal.returns-in_err-read-clause-goes
returns-in_err-read-clause-goes g c =
    let S = g.S.Source in
    goes_passed S.tells S.left S.faults c.args.cursor.now c.read0.new.cursor c.from_residual-in_err-read.result c.in_err-read.field-0.0 c.from_residual-in_err-read.ensures.1 c.in_err-read.ensures.goes

pub returns-in_err-read-clause-reads : goal.returns-in_err-read-clause-reads
returns-in_err-read-clause-reads g c =
    let S = g.S.Source in
    let k = c.args.cursor.now in
    let d = c.read0.new.cursor in
    let e = c.in_err-read.field-0.0 in
    fueled_passed S.tells S.left S.faults (λ b. BodyBy free (body_of b).form (body_of b).graph) body_layout k d c.from_residual-in_err-read.result e c.from_residual-in_err-read.ensures.1
    (value_ended S.tells S.left S.faults k d c.read0.new.builder (shown_tables c.read0.new.tables) e c.at-start.ensures.within
    (from_new S.tells S.left S.faults k d c.in_ok-builder.builder c.read0.new.builder (shown_tables c.in_ok-tables.tables) (shown_tables c.read0.new.tables) (Err e) c.in_ok-builder.ensures c.in_ok-tables.ensures c.in_err-read.ensures.answers))

pub whole-graph-requires-clause-names : goal.whole-graph-requires-clause-names
whole-graph-requires-clause-names g c =
    let S = g.S.Source in
    names_root S.tells S.left S.faults c.args.cursor.now c.read0.new.cursor c.read0.new.builder (shown_tables c.read0.new.tables) c.in_ok-read.read
    (from_new S.tells S.left S.faults c.args.cursor.now c.read0.new.cursor c.in_ok-builder.builder c.read0.new.builder (shown_tables c.in_ok-tables.tables) (shown_tables c.read0.new.tables) (Ok c.in_ok-read.read) c.in_ok-builder.ensures c.in_ok-tables.ensures c.in_ok-read.ensures.answers)

pub whole-graph-requires-clause-closed : goal.whole-graph-requires-clause-closed
whole-graph-requires-clause-closed g c =
    let S = g.S.Source in
    closed_nodes S.tells S.left S.faults c.args.cursor.now c.read0.new.cursor c.read0.new.builder (shown_tables c.read0.new.tables) c.in_ok-read.read
    (from_new S.tells S.left S.faults c.args.cursor.now c.read0.new.cursor c.in_ok-builder.builder c.read0.new.builder (shown_tables c.in_ok-tables.tables) (shown_tables c.read0.new.tables) (Ok c.in_ok-read.read) c.in_ok-builder.ensures c.in_ok-tables.ensures c.in_ok-read.ensures.answers)

pub formed-requires : goal.formed-requires
formed-requires g c =
    let S = g.S.Source in
    record {
      call = call_has_item S.tells S.left S.faults c.args.cursor.now c.read0.new.cursor c.read0.new.builder (shown_tables c.read0.new.tables) c.in_ok-read.read c.whole-graph.result
          (from_new S.tells S.left S.faults c.args.cursor.now c.read0.new.cursor c.in_ok-builder.builder c.read0.new.builder (shown_tables c.in_ok-tables.tables) (shown_tables c.read0.new.tables) (Ok c.in_ok-read.read) c.in_ok-builder.ensures c.in_ok-tables.ensures c.in_ok-read.ensures.answers)
          c.whole-graph.ensures;
    }

pub returns-clause-reads : goal.returns-clause-reads
returns-clause-reads g c =
    let S = g.S.Source in
    let k = c.args.cursor.now in
    let d = c.read0.new.cursor in
    let b = c.read0.new.builder in
    let u = shown_tables c.read0.new.tables in
    let x = c.in_ok-read.read in
    value_took S.tells S.left S.faults k d b u x c.whole-graph.result c.formed.result c.at-start.ensures.within
    (from_new S.tells S.left S.faults k d c.in_ok-builder.builder b (shown_tables c.in_ok-tables.tables) u (Ok x) c.in_ok-builder.ensures c.in_ok-tables.ensures c.in_ok-read.ensures.answers) c.whole-graph.ensures c.formed.ensures

pub returns-clause-placed : goal.returns-clause-placed
returns-clause-placed g c =
    let S = g.S.Source in
    let k = c.args.cursor.now in
    let d = c.read0.new.cursor in
    let b = c.read0.new.builder in
    let u = shown_tables c.read0.new.tables in
    let x = c.in_ok-read.read in
    value_placed S.tells S.left S.faults k d b u x x
    (from_new S.tells S.left S.faults k d c.in_ok-builder.builder b (shown_tables c.in_ok-tables.tables) u (Ok x) c.in_ok-builder.ensures c.in_ok-tables.ensures c.in_ok-read.ensures.answers) c.in_ok-read.ensures.goes

pub returns-clause-weighs : goal.returns-clause-weighs
returns-clause-weighs g c =
    let S = g.S.Source in
    let k = c.args.cursor.now in
    let d = c.read0.new.cursor in
    let a = c.in_ok-builder.builder in
    let b = c.read0.new.builder in
    let u = shown_tables c.read0.new.tables in
    let x = c.in_ok-read.read in
    raised_weight a b c.whole-graph.result x.form c.formed.result (place k) (place d) c.in_ok-builder.ensures
    (value_stays S.tells S.left S.faults k d b u x (from_new S.tells S.left S.faults k d a b (shown_tables c.in_ok-tables.tables) u (Ok x) c.in_ok-builder.ensures c.in_ok-tables.ensures c.in_ok-read.ensures.answers))
    c.in_ok-read.ensures.raises (ap (λ (z : RootedArena). z.arena) c.whole-graph.ensures) c.formed.ensures
