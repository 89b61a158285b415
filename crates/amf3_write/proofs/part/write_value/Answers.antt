use Rattle.std.proofs.Common.{◌≡◌, length, arith, sym, ap, ◌∙◌, subst}
use Rattle.amf_graph.specs.Arena.{node_content, value_content}
use Rattle.amf_graph.specs.Rooted.{content}
use Rattle.amf3_spelling.specs.Tables.{Tables}
use Rattle.amf3_write.specs.Writes.{BeginsWith}
use Rattle.amf3_write.proofs.Whole.{taken_back, own_front, stops_at, on_ok_then, on_err_then}
use Rattle.amf3_write.proofs.PartWritten.{part_written}
use Rattle.amf3_write.proofs.PartTables.{on_ok_both, value_tables}
use Rattle.std.proofs.lemmas.List.{length-map}
use Rattle.amf3_write.proofs.part.write_value.Goals as goal

pub returns-clause-written : goal.returns-clause-written
returns-clause-written c =
    on_ok_then _ _ c.value-result.result (λ ok h.
    part_written (content c.args.graph.now) (value_content c.args.graph.now.arena c.args.value) c.in_ok-output.output c.value-result.new.self c.args.tables.now.tables c.put_back.new.tables.tables c.args.out.now.items c.put_back.new.bytes.items
    c.in_ok-output.ensures.tables (ap (λ v. v.items) c.in_ok-output.ensures.bytes) c.put_back.ensures.tables (ap (λ v. v.items) (c.put_back.ensures.whole (c.is_err.ensures.value ∙ ok))) h) c.value-result.ensures.ok

pub returns-clause-lack : goal.returns-clause-lack
returns-clause-lack c = λ l e. stops_at (content c.args.graph.now) (value_content c.args.graph.now.arena c.args.value) c.in_ok-output.output c.args.tables.now.tables l c.in_ok-output.ensures.tables (c.value-result.ensures.lack l e)

pub returns-clause-nodes : goal.returns-clause-nodes
returns-clause-nodes c =
    let front = c.value-result.ensures.keeps _ (own_front c.in_ok-output.output c.args.tables.now.tables c.args.out.now.items c.in_ok-output.ensures.tables (ap (λ v. v.items) c.in_ok-output.ensures.bytes)) in
    subst (λ (t : Tables). BeginsWith c.args.tables.now.tables.nodes t.nodes) (sym c.put_back.ensures.tables) front.nodes

pub returns-clause-untouched : goal.returns-clause-untouched
returns-clause-untouched c =
    let old = c.args.out.now.items in
    let len : c.len-start.result ≡ length old = omega (arith, c.len-start.ensures, c.args.out.now.ok.0) in
    let front = c.value-result.ensures.keeps _ (own_front c.in_ok-output.output c.args.tables.now.tables old c.in_ok-output.ensures.tables (ap (λ v. v.items) c.in_ok-output.ensures.bytes)) in
    on_err_then _ c.value-result.result (λ ended. c.put_back.ensures.cut (c.is_err.ensures.value ∙ ended) ∙ taken_back old c.value-result.new.self.bytes.items c.len-start.result len front.bytes)

pub returns-clause-tables : goal.returns-clause-tables
returns-clause-tables c =
    on_ok_both c.value-result.result (λ h r.
    value_tables (content c.args.graph.now) (value_content c.args.graph.now.arena c.args.value) c.args.graph.now.arena c.in_ok-output.output c.value-result.new.self c.args.tables.now c.put_back.new.tables (length-map c.args.graph.now.arena.nodes (node_content c.args.graph.now.arena))
    c.in_ok-output.ensures.tables c.put_back.ensures.tables c.put_back.ensures.known c.requires.tables h r) c.value-result.ensures.ok c.value-result.ensures.ready
