use Rattle.std.proofs.Common.{◌≡◌, length, arith, ap, ◌∙◌}
use Rattle.amf_graph.specs.Arena.{value_content}
use Rattle.amf_graph.specs.Rooted.{content}
use Rattle.amf0_write.proofs.Whole0.{taken_back, begins_itself, on_ok_then, on_err_then, part_written, part_sound, part_lacks}
use Rattle.amf0_write.proofs.MetBefore.{grown_tables}
use Rattle.amf0_write.proofs.write.write_value.Goals as goal

pub returns-clause-written : goal.returns-clause-written
returns-clause-written c =
    on_ok_then _ _ c.value-result.result (λ ok h.
    part_written (content c.args.graph.now) (value_content c.args.graph.now.arena c.args.value) c.in_ok-output.output c.value-result.new.self c.args.tables.now c.put_back.new.tables c.args.out.now.items c.put_back.new.bytes.items
    c.in_ok-output.ensures.tables (ap (λ v. v.items) c.in_ok-output.ensures.bytes) c.put_back.ensures.tables (ap (λ v. v.items) (c.put_back.ensures.whole (c.is_err.ensures.value ∙ ok))) h) c.value-result.ensures.leads

pub returns-clause-tables : goal.returns-clause-tables
returns-clause-tables c =
    on_ok_then _ _ c.value-result.result (λ ok h.
    part_sound (content c.args.graph.now) (value_content c.args.graph.now.arena c.args.value) c.in_ok-output.output c.value-result.new.self c.args.tables.now c.put_back.new.tables c.in_ok-output.ensures.tables c.put_back.ensures.tables c.requires.tables h) c.value-result.ensures.leads

pub returns-clause-lack : goal.returns-clause-lack
returns-clause-lack c = λ e. part_lacks (content c.args.graph.now) (value_content c.args.graph.now.arena c.args.value) c.in_ok-output.output c.args.tables.now c.in_ok-output.ensures.tables (c.value-result.ensures.lack e)

pub returns-clause-grown : goal.returns-clause-grown
returns-clause-grown c = λ e.
    grown_tables (content c.args.graph.now) c.in_ok-output.output c.value-result.new.self c.args.tables.now c.put_back.new.tables c.put_back.result.items c.in_ok-output.ensures.tables c.in_ok-output.ensures.loose c.put_back.ensures.tables (ap (λ v. v.items) c.put_back.ensures.loose) c.requires.tables (c.value-result.ensures.grown e)

pub returns-clause-untouched : goal.returns-clause-untouched
returns-clause-untouched c =
    let old = c.args.out.now.items in
    let len : c.len-start.result ≡ length old = omega (arith, c.len-start.ensures, c.args.out.now.ok.0) in
    let front = c.value-result.ensures.keeps old (begins_itself old c.in_ok-output.output.bytes.items (ap (λ v. v.items) c.in_ok-output.ensures.bytes)) in
    on_err_then _ c.value-result.result (λ ended. c.put_back.ensures.cut (c.is_err.ensures.value ∙ ended) ∙ taken_back old c.value-result.new.self.bytes.items c.len-start.result len front)
