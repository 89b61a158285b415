use Rattle.std.proofs.Common.{◌≡◌, true, false, sym, ◌∙◌}
use Rattle.amf_graph.specs.Rooted.{content}
use Rattle.amf0_write.specs.Unwritten0.{segments_left}
use Rattle.amf0_write.proofs.Leading0.{stops_form, stops_name}
use Rattle.amf0_write.proofs.output.Output.stored_node.Goals as goal

pub returns-then-has_no_form-clause-lack : goal.returns-then-has_no_form-clause-lack
returns-then-has_no_form-clause-lack c = λ e. stops_form (content c.args.graph.now) c.args.node.0 (segments_left c.args.graph.now.arena c.args.waiting.now.items) c.args.self.now c.requires.new (c.has_no_form.ensures.0 c.if-has_no_form.true)

pub returns-then-not-has_short_names-clause-lack : goal.returns-then-not-has_short_names-clause-lack
returns-then-not-has_short_names-clause-lack c = λ e. stops_name (content c.args.graph.now) c.args.node.0 (segments_left c.args.graph.now.arena c.args.waiting.now.items) c.args.self.now c.requires.new
    (λ h. let z : true ≡ false = sym (c.has_short_names.ensures.1 h) ∙ c.if-not-has_short_names.true in cc)
