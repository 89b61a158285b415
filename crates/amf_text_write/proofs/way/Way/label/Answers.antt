use Rattle.std.specs.Prelude.{string_bytes}
use Rattle.amf_text_write.proofs.Labels.{label_is}
use Rattle.amf_text_write.proofs.way.Way.label.Goals as goal

pub returns : goal.returns
returns c = λ w is.
    label_is c.args.self.now w c.args.node.0 c.number_of.result c.format-digits.result.now (string_bytes c.in_ok-label.label) (string_bytes c.push_str.new.self) c.saturating_sub-zeros.result is
    c.number_of.ensures c.format-digits.ensures.text c.saturating_sub-zeros.ensures c.in_ok-label.ensures.bytes c.in_ok-push_str.ensures.bytes
