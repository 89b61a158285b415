-- A label is there where it is found.
use Rattle.std.proofs.Common.{sym, ◌∙◌}
use Rattle.amf_text_read.proofs.Left.{told_there, told_absent}
use Rattle.amf_text_read.proofs.Labels.{same_stands}
use Rattle.amf_text_read.proofs.held.Lists.is_label.Goals as goal

pub returns-in-Some : goal.returns-in-Some
returns-in-Some c =
    let texts = c.args.self.now.labels.at in
    rw (← c.as_bytes.ensures.value) (told_there texts _ c.as_bytes.result.now c.in-Some.ensures ∙ sym (same_stands texts c.as_bytes.result.now))

pub returns-in-None : goal.returns-in-None
returns-in-None c =
    let texts = c.args.self.now.labels.at in
    rw (← c.as_bytes.ensures.value) (told_absent texts c.as_bytes.result.now c.in-None.ensures ∙ sym (same_stands texts c.as_bytes.result.now))
