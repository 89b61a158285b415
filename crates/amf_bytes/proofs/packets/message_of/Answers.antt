-- It is told with the parts that were written.
use Rattle.std.proofs.Common.{◌∙◌}
use Rattle.amf_graph.specs.Rooted.{content}
use Rattle.amf_packet.specs.Content.{body_of as body_seen}
use Rattle.amf_text_pages.specs.Written.{form_named}
use Rattle.amf_json.specs.JsonTexts.{form_told}
use Rattle.amf_bytes.proofs.PartsTold.{same_message}
use Rattle.amf_bytes.proofs.packets.message_of.Goals as goal

pub returns : goal.returns
returns c =
    let body = body_seen c.body_of.result in
    same_message c.in_ok-target.target c.args.written.target.items c.in_ok-response.response c.args.written.response.items (form_told body.form) (form_named c.args.written.form) body.graph (content c.args.written.graph)
    (c.in_ok-target.ensures ∙ c.deref.ensures.value) (c.in_ok-response.ensures ∙ c.deref-2.ensures.value) c.body_of.ensures.form c.body_of.ensures.graph
