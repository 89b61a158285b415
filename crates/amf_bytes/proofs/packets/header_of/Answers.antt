-- It is told with the parts that were written.
use Rattle.std.proofs.Common.{◌∙◌}
use Rattle.amf_graph.specs.Rooted.{content}
use Rattle.amf_packet.specs.Content.{body_of as body_seen}
use Rattle.amf_text_pages.specs.Written.{form_named}
use Rattle.amf_json.specs.JsonTexts.{form_told}
use Rattle.amf_bytes.proofs.PartsTold.{same_header}
use Rattle.amf_bytes.proofs.packets.header_of.Goals as goal

pub returns : goal.returns
returns c =
    let body = body_seen c.body_of.result in
    same_header c.in_ok-name.name c.args.written.name.items c.args.written.must (form_told body.form) (form_named c.args.written.form) body.graph (content c.args.written.graph)
    (c.in_ok-name.ensures ∙ c.deref.ensures.value) c.body_of.ensures.form c.body_of.ensures.graph
