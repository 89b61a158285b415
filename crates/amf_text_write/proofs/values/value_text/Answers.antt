use Rattle.std.proofs.Common.{◌≡◌, ◌∙◌}
use Rattle.amf_graph.specs.Rooted.{content}
use Rattle.amf_text_write.specs.Laid.{bytes_of}
use Rattle.amf_text_write.specs.ValueTexts.{IsValueText}
use Rattle.amf_text_write.proofs.Telling.{if_ok}
use Rattle.amf_text_write.proofs.WholeTexts.{value_whole}
use Rattle.amf_text_write.proofs.values.value_text.Goals as goal

pub returns : goal.returns
returns c =
    let g = c.args.graph.now in
    let s = c.value_object.new.self in
    if_ok c.into_bytes.result (λ bytes. bytes.items ≡ bytes_of s) (λ bytes. IsValueText c.args.layout c.args.form (content g) bytes.items)
    (λ bytes is. value_whole c.args.layout c.args.form c.way.result g c.new-output.result s bytes.items c.way.ensures.planned c.way.ensures.graph (c.way.ensures.bare ∙ c.is_bare.ensures) c.new-output.ensures c.in_ok-value_object.ensures is)
    c.into_bytes.ensures
