use Rattle.amf_graph.specs.Rooted.{content}
use Rattle.amf_text_write.specs.declared.values.ValueForm.TheVariants.{Amf3, Amf0}
use Rattle.amf_text_write.specs.ValueTexts.{IsValueText}
use Rattle.amf_json.specs.JsonTexts.{IsValueJson}
use Rattle.amf_json.proofs.FittedTexts.{told_amf3, told_amf0}
use Rattle.amf_json.proofs.Results.{if_ok}
use Rattle.amf_json.proofs.value.value_json.Goals as goal

pub returns-in-Amf3 : goal.returns-in-Amf3
returns-in-Amf3 c =
    let g = content c.args.graph.now in
    if_ok (λ bytes. IsValueText c.args.layout Amf3 g bytes.items) (λ bytes. IsValueJson c.args.layout c.args.form g bytes.items) c.value_text.result
    (λ bytes t. told_amf3 c.args.layout c.args.form g bytes.items c.in-Amf3.is t) c.value_text.ensures

pub returns-in_ok-low-in-Amf0 : goal.returns-in_ok-low-in-Amf0
returns-in_ok-low-in-Amf0 c =
    let g = content c.args.graph.now in
    let low = content c.in_ok-low-in-Amf0.low in
    if_ok (λ bytes. IsValueText c.args.layout Amf0 low bytes.items) (λ bytes. IsValueJson c.args.layout c.args.form g bytes.items) c.value_text-in-Amf0.result
    (λ bytes t. told_amf0 c.args.layout c.args.form g low bytes.items c.in-Amf0.is c.in_ok-low-in-Amf0.ensures t) c.value_text-in-Amf0.ensures
