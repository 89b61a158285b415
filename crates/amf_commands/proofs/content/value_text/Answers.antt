use Rattle.std.proofs.Common.{IfOk, subst}
use Rattle.amf_graph.specs.Rooted.{content}
use Rattle.amf_text_write.specs.declared.values.ValueForm.{ValueForm}
use Rattle.amf_json.specs.JsonTexts.{IsValueJson}
use Rattle.amf_commands.proofs.Told.{value_told}
use Rattle.amf_commands.proofs.content.value_text.Goals as goal

pub returns : goal.returns
returns c =
    let g = content c.args.graph.now in
    value_told (λ v. v.items) c.args.layout c.args.from g c.value_json.result c.requires c.value_is_ready.ensures
    (subst (λ (x : ValueForm). IfOk c.value_json.result (λ v. IsValueJson c.args.layout x g v.items)) c.form_of.ensures c.value_json.ensures)
