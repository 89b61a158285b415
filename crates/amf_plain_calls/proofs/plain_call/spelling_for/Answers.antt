-- The form of a request chooses.
use Rattle.std.proofs.Common.{IfOk, sym, subst}
use Rattle.std.proofs.lemmas.Result.{IfOk-weaker}
use Rattle.amf_graph.specs.Rooted.{content}
use Rattle.amf0_spelling.specs.declared.form.Form.{Form}
use Rattle.amf_plain_calls.specs.FoundForms.{FindsForm}
use Rattle.amf_plain_calls.proofs.Plain.{amf3_found, call_found}
use Rattle.amf_plain_calls.proofs.plain_call.spelling_for.Goals as goal

pub returns-in-Plain : goal.returns-in-Plain
returns-in-Plain c = subst (λ (f : Form). IfOk c.plain_spelling.result (FindsForm f (content c.args.graph.now))) (sym c.in-Plain.is) c.plain_spelling.ensures

pub returns-in-Amf3 : goal.returns-in-Amf3
returns-in-Amf3 c =
    let h = content c.args.graph.now in
    subst (λ (f : Form). IfOk c.of.result (FindsForm f h)) (sym c.in-Amf3.is) (IfOk-weaker c.of.result _ _ (λ o t. amf3_found h o t) c.of.ensures)

pub returns-in-Call : goal.returns-in-Call
returns-in-Call c =
    let h = content c.args.graph.now in
    subst (λ (f : Form). IfOk c.of-in-Call.result (FindsForm f h)) (sym c.in-Call.is) (IfOk-weaker c.of-in-Call.result _ _ (λ o t. call_found h o t) c.of-in-Call.ensures)
