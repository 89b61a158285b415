use Rattle.std.proofs.Common.{◌∙◌, ap, sym, subst}
use Rattle.amf_graph.specs.Graph.{Graph}
use Rattle.amf_graph.specs.Rooted.{content}
use Rattle.amf0_spelling.specs.declared.form.Form.{Form}
use Rattle.amf_packet.specs.Packet.{Body}
use Rattle.amf_packet.specs.SpelledBodies.{IsBodySpelling}
use Rattle.amf_answer_plan.specs.PlainCalls.{reply_form}
use Rattle.amf_plain_calls.proofs.NoLacks.{LacksNothing}
use Rattle.amf_plain_calls.proofs.Plain.{body_with, fault_is, fault_lacks}
use Rattle.amf_plain_calls.proofs.plain_call.failed.Goals as goal

pub of_whole-requires : goal.of_whole-requires
of_whole-requires c =
    let same = ap (λ (z : Form). body_with z (content c.in_ok-graph.graph)) c.reply_form.ensures ∙ ap (λ (z : Graph). body_with (reply_form c.args.form) z) c.in_ok-graph.ensures in
    subst (λ (z : Body). LacksNothing z) (sym same) (fault_lacks c.args.form c.args.fault.now)

pub returns : goal.returns
returns c =
    let same = ap (λ (z : Form). body_with z (content c.in_ok-graph.graph)) c.reply_form.ensures ∙ ap (λ (z : Graph). body_with (reply_form c.args.form) z) c.in_ok-graph.ensures in
    fault_is c.args.form c.args.fault.now c.in_ok-body.body (subst (λ (z : Body). IsBodySpelling z c.in_ok-body.body) same c.in_ok-body.ensures)
