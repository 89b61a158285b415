-- What was made is the error without a client.
use Rattle.std.proofs.Common.{◌≡◌, ℕ, List, [], subst}
use Rattle.amf_packet.specs.SpelledBodies.{IsBodySpelledAlike}
use Rattle.flex_msgs.specs.Answers.{error_graph}
use Rattle.amf_flex_replies.proofs.SpelledReplies.{in_form, failed_is}
use Rattle.amf_flex_replies.proofs.replies.failed.Goals as goal

pub returns : goal.returns
returns c =
    let b = c.in_ok-body.body in
    failed_is (record c.args.reply { client = [] }) c.args.fault.now b
    (subst (λ (n : List ℕ). IsBodySpelledAlike (in_form (error_graph (record c.args.reply { client = n }) c.args.fault.now)) b) c.in_ok-reply.ensures c.in_ok-body.ensures)
