use Rattle.std.proofs.Common.{◌≡◌, IfOk}
use Rattle.std.proofs.lemmas.Result.{IfOk-weaker}
use Rattle.amf_graph.specs.Rooted.{content}
use Rattle.amf_flex_replies.proofs.SpelledReplies.{error_lacks_none, error_alike}
use Rattle.amf_flex_replies.proofs.replies.error_body.Goals as goal

pub of_whole-requires : goal.of_whole-requires
of_whole-requires c = error_lacks_none c.args.reply.now c.args.fault.now (content c.in_ok-graph.graph) c.in_ok-graph.ensures

pub returns : goal.returns
returns c =
    IfOk-weaker c.of_whole.result _ _ (λ b s. error_alike c.args.reply.now c.args.fault.now (content c.in_ok-graph.graph) b c.in_ok-graph.ensures s) c.of_whole.ensures
