use Rattle.std.proofs.Common.{◌≡◌, ◌++◌, map, IfOk}
use Rattle.std.proofs.lemmas.Result.{IfOk-weaker}
use Rattle.flex_msgs.specs.Answers.{invalidate_graph}
use Rattle.amf_flex_replies.proofs.sync_messages.Batch.sync_with.Goals as goal

pub finish-requires-clause-holds : goal.finish-requires-clause-holds
finish-requires-clause-holds c =
    let h = c.requires.holds in
    (h.0 ++ map invalidate_graph c.args.endings.now, c.in_ok-end_all.ensures.adds h.0 h.1)

pub returns : goal.returns
returns c = IfOk-weaker c.finish.result _ _ (λ g made gs held. made (gs ++ map invalidate_graph c.args.endings.now) (c.in_ok-end_all.ensures.adds gs held)) c.finish.ensures
