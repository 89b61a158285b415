use Rattle.std.proofs.Common.{◌≡◌, IfOk, sym, subst}
use Rattle.std.proofs.lemmas.Result.{IfOk-weaker}
use Rattle.flex_msgs.specs.Built.{IsReply, IsShortReply}
use Rattle.amf_answer_plan.specs.Kept.{context_in}
use Rattle.amf_answer_plan.proofs.Doing.{at_err}
use Rattle.amf_flex_replies.proofs.Saying.{fresh_ran, fresh_stopped}
use Rattle.amf_flex_replies.proofs.Filled.{reply_texts, reply_short}
use Rattle.amf_flex_replies.proofs.replies.fresh.Goals as goal

pub returns-clause-ran : goal.returns-clause-ran
returns-clause-ran g c =
    IfOk-weaker c.reply_of.result _ _ (λ r e. fresh_ran g.O.Outside.handed g.met.O.Outside.hands_both (context_in c.args.context.now) c.args.client.now c.args.outside.now _ _ _ c.word-high.result c.word-low.result c.moment-moment.result c.word-high.ensures c.word-low.ensures c.moment-moment.ensures r e) c.reply_of.ensures

pub returns-clause-texts : goal.returns-clause-texts
returns-clause-texts g c = IfOk-weaker c.reply_of.result _ _ (λ r e. subst IsReply (sym e) (reply_texts (context_in c.args.context.now) c.args.client.now _ _ _ c.requires.context c.requires.client)) c.reply_of.ensures

pub returns-clause-short : goal.returns-clause-short
returns-clause-short g c = IfOk-weaker c.reply_of.result _ _ (λ r e. subst IsShortReply (sym e) (reply_short (context_in c.args.context.now) c.args.client.now _ _ _ c.requires.context c.requires.client)) c.reply_of.ensures

pub returns-clause-stopped : goal.returns-clause-stopped
returns-clause-stopped g c =
    at_err c.reply_of.result (fresh_stopped g.O.Outside.handed g.met.O.Outside.hands_both (context_in c.args.context.now) c.args.client.now c.args.outside.now _ _ _ c.word-high.result c.word-low.result c.moment-moment.result c.word-high.ensures c.word-low.ensures c.moment-moment.ensures)
