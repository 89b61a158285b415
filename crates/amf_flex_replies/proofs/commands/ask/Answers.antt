use Rattle.std.proofs.Common.{◌≡◌, IfOk}
use Rattle.std.proofs.lemmas.Result.{IfOk-weaker, on_err_weaker}
use Rattle.amf_answer_plan.specs.Did.{moment_taken}
use Rattle.amf_flex_replies.proofs.Saying.{asked_ran, asked_stopped}
use Rattle.amf_flex_replies.proofs.commands.ask.Goals as goal

pub call-requires : goal.call-requires
call-requires g c = g.met.O.Outside.may_still c.args.outside.now c.moment-moment.new.self (moment_taken c.moment-moment.result) c.moment-moment.ensures c.requires

pub returns-clause-ran : goal.returns-clause-ran
returns-clause-ran g c =
    IfOk-weaker c.call.result _ _ (λ r h. asked_ran g.O.Outside.handed g.met.O.Outside.hands_both c.args.outside.now c.moment-moment.new.self c.call.new.self c.moment-moment.result c.args.call h.0 r c.moment-moment.ensures h.1 h.2 h.3 h.4) c.call.ensures.reply

pub returns-clause-stopped : goal.returns-clause-stopped
returns-clause-stopped g c =
    on_err_weaker c.call.result (λ h. asked_stopped g.O.Outside.handed g.met.O.Outside.hands_both c.args.outside.now c.moment-moment.new.self c.call.new.self c.moment-moment.result c.args.call c.moment-moment.ensures h) c.call.ensures.none
