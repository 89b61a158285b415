use Rattle.std.proofs.Common.{◌≡◌, ℕ, Some, None, IfOk}
use Rattle.std.proofs.lemmas.Result.{IfOk-weaker, on_err_weaker}
use Rattle.amf_graph.specs.Rooted.{content}
use Rattle.flex_msgs.specs.Answers.{published_graph}
use Rattle.flex_msgs.specs.Asked.{told}
use Rattle.amf_answer_plan.specs.Commands.{publish_spelled}
use Rattle.amf_answer_plan.specs.Did.{moment_taken}
use Rattle.amf_answer_plan.specs.Plan.{Plan, whole, ◌>>=◌, moment, spelling_of}
use Rattle.amf_answer_plan.specs.Replies.{Answer}
use Rattle.amf_answer_plan.proofs.Doing.{at_err, moment_ran, stopped_then, stopped_between}
use Rattle.amf_flex_replies.proofs.Saying.{spelled_says, spelled_stopped, says_then}
use Rattle.amf_flex_replies.proofs.publishing.publish.Goals as goal

pub publish_message-requires-clause-ready : goal.publish_message-requires-clause-ready
publish_message-requires-clause-ready g c = g.met.O.Outside.may_still c.args.outside.now c.moment-moment.new.self (moment_taken c.moment-moment.result) c.moment-moment.ensures c.requires.ready

pub returns-in_err-message-clause-stopped : goal.returns-in_err-message-clause-stopped
returns-in_err-message-clause-stopped g c =
    let t = told c.args.graph.now.arena c.args.common.now in
    let f : ℕ → Plan Answer = λ m. ◌>>=◌ (spelling_of whole (published_graph (content c.args.graph.now) t c.args.correlation.now m)) (publish_spelled t m) in
    at_err c.from_residual.result (stopped_between g.O.Outside.handed g.met.O.Outside.hands_none g.met.O.Outside.hands_both moment f c.args.outside.now c.moment-moment.new.self c.moment-moment.result (moment_ran g.O.Outside.handed c.args.outside.now c.moment-moment.new.self c.moment-moment.result c.moment-moment.ensures))

pub returns-in-Some-clause-says : goal.returns-in-Some-clause-says
returns-in-Some-clause-says g c =
    let t = told c.args.graph.now.arena c.args.common.now in
    let m = c.moment-moment.result in
    let graph = published_graph (content c.args.graph.now) t c.args.correlation.now m in
    let finds = rw c.in-Some.is at c.in_ok-message.ensures in
    let f : ℕ → Plan Answer = λ n. ◌>>=◌ (spelling_of whole (published_graph (content c.args.graph.now) t c.args.correlation.now n)) (publish_spelled t n) in
    IfOk-weaker c.publish_message.result _ _ (λ a s. says_then g.O.Outside.handed g.met.O.Outside.hands_both moment f c.args.outside.now c.moment-moment.new.self c.publish_message.new.outside m a (moment_ran g.O.Outside.handed c.args.outside.now c.moment-moment.new.self m c.moment-moment.ensures) (spelled_says g.O.Outside.handed graph (Some c.in-Some.message) (publish_spelled t m) c.moment-moment.new.self c.publish_message.new.outside a finds s)) c.publish_message.ensures.says

pub returns-in-Some-clause-stopped : goal.returns-in-Some-clause-stopped
returns-in-Some-clause-stopped g c =
    let t = told c.args.graph.now.arena c.args.common.now in
    let m = c.moment-moment.result in
    let graph = published_graph (content c.args.graph.now) t c.args.correlation.now m in
    let finds = rw c.in-Some.is at c.in_ok-message.ensures in
    let f : ℕ → Plan Answer = λ n. ◌>>=◌ (spelling_of whole (published_graph (content c.args.graph.now) t c.args.correlation.now n)) (publish_spelled t n) in
    on_err_weaker c.publish_message.result (λ s. stopped_then g.O.Outside.handed g.met.O.Outside.hands_both moment f c.args.outside.now c.moment-moment.new.self c.publish_message.new.outside m (moment_ran g.O.Outside.handed c.args.outside.now c.moment-moment.new.self m c.moment-moment.ensures) (spelled_stopped g.O.Outside.handed graph (Some c.in-Some.message) (publish_spelled t m) c.moment-moment.new.self c.publish_message.new.outside finds s)) c.publish_message.ensures.stopped

pub returns-in-None-clause-says : goal.returns-in-None-clause-says
returns-in-None-clause-says g c =
    let t = told c.args.graph.now.arena c.args.common.now in
    let m = c.moment-moment.result in
    let graph = published_graph (content c.args.graph.now) t c.args.correlation.now m in
    let finds = rw c.in-None.is at c.in_ok-message.ensures in
    let f : ℕ → Plan Answer = λ n. ◌>>=◌ (spelling_of whole (published_graph (content c.args.graph.now) t c.args.correlation.now n)) (publish_spelled t n) in
    IfOk-weaker c.publish_nothing.result _ _ (λ a s. says_then g.O.Outside.handed g.met.O.Outside.hands_both moment f c.args.outside.now c.moment-moment.new.self c.publish_nothing.new.outside m a (moment_ran g.O.Outside.handed c.args.outside.now c.moment-moment.new.self m c.moment-moment.ensures) (spelled_says g.O.Outside.handed graph None (publish_spelled t m) c.moment-moment.new.self c.publish_nothing.new.outside a finds s)) c.publish_nothing.ensures.says

pub returns-in-None-clause-stopped : goal.returns-in-None-clause-stopped
returns-in-None-clause-stopped g c =
    let t = told c.args.graph.now.arena c.args.common.now in
    let m = c.moment-moment.result in
    let graph = published_graph (content c.args.graph.now) t c.args.correlation.now m in
    let finds = rw c.in-None.is at c.in_ok-message.ensures in
    let f : ℕ → Plan Answer = λ n. ◌>>=◌ (spelling_of whole (published_graph (content c.args.graph.now) t c.args.correlation.now n)) (publish_spelled t n) in
    on_err_weaker c.publish_nothing.result (λ s. stopped_then g.O.Outside.handed g.met.O.Outside.hands_both moment f c.args.outside.now c.moment-moment.new.self c.publish_nothing.new.outside m (moment_ran g.O.Outside.handed c.args.outside.now c.moment-moment.new.self m c.moment-moment.ensures) (spelled_stopped g.O.Outside.handed graph None (publish_spelled t m) c.moment-moment.new.self c.publish_nothing.new.outside finds s)) c.publish_nothing.ensures.stopped
