use Rattle.std.proofs.Common.{◌≡◌, [], IfOk, subst}
use Rattle.std.proofs.lemmas.Result.{IfOk-weaker}
use Rattle.amf_graph.specs.Graph.{Graph}
use Rattle.amf_graph.specs.Isomorphic.{Isomorphic}
use Rattle.amf_graph.specs.Rooted.{content}
use Rattle.amf_graph.proofs.Isomorphisms.{isomorphic_trans}
use Rattle.flex_msgs.specs.declared.reply.Reply.{Reply}
use Rattle.flex_msgs.specs.Answers.{acknowledge_graph}
use Rattle.flex_msgs.proofs.GraphsAlike.{answers_alike}
use Rattle.amf_answer_plan.specs.Did.{Ran, Stopped}
use Rattle.amf_answer_plan.specs.Says.{Tells}
use Rattle.amf_answer_plan.specs.Kept.{context_in}
use Rattle.amf_answer_plan.specs.Replies.{fresh, answered, acknowledge}
use Rattle.amf_answer_plan.proofs.Doing.{at_err, not_begun, stopped_first, stopped_between}
use Rattle.amf_flex_replies.proofs.Saying.{says_told}
use Rattle.amf_flex_replies.proofs.remoting.acknowledge.Goals as goal

pub returns-in_err-empty-clause-stopped : goal.returns-in_err-empty-clause-stopped
returns-in_err-empty-clause-stopped g c = at_err c.from_residual.result (λ (x : Graph). not_begun g.O.Outside.handed g.met.O.Outside.hands_none (acknowledge (context_in c.args.context.now) [] x x.root) c.args.outside.now)

pub returns-in_err-reply-clause-stopped : goal.returns-in_err-reply-clause-stopped
returns-in_err-reply-clause-stopped g c =
    let k = context_in c.args.context.now in
    let fresh_stopped = subst (λ z. Stopped g.O.Outside.handed (fresh k z) c.args.outside.now c.fresh.new.outside) c.in_ok-empty.ensures c.in_err-reply.ensures.stopped in
    at_err c.from_residual-in_err-reply.result (λ (x : Graph). stopped_first g.O.Outside.handed (fresh k []) (λ (r : Reply). answered r (acknowledge_graph r x x.root)) c.args.outside.now c.fresh.new.outside fresh_stopped)

pub returns-in_err-graph-clause-stopped : goal.returns-in_err-graph-clause-stopped
returns-in_err-graph-clause-stopped g c =
    let k = context_in c.args.context.now in
    let ran = subst (λ z. Ran g.O.Outside.handed (fresh k z) c.args.outside.now c.fresh.new.outside c.in_ok-reply.reply) c.in_ok-empty.ensures c.in_ok-reply.ensures.ran in
    at_err c.from_residual-in_err-graph.result (λ (x : Graph). stopped_between g.O.Outside.handed g.met.O.Outside.hands_none g.met.O.Outside.hands_both (fresh k []) (λ (r : Reply). answered r (acknowledge_graph r x x.root)) c.args.outside.now c.fresh.new.outside c.in_ok-reply.reply ran)

pub returns-clause-says : goal.returns-clause-says
returns-clause-says g c =
    let k = context_in c.args.context.now in
    let r = c.in_ok-reply.reply in
    let h = content c.args.value.now in
    let ran = subst (λ z. Ran g.O.Outside.handed (fresh k z) c.args.outside.now c.fresh.new.outside r) c.in_ok-empty.ensures c.in_ok-reply.ensures.ran in
    IfOk-weaker c.answered.result _ _ (λ a told (x : Graph) i.
    let same = isomorphic_trans (acknowledge_graph r x x.root) (acknowledge_graph r h h.root) (content c.in_ok-graph.graph) (answers_alike.acknowledge r x h i x.root h.root i.root) c.in_ok-graph.ensures.graph in
    let tells = subst (λ (z : Reply). (y : Graph) → Isomorphic y (content c.in_ok-graph.graph) → Tells (answered z y) a) c.in_ok-graph.ensures.same told in
    says_told g.O.Outside.handed g.met.O.Outside.hands_none g.met.O.Outside.hands_both (fresh k []) (λ (s : Reply). answered s (acknowledge_graph s x x.root)) c.args.outside.now c.fresh.new.outside r a ran (tells (acknowledge_graph r x x.root) same)) c.answered.ensures

pub returns-clause-stopped : goal.returns-clause-stopped
returns-clause-stopped g c =
    let k = context_in c.args.context.now in
    let ran = subst (λ z. Ran g.O.Outside.handed (fresh k z) c.args.outside.now c.fresh.new.outside c.in_ok-reply.reply) c.in_ok-empty.ensures c.in_ok-reply.ensures.ran in
    at_err c.answered.result (λ (x : Graph). stopped_between g.O.Outside.handed g.met.O.Outside.hands_none g.met.O.Outside.hands_both (fresh k []) (λ (r : Reply). answered r (acknowledge_graph r x x.root)) c.args.outside.now c.fresh.new.outside c.in_ok-reply.reply ran)
