-- A delivered message has a body more, and an invalidate has none.
use Rattle.std.proofs.Common.{◌∙◌, sym}
use Rattle.amf_poll_session.proofs.Replies.{delivered_more, invalidate_more, other_is}
use Rattle.amf_poll_session.proofs.reply.add_body.Goals as goal

pub returns-in_ok-push-in-Async : goal.returns-in_ok-push-in-Async
returns-in_ok-push-in-Async c =
    λ vs s. delivered_more c.args.graph.now vs c.args.bodies.now.items c.push.new.self.items c.args.item c.in_ok-body-in-Async.body s (sym c.in_ok-kind_at.ensures ∙ c.in-Async.is)
    c.in_ok-body-in-Async.ensures.value c.in_ok-body-in-Async.ensures.names c.in_ok-push-in-Async.ensures.items

pub returns-in-Invalidate : goal.returns-in-Invalidate
returns-in-Invalidate c = λ vs s. invalidate_more c.args.graph.now vs c.args.bodies.now.items c.args.item s (sym c.in_ok-kind_at.ensures ∙ c.in-Invalidate.is)

pub returns-in_default : goal.returns-in_default
returns-in_default c = other_is c.args.graph.now c.args.item c.in_ok-kind_at.field-0 (sym c.in_ok-kind_at.ensures) c.in_default.not-Async c.in_default.not-Invalidate
